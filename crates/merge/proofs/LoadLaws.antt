-- A load as the code runs it: the names that have no node, kept in place, and a node for each. Assumes nothing.
use mir.Val.{bool_byte}
use Rattle.std.specs.Prelude.{Option, Some, None, Ok, Err, is_some}
use Rattle.merge.specs.declared.load.LoadError.TheVariants.{NoRoom}
use mathlib.Core.Path.{◌≡◌, refl, sym, ap, ◌∙◌, subst}
use Prim.Native.Nat.{ℕ, suc, ◌+◌, ◌≤◌, ◌<◌}
use native.Mathlib.Omega.{arith}
use native.Mathlib.Numerals.{add-one}
use mathlib.Core.Bool.{Bool, true, false, not, cond}
use mathlib.Core.List.{List, [], ◌∷◌, ◌++◌, map, append-nil}
use lib.Dec.{eqb, leb}
use lib.ListN.{length, take, drop, get_or, set, length-take, length-set, length-map, drop_of_length-le}
use lib.Seq.{drop-cons, get_or-take, get_or-drop, take-suc-set, drop-set-lt, append_snoc, drop-drop, length-take-le}
use borrow.Author.Tests.{le-leb, lt-leb}
use Rattle.layers.specs.Names.{Name, same_name}
use Rattle.layers.specs.Search.{one, first_from}
use Rattle.merge.specs.Nodes.{nodes_of, node_at, node_name}
use Rattle.merge.specs.Methods.{with_loaded}
use Rattle.merge.specs.Heads.{room_of, numbers_left}
use Rattle.merge.specs.State.{is_child, has_parent, has_children, find_child, those}
use Rattle.merge.specs.Changes.{put_bytes, new_bytes}
use Rattle.merge.specs.Tables.{place_name}
use Rattle.merge.specs.Scan.{scanned}
use Rattle.merge.specs.Tops.{top_place, Topmost}
use Rattle.merge.specs.Places.{merged_places, Filled}
use Rattle.merge.specs.Stacks.{merged_stack}
use Rattle.merge.specs.Load.{new_node, has_none, add_names, stack_list, to_add, suffices, is_loaded, load_node, load_node_bytes, load_answer, load_bytes, place_has_none, KeptPlaces, ToAdd}
use Rattle.merge.proofs.NamesOfPlaces.{names_of_places}
use Rattle.merge.proofs.TopPlaces.{All, all_at, all_those, merged_tops}
use Rattle.merge.specs.declared.stacks.Pair.{Pair}
use Rattle.merge.specs.declared.stacks.Stack.{Stack}
use Rattle.merge.specs.declared.node.Node.{Node}

pub byte_one : (b : Bool) → bool_byte b ≡ one b
unfolding one
byte_one true = refl
byte_one false = refl

twice_not : (b : Bool) → b ≡ not (not b)
twice_not true = refl
twice_not false = refl

pub none_there : (ns : List Node) (p : ℕ) (x : Name) (f : Option ℕ) (b : Bool) → f ≡ find_child ns p x → is_some f ≡ not b → b ≡ has_none ns p x
unfolding has_none
none_there ns p x f b q h = rw (← q, h) (twice_not b)

-- ---- those that pass, kept in place: what is kept, then those of what is left
module _ (t : ℕ → Bool) (p₀ : List ℕ) (n : ℕ) where
  pub record Keeping (p : List ℕ) (m i : ℕ) : Type 0 where
    pub so_far : take m p ++ those t (drop i (take n p₀)) ≡ those t (take n p₀)
    pub ahead : drop i p ≡ drop i p₀
    pub long : length p ≡ 512
    pub behind : m ≤ i

  pub keep_start : length p₀ ≡ 512 → Keeping p₀ 0 0
  keep_start l = record { so_far = refl; ahead = refl; long = l; behind = omega arith }

  module _ (p : List ℕ) (m i : ℕ) (k : Keeping p m i) (l₀ : length p₀ ≡ 512) (nb : n ≤ 512) (h : i < n) where
    here : get_or p i 0 ≡ get_or p₀ i 0
    here =
        let a : get_or (drop i p) 0 0 ≡ get_or (drop i p₀) 0 0 = ap (λ (x : List ℕ). get_or x 0 0) k.ahead in
        let z : i + 0 ≡ i = omega arith in
        (ap (λ (j : ℕ). get_or p j 0) (sym z) ∙ sym (get_or-drop i p 0 0)) ∙ (a ∙ (get_or-drop i p₀ 0 0 ∙ ap (λ (j : ℕ). get_or p₀ j 0) z))

    step : those t (drop i (take n p₀)) ≡ cond (t (get_or p i 0)) (get_or p i 0 ∷ those t (drop (i + 1) (take n p₀))) (those t (drop (i + 1) (take n p₀)))
    unfolding those
    step = rw (drop-cons (take n p₀) i 0 (simp length-take (omega arith)), get_or-take n p₀ i 0 h, here, add-one i) refl

    next : drop (i + 1) p ≡ drop (i + 1) p₀
    next =
        let a : drop 1 (drop i p) ≡ drop 1 (drop i p₀) = ap (λ (x : List ℕ). drop 1 x) k.ahead in
        sym (drop-drop 1 i p) ∙ (a ∙ drop-drop 1 i p₀)

    pub keep_this : (r : Bool) → r ≡ t (get_or p i 0) → r ≡ true → Keeping (set p m (get_or p i 0)) (m + 1) (i + 1)
    keep_this r q y =
        record {
          so_far =
              rw (add-one m, take-suc-set p m (get_or p i 0) (let b : m ≤ i = k.behind in let c : length p ≡ 512 = k.long in omega arith))
              (append_snoc (take m p) (get_or p i 0) (those t (drop (i + 1) (take n p₀)))
              ∙ (ap (λ (x : List ℕ). take m p ++ x) (sym (step ∙ rw (← q, y) refl)) ∙ k.so_far));
          ahead = drop-set-lt (i + 1) p m (get_or p i 0) (let b : m ≤ i = k.behind in omega arith) ∙ next;
          long = length-set p m (get_or p i 0) ∙ k.long;
          behind = let b : m ≤ i = k.behind in omega arith;
        }

    pub keep_not : (r : Bool) → r ≡ t (get_or p i 0) → r ≡ false → Keeping p m (i + 1)
    keep_not r q y =
        record {
          so_far = ap (λ (x : List ℕ). take m p ++ x) (sym (step ∙ rw (← q, y) refl)) ∙ k.so_far;
          ahead = next;
          long = k.long;
          behind = let b : m ≤ i = k.behind in omega arith;
        }

  pub keep_end : (p : List ℕ) (m i : ℕ) → Keeping p m i → length p₀ ≡ 512 → i ≤ n → n ≤ i → KeptPlaces t p₀ n m p
  unfolding those
  keep_end p m i k l a b =
      record {
        kept = sym (rw (drop_of_length-le (take n p₀) {i = i} (simp length-take (omega arith))) (append-nil (take m p))) ∙ k.so_far;
        within = let c : m ≤ i = k.behind in omega arith;
        long = k.long;
      }

-- the same, as the code asks
module _ (u l : List ℕ) (ns : List Node) (x : ℕ) (p₀ : List ℕ) (n : ℕ) (p : List ℕ) (m i : ℕ) (r : Bool) (y : Name) where
  pub keep_missing : Keeping (place_has_none u l ns x) p₀ n p m i → length p₀ ≡ 512 → n ≤ 512 → i < n → r ≡ has_none ns x y → y ≡ place_name u l (get_or p i 0) → r ≡ true
      → Keeping (place_has_none u l ns x) p₀ n (set p m (get_or p i 0)) (m + 1) (i + 1)
  unfolding place_has_none
  keep_missing k a b h q e z = keep_this (place_has_none u l ns x) p₀ n p m i k a b h r (q ∙ rw e refl) z

  pub skip_resident : Keeping (place_has_none u l ns x) p₀ n p m i → length p₀ ≡ 512 → n ≤ 512 → i < n → r ≡ has_none ns x y → y ≡ place_name u l (get_or p i 0) → r ≡ false
      → Keeping (place_has_none u l ns x) p₀ n p m (i + 1)
  unfolding place_has_none
  skip_resident k a b h q e z = keep_not (place_has_none u l ns x) p₀ n p m i k a b h r (q ∙ rw e refl) z

-- ---- the names of the places that are kept

pub those_map : (f : ℕ → Name) (t : Name → Bool) (qs : List ℕ) → map f (those (λ q. t (f q)) qs) ≡ those t (map f qs)
unfolding those
those_map f t [] = refl
those_map f t (q ∷ qs) = go (t (f q)) (those_map f t qs)
  where
    go : (b : Bool) → map f (those (λ q. t (f q)) qs) ≡ those t (map f qs) → map f (cond b (q ∷ those (λ q. t (f q)) qs) (those (λ q. t (f q)) qs)) ≡ cond b (f q ∷ those t (map f qs)) (those t (map f qs))
    go true ih = ap (λ r. f q ∷ r) ih
    go false ih = ih

-- ---- nodes for them, one after another
module _ (u l : List ℕ) (p : ℕ) (ps : List Pair) where
  pub add_next : (q : List ℕ) (m i : ℕ) (s s' w : List ℕ) (x : Name) → length q ≡ 512 → m ≤ 512 → i < m → x ≡ place_name u l (get_or q i 0)
      → s' ≡ new_bytes s (new_node p (merged_stack u l ps x) x) → add_names u l p ps (map (place_name u l) (drop i (take m q))) s ≡ w → add_names u l p ps (map (place_name u l) (drop (i + 1) (take m q))) s' ≡ w
  unfolding add_names
  add_next q m i s s' w x lq b h e g k =
      let n : List ℕ = new_bytes s (new_node p (merged_stack u l ps (place_name u l (get_or q i 0))) (place_name u l (get_or q i 0))) in
      let y : s' ≡ new_bytes s (new_node p (merged_stack u l ps (place_name u l (get_or q i 0))) (place_name u l (get_or q i 0))) = g ∙ rw e refl in
      rw (y, add-one i) (sym (rw (drop-cons (take m q) i 0 (simp length-take (omega arith)), get_or-take m q i 0 h) refl) ∙ k)

  pub add_end : (q : List ℕ) (m i : ℕ) (s w : List ℕ) → length q ≡ 512 → m ≤ 512 → m ≤ i → add_names u l p ps (map (place_name u l) (drop i (take m q))) s ≡ w → s ≡ w
  unfolding add_names
  add_end q m i s w lq b h k = sym (rw (drop_of_length-le (take m q) {i = i} (simp length-take (omega arith))) refl) ∙ k

-- ---- the tests

module _ (s : List ℕ) (k r : ℕ) (e : r ≡ room_of s) where
  pub no_places : r < k → false ≡ suffices s k
  unfolding suffices
  no_places h = let l : room_of s < k = omega arith in rw (lt-leb k (room_of s) l) refl

  pub numbers_decide : (v : ℕ) → k ≤ r → v ≡ numbers_left s → leb k v ≡ suffices s k
  unfolding suffices
  numbers_decide v h q = let l : k ≤ room_of s = omega arith in rw (le-leb k (room_of s) l, q) refl

-- ---- the names to add
pub to_add_is : (u l s : List ℕ) (n : Node) (w d k r : ℕ) (p q q' : List ℕ)
    → Filled p k (merged_places u l (take d n.stack)) q → k ≤ 512 → d ≡ n.depth → w ≡ n.number → KeptPlaces (place_has_none u l (nodes_of s) w) q k r q' → ToAdd u l s n r q'
unfolding to_add place_has_none
to_add_is u l s n w d k r p q q' f b e g kept =
    record {
      names =
          ap (map (place_name u l)) (kept.kept ∙ ap (those (place_has_none u l (nodes_of s) w)) (f.first ∙ rw e refl))
          ∙ (those_map (place_name u l) (has_none (nodes_of s) w) (merged_places u l (stack_list n)) ∙ rw (names_of_places u l (stack_list n), g) refl);
      topmost = record { top = λ j h. tops j h };
      within = let z : r ≤ k = kept.within in omega arith;
      long = kept.long;
    }
  where
    all : All (λ i. top_place u l (place_name u l i) (scanned u l (stack_list n)) ≡ Some i) (take r q')
    all = subst (λ (ps : List ℕ). All (λ i. top_place u l (place_name u l i) (scanned u l (stack_list n)) ≡ Some i) ps) (sym (kept.kept ∙ ap (those (place_has_none u l (nodes_of s) w)) (f.first ∙ rw e refl)))
        (all_those (λ i. top_place u l (place_name u l i) (scanned u l (stack_list n)) ≡ Some i) (place_has_none u l (nodes_of s) w) (merged_places u l (stack_list n)) (merged_tops u l (stack_list n)))

    tops : (j : ℕ) → j < r → top_place u l (place_name u l (get_or q' j 0)) (scanned u l (stack_list n)) ≡ Some (get_or q' j 0)
    tops j h =
        let z : r ≤ k = kept.within in
        let y : length q' ≡ 512 = kept.long in
        subst (λ (i : ℕ). top_place u l (place_name u l i) (scanned u l (stack_list n)) ≡ Some i) (get_or-take r q' j 0 h)
        (all_at (λ i. top_place u l (place_name u l i) (scanned u l (stack_list n)) ≡ Some i) (take r q') all j (rw (length-take-le r q' (omega arith)) h))

-- ---- below a node that has no children no name has a node

no_child : (p : ℕ) (x : Name) (k : ℕ) (ns : List Node) → is_some (first_from (has_parent p) k ns) ≡ false → is_some (first_from (is_child p x) k ns) ≡ false
unfolding first_from is_child has_parent
no_child p x k [] h = refl
no_child p x k (n ∷ ns) h = go (eqb n.parent p) h (no_child p x (suc k) ns)
  where
    go : (b : Bool) → is_some (cond b (Some k) (first_from (has_parent p) (suc k) ns)) ≡ false → (is_some (first_from (has_parent p) (suc k) ns) ≡ false → is_some (first_from (is_child p x) (suc k) ns) ≡ false)
        → is_some (cond (cond b (same_name (node_name n) x) false) (Some k) (first_from (is_child p x) (suc k) ns)) ≡ false
    go true e ih = absurd (let z : ◌≡◌ {A = ℕ} 0 1 = cc in omega arith)
    go false e ih = ih e

those_all : (t : ℕ → Bool) → ((q : ℕ) → t q ≡ true) → (qs : List ℕ) → those t qs ≡ qs
unfolding those
those_all t h [] = refl
those_all t h (q ∷ qs) = rw (h q) (ap (λ (r : List ℕ). q ∷ r) (those_all t h qs))

pub to_add_all : (u l s : List ℕ) (n : Node) (w d k : ℕ) (p q : List ℕ) (b : Bool)
    → Filled p k (merged_places u l (take d n.stack)) q → k ≤ 512 → d ≡ n.depth → w ≡ n.number → b ≡ has_children (nodes_of s) w → b ≡ false → ToAdd u l s n k q
unfolding place_has_none has_none
to_add_all u l s n w d k p q b f h e g c z =
    to_add_is u l s n w d k k p q q f h e g
    (record {
      kept = sym (those_all (place_has_none u l (nodes_of s) w) (λ j. ap not (no_child w (place_name u l j) 0 (nodes_of s) (sym c ∙ z))) (take k q));
      within = omega arith;
      long = f.long;
    })

-- ---- the load
module _ (u l s : List ℕ) (j : ℕ) (n : Node) (at : n ≡ node_at (nodes_of s) j) (b : Bool) (is : b ≡ is_loaded n) where
  pub loaded_before : b ≡ true → (Ok tt) ≡ load_answer u l s j
  unfolding load_node
  loaded_before h = rw (← at, ← is, h) refl

  pub loaded_same : b ≡ true → s ≡ load_bytes u l s j
  unfolding load_node_bytes
  loaded_same h = rw (← at, ← is, h) refl

  module _ (h : b ≡ false) (m : ℕ) (q : List ℕ) (to : ToAdd u l s n m q) (r : Bool) (fits : r ≡ suffices s m) where
    count_is : length (to_add u l s n) ≡ m
    count_is = ap length (sym to.names) ∙ (length-map (take m q) (place_name u l) ∙ length-take-le m q (let z : m ≤ 512 = to.within in let y : length q ≡ 512 = to.long in omega arith))

    fits_is : r ≡ suffices s (length (to_add u l s n))
    fits_is = fits ∙ ap (suffices s) (sym count_is)

    pub load_done : r ≡ true → (Ok tt) ≡ load_answer u l s j
    unfolding load_node
    load_done z = rw (← at, ← is, h, ← fits_is, z) refl

    pub load_refused : r ≡ false → (Err NoRoom) ≡ load_answer u l s j
    unfolding load_node
    load_refused z = rw (← at, ← is, h, ← fits_is, z) refl

    pub load_unchanged : r ≡ false → s ≡ load_bytes u l s j
    unfolding load_node_bytes
    load_unchanged z = rw (← at, ← is, h, ← fits_is, z) refl

    pub load_added : (v w : List ℕ) (g : Node) (d : ℕ) → r ≡ true → g ≡ with_loaded n 1 → v ≡ put_bytes s j g → d ≡ n.depth → w ≡ add_names u l n.number (take d n.stack) (map (place_name u l) (take m q)) v → w ≡ load_bytes u l s j
    unfolding load_node_bytes
    load_added v w g d z e f y x = x ∙ rw (f, e, y, to.names, ← at, ← is, h, ← fits_is, z) refl

-- a node for one name
pub added_name : (u l s s' : List ℕ) (p : ℕ) (ps : List Pair) (x : Name) (st : Stack) (n : Node) → st ≡ merged_stack u l ps x → n ≡ new_node p st x → s' ≡ new_bytes s n → s' ≡ new_bytes s (new_node p (merged_stack u l ps x) x)
added_name u l s s' p ps x st n a b c = c ∙ rw (b, a) refl

-- a place to add is the topmost of its name
pub top_this : (u l : List ℕ) (ps : List Pair) (q : List ℕ) (m i : ℕ) (x : Name) → Topmost u l ps q m → i < m → x ≡ place_name u l (get_or q i 0) → top_place u l x (scanned u l ps) ≡ Some (get_or q i 0)
top_this u l ps q m i x a h e = rw e (a.top i h)

pub to_add_topmost : (u l s : List ℕ) (n : Node) (r : ℕ) (q : List ℕ) (d : ℕ) → ToAdd u l s n r q → d ≡ n.depth → Topmost u l (take d n.stack) q r
to_add_topmost u l s n r q d a e = rw e a.topmost
