-- The invariant kept by a load, and what a load leaves. Assumes nothing.
use Rattle.std.specs.Prelude.{Option, Some, None, Result, Ok, Err, is_some}
use Rattle.std.specs.declared.cmp.Ordering.TheVariants.{Less, Equal}
use Rattle.merge.specs.declared.load.LoadError.{LoadError}
use Rattle.merge.specs.declared.load.LoadError.TheVariants.{NoRoom}
use mathlib.Core.Path.{◌≡◌, refl, sym, ap, ap₂, ◌∙◌, subst}
use mathlib.Core.Logic.{◌≢◌}
use Prim.Native.Nat.{ℕ, suc, ◌+◌, ◌≤◌, ◌<◌}
use native.Mathlib.Omega.{arith}
use native.Mathlib.Decide.{ℕ_discrete}
use mathlib.Core.Bool.{Bool, true, false, not, cond}
use mathlib.Core.List.{List, [], ◌∷◌}
use lib.Dec.{eqb, leb, ltb}
use lib.ListN.{length, set, length-take, get_or-eq_default}
use borrow.Author.Tests.{eqb-false, not-true, lt-leb, le-ltb, leb-true, ltb-true, ltb-false}
use Rattle.layers.specs.Names.{Name, same_name, order_of}
use Rattle.layers.specs.Items.{entries_of}
use Rattle.layers.specs.Search.{one}
use Rattle.layers.specs.Sorted.{Below, Sorted}
use Rattle.layers.proofs.NameLaws.{same_true, same_refl}
use Rattle.layers.proofs.OrderLaws.{same_self}
use Rattle.merge.specs.declared.stacks.Pair.{Pair}
use Rattle.merge.specs.declared.node.Node.{Node}
use Rattle.merge.specs.Nodes.{no_node, node_name, key_of, capacity, count_of, nodes_of, node_at}
use Rattle.merge.specs.Methods.{with_loaded}
use Rattle.merge.specs.Heads.{next_of, full, room_of, numbers_left}
use Rattle.merge.specs.State.{those, find_child}
use Rattle.merge.specs.Changes.{put_bytes, new_bytes}
use Rattle.merge.specs.Tables.{table_of}
use Rattle.merge.specs.Scan.{scanned, names_of, merged_names}
use Rattle.merge.specs.Stacks.{stack_of, whiteout_of, merged_stack}
use Rattle.merge.specs.Load.{new_node, has_none, add_names, stack_list, to_add, suffices, is_loaded, load_node, load_node_bytes, load_answer, load_bytes}
use Rattle.demands.specs.Invariant.{node_by, Resident, Complete, GoodNodes, Good}
use Rattle.merge.specs.Tidy.{Tidy}
use Rattle.merge.proofs.HeadLaws.{capacity_same}
use Rattle.merge.proofs.StateLaws.{length_nodes}
use Rattle.merge.proofs.StackLaws.{length_stack}
use Rattle.merge.proofs.NamesOfPlaces.{merged_sorted}
use Rattle.merge.proofs.NamedLaws.{or, has, some, ChildrenExist, has_stack}
use Rattle.merge.proofs.ListChanges.{those_sorted}
use Rattle.merge.proofs.NodeLists.{child_changed}
use Rattle.merge.proofs.NodesAfter.{nodes_put, next_put, count_put, length_put}
use Rattle.merge.proofs.Kept.{Blank, blank_put}
use Rattle.demands.proofs.InvariantMoves.{Alike, alike_complete}
use Rattle.demands.proofs.InvariantNodes.{place_found, place_by, place_resident, child_there, there_child, by_set, set_each, set_alike}
use Rattle.demands.proofs.InvariantKept.{loaded_alike, tidy_loaded, tidy_place, put_nodes}
use Rattle.demands.proofs.InvariantChange.{New, count_after, length_after, next_after, new_blank, new_nodes, new_complete, new_others, new_there, new_key, new_absent}
use Rattle.merge.proofs.NewNodes.{new_parent, new_name, new_stack, new_white, new_loaded, new_tidy}
use Rattle.demands.proofs.ShortNames.{merged_short}

absurd_bool : {A : Type 0} → false ≡ true → A
absurd_bool e = absurd (let o : ◌≡◌ {A = ℕ} 0 1 = cc in omega arith)

-- ---- names in lists

has_first : (x : Name) (xs : List Name) → has x (x ∷ xs) ≡ true
has_first x xs = rw (same_refl x) refl

has_rest : (x y : Name) (xs : List Name) → has y xs ≡ true → has y (x ∷ xs) ≡ true
has_rest x y xs h = go (same_name x y)
  where
    go : (b : Bool) → or b (has y xs) ≡ true
    go true = refl
    go false = h

-- a name after the first
below_other : (x y : Name) (xs : List Name) → Below (λ n. n) x xs → has y xs ≡ true → x ≢ y
below_other x y [] b h e = absurd_bool h
below_other x y (z ∷ xs) b h e = go (same_name z y) refl h (λ k. below_other x y xs b.1 k e)
  where
    go : (t : Bool) → same_name z y ≡ t → or t (has y xs) ≡ true → (has y xs ≡ true → ⊥) → ⊥
    go true q h ih = absurd (let w : Equal ≡ Less = sym (same_self x) ∙ (ap (order_of x) (e ∙ sym (same_true z y q)) ∙ b.0) in let o : ◌≡◌ {A = ℕ} 0 1 = cc in omega arith)
    go false q h ih = ih h

those_has : (p : Name → Bool) (xs : List Name) (y : Name) → has y (those p xs) ≡ true → (has y xs ≡ true) × (p y ≡ true)
unfolding those
those_has p [] y h = absurd_bool h
those_has p (x ∷ xs) y h = go (p x) refl h (those_has p xs y)
  where
    rest : (has y xs ≡ true) × (p y ≡ true) → (has y (x ∷ xs) ≡ true) × (p y ≡ true)
    rest t = (has_rest x y xs t.0, t.1)

    first : p x ≡ true → (b : Bool) → same_name x y ≡ b → or b (has y (those p xs)) ≡ true → (has y (those p xs) ≡ true → (has y xs ≡ true) × (p y ≡ true)) → (has y (x ∷ xs) ≡ true) × (p y ≡ true)
    first e true q h ih = (rw q refl, ap p (sym (same_true x y q)) ∙ e)
    first e false q h ih = rest (ih h)

    go : (b : Bool) → p x ≡ b → has y (cond b (x ∷ those p xs) (those p xs)) ≡ true → (has y (those p xs) ≡ true → (has y xs ≡ true) × (p y ≡ true)) → (has y (x ∷ xs) ≡ true) × (p y ≡ true)
    go true e h ih = first e (same_name x y) refl h ih
    go false e h ih = rest (ih h)

has_those : (p : Name → Bool) (xs : List Name) (y : Name) → has y xs ≡ true → p y ≡ true → has y (those p xs) ≡ true
unfolding those
has_those p [] y h e = h
has_those p (x ∷ xs) y h e = go (p x) refl (same_name x y) refl h (λ k. has_those p xs y k e)
  where
    go : (b : Bool) → p x ≡ b → (t : Bool) → same_name x y ≡ t → or t (has y xs) ≡ true → (has y xs ≡ true → has y (those p xs) ≡ true) → has y (cond b (x ∷ those p xs) (those p xs)) ≡ true
    go true a true q h ih = rw q refl
    go true a false q h ih = has_rest x y (those p xs) (ih h)
    go false a true q h ih = absurd_bool (sym a ∙ (ap p (same_true x y q) ∙ e))
    go false a false q h ih = ih h

none_missing : (ns : List Node) (p : ℕ) (x : Name) → has_none ns p x ≡ true → find_child ns p x ≡ None
unfolding has_none
none_missing ns p x h = go (find_child ns p x) h
  where
    go : (f : Option ℕ) → not (is_some f) ≡ true → f ≡ None
    go (Some k) e = absurd_bool e
    go None e = refl

-- ---- a node for one name

module _ (u l t : List ℕ) (g : GoodNodes u l (nodes_of t) (next_of t)) (p : ℕ) (there : Resident (node_by (nodes_of t)) p) (x : Name) where
  abbrev ps : List Pair
  ps = stack_list (node_by (nodes_of t) p)

  abbrev new : Node
  new = new_node p (merged_stack u l ps x) x

  module _ (absent : find_child (nodes_of t) p x ≡ None) (stack : stack_of u l ps x ≢ []) (short : length x ≤ 28) (room : 1 ≤ room_of t) (left : 1 ≤ numbers_left t) where
    stack_short : length (stack_of u l ps x) ≤ 4
    stack_short =
        let a : length (stack_of u l ps x) ≤ length ps = length_stack u l ps x in
        let d : (node_by (nodes_of t) p).depth ≤ 4 = (g.tidy p).depth_fits in
        let c : length ps ≤ 4 = simp length-take (omega arith) in
        omega arith

    parent_is : new.parent ≡ p
    parent_is = new_parent p (stack_of u l ps x) (whiteout_of u l ps x) x short stack_short

    name_is : node_name new ≡ x
    name_is = new_name p (stack_of u l ps x) (whiteout_of u l ps x) x short stack_short

    tidy_new : Tidy new
    tidy_new = let q : p < next_of t = g.below_next p there in let m : next_of t ≤ 4294967296 = g.next_most in new_tidy p (stack_of u l ps x) (whiteout_of u l ps x) x short stack_short (omega arith)

    fresh : New u u l (node_by (nodes_of t)) new
    fresh =
        record {
          roots = refl;
          stacks = λ q r y e. refl;
          marks = λ q r y e. refl;
          parent_there = rw parent_is there;
          stack_new = stack_is ∙ ap₂ (λ (q : ℕ) (n : Name). stack_of u l (stack_list (node_by (nodes_of t) q)) n) (sym parent_is) (sym name_is);
          stack_some = λ z. stack (sym stack_is ∙ z);
          white_new = new_white p (stack_of u l ps x) (whiteout_of u l ps x) x short stack_short ∙ ap₂ (λ (q : ℕ) (n : Name). one (whiteout_of u l (stack_list (node_by (nodes_of t) q)) n)) (sym parent_is) (sym name_is);
          not_loaded = new_loaded p (stack_of u l ps x) (whiteout_of u l ps x) x short stack_short;
        }
      where
        stack_is : stack_list new ≡ stack_of u l ps x
        stack_is = new_stack p (stack_of u l ps x) (whiteout_of u l ps x) x short stack_short

    missing : find_child (nodes_of t) new.parent (node_name new) ≡ None
    missing = ap₂ (find_child (nodes_of t)) parent_is name_is ∙ absent

    not_full : full t ≡ false
    unfolding full
    not_full = lt-leb (capacity t) (count_of t) (omega arith)

    pub name_room : (k : ℕ) → suc k ≤ room_of t → k ≤ room_of (new_bytes t new)
    name_room k h =
        let c : count_of (new_bytes t new) ≡ count_of t + 1 = count_after u u l t g new tidy_new fresh missing not_full (omega arith) in
        let d : capacity (new_bytes t new) ≡ capacity t = capacity_same (new_bytes t new) t (length_after u u l t g new tidy_new fresh missing not_full (omega arith)) in
        omega arith

    pub name_left : (k : ℕ) → suc k ≤ numbers_left t → k ≤ numbers_left (new_bytes t new)
    name_left k h = let c : next_of (new_bytes t new) ≡ next_of t + 1 = next_after u u l t g new tidy_new fresh missing not_full (omega arith) in omega arith

    pub name_blank : Blank t → Blank (new_bytes t new)
    name_blank = new_blank u u l t g new tidy_new fresh missing not_full (omega arith)

    pub name_good : GoodNodes u l (nodes_of (new_bytes t new)) (next_of (new_bytes t new))
    name_good = new_nodes u u l t g new tidy_new fresh missing not_full (omega arith)

    pub name_complete : (k : ℕ) → Complete u l (node_by (nodes_of t)) k → Complete u l (node_by (nodes_of (new_bytes t new))) k
    name_complete = new_complete u u l t g new tidy_new fresh missing not_full (omega arith)

    pub name_keeps : (y : ℕ) → Resident (node_by (nodes_of t)) y → node_by (nodes_of (new_bytes t new)) y ≡ node_by (nodes_of t) y
    name_keeps = new_others u u l t g new tidy_new fresh missing not_full (omega arith)

    pub name_there : (k : ℕ) × Resident (node_by (nodes_of (new_bytes t new))) k × (key_of (node_by (nodes_of (new_bytes t new)) k) ≡ p ∷ x)
    name_there = (next_of t, new_there u u l t g new tidy_new fresh missing not_full (omega arith), new_key u u l t g new tidy_new fresh missing not_full (omega arith) ∙ ap₂ ◌∷◌ parent_is name_is)

    pub name_absent : (y : Name) → x ≢ y → find_child (nodes_of t) p y ≡ None → find_child (nodes_of (new_bytes t new)) p y ≡ None
    name_absent y e = new_absent u u l t g new tidy_new fresh missing not_full (omega arith) p y (λ z. e (sym name_is ∙ (let w : key_of new ≡ p ∷ y = z in cc)))

-- ---- nodes for names, one after another

module _ (u l : List ℕ) (p : ℕ) where
  -- what is left of the names can be added
  pub record Addable (t : List ℕ) (ps : List Pair) (xs : List Name) : Type 0 where
    pub nodes : GoodNodes u l (nodes_of t) (next_of t)
    pub blank : Blank t
    pub there : Resident (node_by (nodes_of t)) p
    pub stack : stack_list (node_by (nodes_of t) p) ≡ ps
    pub sorted : Sorted (λ n. n) xs
    pub absent : (y : Name) → has y xs ≡ true → find_child (nodes_of t) p y ≡ None
    pub some : (y : Name) → has y xs ≡ true → stack_of u l ps y ≢ []
    pub short : (y : Name) → has y xs ≡ true → length y ≤ 28
    pub places : length xs ≤ room_of t
    pub numbers : length xs ≤ numbers_left t

  -- and what adding them leaves
  pub record Added (t : List ℕ) (xs : List Name) (w : List ℕ) : Type 0 where
    pub nodes : GoodNodes u l (nodes_of w) (next_of w)
    pub blank : Blank w
    pub keeps : (x : ℕ) → Resident (node_by (nodes_of t)) x → node_by (nodes_of w) x ≡ node_by (nodes_of t) x
    pub complete : (x : ℕ) → Complete u l (node_by (nodes_of t)) x → Complete u l (node_by (nodes_of w)) x
    pub named : (y : Name) → has y xs ≡ true → (k : ℕ) × Resident (node_by (nodes_of w)) k × (key_of (node_by (nodes_of w) k) ≡ p ∷ y)

  stays : (t w : List ℕ) → ((x : ℕ) → Resident (node_by (nodes_of t)) x → node_by (nodes_of w) x ≡ node_by (nodes_of t) x) → (x : ℕ) → Resident (node_by (nodes_of t)) x → Resident (node_by (nodes_of w)) x
  stays t w h x r = (r.0, ap (λ (n : Node). n.number) (h x r) ∙ r.1)

  module _ (t : List ℕ) (x : Name) (xs : List Name) (a : Addable t (stack_list (node_by (nodes_of t) p)) (x ∷ xs)) where
    abbrev after : List ℕ
    after = new_bytes t (new_node p (merged_stack u l (stack_list (node_by (nodes_of t) p)) x) x)

    none_x : find_child (nodes_of t) p x ≡ None
    none_x = a.absent x (has_first x xs)

    some_x : stack_of u l (stack_list (node_by (nodes_of t) p)) x ≢ []
    some_x = a.some x (has_first x xs)

    short_x : length x ≤ 28
    short_x = a.short x (has_first x xs)

    room_x : 1 ≤ room_of t
    room_x = let z : suc (length xs) ≤ room_of t = a.places in omega arith

    left_x : 1 ≤ numbers_left t
    left_x = let z : suc (length xs) ≤ numbers_left t = a.numbers in omega arith

    kept_x : (y : ℕ) → Resident (node_by (nodes_of t)) y → node_by (nodes_of after) y ≡ node_by (nodes_of t) y
    kept_x = name_keeps u l t a.nodes p a.there x none_x some_x short_x room_x left_x

    next_addable : Addable after (stack_list (node_by (nodes_of t) p)) xs
    next_addable =
        record {
          nodes = name_good u l t a.nodes p a.there x none_x some_x short_x room_x left_x;
          blank = name_blank u l t a.nodes p a.there x none_x some_x short_x room_x left_x a.blank;
          there = stays t after kept_x p a.there;
          stack = ap stack_list (kept_x p a.there);
          sorted = a.sorted.1;
          absent = λ y h. name_absent u l t a.nodes p a.there x none_x some_x short_x room_x left_x y (below_other x y xs a.sorted.0 h) (a.absent y (has_rest x y xs h));
          some = λ y h. a.some y (has_rest x y xs h);
          short = λ y h. a.short y (has_rest x y xs h);
          places = name_room u l t a.nodes p a.there x none_x some_x short_x room_x left_x (length xs) a.places;
          numbers = name_left u l t a.nodes p a.there x none_x some_x short_x room_x left_x (length xs) a.numbers;
        }

    then_added : (w : List ℕ) → Added after xs w → Added t (x ∷ xs) w
    then_added w d =
        record {
          nodes = d.nodes;
          blank = d.blank;
          keeps = λ y r. d.keeps y (stays t after kept_x y r) ∙ kept_x y r;
          complete = λ y c. d.complete y (name_complete u l t a.nodes p a.there x none_x some_x short_x room_x left_x y c);
          named = named;
        }
      where
        first : (k : ℕ) × Resident (node_by (nodes_of after)) k × (key_of (node_by (nodes_of after) k) ≡ p ∷ x)
        first = name_there u l t a.nodes p a.there x none_x some_x short_x room_x left_x

        named : (y : Name) → has y (x ∷ xs) ≡ true → (k : ℕ) × Resident (node_by (nodes_of w)) k × (key_of (node_by (nodes_of w) k) ≡ p ∷ y)
        named y h = go (same_name x y) refl h
          where
            go : (b : Bool) → same_name x y ≡ b → or b (has y xs) ≡ true → (k : ℕ) × Resident (node_by (nodes_of w)) k × (key_of (node_by (nodes_of w) k) ≡ p ∷ y)
            go true e q = (first.0, stays after w d.keeps first.0 first.1, ap key_of (d.keeps first.0 first.1) ∙ (first.2 ∙ ap (λ (n : Name). p ∷ n) (same_true x y e)))
            go false e q = d.named y q

  pub add_all : (xs : List Name) (t : List ℕ) (ps : List Pair) → Addable t ps xs → Added t xs (add_names u l p ps xs t)
  unfolding add_names
  add_all [] t ps a = record { nodes = a.nodes; blank = a.blank; keeps = λ x r. refl; complete = λ x c. c; named = λ y h. absurd_bool h }
  add_all (x ∷ xs) t ps a =
      subst (λ (q : List Pair). Added t (x ∷ xs) (add_names u l p q xs (new_bytes t (new_node p (merged_stack u l q x) x)))) a.stack
      (then_added t x xs b (add_names u l p (stack_list (node_by (nodes_of t) p)) xs (after t x xs b)) (add_all xs (after t x xs b) (stack_list (node_by (nodes_of t) p)) (next_addable t x xs b)))
    where
      b : Addable t (stack_list (node_by (nodes_of t) p)) (x ∷ xs)
      b = subst (λ (q : List Pair). Addable t q (x ∷ xs)) (sym a.stack) a

-- ---- the load of a node

pub suffices_both : (s : List ℕ) (k : ℕ) → suffices s k ≡ true → (k ≤ room_of s) × (k ≤ numbers_left s)
unfolding suffices
suffices_both s k h = go (leb k (room_of s)) refl h
  where
    go : (b : Bool) → leb k (room_of s) ≡ b → cond b (leb k (numbers_left s)) false ≡ true → (k ≤ room_of s) × (k ≤ numbers_left s)
    go true e h = (leb-true k (room_of s) e, leb-true k (numbers_left s) h)
    go false e h = absurd_bool h

some_not : {A : Type 0} (xs : List A) → some xs ≡ true → xs ≢ []
some_not [] h e = absurd_bool h
some_not (x ∷ xs) h e = absurd_bool (ap some (sym e))

not_some : {A : Type 0} (xs : List A) → xs ≢ [] → some xs ≡ true
not_some [] h = absurd (h refl)
not_some (x ∷ xs) h = refl

module _ (u l s : List ℕ) (g : Good u l s) (exist : (k : ℕ) → ChildrenExist (entries_of (table_of u l k))) (j : ℕ) (b : j < count_of s) where
  abbrev ns : List Node
  ns = nodes_of s

  abbrev n : Node
  n = node_at (nodes_of s) j

  abbrev x : ℕ
  x = (node_at (nodes_of s) j).number

  -- the node marked
  abbrev with : List ℕ
  with = put_bytes s j (with_loaded (node_at (nodes_of s) j) 1)

  inside : j < length ns
  inside = rw (length_nodes s) b

  alike : Alike (with_loaded n 1) n
  alike = loaded_alike n 1

  tidied : Tidy (with_loaded n 1)
  tidied = tidy_loaded n 1 (omega arith) (tidy_place u l ns (next_of s) g.nodes j)

  nodes_with : nodes_of with ≡ set ns j (with_loaded n 1)
  nodes_with = nodes_put s j (with_loaded n 1) tidied.fits

  here : Resident (node_by ns) x
  here = place_resident ns g.nodes.once j inside g.nodes.none_zero

  with_alike : (y : ℕ) → Alike (node_by (nodes_of with) y) (node_by ns y)
  with_alike = rw nodes_with (set_alike u l ns (next_of s) g.nodes j (with_loaded n 1) alike)

  with_there : (y : ℕ) → Resident (node_by ns) y → Resident (node_by (nodes_of with)) y
  with_there y r = (r.0, (with_alike y).number_same ∙ r.1)

  with_here : node_by (nodes_of with) x ≡ with_loaded n 1
  with_here = rw nodes_with (by_set ns j (with_loaded n 1) alike.number_same x (place_found ns g.nodes.once j inside))

  merged : (y : Name) → has y (to_add u l s n) ≡ true → (has y (merged_names u l (stack_list n)) ≡ true) × (has_none ns x y ≡ true)
  unfolding to_add
  merged y h = those_has (has_none ns x) (merged_names u l (stack_list n)) y h

  addable : suffices s (length (to_add u l s n)) ≡ true → Addable u l x with (stack_list n) (to_add u l s n)
  addable f =
      record {
        nodes = put_nodes u l s j (with_loaded n 1) tidied g.nodes alike;
        blank = blank_put s j (with_loaded n 1) tidied.fits g.blank;
        there = with_there x here;
        stack = ap stack_list with_here ∙ alike.stack_same;
        sorted = unfold to_add in those_sorted (λ m. m) (has_none ns x) (merged_names u l (stack_list n)) (merged_sorted u l (stack_list n));
        absent = λ y h. rw nodes_with (child_changed ns j (with_loaded n 1) alike.key_same x y ∙ none_missing ns x y (merged y h).1);
        some = λ y h. some_not (stack_of u l (stack_list n) y) (sym (has_stack u l exist (stack_list n) y) ∙ (merged y h).0);
        short = λ y h. merged_short u l (stack_list n) y (merged y h).0;
        places =
            let c : count_of with ≡ count_of s = count_put s j (with_loaded n 1) tidied.fits in
            let d : capacity with ≡ capacity s = capacity_same with s (length_put s j (with_loaded n 1) tidied.fits) in
            let e : length (to_add u l s n) ≤ room_of s = (suffices_both s (length (to_add u l s n)) f).0 in
            omega arith;
        numbers =
            let c : next_of with ≡ next_of s = next_put s j (with_loaded n 1) tidied.fits in
            let e : length (to_add u l s n) ≤ numbers_left s = (suffices_both s (length (to_add u l s n)) f).1 in
            omega arith;
      }

  module _ (f : suffices s (length (to_add u l s n)) ≡ true) where
    abbrev done : List ℕ
    done = add_names u l x (stack_list n) (to_add u l s n) with

    added : Added u l x with (to_add u l s n) done
    added = add_all u l x (to_add u l s n) with (stack_list n) (addable f)

    done_there : (y : ℕ) → Resident (node_by ns) y → Resident (node_by (nodes_of done)) y
    done_there y r = stays u l x with done added.keeps y (with_there y r)

    done_alike : (y : ℕ) → Resident (node_by ns) y → Alike (node_by (nodes_of done) y) (node_by ns y)
    done_alike y r = rw (added.keeps y (with_there y r)) (with_alike y)

    done_here : node_by (nodes_of done) x ≡ with_loaded n 1
    done_here = added.keeps x (with_there x here) ∙ with_here

    done_named : (y : Name) → has y (merged_names u l (stack_list n)) ≡ true → (k : ℕ) × Resident (node_by (nodes_of done)) k × (key_of (node_by (nodes_of done) k) ≡ x ∷ y)
    done_named y h = go (find_child ns x y) refl
      where
        go : (q : Option ℕ) → find_child ns x y ≡ q → (k : ℕ) × Resident (node_by (nodes_of done)) k × (key_of (node_by (nodes_of done) k) ≡ x ∷ y)
        go (Some k) e =
            let t : (i : ℕ) × Resident (node_by ns) i × (key_of (node_by ns i) ≡ x ∷ y) = child_there ns x y g.nodes.once g.nodes.none_zero k e in
            (t.0, done_there t.0 t.1, (done_alike t.0 t.1).key_same ∙ t.2)
        go None e = added.named y (unfold to_add has_none in has_those (has_none ns x) (merged_names u l (stack_list n)) y h (rw e refl))

    done_complete : (y : ℕ) → Complete u l (node_by (nodes_of done)) y
    done_complete y = go (ℕ_discrete y x)
      where
        go : Dec (y ≡ x) → Complete u l (node_by (nodes_of done)) y
        go (yes e) = rw e (λ r h z w. done_named z (has_stack u l exist (stack_list n) z ∙ not_some (stack_of u l (stack_list n) z) (λ q. w (ap (λ (a : Node). stack_of u l (stack_list a) z) done_here ∙ (ap (λ (a : List Pair). stack_of u l a z) alike.stack_same ∙ q)))))
        go (no e) =
            added.complete y
            (λ r. alike_complete u l (node_by ns) (node_by (nodes_of with)) with_alike y
            (rw nodes_with
            (set_each ns j (with_loaded n 1) alike.number_same (λ (a d : Node). d.number ≢ x → is_loaded a ≡ true → is_loaded d ≡ true) (λ a q m. m) (λ q m. absurd (q refl)) y
            (λ q. e (sym (sym (with_alike y).number_same ∙ r.1) ∙ q))))
            (g.complete y) r)

    pub done_good : Good u l done
    done_good = record { nodes = added.nodes; complete = done_complete; blank = added.blank }

    -- every node but the loaded one stays as it was
    done_others : (y : ℕ) → Resident (node_by ns) y → y ≢ x → node_by (nodes_of done) y ≡ node_by ns y
    done_others y r e =
        added.keeps y (with_there y r)
        ∙ rw nodes_with (set_each ns j (with_loaded n 1) alike.number_same (λ (a d : Node). d.number ≢ x → a ≡ d) (λ a q. refl) (λ q. absurd (q refl)) y (λ q. e (sym r.1 ∙ q)))

-- ---- what an accepted load leaves: "adds a node for each merged name that has none, .. keeps the others, sets the mark"
pub record Loaded (u l s : List ℕ) (j : ℕ) (w : List ℕ) : Type 0 where
  pub mark : node_by (nodes_of w) (node_at (nodes_of s) j).number ≡ with_loaded (node_at (nodes_of s) j) 1
  pub others : (y : ℕ) → Resident (node_by (nodes_of s)) y → y ≢ (node_at (nodes_of s) j).number → node_by (nodes_of w) y ≡ node_by (nodes_of s) y
  pub named : (y : Name) → has y (merged_names u l (stack_list (node_at (nodes_of s) j))) ≡ true → (k : ℕ) × (find_child (nodes_of w) (node_at (nodes_of s) j).number y ≡ Some k)

-- a place that has no node loads nothing
pub load_outside : (u l s : List ℕ) (j : ℕ) → count_of s ≤ j → load_bytes u l s j ≡ s
unfolding load_node_bytes
load_outside u l s j h = rw (get_or-eq_default (nodes_of s) no_node {n = j} (rw (length_nodes s) h)) (go (is_loaded no_node) (suffices s (length (to_add u l s no_node))))
  where
    nothing : to_add u l s no_node ≡ []
    nothing = unfold to_add merged_names names_of scanned those in refl

    same : put_bytes s j (with_loaded no_node 1) ≡ s
    same = unfold put_bytes in rw (le-ltb j (count_of s) h) refl

    go : (b c : Bool) → cond b s (cond c (add_names u l 0 (stack_list no_node) (to_add u l s no_node) (put_bytes s j (with_loaded no_node 1))) s) ≡ s
    go true c = refl
    go false true = rw (nothing, same) (unfold add_names in refl)
    go false false = refl

-- a refused load changes nothing
pub refused_same : (u l s : List ℕ) (j : ℕ) → load_answer u l s j ≡ Err NoRoom → load_bytes u l s j ≡ s
unfolding load_node load_node_bytes
refused_same u l s j h = go (is_loaded (node_at (nodes_of s) j)) (suffices s (length (to_add u l s (node_at (nodes_of s) j)))) h
  where
    go : (b c : Bool) → ◌≡◌ {A = Result (Unit {0}) LoadError} (cond b (Ok tt) (cond c (Ok tt) (Err NoRoom))) (Err NoRoom) → cond b s (cond c (add_names u l (node_at (nodes_of s) j).number (stack_list (node_at (nodes_of s) j)) (to_add u l s (node_at (nodes_of s) j)) (put_bytes s j (with_loaded (node_at (nodes_of s) j) 1))) s) ≡ s
    go true c e = refl
    go false true e = absurd (let o : ◌≡◌ {A = ℕ} 0 1 = cc in omega arith)
    go false false e = refl

module _ (u l s : List ℕ) (g : Good u l s) (exist : (k : ℕ) → ChildrenExist (entries_of (table_of u l k))) (j : ℕ) where
  -- a load keeps what holds
  pub load_keeps : Good u l (load_bytes u l s j)
  load_keeps = go (ltb j (count_of s)) refl
    where
      inner : j < count_of s → (b c : Bool) → suffices s (length (to_add u l s (node_at (nodes_of s) j))) ≡ c
          → Good u l (cond b s (cond c (add_names u l (node_at (nodes_of s) j).number (stack_list (node_at (nodes_of s) j)) (to_add u l s (node_at (nodes_of s) j)) (put_bytes s j (with_loaded (node_at (nodes_of s) j) 1))) s))
      inner h true c e = g
      inner h false true e = done_good u l s g exist j h e
      inner h false false e = g

      go : (b : Bool) → ltb j (count_of s) ≡ b → Good u l (load_bytes u l s j)
      go true e = unfold load_node_bytes in inner (ltb-true j (count_of s) e) (is_loaded (node_at (nodes_of s) j)) (suffices s (length (to_add u l s (node_at (nodes_of s) j)))) refl
      go false e = subst (Good u l) (sym (load_outside u l s j (ltb-false j (count_of s) e))) g

  module _ (b : j < count_of s) where
    loaded_one : is_loaded (node_at (nodes_of s) j) ≡ true → node_at (nodes_of s) j ≡ with_loaded (node_at (nodes_of s) j) 1
    unfolding is_loaded
    loaded_one h = sym same ∙ ap (with_loaded (node_at (nodes_of s) j)) one_is
      where
        same : with_loaded (node_at (nodes_of s) j) (node_at (nodes_of s) j).loaded ≡ node_at (nodes_of s) j
        same = unfold with_loaded in refl

        most : (node_at (nodes_of s) j).loaded ≤ 1
        most = (tidy_place u l (nodes_of s) (next_of s) g.nodes j).loaded_mark

        one_is : (node_at (nodes_of s) j).loaded ≡ 1
        one_is = let z : (node_at (nodes_of s) j).loaded ≡ 0 → ⊥ = eqb-false (node_at (nodes_of s) j).loaded 0 (not-true (eqb (node_at (nodes_of s) j).loaded 0) h) in omega (arith, most)

    loaded_already : is_loaded (node_at (nodes_of s) j) ≡ true → Loaded u l s j s
    loaded_already h =
        record {
          mark = place_by (nodes_of s) g.nodes.once j (inside u l s g exist j b) ∙ loaded_one h;
          others = λ y r e. refl;
          named = λ y m.
              let t : (k : ℕ) × Resident (node_by (nodes_of s)) k × (key_of (node_by (nodes_of s) k) ≡ (node_at (nodes_of s) j).number ∷ y) =
              g.complete (node_at (nodes_of s) j).number (here u l s g exist j b) (ap is_loaded at ∙ h) y (λ z. some_not (stack_of u l (stack_list (node_at (nodes_of s) j)) y) (sym (has_stack u l exist (stack_list (node_at (nodes_of s) j)) y) ∙ m) (ap (λ (a : Node). stack_of u l (stack_list a) y) (sym at) ∙ z)) in
              there_child (nodes_of s) (node_at (nodes_of s) j).number y t.0 t.1 t.2;
        }
      where
        at : node_by (nodes_of s) (node_at (nodes_of s) j).number ≡ node_at (nodes_of s) j
        at = place_by (nodes_of s) g.nodes.once j (inside u l s g exist j b)

    -- after an accepted load the node is loaded, and each merged name has a node
    pub load_complete : load_answer u l s j ≡ Ok tt → Loaded u l s j (load_bytes u l s j)
    unfolding load_node load_node_bytes
    load_complete h = go (is_loaded (node_at (nodes_of s) j)) refl (suffices s (length (to_add u l s (node_at (nodes_of s) j)))) refl h
      where
        go : (c : Bool) → is_loaded (node_at (nodes_of s) j) ≡ c → (d : Bool) → suffices s (length (to_add u l s (node_at (nodes_of s) j))) ≡ d → ◌≡◌ {A = Result (Unit {0}) LoadError} (cond c (Ok tt) (cond d (Ok tt) (Err NoRoom))) (Ok tt)
            → Loaded u l s j (cond c s (cond d (add_names u l (node_at (nodes_of s) j).number (stack_list (node_at (nodes_of s) j)) (to_add u l s (node_at (nodes_of s) j)) (put_bytes s j (with_loaded (node_at (nodes_of s) j) 1))) s))
        go true e d f q = loaded_already e
        go false e true f q =
            record {
              mark = done_here u l s g exist j b f;
              others = done_others u l s g exist j b f;
              named = λ y m.
                  let t : (k : ℕ) × Resident (node_by (nodes_of (done u l s g exist j b f))) k × (key_of (node_by (nodes_of (done u l s g exist j b f)) k) ≡ (node_at (nodes_of s) j).number ∷ y) = done_named u l s g exist j b f y m in
                  there_child (nodes_of (done u l s g exist j b f)) (node_at (nodes_of s) j).number y t.0 t.1 t.2;
            }
        go false e false f q = absurd (let o : ◌≡◌ {A = ℕ} 0 1 = cc in omega arith)
