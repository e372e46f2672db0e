-- The invariant over the list of nodes: one put in, changed or taken out. Assumes nothing.
use Rattle.std.specs.Prelude.{Option, Some, None, is_some}
use Rattle.std.specs.declared.cmp.Ordering.TheVariants.{Less, Greater}
use mathlib.Core.Path.{◌≡◌, refl, sym, ap, ◌∙◌, subst}
use mathlib.Core.Logic.{◌≢◌}
use Prim.Native.Nat.{ℕ, zero, suc, ◌+◌, ◌≤◌, ◌<◌}
use native.Mathlib.Omega.{arith}
use native.Mathlib.Nat.{zero-add, add-zero, add-suc, suc-add}
use native.Mathlib.Decide.{ℕ_discrete}
use mathlib.Core.Bool.{Bool, true, false, cond}
use mathlib.Core.List.{List, [], ◌∷◌}
use lib.Dec.{eqb, ltb}
use lib.ListN.{length, take, get_or, set, replicate, length-set}
use lib.Seq.{set_out, get_or-set_same, get_or-set_other}
use borrow.Author.Tests.{le-ltb, ltb-true, ltb-false}
use Rattle.layers.specs.Names.{Name, order_of}
use Rattle.layers.specs.Search.{one, first_from}
use Rattle.layers.specs.Order.{insert_by}
use Rattle.layers.specs.Sorted.{Sorted}
use Rattle.layers.proofs.Places.{first_found}
use Rattle.layers.proofs.ChangeLaws.{first_below, first_passes}
use Rattle.layers.proofs.SortLaws.{insert_sorted}
use Rattle.layers.proofs.PieceMoves.{insert_at, remove_at}
use Rattle.merge.specs.declared.node.Node.{Node}
use Rattle.merge.specs.Nodes.{no_node, no_pair, node_name, key_of, node_at}
use Rattle.merge.specs.State.{is_number, is_child, has_parent, those, find_number, find_child, child_from, has_children, place_for}
use Rattle.merge.specs.Stacks.{stack_of, whiteout_of}
use Rattle.merge.specs.Fresh.{root_stack, fresh}
use Rattle.merge.specs.Load.{stack_list, is_loaded}
use Rattle.demands.specs.Invariant.{node_in, node_by, Resident, NonRoot, Complete, GoodNodes, path_of}
use Rattle.merge.specs.Tidy.{Tidy}
use Rattle.merge.proofs.ListChanges.{put_back, at_shifted, shifted, found_shifted, length_remove, those_set_same, those_set_other, those_insert_other, those_insert_at, length_insert, those_remove_other, count_those_removed, those_missing, set_sorted, remove_sorted}
use Rattle.merge.proofs.NodeLists.{is_number_lem, other_number, number_of, is_parent, is_child_lem, child_key, number_changed, number_left, number_gone, one_child, added_is, node_added, node_moved, number_kept, number_added, free_where_missing}
use Rattle.merge.proofs.NamesOfPlaces.{sorted_place}
use Rattle.merge.proofs.NodeFits.{no_node_fits}
use Rattle.demands.proofs.InvariantMoves.{Step, step_keeps, step_complete, Alike, alike_refl, alike_keeps, alike_complete, add_keeps, add_complete, added_there, drop_keeps, drop_complete, stack_fresh}

-- ---- the first that passes, where one at most does

module _ {A : Type 0} (p : A → Bool) (d : A) where
  some_pass : (xs : List A) (j : ℕ) → j < length xs → p (get_or xs j d) ≡ true → 1 ≤ length (those p xs)
  unfolding those
  some_pass [] j l h = absurd (omega arith)
  some_pass (x ∷ xs) zero l h = rw h (omega arith)
  some_pass (x ∷ xs) (suc j) l h = go (p x) (some_pass xs j (omega arith) h)
    where
      go : (b : Bool) → 1 ≤ length (those p xs) → 1 ≤ length (cond b (x ∷ those p xs) (those p xs))
      go true ih = omega arith
      go false ih = ih

  pub only_place : (s : ℕ) (xs : List A) (j : ℕ) → length (those p xs) ≤ 1 → j < length xs → p (get_or xs j d) ≡ true → first_from p s xs ≡ Some (s + j)
  unfolding first_from those
  only_place s [] j o l h = absurd (omega arith)
  only_place s (x ∷ xs) zero o l h = rw (h, add-zero s) refl
  only_place s (x ∷ xs) (suc j) o l h = go (p x) o (only_place (suc s) xs j)
    where
      go : (b : Bool) → length (cond b (x ∷ those p xs) (those p xs)) ≤ 1 → (length (those p xs) ≤ 1 → j < length xs → p (get_or xs j d) ≡ true → first_from p (suc s) xs ≡ Some (suc s + j)) → cond b (Some s) (first_from p (suc s) xs) ≡ Some (s + suc j)
      go true o ih = absurd (let z : 1 ≤ length (those p xs) = some_pass xs j (omega arith) h in omega arith)
      go false o ih = ih o (omega arith) h ∙ ap Some (suc-add s j ∙ sym (add-suc s j))

-- ---- the node of a number

module _ (ns : List Node) (x : ℕ) where
  pub by_found : (k : ℕ) → find_number ns x ≡ Some k → node_by ns x ≡ node_at ns k
  unfolding node_in
  by_found k e = rw e refl

  pub by_missing : find_number ns x ≡ None → node_by ns x ≡ no_node
  unfolding node_in
  by_missing e = rw e refl

  pub found_below : (k : ℕ) → find_number ns x ≡ Some k → k < length ns
  found_below k e = let z : k < 0 + length ns = first_below (is_number x) no_node 0 ns k e in omega arith

  pub found_number : (k : ℕ) → find_number ns x ≡ Some k → (node_at ns k).number ≡ x
  found_number k e = number_of x (node_at ns k) (first_passes (is_number x) no_node 0 ns k (e ∙ ap Some (sym (zero-add k))))

  pub resident_found : Resident (node_by ns) x → (k : ℕ) × (find_number ns x ≡ Some k)
  resident_found r = go (find_number ns x) refl
    where
      go : (f : Option ℕ) → find_number ns x ≡ f → (k : ℕ) × (f ≡ Some k)
      go (Some k) e = (k, refl)
      go None e = absurd (r.0 (sym (sym (ap (λ (n : Node). n.number) (by_missing e)) ∙ r.1)))

  pub found_resident : find_number ns 0 ≡ None → (k : ℕ) → find_number ns x ≡ Some k → Resident (node_by ns) x
  found_resident z k e = (
    (λ q. absurd (let w : Some k ≡ None = sym e ∙ (ap (find_number ns) q ∙ z) in let o : ◌≡◌ {A = ℕ} 0 1 = cc in omega arith)),
    ap (λ (n : Node). n.number) (by_found k e) ∙ found_number k e,
  )

  pub missing_unknown : find_number ns x ≡ None → Resident (node_by ns) x → ⊥
  missing_unknown e r =
      let t : (k : ℕ) × (find_number ns x ≡ Some k) = resident_found r in
      let w : None ≡ Some t.0 = sym e ∙ t.1 in
      absurd (let o : ◌≡◌ {A = ℕ} 0 1 = cc in omega arith)

  pub unknown_missing : find_number ns 0 ≡ None → (Resident (node_by ns) x → ⊥) → find_number ns x ≡ None
  unknown_missing z h = go (find_number ns x) refl
    where
      go : (f : Option ℕ) → find_number ns x ≡ f → f ≡ None
      go (Some k) e = absurd (h (found_resident z k e))
      go None e = refl

-- ---- and of a place, where numbers are distinct
module _ (ns : List Node) (once : (x : ℕ) → length (those (is_number x) ns) ≤ 1) (j : ℕ) (l : j < length ns) where
  pub place_found : find_number ns (node_at ns j).number ≡ Some j
  place_found = only_place (is_number (node_at ns j).number) no_node 0 ns j (once (node_at ns j).number) l (is_number_lem (node_at ns j).number (node_at ns j) refl) ∙ ap Some (zero-add j)

  pub place_by : node_by ns (node_at ns j).number ≡ node_at ns j
  place_by = by_found ns (node_at ns j).number j place_found

  pub place_resident : find_number ns 0 ≡ None → Resident (node_by ns) (node_at ns j).number
  place_resident z = found_resident ns (node_at ns j).number z j place_found

-- ---- children

module _ (ns : List Node) (p : ℕ) (y : Name) where
  pub child_place : (k : ℕ) → find_child ns p y ≡ Some k → (k < length ns) × (key_of (node_at ns k) ≡ p ∷ y)
  child_place k e = (
    (let z : k < 0 + length ns = first_below (is_child p y) no_node 0 ns k e in omega arith),
    child_key p y (node_at ns k) (first_passes (is_child p y) no_node 0 ns k (e ∙ ap Some (sym (zero-add k)))),
  )

  -- a name that is found has its node
  pub child_there : ((x : ℕ) → length (those (is_number x) ns) ≤ 1) → find_number ns 0 ≡ None → (k : ℕ) → find_child ns p y ≡ Some k → (i : ℕ) × Resident (node_by ns) i × (key_of (node_by ns i) ≡ p ∷ y)
  child_there once z k e =
      let t : (k < length ns) × (key_of (node_at ns k) ≡ p ∷ y) = child_place k e in
      ((node_at ns k).number, place_resident ns once k t.0 z, ap key_of (place_by ns once k t.0) ∙ t.1)

  -- and a node is found by its name
  pub there_child : (i : ℕ) → Resident (node_by ns) i → key_of (node_by ns i) ≡ p ∷ y → (k : ℕ) × (find_child ns p y ≡ Some k)
  there_child i r e =
      let t : (k : ℕ) × (find_number ns i ≡ Some k) = resident_found ns i r in
      let q : key_of (node_at ns t.0) ≡ p ∷ y = sym (ap key_of (by_found ns i t.0 t.1)) ∙ e in
      let w : (k : ℕ) × (find_child ns p y ≡ Some (0 + k)) × (is_child p y (node_at ns k) ≡ true) = first_found (is_child p y) no_node 0 ns t.0 (found_below ns i t.0 t.1) (is_child_lem p y (node_at ns t.0) q) in
      (w.0, w.1 ∙ ap Some (zero-add w.0))

  pub child_unknown : find_child ns p y ≡ None → (i : ℕ) → Resident (node_by ns) i → key_of (node_by ns i) ≢ p ∷ y
  child_unknown m i r e =
      let t : (k : ℕ) × (find_child ns p y ≡ Some k) = there_child i r e in
      let w : None ≡ Some t.0 = sym m ∙ t.1 in
      absurd (let o : ◌≡◌ {A = ℕ} 0 1 = cc in omega arith)

-- one node for a parent and a name
pub one_node : (ns : List Node) → Sorted key_of ns → (i k : ℕ) → Resident (node_by ns) i → Resident (node_by ns) k → key_of (node_by ns i) ≡ key_of (node_by ns k) → i ≡ k
one_node ns s i k r q e =
    let a : (m : ℕ) × (find_number ns i ≡ Some m) = resident_found ns i r in
    let b : (m : ℕ) × (find_number ns k ≡ Some m) = resident_found ns k q in
    let n : Node = node_by ns k in
    let place : (x m : ℕ) → find_number ns x ≡ Some m → key_of (node_by ns x) ≡ key_of (node_by ns k) → find_child ns (node_by ns k).parent (node_name (node_by ns k)) ≡ Some (0 + m) =
    λ x m f g. only_place (is_child (node_by ns k).parent (node_name (node_by ns k))) no_node 0 ns m (one_child (node_by ns k).parent (node_name (node_by ns k)) ns s) (found_below ns x m f) (is_child_lem (node_by ns k).parent (node_name (node_by ns k)) (node_at ns m) (sym (ap key_of (by_found ns x m f)) ∙ g)) in
    let w : Some (0 + a.0) ≡ Some (0 + b.0) = sym (place i a.0 a.1 e) ∙ place k b.0 b.1 refl in
    let z : a.0 ≡ b.0 = (let y : 0 + a.0 ≡ 0 + b.0 = cc in omega arith) in
    sym (found_number ns i a.0 a.1) ∙ (ap (λ (m : ℕ). (node_at ns m).number) z ∙ found_number ns k b.0 b.1)

-- ---- no node at all is tidy

pub tidy_none : Tidy no_node
tidy_none =
    record {
      fits = no_node_fits;
      white_mark = omega arith;
      loaded_mark = omega arith;
      depth_fits = omega arith;
      length_fits = omega arith;
      stack_unused = pairs;
      name_unused = λ i h. zeros 28 i;
    }
  where
    pairs : (i : ℕ) → 0 ≤ i → get_or no_node.stack i no_pair ≡ no_pair
    pairs zero h = refl
    pairs (suc zero) h = refl
    pairs (suc (suc zero)) h = refl
    pairs (suc (suc (suc zero))) h = refl
    pairs (suc (suc (suc (suc i)))) h = refl

    zeros : (n i : ℕ) → ◌≡◌ {A = ℕ} (get_or (replicate n 0) i 0) 0
    zeros zero i = refl
    zeros (suc n) zero = refl
    zeros (suc n) (suc i) = zeros n i

-- ---- a node changed

module _ (ns : List Node) (k : ℕ) (a : Node) (e : a.number ≡ (node_at ns k).number) where
  -- what holds of each node itself, and of the changed one and what it was, holds of each number's node and what it was
  pub set_each : (P : Node → Node → Type 0) → ((b : Node) → P b b) → P a (node_at ns k) → (x : ℕ) → P (node_by (set ns k a) x) (node_by ns x)
  set_each P same changed x = go (find_number ns x) refl
    where
      find : (f : Option ℕ) → find_number ns x ≡ f → find_number (set ns k a) x ≡ f
      find f h = number_changed ns k a e x ∙ h

      at : (i : ℕ) → find_number ns x ≡ Some i → Dec (i ≡ k) → P (node_at (set ns k a) i) (node_at ns i)
      at i h (yes q) =
          let l : k < length ns = (let z : i < length ns = found_below ns x i h in omega arith) in
          subst (λ (m : ℕ). P (node_at (set ns k a) m) (node_at ns m)) (sym q) (rw (get_or-set_same ns k a no_node l) changed)
      at i h (no q) = rw (get_or-set_other ns k i a no_node q) (same (node_at ns i))

      go : (f : Option ℕ) → find_number ns x ≡ f → P (node_by (set ns k a) x) (node_by ns x)
      go (Some i) h = rw (by_found (set ns k a) x i (find (Some i) h), by_found ns x i h) (at i h (ℕ_discrete i k))
      go None h = rw (by_missing (set ns k a) x (find None h), by_missing ns x h) (same no_node)

  pub by_set : (x : ℕ) → find_number ns x ≡ Some k → node_by (set ns k a) x ≡ a
  by_set x h = by_found (set ns k a) x k (number_changed ns k a e x ∙ h) ∙ get_or-set_same ns k a no_node (found_below ns x k h)

  pub by_set_other : (x : ℕ) → x ≢ (node_at ns k).number → node_by (set ns k a) x ≡ node_by ns x
  by_set_other x h = go (find_number ns x) refl
    where
      go : (f : Option ℕ) → find_number ns x ≡ f → node_by (set ns k a) x ≡ node_by ns x
      go (Some i) q =
          by_found (set ns k a) x i (number_changed ns k a e x ∙ q)
          ∙ (get_or-set_other ns k i a no_node (λ z. h (sym (found_number ns x i q) ∙ ap (λ (m : ℕ). (node_at ns m).number) z)) ∙ sym (by_found ns x i q))
      go None q = by_missing (set ns k a) x (number_changed ns k a e x ∙ q) ∙ sym (by_missing ns x q)

  set_once : ((x : ℕ) → length (those (is_number x) ns) ≤ 1) → (x : ℕ) → length (those (is_number x) (set ns k a)) ≤ 1
  set_once o x = go (ltb k (length ns)) refl (is_number x a) refl
    where
      same : is_number x a ≡ is_number x (node_at ns k)
      same = unfold is_number in ap (λ (m : ℕ). eqb m x) e

      go : (b : Bool) → ltb k (length ns) ≡ b → (t : Bool) → is_number x a ≡ t → length (those (is_number x) (set ns k a)) ≤ 1
      go true h true q = rw (those_set_same (is_number x) no_node ns k a (ltb-true k (length ns) h) q (sym same ∙ q), length-set (those (is_number x) ns) (length (those (is_number x) (take k ns))) a) (o x)
      go true h false q = rw (those_set_other (is_number x) no_node ns k a q (sym same ∙ q)) (o x)
      go false h t q = rw (set_out ns k a (ltb-false k (length ns) h)) (o x)

module _ (u l : List ℕ) (ns : List Node) (next : ℕ) (g : GoodNodes u l ns next) (k : ℕ) (a : Node) (e : Alike a (node_at ns k)) where
  pub set_alike : (x : ℕ) → Alike (node_by (set ns k a) x) (node_by ns x)
  set_alike = set_each ns k a e.number_same Alike alike_refl e

  pub set_good : Tidy a → GoodNodes u l (set ns k a) next
  set_good t =
      record {
        coherent = alike_keeps u l (node_by ns) (node_by (set ns k a)) set_alike g.coherent;
        sorted = set_sorted key_of no_node k a ns e.key_same g.sorted;
        once = set_once ns k a e.number_same g.once;
        none_zero = number_changed ns k a e.number_same 0 ∙ g.none_zero;
        tidy = λ x. set_each ns k a e.number_same (λ (b c : Node). Tidy c → Tidy b) (λ b q. q) (λ q. t) x (g.tidy x);
        below_next = λ x r. g.below_next x (r.0, sym (set_alike x).number_same ∙ r.1);
        next_least = g.next_least;
        next_most = g.next_most;
      }

  -- a changed node that is not loaded where it was not
  pub set_complete : (is_loaded a ≡ true → is_loaded (node_at ns k) ≡ true) → ((x : ℕ) → Complete u l (node_by ns) x) → (x : ℕ) → Complete u l (node_by (set ns k a)) x
  set_complete m c x = alike_complete u l (node_by ns) (node_by (set ns k a)) set_alike x (set_each ns k a e.number_same (λ (b d : Node). is_loaded b ≡ true → is_loaded d ≡ true) (λ b q. q) m x) (c x)

-- ---- a node changed, and the layers at its name

module _ (u v l : List ℕ) (ns : List Node) (next : ℕ) (g : GoodNodes u l ns next) (k : ℕ) (b : k < length ns) (other : (node_at ns k).number ≢ 1) (a : Node) (s : Step u v l (node_by ns) (node_at ns k).number a) where
  set_here : node_by (set ns k a) (node_at ns k).number ≡ a
  set_here = by_set ns k a s.number_same (node_at ns k).number (place_found ns g.once k b)

  step_there : NonRoot (node_by ns) (node_at ns k).number
  step_there = (place_resident ns g.once k b g.none_zero, other)

  step_at : Step u v l (node_by ns) (node_at ns k).number (node_by (set ns k a) (node_at ns k).number)
  step_at = rw set_here s

  step_one : (i : ℕ) → NonRoot (node_by ns) i → key_of (node_by ns i) ≡ key_of (node_by ns (node_at ns k).number) → i ≡ (node_at ns k).number
  step_one i r e = one_node ns g.sorted i (node_at ns k).number r.0 step_there.0 e

  pub set_step_complete : (x : ℕ) → Complete u l (node_by ns) x → Complete v l (node_by (set ns k a)) x
  set_step_complete = step_complete u v l (node_by ns) (node_by (set ns k a)) g.coherent (node_at ns k).number step_there step_at (by_set_other ns k a s.number_same) step_one

  pub set_step : Tidy a → GoodNodes v l (set ns k a) next
  set_step t =
      record {
        coherent = step_keeps u v l (node_by ns) (node_by (set ns k a)) g.coherent (node_at ns k).number step_there step_at (by_set_other ns k a s.number_same) step_one;
        sorted = set_sorted key_of no_node k a ns (s.key_same ∙ ap key_of (place_by ns g.once k b)) g.sorted;
        once = set_once ns k a s.number_same g.once;
        none_zero = number_changed ns k a s.number_same 0 ∙ g.none_zero;
        tidy = λ x. set_each ns k a s.number_same (λ (b c : Node). Tidy c → Tidy b) (λ b q. q) (λ q. t) x (g.tidy x);
        below_next = λ x r. g.below_next x (r.0, sym (set_each ns k a s.number_same (λ (b c : Node). b.number ≡ c.number) (λ b. refl) s.number_same x) ∙ r.1);
        next_least = g.next_least;
        next_most = g.next_most;
      }

-- ---- a node put in with the next number; the layers may differ from before at its name

module _ (ns : List Node) (q : Node) (h : find_child ns q.parent (node_name q) ≡ None) where
  abbrev spot : (k : ℕ) × (place_for ns q.parent (node_name q) ≡ Some k)
  spot = free_where_missing q.parent (node_name q) ns h

  pub by_other : (x : ℕ) → x ≢ q.number → node_by (insert_by key_of q ns) x ≡ node_by ns x
  unfolding found_shifted node_in
  by_other x e = go (find_number ns x) (number_kept ns q spot.0 spot.1 x (λ z. e (sym z)))
    where
      go : (f : Option ℕ) → find_number (insert_by key_of q ns) x ≡ found_shifted spot.0 f → node_by (insert_by key_of q ns) x ≡ node_in ns f
      go (Some i) w = by_found (insert_by key_of q ns) x (shifted spot.0 i) w ∙ node_moved ns q spot.0 spot.1 i
      go None w = by_missing (insert_by key_of q ns) x w

  pub by_added : find_number ns q.number ≡ None → node_by (insert_by key_of q ns) q.number ≡ q
  by_added e = by_found (insert_by key_of q ns) q.number spot.0 (number_added ns q spot.0 spot.1 e) ∙ node_added ns q spot.0 spot.1

  insert_once : find_number ns q.number ≡ None → ((x : ℕ) → length (those (is_number x) ns) ≤ 1) → (x : ℕ) → length (those (is_number x) (insert_by key_of q ns)) ≤ 1
  insert_once e o x = rw (added_is ns q spot.0 spot.1) (go (ℕ_discrete q.number x))
    where
      go : Dec (q.number ≡ x) → length (those (is_number x) (insert_at spot.0 q ns)) ≤ 1
      go (yes w) =
          let n : those (is_number x) ns ≡ [] = those_missing (is_number x) 0 ns (ap (find_number ns) (sym w) ∙ e) in
          let c : length (those (is_number x) (insert_at spot.0 q ns)) ≡ suc (length (those (is_number x) ns)) =
          ap length (those_insert_at (is_number x) spot.0 q ns (is_number_lem x q w)) ∙ length_insert (length (those (is_number x) (take spot.0 ns))) q (those (is_number x) ns) in
          let d : length (those (is_number x) ns) ≡ 0 = ap length n in
          omega arith
      go (no w) = rw (those_insert_other (is_number x) spot.0 q ns (other_number x q w)) (o x)

module _ (u v l : List ℕ) (ns : List Node) (next : ℕ) (g : GoodNodes u l ns next) (q : Node)
    (roots : root_stack v l ≡ root_stack u l)
    (stacks : (x : ℕ) → Resident (node_by ns) x → (y : Name) → (x ≡ q.parent → y ≡ node_name q → ⊥) → stack_of v l (stack_list (node_by ns x)) y ≡ stack_of u l (stack_list (node_by ns x)) y)
    (marks : (x : ℕ) → Resident (node_by ns) x → (y : Name) → (x ≡ q.parent → y ≡ node_name q → ⊥) → whiteout_of v l (stack_list (node_by ns x)) y ≡ whiteout_of u l (stack_list (node_by ns x)) y)
    (number : q.number ≡ next) (last : next ≤ 4294967295) (there : Resident (node_by ns) q.parent) (missing : find_child ns q.parent (node_name q) ≡ None)
  where
    new_unknown : Resident (node_by ns) q.number → ⊥
    new_unknown r = let z : q.number < next = g.below_next q.number r in omega arith

    new_missing : find_number ns q.number ≡ None
    new_missing = unknown_missing ns q.number g.none_zero new_unknown

    pub new_by : node_by (insert_by key_of q ns) q.number ≡ q
    new_by = by_added ns q missing new_missing

    number_there : (node_by (insert_by key_of q ns) q.number).number ≡ q.number
    number_there = ap (λ (n : Node). n.number) new_by

    -- those that were there stay
    pub old_there : (x : ℕ) → Resident (node_by ns) x → node_by (insert_by key_of q ns) x ≡ node_by ns x
    old_there x r = by_other ns q missing x (λ e. new_unknown (subst (Resident (node_by ns)) e r))

    earlier : q.parent < q.number
    earlier = let z : q.parent < next = g.below_next q.parent there in omega arith

    not_one : q.number ≢ 1
    not_one e = let z : 2 ≤ next = g.next_least in omega arith

    no_other : (k : ℕ) → NonRoot (node_by ns) k → key_of (node_by ns k) ≢ q.parent ∷ node_name q
    no_other k r = child_unknown ns q.parent (node_name q) missing k r.0

    pub insert_there : Resident (node_by (insert_by key_of q ns)) q.number
    insert_there = added_there u v l (node_by ns) (node_by (insert_by key_of q ns)) g.coherent q.number q.parent (node_name q) roots stacks marks there earlier not_one new_unknown no_other (by_other ns q missing) number_there (ap key_of new_by)

    pub insert_complete : is_loaded q ≡ false → (k : ℕ) → Complete u l (node_by ns) k → Complete v l (node_by (insert_by key_of q ns)) k
    insert_complete fresh = add_complete u v l (node_by ns) (node_by (insert_by key_of q ns)) g.coherent q.number q.parent (node_name q) roots stacks marks there earlier not_one new_unknown no_other (by_other ns q missing) number_there (ap key_of new_by) (ap is_loaded new_by ∙ fresh)

    pub insert_good : stack_list q ≡ stack_of v l (stack_list (node_by ns q.parent)) (node_name q) → stack_list q ≢ [] → q.white ≡ one (whiteout_of v l (stack_list (node_by ns q.parent)) (node_name q)) → Tidy q → GoodNodes v l (insert_by key_of q ns) (next + 1)
    insert_good stack some white tidy =
        record {
          coherent =
              add_keeps u v l (node_by ns) (node_by (insert_by key_of q ns)) g.coherent q.number q.parent (node_name q) roots stacks marks there earlier not_one new_unknown no_other (by_other ns q missing) number_there (ap key_of new_by)
              (ap stack_list new_by ∙ stack) (λ z. some (sym (ap stack_list new_by) ∙ z)) (ap (λ (n : Node). n.white) new_by ∙ white);
          sorted = insert_sorted key_of q ns g.sorted;
          once = insert_once ns q missing new_missing g.once;
          none_zero = unfold found_shifted in (number_kept ns q (spot ns q missing).0 (spot ns q missing).1 0 (λ z. let w : 2 ≤ next = g.next_least in omega arith) ∙ ap (found_shifted (spot ns q missing).0) g.none_zero);
          tidy = tidied;
          below_next = lower;
          next_least = let w : 2 ≤ next = g.next_least in omega arith;
          next_most = omega arith;
        }
      where
        tidied : (x : ℕ) → Tidy (node_by (insert_by key_of q ns) x)
        tidied x = go (ℕ_discrete x q.number)
          where
            go : Dec (x ≡ q.number) → Tidy (node_by (insert_by key_of q ns) x)
            go (yes e) = rw (e, new_by) tidy
            go (no e) = rw (by_other ns q missing x e) (g.tidy x)

        lower : (x : ℕ) → Resident (node_by (insert_by key_of q ns)) x → x < next + 1
        lower x r = go (ℕ_discrete x q.number)
          where
            go : Dec (x ≡ q.number) → x < next + 1
            go (yes e) = omega arith
            go (no e) = let z : x < next = g.below_next x (r.0, sym (ap (λ (n : Node). n.number) (by_other ns q missing x e)) ∙ r.1) in omega arith

-- ---- a node taken out

at_removed : {A : Type 0} (d : A) (k : ℕ) (xs : List A) (i : ℕ) → k < length xs → get_or xs (shifted k i) d ≡ get_or (remove_at k xs) i d
at_removed {A} d k xs i h =
    let l : suc (length (remove_at k xs)) ≡ length xs = length_remove k xs h in
    ap (λ (ys : List A). get_or ys (shifted k i) d) (sym (put_back d k xs h)) ∙ at_shifted d k (get_or xs k d) (remove_at k xs) i (omega arith)

missing_shifted : (k : ℕ) (f : Option ℕ) → None ≡ found_shifted k f → f ≡ None
unfolding found_shifted
missing_shifted k (Some i) e = absurd (let o : ◌≡◌ {A = ℕ} 0 1 = cc in omega arith)
missing_shifted k None e = refl

module _ (ns : List Node) (k : ℕ) (l : k < length ns) where
  pub by_left : (x : ℕ) → (node_at ns k).number ≢ x → node_by (remove_at k ns) x ≡ node_by ns x
  by_left x e = go (find_number (remove_at k ns) x) refl (number_left ns k l x e)
    where
      go : (f : Option ℕ) → find_number (remove_at k ns) x ≡ f → find_number ns x ≡ found_shifted k f → node_by (remove_at k ns) x ≡ node_by ns x
      go (Some i) a b = by_found (remove_at k ns) x i a ∙ (sym (at_removed no_node k ns i l) ∙ sym (by_found ns x (shifted k i) (unfold found_shifted in b)))
      go None a b = by_missing (remove_at k ns) x a ∙ sym (by_missing ns x (unfold found_shifted in b))

  remove_once : ((x : ℕ) → length (those (is_number x) ns) ≤ 1) → (x : ℕ) → length (those (is_number x) (remove_at k ns)) ≤ 1
  remove_once o x = go (is_number x (node_at ns k)) refl
    where
      go : (b : Bool) → is_number x (node_at ns k) ≡ b → length (those (is_number x) (remove_at k ns)) ≤ 1
      go true e = let c : suc (length (those (is_number x) (remove_at k ns))) ≡ length (those (is_number x) ns) = count_those_removed (is_number x) no_node k ns l e in let d : length (those (is_number x) ns) ≤ 1 = o x in omega arith
      go false e = rw (those_remove_other (is_number x) no_node k ns e) (o x)

-- a node has no children where no resident node has it for its parent
pub no_children : (ns : List Node) (m : ℕ) → has_children ns m ≡ false → (i : ℕ) → Resident (node_by ns) i → (node_by ns i).parent ≢ m
no_children ns m h i r e =
    let t : (k : ℕ) × (find_number ns i ≡ Some k) = resident_found ns i r in
    let w : (k : ℕ) × (child_from ns m 0 ≡ Some (0 + k)) × (has_parent m (node_at ns k) ≡ true) =
    first_found (has_parent m) no_node 0 ns t.0 (found_below ns i t.0 t.1) (is_parent m (node_at ns t.0) (sym (ap (λ (n : Node). n.parent) (by_found ns i t.0 t.1)) ∙ e)) in
    let z : true ≡ false = sym (ap is_some w.1) ∙ h in
    absurd (let o : ◌≡◌ {A = ℕ} 0 1 = cc in omega arith)

module _ (u l : List ℕ) (ns : List Node) (next : ℕ) (g : GoodNodes u l ns next) (k : ℕ) (b : k < length ns) (kids : has_children ns (node_at ns k).number ≡ false) where
  pub removed_missing : find_number (remove_at k ns) (node_at ns k).number ≡ None
  removed_missing = number_gone ns k b (node_at ns k).number refl (g.once (node_at ns k).number)

  removed_unknown : Resident (node_by (remove_at k ns)) (node_at ns k).number → ⊥
  removed_unknown = missing_unknown (remove_at k ns) (node_at ns k).number removed_missing

  left_same : (x : ℕ) → x ≢ (node_at ns k).number → node_by (remove_at k ns) x ≡ node_by ns x
  left_same x e = by_left ns k b x (λ z. e (sym z))

  left_old : (x : ℕ) → Resident (node_by (remove_at k ns)) x → Resident (node_by ns) x
  left_old x r =
      let e : x ≢ (node_at ns k).number = λ e. removed_unknown (subst (Resident (node_by (remove_at k ns))) e r) in
      (r.0, sym (ap (λ (n : Node). n.number) (left_same x e)) ∙ r.1)

  pub remove_good : (node_at ns k).number ≢ 1 → GoodNodes u l (remove_at k ns) next
  remove_good other =
      record {
        coherent = drop_keeps u l (node_by ns) (node_by (remove_at k ns)) (node_at ns k).number (λ i r. no_children ns (node_at ns k).number kids i r.0) removed_unknown left_same other g.coherent;
        sorted = remove_sorted key_of k ns g.sorted;
        once = remove_once ns k b g.once;
        none_zero = missing_shifted k (find_number (remove_at k ns) 0) (sym g.none_zero ∙ number_left ns k b 0 (place_resident ns g.once k b g.none_zero).0);
        tidy = tidied;
        below_next = λ x r. g.below_next x (left_old x r);
        next_least = g.next_least;
        next_most = g.next_most;
      }
    where
      tidied : (x : ℕ) → Tidy (node_by (remove_at k ns) x)
      tidied x = go (ℕ_discrete x (node_at ns k).number)
        where
          go : Dec (x ≡ (node_at ns k).number) → Tidy (node_by (remove_at k ns) x)
          go (yes e) = rw (e, by_missing (remove_at k ns) (node_at ns k).number removed_missing) tidy_none
          go (no e) = rw (left_same x e) (g.tidy x)

  -- its parent apart, every directory is as complete as it was
  pub remove_complete : ((x : ℕ) → Complete u l (node_by ns) x) → (x : ℕ) → (node_at ns k).parent ≢ x → Complete u l (node_by (remove_at k ns)) x
  remove_complete c x e =
      drop_complete u l (node_by ns) (node_by (remove_at k ns)) (node_at ns k).number (λ i r. no_children ns (node_at ns k).number kids i r.0) removed_unknown left_same x
      (λ z. e (sym (ap (λ (n : Node). n.parent) (place_by ns g.once k b)) ∙ z)) (c x)

-- ---- the root stands first

before_none : (p : ℕ) (x : Name) → order_of (p ∷ x) (0 ∷ []) ≢ Less
unfolding order_of
before_none p x h = go (ltb 0 p) x (sym (rw (le-ltb p 0 (omega arith)) refl) ∙ h)
  where
    go : (b : Bool) (x : Name) → cond b Greater (order_of x []) ≡ Less → ⊥
    go true x e = absurd (let o : ◌≡◌ {A = ℕ} 0 1 = cc in omega arith)
    go false [] e = absurd (let o : ◌≡◌ {A = ℕ} 0 1 = cc in omega arith)
    go false (y ∷ x) e = absurd (let o : ◌≡◌ {A = ℕ} 0 1 = cc in omega arith)

pub root_first : (u l : List ℕ) (ns : List Node) (next : ℕ) → GoodNodes u l ns next → find_number ns 1 ≡ Some 0
root_first u l ns next g = go (resident_found ns 1 g.coherent.root_there)
  where
    at : (k : ℕ) → find_number ns 1 ≡ Some k → k ≡ 0
    at zero e = refl
    at (suc k) e = absurd (before_none (node_at ns 0).parent (node_name (node_at ns 0)) (ap (order_of (key_of (node_at ns 0))) (sym key) ∙ sorted_place key_of no_node ns g.sorted 0 (suc k) (omega arith) (found_below ns 1 (suc k) e)))
      where
        key : key_of (node_at ns (suc k)) ≡ 0 ∷ []
        key = sym (ap key_of (by_found ns 1 (suc k) e)) ∙ g.coherent.root_key

    go : (k : ℕ) × (find_number ns 1 ≡ Some k) → find_number ns 1 ≡ Some 0
    go t = t.1 ∙ ap Some (at t.0 t.1)

-- ---- each stack is the merge afresh down the node's path

pub nodes_fresh : (u l : List ℕ) (ns : List Node) (next : ℕ) → GoodNodes u l ns next → (x : ℕ) → Resident (node_by ns) x → stack_list (node_by ns x) ≡ fresh u l (path_of ns x)
nodes_fresh u l ns next g x r = stack_fresh u l (node_by ns) g.coherent x x (omega arith) r
