-- By the order of the nodes, halving finds the one node: a name's seat is what a walk over all the nodes answers. Assumes nothing.
use Rattle.std.specs.Prelude.{Some, None, Result, Ok, Err}
use Rattle.std.specs.declared.cmp.Ordering.{Ordering}
use Rattle.std.specs.declared.cmp.Ordering.TheVariants.{Less, Equal, Greater}
use mathlib.Core.Path.{◌≡◌, refl, sym, ap, ◌∙◌, subst}
use Prim.Native.Nat.{ℕ, zero, suc, ◌-◌, ◌≤◌, ◌<◌}
use native.Mathlib.Omega.{arith}
use native.Mathlib.Nat.{zero-add}
use mathlib.Core.Bool.{Bool, true, false, cond}
use mathlib.Core.List.{List, ◌∷◌}
use lib.Dec.{ltb}
use lib.ListN.{length, drop, drop_of_length-le}
use lib.Seq.{drop-cons}
use borrow.Author.Tests.{ltb-true, ltb-false}
use Rattle.layers.specs.Names.{Name, order_of}
use Rattle.layers.specs.Order.{spot_from, spot_step}
use Rattle.layers.specs.Sorted.{Sorted}
use Rattle.layers.proofs.OrderLaws.{before_trans, after_before, before_after, same_one, same_self}
use Rattle.layers.proofs.ChangeLaws.{first_missing}
use Rattle.merge.specs.declared.node.Node.{Node}
use Rattle.merge.specs.Nodes.{no_node, key_of, node_at}
use Rattle.merge.specs.State.{is_child, find_child, place_for}
use Rattle.merge.specs.Seats.{middle, seat_by, seat_in, seat_of, holder}
use Rattle.merge.proofs.NamesOfPlaces.{sorted_place}
use Rattle.merge.proofs.NodeLists.{is_child_lem, other_child, one_child}
use Rattle.merge.proofs.PassedLaws.{walked_over}
use Rattle.demands.proofs.InvariantNodes.{only_place}

-- ---- what a seat says

module _ (ns : List Node) (x : Name) where
  -- the nodes before place `k` come before the key
  abbrev Behind : ℕ → Type 0
  Behind k = (j : ℕ) → j < k → order_of x (key_of (node_at ns j)) ≡ Greater

  -- those from place `k` on come after it
  abbrev Ahead : ℕ → Type 0
  Ahead k = (j : ℕ) → k ≤ j → j < length ns → order_of x (key_of (node_at ns j)) ≡ Less

  -- a held seat is that of a node of the key; an open one parts the nodes before the key from those after it
  abbrev Seated : Result ℕ ℕ → Type 0
  Seated (Ok k) = (k < length ns) × (order_of x (key_of (node_at ns k)) ≡ Equal)
  Seated (Err k) = (k ≤ length ns) × Behind k × Ahead k

  module _ (s : Sorted key_of ns) where
    -- behind a node that comes after the key all do
    ahead_from : (k : ℕ) → order_of x (key_of (node_at ns k)) ≡ Less → Ahead k
    ahead_from k q j a b = go (ltb k j) refl
      where
        go : (t : Bool) → ltb k j ≡ t → order_of x (key_of (node_at ns j)) ≡ Less
        go true e = before_trans x (key_of (node_at ns k)) (key_of (node_at ns j)) q (sorted_place key_of no_node ns s k j (ltb-true k j e) b)
        go false e = let l : j ≤ k = ltb-false k j e in let z : k ≡ j = omega arith in ap (λ (i : ℕ). order_of x (key_of (node_at ns i))) (sym z) ∙ q

    -- before a node that comes before the key all do
    behind_to : (k : ℕ) → k < length ns → order_of x (key_of (node_at ns k)) ≡ Greater → Behind (suc k)
    behind_to k w q j a = go (ltb j k) refl
      where
        go : (t : Bool) → ltb j k ≡ t → order_of x (key_of (node_at ns j)) ≡ Greater
        go true e =
            before_after (key_of (node_at ns j)) x (before_trans (key_of (node_at ns j)) (key_of (node_at ns k)) x (sorted_place key_of no_node ns s j k (ltb-true j k e) w) (after_before x (key_of (node_at ns k)) q))
        go false e = let l : k ≤ j = ltb-false j k e in let z : k ≡ j = omega arith in ap (λ (i : ℕ). order_of x (key_of (node_at ns i))) (sym z) ∙ q

    -- before the key's own node all come before the key
    behind_own : (k : ℕ) → k < length ns → order_of x (key_of (node_at ns k)) ≡ Equal → Behind k
    behind_own k w q j a =
        ap (λ (y : Name). order_of y (key_of (node_at ns j))) (same_one x (key_of (node_at ns k)) q) ∙ before_after (key_of (node_at ns j)) (key_of (node_at ns k)) (sorted_place key_of no_node ns s j k a w)

    seated_in : (m lo hi : ℕ) → hi - lo ≤ m → lo ≤ hi → hi ≤ length ns → Behind lo → Ahead hi → Seated (seat_in m ns x lo hi)
    unfolding seat_in seat_by
    seated_in zero lo hi d l w b a = (omega arith, b, λ j g h. a j (omega arith) h)
    seated_in (suc m) lo hi d l w b a = go (ltb lo hi) refl (order_of x (key_of (node_at ns (middle lo hi)))) refl (seated_in m lo (middle lo hi)) (seated_in m (suc (middle lo hi)) hi)
      where
        go : (t : Bool) → ltb lo hi ≡ t → (o : Ordering) → order_of x (key_of (node_at ns (middle lo hi))) ≡ o
            → (middle lo hi - lo ≤ m → lo ≤ middle lo hi → middle lo hi ≤ length ns → Behind lo → Ahead (middle lo hi) → Seated (seat_in m ns x lo (middle lo hi)))
            → (hi - suc (middle lo hi) ≤ m → suc (middle lo hi) ≤ hi → hi ≤ length ns → Behind (suc (middle lo hi)) → Ahead hi → Seated (seat_in m ns x (suc (middle lo hi)) hi))
            → Seated (cond t (seat_by o (middle lo hi) (seat_in m ns x lo (middle lo hi)) (seat_in m ns x (suc (middle lo hi)) hi)) (Err lo))
        go false e o q f g = let z : hi ≤ lo = ltb-false lo hi e in (omega arith, b, λ j u h. a j (omega arith) h)
        go true e Less q f g = let z : lo < hi = ltb-true lo hi e in f (omega arith) (omega arith) (omega arith) b (ahead_from (middle lo hi) q)
        go true e Equal q f g = let z : lo < hi = ltb-true lo hi e in (omega arith, q)
        go true e Greater q f g = let z : lo < hi = ltb-true lo hi e in g (omega arith) (omega arith) w (behind_to (middle lo hi) (omega arith) q) a

-- ---- the seat and the walk over all the nodes

module _ (ns : List Node) (s : Sorted key_of ns) (p : ℕ) (x : Name) where
  seated : Seated ns (p ∷ x) (seat_of ns p x)
  seated = seated_in ns (p ∷ x) s (length ns) 0 (length ns) (omega arith) (omega arith) (omega arith) (λ j l. absurd (omega arith)) (λ j l h. absurd (omega arith))

  open_says : (k : ℕ) → seat_of ns p x ≡ Err k → Seated ns (p ∷ x) (Err k)
  open_says k e = subst (Seated ns (p ∷ x)) e seated

  held_says : (k : ℕ) → seat_of ns p x ≡ Ok k → Seated ns (p ∷ x) (Ok k)
  held_says k e = subst (Seated ns (p ∷ x)) e seated

  walked : (k : ℕ) → k ≤ length ns → Behind ns (p ∷ x) k → place_for ns p x ≡ spot_from key_of k (p ∷ x) (drop k ns)
  walked k l b = sym (ap (λ (i : ℕ). spot_from key_of i (p ∷ x) (drop k ns)) (sym (zero-add k)) ∙ walked_over key_of no_node (p ∷ x) ns 0 k l b)

  -- an open seat is the place where the walk finds that the node belongs
  pub seat_free : (k : ℕ) → seat_of ns p x ≡ Err k → place_for ns p x ≡ Some k
  unfolding spot_from spot_step
  seat_free k e = walked k t.0 t.1 ∙ go (ltb k (length ns)) refl
    where
      t : Seated ns (p ∷ x) (Err k)
      t = open_says k e

      go : (b : Bool) → ltb k (length ns) ≡ b → spot_from key_of k (p ∷ x) (drop k ns) ≡ Some k
      go true h =
          let l : k < length ns = ltb-true k (length ns) h in
          rw (drop-cons ns k no_node l, t.2 k (omega arith) l) refl
      go false h = let l : length ns ≤ k = ltb-false k (length ns) h in rw (drop_of_length-le ns {i = k} l) refl

  -- where a seat is held the walk finds the name taken
  pub seat_taken : (k : ℕ) → seat_of ns p x ≡ Ok k → place_for ns p x ≡ None
  unfolding spot_from spot_step
  seat_taken k e =
      let t : Seated ns (p ∷ x) (Ok k) = held_says k e in
      let l : k < length ns = t.0 in
      walked k (omega arith) (behind_own ns (p ∷ x) s k l t.1) ∙ rw (drop-cons ns k no_node l, t.1) refl

  -- by the order of the nodes, halving finds the one node
  pub seat_child : holder (seat_of ns p x) ≡ find_child ns p x
  unfolding holder
  seat_child = go (seat_of ns p x) refl
    where
      none : (k : ℕ) → Seated ns (p ∷ x) (Err k) → (j : ℕ) → j < length ns → is_child p x (node_at ns j) ≡ false
      none k t j l = other_child p x (node_at ns j) (λ q. side (ltb j k) refl (ap (order_of (p ∷ x)) q ∙ same_self (p ∷ x)))
        where
          side : (b : Bool) → ltb j k ≡ b → order_of (p ∷ x) (key_of (node_at ns j)) ≡ Equal → ⊥
          side true h q = let w : Greater ≡ Equal = sym (t.1 j (ltb-true j k h)) ∙ q in let z : ◌≡◌ {A = ℕ} 0 1 = cc in omega arith
          side false h q = let w : Less ≡ Equal = sym (t.2 j (ltb-false j k h) l) ∙ q in let z : ◌≡◌ {A = ℕ} 0 1 = cc in omega arith

      go : (f : Result ℕ ℕ) → seat_of ns p x ≡ f → holder f ≡ find_child ns p x
      go (Ok k) e =
          let t : Seated ns (p ∷ x) (Ok k) = held_says k e in
          sym (only_place (is_child p x) no_node 0 ns k (one_child p x ns s) t.0 (is_child_lem p x (node_at ns k) (sym (same_one (p ∷ x) (key_of (node_at ns k)) t.1))) ∙ ap Some (zero-add k))
      go (Err k) e = sym (first_missing (is_child p x) no_node 0 ns (none k (open_says k e)))
