-- The seat of a name found by halving, and a node put in at a place. Assumes nothing.
use Rattle.std.specs.Prelude.{Option, Some, None, is_some, Result, Ok, Err}
use Rattle.std.specs.Result.{result_ok}
use Rattle.std.specs.declared.cmp.Ordering.{Ordering}
use Rattle.std.specs.declared.cmp.Ordering.TheVariants.{Less, Equal, Greater}
use mathlib.Core.Path.{◌≡◌, refl, sym, ap, ap₂, ◌∙◌}
use Prim.Native.Nat.{ℕ, zero, suc, ◌+◌, ◌*◌, ◌-◌, ◌/◌, ◌≤◌, ◌<◌}
use native.Mathlib.Omega.{arith}
use native.Mathlib.Numerals.{add-one}
use mathlib.Core.Bool.{Bool, true, false, cond}
use mathlib.Core.List.{List, [], ◌∷◌, map}
use lib.Dec.{ltb}
use lib.ListN.{length, get_or, length-map}
use borrow.Author.Tests.{lt-ltb, le-ltb, ltb-true, leb-false}
use Rattle.layers.specs.Names.{Name, order_of}
use Rattle.layers.proofs.OrderLaws.{same_one}
use Rattle.merge.specs.declared.node.Node.{Node}
use Rattle.merge.specs.declared.head.Head.{Head}
use Rattle.merge.specs.Nodes.{capacity, count_of, nodes_of, node_of, node_at, key_of}
use Rattle.merge.specs.Methods.{with_number}
use Rattle.merge.specs.Heads.{next_of, head_of, more, numbered, full}
use Rattle.merge.specs.Changes.{inserted_bytes, inserted_at, given, seat_spot, seated_number, seated_bytes}
use Rattle.merge.specs.Seats.{middle, seat_by, seat_in, seat_of, holder}
use Rattle.merge.proofs.HeadLaws.{capacity_fits}
use Rattle.merge.proofs.StateLaws.{length_nodes, lent_node}

-- ---- a seat taken apart

pub held_place : (t : Result ℕ ℕ) → result_ok t ≡ holder t
unfolding holder
held_place (Ok k) = refl
held_place (Err k) = refl

-- ---- halving

-- more halvings than there are places change nothing
seat_enough : (ns : List Node) (x : Name) (m n lo hi : ℕ) → hi - lo ≤ m → hi - lo ≤ n → seat_in m ns x lo hi ≡ seat_in n ns x lo hi
unfolding seat_in
seat_enough ns x zero zero lo hi a b = refl
seat_enough ns x zero (suc n) lo hi a b = rw (le-ltb lo hi (omega arith)) refl
seat_enough ns x (suc m) zero lo hi a b = rw (le-ltb lo hi (omega arith)) refl
seat_enough ns x (suc m) (suc n) lo hi a b = go (ltb lo hi) refl (seat_enough ns x m n lo (middle lo hi)) (seat_enough ns x m n (suc (middle lo hi)) hi)
  where
    go : (t : Bool) → ltb lo hi ≡ t
        → (middle lo hi - lo ≤ m → middle lo hi - lo ≤ n → seat_in m ns x lo (middle lo hi) ≡ seat_in n ns x lo (middle lo hi))
        → (hi - suc (middle lo hi) ≤ m → hi - suc (middle lo hi) ≤ n → seat_in m ns x (suc (middle lo hi)) hi ≡ seat_in n ns x (suc (middle lo hi)) hi)
        → cond t (seat_by (order_of x (key_of (node_at ns (middle lo hi)))) (middle lo hi) (seat_in m ns x lo (middle lo hi)) (seat_in m ns x (suc (middle lo hi)) hi)) (Err lo)
        ≡ cond t (seat_by (order_of x (key_of (node_at ns (middle lo hi)))) (middle lo hi) (seat_in n ns x lo (middle lo hi)) (seat_in n ns x (suc (middle lo hi)) hi)) (Err lo)
    go false e f g = refl
    go true e f g =
        let l : lo < hi = ltb-true lo hi e in
        ap₂ (seat_by (order_of x (key_of (node_at ns (middle lo hi)))) (middle lo hi)) (f (omega arith) (omega arith)) (g (omega arith) (omega arith))

pub seat_end : (m : ℕ) (ns : List Node) (x : Name) (lo hi : ℕ) (t : Result ℕ ℕ) → hi ≤ lo → seat_in m ns x lo hi ≡ t → Err lo ≡ t
unfolding seat_in
seat_end zero ns x lo hi t h e = e
seat_end (suc m) ns x lo hi t h e = sym (rw (le-ltb lo hi h) refl) ∙ e

module _ (bs : List (List ℕ)) (ns : List Node) (x : Name) (lo hi mid : ℕ) (t : Result ℕ ℕ) (e : map node_of bs ≡ ns) (inv : seat_in (length ns) ns x lo hi ≡ t) (lt : lo < hi) (w : hi ≤ length bs) (mid_is : mid ≡ lo + (hi - lo) / 2) (o : Ordering) (by_bytes : o ≡ order_of x (key_of (node_of (get_or bs mid [])))) where
  q : o ≡ order_of x (key_of (node_at ns mid))
  q = by_bytes ∙ ap (λ (n : Node). order_of x (key_of n)) (sym (ap (λ (l : List Node). node_at l mid) (sym e) ∙ lent_node bs mid (omega arith)))

  seat_step : seat_by o mid (seat_in (length ns) ns x lo mid) (seat_in (length ns) ns x (suc mid) hi) ≡ t
  unfolding seat_in
  seat_step = go (length ns) (omega (arith, length-map bs node_of, ap length e)) inv
    where
      go : (m : ℕ) → hi ≤ m → seat_in m ns x lo hi ≡ t → seat_by o mid (seat_in m ns x lo mid) (seat_in m ns x (suc mid) hi) ≡ t
      go zero h f = absurd (omega arith)
      go (suc m) h f =
          let d : seat_in (suc m) ns x lo hi ≡ seat_by o mid (seat_in m ns x lo mid) (seat_in m ns x (suc mid) hi) = rw (lt-ltb lo hi lt, q, mid_is) refl in
          ap₂ (seat_by o mid) (seat_enough ns x (suc m) m lo mid (omega arith) (omega arith)) (seat_enough ns x (suc m) m (suc mid) hi (omega arith) (omega arith)) ∙ (sym d ∙ f)

  pub seat_before : o ≡ Less → seat_in (length ns) ns x lo mid ≡ t
  unfolding seat_by
  seat_before f = rw f at seat_step

  pub seat_same : o ≡ Equal → Ok mid ≡ t
  unfolding seat_by
  seat_same f = rw f at seat_step

  pub seat_after : o ≡ Greater → seat_in (length ns) ns x (mid + 1) hi ≡ t
  unfolding seat_by
  seat_after f = rw (add-one mid) (rw f at seat_step)

-- ---- a node put in at a place

pub unseated_number : (s : List ℕ) (k : ℕ) → seat_spot s k ≡ None → 0 ≡ seated_number s k
unfolding given
unseated_number s k h = rw h refl

pub unseated : (s : List ℕ) (k : ℕ) → seat_spot s k ≡ None → false ≡ is_some (seat_spot s k)
unseated s k h = rw h refl

pub seated : (s : List ℕ) (k : ℕ) → seat_spot s k ≡ Some k → true ≡ is_some (seat_spot s k)
seated s k h = rw h refl

pub unseated_bytes : (s : List ℕ) (n : Node) (k : ℕ) → seat_spot s k ≡ None → s ≡ seated_bytes s n k
unfolding inserted_at
unseated_bytes s n k h = rw h refl

module _ (s : List ℕ) (k x : ℕ) (a : x ≡ next_of s) where
  pub seated_number_lem : seat_spot s k ≡ Some k → x ≡ seated_number s k
  unfolding given
  seated_number_lem h = rw h a

  pub seated_bytes_lem : (n : Node) → seat_spot s k ≡ Some k → (e m o : Head) (w : Node) (u : List ℕ) → e ≡ head_of s → m ≡ more e → o ≡ numbered m → w ≡ with_number n x → u ≡ inserted_bytes s k w o → u ≡ seated_bytes s n k
  unfolding inserted_at
  seated_bytes_lem n h e m o w u p q r i j = j ∙ rw (h, i, r, q, p, a) refl

  pub seat_numberless : 4294967295 < x → seat_spot s k ≡ None
  unfolding seat_spot
  seat_numberless h = rw (← a, lt-ltb 4294967295 x h) refl

  module _ (l : x ≤ 4294967295) (b : Bool) (f : b ≡ full s) where
    pub seat_full : b ≡ true → seat_spot s k ≡ None
    unfolding seat_spot
    seat_full h = rw (← a, le-ltb 4294967295 x l, ← f, h) refl

    module _ (g : b ≡ false) (c : ℕ) (d : c ≡ count_of s) where
      pub seat_beyond : c < k → seat_spot s k ≡ None
      unfolding seat_spot
      seat_beyond h = rw (← a, le-ltb 4294967295 x l, ← f, g, ← d, lt-ltb c k h) refl

      pub seat_free : k ≤ c → seat_spot s k ≡ Some k
      unfolding seat_spot
      seat_free h = rw (← a, le-ltb 4294967295 x l, ← f, g, ← d, le-ltb c k h) refl

pub ruleset seats = (seat_numberless, seat_full, seat_beyond, seat_free)

pub fit_room : (s : List ℕ) (b : Bool) → b ≡ full s → b ≡ false → 52 * count_of s + 64 ≤ length s
unfolding full
fit_room s b f g = let z : count_of s < capacity s = leb-false (capacity s) (count_of s) (sym f ∙ g) in omega (arith, capacity_fits s)

-- ---- what a held seat says

held_here : (m : ℕ) (ns : List Node) (x : Name) (lo hi k : ℕ) → seat_in m ns x lo hi ≡ Ok k → (k < hi) × (order_of x (key_of (node_at ns k)) ≡ Equal)
unfolding seat_in seat_by
held_here zero ns x lo hi k e = absurd (let z : ◌≡◌ {A = ℕ} 0 1 = cc in omega arith)
held_here (suc m) ns x lo hi k e = go (ltb lo hi) refl (order_of x (key_of (node_at ns (middle lo hi)))) refl e (held_here m ns x lo (middle lo hi) k) (held_here m ns x (suc (middle lo hi)) hi k)
  where
    go : (t : Bool) → ltb lo hi ≡ t → (o : Ordering) → order_of x (key_of (node_at ns (middle lo hi))) ≡ o
        → cond t (seat_by o (middle lo hi) (seat_in m ns x lo (middle lo hi)) (seat_in m ns x (suc (middle lo hi)) hi)) (Err lo) ≡ Ok k
        → (seat_in m ns x lo (middle lo hi) ≡ Ok k → (k < middle lo hi) × (order_of x (key_of (node_at ns k)) ≡ Equal))
        → (seat_in m ns x (suc (middle lo hi)) hi ≡ Ok k → (k < hi) × (order_of x (key_of (node_at ns k)) ≡ Equal))
        → (k < hi) × (order_of x (key_of (node_at ns k)) ≡ Equal)
    go false l o q e f g = absurd (let z : ◌≡◌ {A = ℕ} 0 1 = cc in omega arith)
    go true l o q e f g = by o q e
      where
        by : (o : Ordering) → order_of x (key_of (node_at ns (middle lo hi))) ≡ o → seat_by o (middle lo hi) (seat_in m ns x lo (middle lo hi)) (seat_in m ns x (suc (middle lo hi)) hi) ≡ Ok k → (k < hi) × (order_of x (key_of (node_at ns k)) ≡ Equal)
        by Less q e = let r : (k < middle lo hi) × (order_of x (key_of (node_at ns k)) ≡ Equal) = f e in let b : lo < hi = ltb-true lo hi l in let c : k < middle lo hi = r.0 in (omega arith, r.1)
        by Equal q e = let z : middle lo hi ≡ k = cc in let b : lo < hi = ltb-true lo hi l in (omega arith, rw (← z) q)
        by Greater q e = g e

module _ (s : List ℕ) (f : Option ℕ) (k : ℕ) (e : f ≡ Some k) (p : ℕ) (x : Name) (q : f ≡ holder (seat_of (nodes_of s) p x)) where
  held_seat : seat_of (nodes_of s) p x ≡ Ok k
  unfolding holder
  held_seat = go (seat_of (nodes_of s) p x) (sym q ∙ e)
    where
      go : (t : Result ℕ ℕ) → holder t ≡ Some k → t ≡ Ok k
      go (Ok j) h = let z : j ≡ k = cc in rw z refl
      go (Err j) h = absurd (let z : ◌≡◌ {A = ℕ} 0 1 = cc in omega arith)

  pub held_below : k < count_of s
  held_below = let z : k < length (nodes_of s) = (held_here (length (nodes_of s)) (nodes_of s) (p ∷ x) 0 (length (nodes_of s)) k held_seat).0 in omega (arith, length_nodes s)

  pub held_key : key_of (node_at (nodes_of s) k) ≡ p ∷ x
  held_key = sym (same_one (p ∷ x) (key_of (node_at (nodes_of s) k)) (held_here (length (nodes_of s)) (nodes_of s) (p ∷ x) 0 (length (nodes_of s)) k held_seat).1)
