-- A node changed, put in and taken out: the bytes that the code leaves. Assumes nothing.
use Rattle.std.specs.Prelude.{Option, Some, None}
use Rattle.std.specs.declared.cmp.Ordering.{Ordering}
use Rattle.std.specs.declared.cmp.Ordering.TheVariants.{Less, Equal, Greater}
use mathlib.Core.Path.{◌≡◌, refl, sym, ap, ◌∙◌}
use Prim.Native.Nat.{ℕ, suc, ◌+◌, ◌*◌, ◌-◌, ◌≤◌, ◌<◌}
use native.Mathlib.Omega.{arith}
use mathlib.Core.Bool.{Bool, true, false, cond}
use mathlib.Core.List.{List, [], ◌∷◌, ◌++◌}
use lib.ListN.{length, replicate, length-take, length-drop}
use borrow.Author.Tests.{lt-ltb, le-ltb, leb-false}
use Rattle.layers.specs.Bytes.{part, over, laid}
use Rattle.layers.specs.Names.{Name, order_of}
use Rattle.layers.specs.Order.{spot_from, spot_step}
use Rattle.layers.proofs.Numbers.{laid_in}
use Rattle.layers.proofs.Runs.{length_over}
use Rattle.layers.proofs.ItemLaws.{laid_next}
use Rattle.layers.proofs.Moves.{over_before}
use Rattle.merge.specs.declared.node.Node.{Node}
use Rattle.merge.specs.declared.head.Head.{Head}
use Rattle.merge.specs.Nodes.{node_bytes, node_name, key_of, capacity, count_of, nodes_of, FitsNode}
use Rattle.merge.specs.Methods.{with_number}
use Rattle.merge.specs.Heads.{next_of, head_of, with_head, more, fewer, numbered, full}
use Rattle.merge.specs.State.{place_for}
use Rattle.merge.specs.Changes.{inserted_bytes, taken_bytes, spot_for, inserted_at, put_in_bytes, new_spot, given, new_number, new_bytes}
use Rattle.merge.proofs.NodeLaws.{length_node}
use Rattle.merge.proofs.HeadLaws.{nodes_fit, capacity_fits}
use Rattle.merge.proofs.StateLaws.{length_nodes}

-- ---- the place of a new node

-- a free spot lies among the items or right behind them
pub spot_below : {A : Type 0} (f : A → Name) (x : Name) (k : ℕ) (ys : List A) (m : ℕ) → spot_from f k x ys ≡ Some m → m ≤ k + length ys
unfolding spot_from spot_step
spot_below f x k [] m h = let z : k ≡ m = cc in omega arith
spot_below f x k (y ∷ ys) m h = go (order_of x (f y)) h (spot_below f x (suc k) ys m)
  where
    go : (o : Ordering) → spot_step o k (spot_from f (suc k) x ys) ≡ Some m → (spot_from f (suc k) x ys ≡ Some m → m ≤ suc k + length ys) → m ≤ k + length (y ∷ ys)
    go Less h ih = let z : k ≡ m = cc in omega arith
    go Equal h ih = absurd (let z : ◌≡◌ {A = ℕ} 0 1 = cc in omega arith)
    go Greater h ih = let z : m ≤ suc k + length ys = ih h in omega arith

-- a node has a spot only where one more fits
module _ (s : List ℕ) (n : Node) (f : Option ℕ) (k : ℕ) (q : f ≡ spot_for s n) (h : f ≡ Some k) where
  pub spot_not_full : full s ≡ false
  unfolding spot_for
  spot_not_full = go (full s) (sym q ∙ h)
    where
      go : (b : Bool) → cond b None (place_for (nodes_of s) n.parent (node_name n)) ≡ Some k → b ≡ false
      go true e = absurd (let z : ◌≡◌ {A = ℕ} 0 1 = cc in omega arith)
      go false e = refl

  pub spot_place : place_for (nodes_of s) n.parent (node_name n) ≡ Some k
  unfolding spot_for
  spot_place = rw spot_not_full at (sym q ∙ h)

  pub spot_in : k ≤ count_of s
  spot_in = let z : k ≤ 0 + length (nodes_of s) = spot_below key_of (key_of n) 0 (nodes_of s) k spot_place in omega (arith, length_nodes s)

  pub spot_room : 52 * count_of s + 64 ≤ length s
  unfolding full
  spot_room = let z : count_of s < capacity s = leb-false (capacity s) (count_of s) spot_not_full in omega (arith, capacity_fits s)

-- ---- a node put in

pub inserted : (s s₁ s₂ s₃ : List ℕ) (c k : ℕ) (n : Node) (h : Head) → c ≡ count_of s → k ≤ count_of s → 52 * count_of s + 64 ≤ length s
    → s₁ ≡ over s (12 + 52 * k + 52) (part s (12 + 52 * k) (52 * (c - k))) → s₂ ≡ over s₁ (12 + 52 * k) (node_bytes n) → FitsNode n → s₃ ≡ with_head s₂ h → s₃ ≡ inserted_bytes s k n h
unfolding inserted_bytes
inserted s s₁ s₂ s₃ c k n h q g l p d f o =
    let e : length (node_bytes n) ≡ 52 = length_node n f.arrays in
    let y : s₂ ≡ over s (12 + 52 * k) (node_bytes n ++ part s (12 + 52 * k) (52 * (c - k))) =
    d
    ∙ (ap (λ (x : List ℕ). over x (12 + 52 * k) (node_bytes n)) (p ∙ ap (λ (j : ℕ). over s (12 + 52 * k + j) (part s (12 + 52 * k) (52 * (c - k)))) (sym e))
    ∙ over_before s (12 + 52 * k) (node_bytes n) (part s (12 + 52 * k) (52 * (c - k))) (simp (length-take, length-drop) (omega arith))) in
    o ∙ rw (y, q) refl

module _ (s : List ℕ) (n : Node) (f : Option ℕ) (q : f ≡ spot_for s n) where
  pub not_put_in : f ≡ None → s ≡ put_in_bytes s n
  unfolding inserted_at
  not_put_in h = rw (← q, h) refl

  pub put_in_at : (k : ℕ) (g m : Head) (u : List ℕ) → f ≡ Some k → g ≡ head_of s → m ≡ more g → u ≡ inserted_bytes s k n m → u ≡ put_in_bytes s n
  unfolding inserted_at
  put_in_at k g m u h a b e = e ∙ rw (← q, h, b, a) refl

  module _ (x : ℕ) (a : x ≡ next_of s) (l : x ≤ 4294967295) where
    new_spot_is : new_spot s n ≡ f
    unfolding new_spot
    new_spot_is = rw (← a, le-ltb 4294967295 x l) (sym q)

    pub no_spot_number : f ≡ None → 0 ≡ new_number s n
    unfolding given
    no_spot_number h = rw (new_spot_is, h) refl

    pub no_spot_bytes : f ≡ None → s ≡ new_bytes s n
    unfolding inserted_at
    no_spot_bytes h = rw (new_spot_is, h) refl

    pub new_number_lem : (k : ℕ) → f ≡ Some k → x ≡ new_number s n
    unfolding given
    new_number_lem k h = rw (new_spot_is, h) a

    pub new_bytes_lem : (k : ℕ) (g m o : Head) (w : Node) (u : List ℕ) → f ≡ Some k → g ≡ head_of s → m ≡ more g → o ≡ numbered m → w ≡ with_number n x → u ≡ inserted_bytes s k w o → u ≡ new_bytes s n
    unfolding inserted_at
    new_bytes_lem k g m o w u h b c d e i = i ∙ rw (new_spot_is, h, e, d, c, b, a) refl

module _ (s : List ℕ) (n : Node) (x : ℕ) (a : x ≡ next_of s) (l : 4294967295 < x) where
  no_new_spot : new_spot s n ≡ None
  unfolding new_spot
  no_new_spot = rw (← a, lt-ltb 4294967295 x l) refl

  pub no_number : 0 ≡ new_number s n
  unfolding given
  no_number = rw no_new_spot refl

  pub no_number_bytes : s ≡ new_bytes s n
  unfolding inserted_at
  no_number_bytes = rw no_new_spot refl

pub ruleset new_numbers = (no_spot_number, new_number_lem, no_number)

pub ruleset news = (no_spot_bytes, new_bytes_lem, no_number_bytes)

-- ---- a node taken out

module _ (s : List ℕ) (c k : ℕ) (q : c ≡ count_of s) where
  pub not_taken : c ≤ k → s ≡ taken_bytes s k
  unfolding taken_bytes
  not_taken h = rw (← q, le-ltb k c h) refl

  pub taken : (s₁ s₂ s₃ : List ℕ) (g m : Head) → k < c → g ≡ head_of s → m ≡ fewer g → s₁ ≡ over s (12 + 52 * k) (part s (12 + 52 * k + 52) (52 * (c - 1 - k)))
      → s₂ ≡ laid s₁ (12 + 52 * k + 52 * (c - 1 - k)) (replicate 52 0) → s₃ ≡ with_head s₂ m → s₃ ≡ taken_bytes s k
  unfolding taken_bytes
  taken s₁ s₂ s₃ g m h a b p d o =
      let w : 52 * c ≤ length s - 12 = omega (arith, nodes_fit s) in
      let e : length (part s (12 + 52 * k + 52) (52 * (c - 1 - k))) ≡ 52 * (c - 1 - k) = simp (length-take, length-drop) (omega arith) in
      let v : length s₁ ≡ length s = ap length p ∙ length_over s (12 + 52 * k) (part s (12 + 52 * k + 52) (52 * (c - 1 - k))) (omega arith) in
      let y : s₂ ≡ over s (12 + 52 * k) (part s (12 + 52 * k + 52) (52 * (c - 1 - k)) ++ replicate 52 0) =
      laid_next s s₁ s₂ (12 + 52 * k) (52 * (c - 1 - k)) (part s (12 + 52 * k + 52) (52 * (c - 1 - k))) (replicate 52 0) p e (omega arith) (d ∙ laid_in s₁ (12 + 52 * k + 52 * (c - 1 - k)) (replicate 52 0) (omega arith)) in
      rw (← q, lt-ltb k c h) (o ∙ rw (y, b, a, ← q) refl)
