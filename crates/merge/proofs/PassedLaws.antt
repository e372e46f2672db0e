-- A search for a name's place that starts behind nodes that come before it, and where the next name's starts. Assumes nothing.
use Rattle.std.specs.Prelude.{Option, Some, None}
use Rattle.std.specs.declared.cmp.Ordering.{Ordering}
use Rattle.std.specs.declared.cmp.Ordering.TheVariants.{Less, Equal, Greater}
use mathlib.Core.Path.{◌≡◌, refl, sym, ap, ◌∙◌}
use Prim.Native.Nat.{ℕ, zero, suc, ◌+◌, ◌≤◌, ◌<◌}
use native.Mathlib.Omega.{arith}
use native.Mathlib.Nat.{add-zero, zero-add}
use native.Mathlib.Numerals.{add-one}
use mathlib.Core.Bool.{Bool, true, false, cond}
use mathlib.Core.List.{List, [], ◌∷◌}
use lib.Dec.{ltb}
use lib.ListN.{length, drop, get_or}
use borrow.Author.Tests.{lt-ltb, le-ltb, ltb-false}
use Rattle.layers.specs.Names.{Name, order_of}
use Rattle.layers.specs.Order.{spot_from, spot_step}
use Rattle.merge.specs.declared.node.Node.{Node}
use Rattle.merge.specs.Nodes.{no_node, key_of, count_of, nodes_of}
use Rattle.merge.specs.State.{Passed}
use Rattle.merge.specs.Heads.{next_of}
use Rattle.merge.specs.Changes.{spot_for, new_spot, behind}
use Rattle.merge.proofs.HeadLaws.{count_most}
use Rattle.merge.proofs.ChangeLaws.{spot_in}

pub none_passed : (ns : List Node) (p : ℕ) (x : Name) → Passed ns p x 0
none_passed ns p x = record { within = omega arith; after = λ j h. absurd (omega arith) }

-- what comes before the name is walked over
module _ {A : Type 0} (f : A → Name) (d : A) (x : Name) where
  pub walked_over : (ys : List A) (a k : ℕ) → k ≤ length ys → ((j : ℕ) → j < k → order_of x (f (get_or ys j d)) ≡ Greater) → spot_from f (a + k) x (drop k ys) ≡ spot_from f a x ys
  unfolding spot_from spot_step
  walked_over ys a zero l h = rw (add-zero a) refl
  walked_over [] a (suc k) l h = absurd (omega arith)
  walked_over (y ∷ ys) a (suc k) l h =
      let e : suc a + k ≡ a + suc k = omega arith in
      rw (h 0 (omega arith), ← e) (walked_over ys (suc a) k (omega arith) (λ j g. h (suc j) (omega arith)))

  -- and a free spot lies behind all of it
  pub before_free : (ys : List A) (a m : ℕ) → spot_from f a x ys ≡ Some m → (j : ℕ) → a + j < m → order_of x (f (get_or ys j d)) ≡ Greater
  unfolding spot_from spot_step
  before_free [] a m e j h = let z : a ≡ m = cc in absurd (omega arith)
  before_free (y ∷ ys) a m e j h = go (order_of x (f y)) refl e j h (before_free ys (suc a) m)
    where
      go : (o : Ordering) → order_of x (f y) ≡ o → spot_step o a (spot_from f (suc a) x ys) ≡ Some m → (j : ℕ) → a + j < m → (spot_from f (suc a) x ys ≡ Some m → (i : ℕ) → suc a + i < m → order_of x (f (get_or ys i d)) ≡ Greater)
          → order_of x (f (get_or (y ∷ ys) j d)) ≡ Greater
      go Less q e j h ih = let z : a ≡ m = cc in absurd (omega arith)
      go Equal q e j h ih = absurd (let z : ◌≡◌ {A = ℕ} 0 1 = cc in omega arith)
      go Greater q e zero h ih = q
      go Greater q e (suc j) h ih = ih e j (omega arith)

-- the search from there on
pub passed_start : (s : List ℕ) (p q : ℕ) (x : Name) (k : ℕ) → q ≡ p → Passed (nodes_of s) p x k → spot_from key_of k (q ∷ x) (drop k (nodes_of s)) ≡ spot_from key_of 0 (p ∷ x) (nodes_of s)
passed_start s p q x k e h =
    ap (λ (i : ℕ). spot_from key_of k (i ∷ x) (drop k (nodes_of s))) e
    ∙ (ap (λ (i : ℕ). spot_from key_of i (p ∷ x) (drop k (nodes_of s))) (sym (zero-add k)) ∙ walked_over key_of no_node (p ∷ x) (nodes_of s) 0 k h.within h.after)

-- ---- a place for a new node with its number

-- a spot for a new node says that a number is left, and where the node belongs
module _ (s : List ℕ) (n : Node) (j : ℕ) (q : new_spot s n ≡ Some j) where
  pub spot_new_number : next_of s ≤ 4294967295
  unfolding new_spot
  spot_new_number = go (ltb 4294967295 (next_of s)) refl q
    where
      go : (b : Bool) → ltb 4294967295 (next_of s) ≡ b → cond b None (spot_for s n) ≡ Some j → next_of s ≤ 4294967295
      go true e h = absurd (let z : ◌≡◌ {A = ℕ} 0 1 = cc in omega arith)
      go false e h = ltb-false 4294967295 (next_of s) e

  pub spot_new_place : spot_for s n ≡ Some j
  unfolding new_spot
  spot_new_place = sym (rw (le-ltb 4294967295 (next_of s) spot_new_number) refl) ∙ q

-- where the next search starts
module _ (s : List ℕ) (n : Node) (k x : ℕ) (a : x ≡ next_of s) where
  pub behind_none : 4294967295 < x → k ≡ behind k (new_spot s n)
  unfolding new_spot behind
  behind_none h = rw (← a, lt-ltb 4294967295 x h) refl

  module _ (f : Option ℕ) (q : f ≡ spot_for s n) (l : x ≤ 4294967295) where
    pub behind_taken : f ≡ None → k ≡ behind k (new_spot s n)
    unfolding new_spot behind
    behind_taken h = rw (← a, le-ltb 4294967295 x l, ← q, h) refl

    pub behind_free : (j : ℕ) → f ≡ Some j → j + 1 ≡ behind k (new_spot s n)
    unfolding new_spot behind
    behind_free j h = rw (← a, le-ltb 4294967295 x l, ← q, h) (add-one j)

-- and it is a number of the machine's
pub spot_next : (s : List ℕ) (n : Node) (f : Option ℕ) (j : ℕ) → f ≡ spot_for s n → f ≡ Some j → j + 1 < 18446744073709551616
spot_next s n f j q h = let z : j ≤ count_of s = spot_in s n f j q h in omega (arith, count_most s)

pub ruleset behinds = (behind_none, behind_taken, behind_free)
