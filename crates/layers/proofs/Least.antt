-- The lesser of two numbers. Assumes nothing.
use mathlib.Core.Path.{◌≡◌, refl}
use Prim.Native.Nat.{ℕ, ◌≤◌, ◌<◌}
use native.Mathlib.Omega.{arith}
use mathlib.Core.Bool.{Bool, true, false, cond}
use lib.Dec.{ltb}
use borrow.Author.Tests.{lt-ltb, le-ltb, ltb-true, ltb-false}
use Rattle.layers.specs.Bytes.{least}

module _ (a b : ℕ) where
  pub least_first : a < b → a ≡ least a b
  least_first h = rw (lt-ltb a b h) refl

  pub least_second : b ≤ a → b ≡ least a b
  least_second h = rw (le-ltb a b h) refl

  pub least_left : least a b ≤ a
  least_left = go (ltb a b) refl
    where
      go : (t : Bool) → ltb a b ≡ t → cond t a b ≤ a
      go true e = omega arith
      go false e = ltb-false a b e

  pub least_right : least a b ≤ b
  least_right = go (ltb a b) refl
    where
      go : (t : Bool) → ltb a b ≡ t → cond t a b ≤ b
      go true e = let h : a < b = ltb-true a b e in omega arith
      go false e = omega arith

  -- the first, widened, was compared
  module _ (w : ℕ) (e : w ≡ a) where
    pub at_most_first : w < b → a ≡ least a b
    at_most_first h = least_first (omega arith)

    pub at_most_second : b ≤ w → b ≡ least a b
    at_most_second h = least_second (omega arith)
