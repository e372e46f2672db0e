-- What a definition by nested tests answers, from what the code's tests showed. Assumes nothing.
use mathlib.Core.Path.{◌≡◌, sym, ap, ◌∙◌}
use Prim.Native.Nat.{ℕ, ◌≤◌, ◌<◌}
use mathlib.Core.Bool.{Bool, true, false, cond}
use lib.Dec.{eqb, ltb, leb}
use borrow.Author.Tests.{eq-eqb, ne_eqb, lt-ltb, le-ltb, le-leb, lt-leb}

module _ {A : Type 0} (z x y : A) where
  pub if_true : (t : Bool) → t ≡ true → z ≡ x → z ≡ cond t x y
  if_true t h e = rw h e

  pub if_false : (t : Bool) → t ≡ false → z ≡ y → z ≡ cond t x y
  if_false t h e = rw h e

  -- a test that a callee answered
  pub by_true : (r t : Bool) → r ≡ t → r ≡ true → z ≡ x → z ≡ cond t x y
  by_true r t q h e = if_true t (sym q ∙ h) e

  pub by_false : (r t : Bool) → r ≡ t → r ≡ false → z ≡ y → z ≡ cond t x y
  by_false r t q h e = if_false t (sym q ∙ h) e

  module _ (a b : ℕ) where
    pub if_eq : a ≡ b → z ≡ x → z ≡ cond (eqb a b) x y
    if_eq h = if_true (eqb a b) (eq-eqb a b h)

    pub if_ne : (a ≡ b → ⊥) → z ≡ y → z ≡ cond (eqb a b) x y
    if_ne h = if_false (eqb a b) (ne_eqb a b h)

    pub if_lt : a < b → z ≡ x → z ≡ cond (ltb a b) x y
    if_lt h = if_true (ltb a b) (lt-ltb a b h)

    pub if_ge : b ≤ a → z ≡ y → z ≡ cond (ltb a b) x y
    if_ge h = if_false (ltb a b) (le-ltb a b h)

    pub if_le : a ≤ b → z ≡ x → z ≡ cond (leb a b) x y
    if_le h = if_true (leb a b) (le-leb a b h)

    pub if_gt : b < a → z ≡ y → z ≡ cond (leb a b) x y
    if_gt h = if_false (leb a b) (lt-leb a b h)

  -- a number that a callee answered
  module _ (r a b : ℕ) (q : r ≡ a) where
    pub of_eq : r ≡ b → z ≡ x → z ≡ cond (eqb a b) x y
    of_eq h = if_eq a b (sym q ∙ h)

    pub of_ne : (r ≡ b → ⊥) → z ≡ y → z ≡ cond (eqb a b) x y
    of_ne h = if_ne a b (λ e. h (q ∙ e))

pub ruleset cases = (of_eq, of_ne, if_eq, if_ne, if_lt, if_ge, if_le, if_gt, by_true, by_false)

-- a number that a `match` showed
pub at_number : {A : Type 0} (f : ℕ → A) (z : A) (n k : ℕ) → n ≡ k → z ≡ f k → z ≡ f n
at_number f z n k h e = e ∙ ap f (sym h)

-- a number that a callee answered, compared
pub eqb_of : (r a b : ℕ) → r ≡ a → eqb r b ≡ eqb a b
eqb_of r a b h = ap (λ (k : ℕ). eqb k b) h
