-- A run of zeros, told from all its bits together, and how far back it reaches. Assumes nothing.
use mathlib.Core.Path.{◌≡◌, refl, sym, ap, ◌∙◌}
use Prim.Native.Nat.{ℕ, ◌+◌, ◌*◌, ◌-◌, ◌/◌, ◌≤◌}
use native.Mathlib.Omega.{arith}
use mathlib.Core.Bool.{Bool, true, false, not, cond}
use mathlib.Core.List.{List, [], ◌∷◌}
use lib.Bits.{bit_and, bit_or, or_add_and, and_le_l, and_le_r}
use lib.Dec.{eqb}
use lib.ListN.{length, take, drop, replicate, take-append-drop, drop_of_length-le}
use lib.Seq.{drop-drop}
use borrow.Author.Tests.{eq-eqb, ne_eqb, eqb-true, eqb-false, not-false}
use Rattle.std.specs.List.{fold}
use Rattle.layers.specs.Rules.{all_zero}
use Rattle.layers.proofs.EveryLaws.{no_true}
use Rattle.layers.proofs.ZeroLaws.{zeros_append}

-- ---- two numbers have no bit together exactly where both are 0

none_of : (o n a b : ℕ) → o + n ≡ a + b → n ≤ a → n ≤ b → eqb o 0 ≡ cond (eqb a 0) (eqb b 0) false
none_of o n a b s p q = go (eqb a 0) (eqb b 0) refl refl
  where
    go : (x y : Bool) → eqb a 0 ≡ x → eqb b 0 ≡ y → eqb o 0 ≡ cond x y false
    go true true e f = let a_is : a ≡ 0 = eqb-true a 0 e in let b_is : b ≡ 0 = eqb-true b 0 f in eq-eqb o 0 (omega arith)
    go true false e f = let a_is : a ≡ 0 = eqb-true a 0 e in let b_is : (b ≡ 0 → ⊥) = eqb-false b 0 f in ne_eqb o 0 (λ z. omega arith)
    go false y e f = let a_is : (a ≡ 0 → ⊥) = eqb-false a 0 e in ne_eqb o 0 (λ z. omega arith)

no_bit : (a b : ℕ) → eqb (bit_or a b) 0 ≡ cond (eqb a 0) (eqb b 0) false
no_bit a b = none_of (bit_or a b) (bit_and a b) a b (or_add_and a b) (and_le_l a b) (and_le_r a b)

-- the bits of all bytes together, `x` having those of the bytes before
all_bits : (bs : List ℕ) (x : ℕ) → eqb (fold bit_or x bs) 0 ≡ cond (eqb x 0) (all_zero bs) false
unfolding all_zero
all_bits [] x = go (eqb x 0)
  where
    go : (p : Bool) → p ≡ cond p true false
    go true = refl
    go false = refl
all_bits (b ∷ bs) x =
    all_bits bs (bit_or x b)
    ∙ (ap (λ (t : Bool). cond t (all_zero bs) false) (no_bit x b) ∙ go (eqb x 0) (eqb b 0) (all_zero bs))
  where
    go : (p q r : Bool) → cond (cond p q false) r false ≡ cond p (cond q r false) false
    go true q r = refl
    go false q r = refl

pub no_bits : (bs : List ℕ) (r : ℕ) → r ≡ fold bit_or 0 bs → eqb r 0 ≡ all_zero bs
no_bits bs r e = rw e (all_bits bs 0)

-- ---- a run that ends the list, and one before it

both_of : (p q : Bool) → p ≡ true → q ≡ true → cond p q false ≡ true
both_of p q h k = rw (h, k) refl

left_of : (p q : Bool) → cond p q false ≡ true → p ≡ true
left_of true q h = refl
left_of false q h = h

right_of : (p q : Bool) → cond p q false ≡ true → q ≡ true
right_of true q h = h
right_of false q h = no_true h

module _ (b : List ℕ) (a k : ℕ) where
  parted : all_zero (drop a b) ≡ cond (all_zero (take k (drop a b))) (all_zero (drop (a + k) b)) false
  parted =
      ap all_zero (sym (take-append-drop k (drop a b)))
      ∙ (zeros_append (take k (drop a b)) (drop k (drop a b)) ∙ ap (λ (t : List ℕ). cond (all_zero (take k (drop a b))) (all_zero t) false) (drop-drop k a b))

  zeros_longer : all_zero (take k (drop a b)) ≡ true → all_zero (drop (a + k) b) ≡ true → all_zero (drop a b) ≡ true
  zeros_longer h g = parted ∙ both_of _ _ h g

  zeros_first : all_zero (drop a b) ≡ true → all_zero (take k (drop a b)) ≡ true
  zeros_first h = left_of _ (all_zero (drop (a + k) b)) (sym parted ∙ h)

  zeros_behind : all_zero (drop a b) ≡ true → all_zero (drop (a + k) b) ≡ true
  zeros_behind h = right_of (all_zero (take k (drop a b))) _ (sym parted ∙ h)

-- the same by places of 32 bytes, as the halving finds them
module _ (b : List ℕ) where
  pub nothing_behind : length b ≡ 4096 → all_zero (drop (32 * 128) b) ≡ true
  unfolding all_zero
  nothing_behind l = rw (drop_of_length-le b {i = 4096} (omega arith)) refl

  pub half_free : (n : ℕ) (r : Bool) → r ≡ all_zero (take (32 * n - 32 * (n / 2)) (drop (32 * (n / 2)) b)) → not r ≡ false → all_zero (drop (32 * n) b) ≡ true → all_zero (drop (32 * (n / 2)) b) ≡ true
  half_free n r e h z =
      let w : 32 * (n / 2) + (32 * n - 32 * (n / 2)) ≡ 32 * n = omega arith in
      zeros_longer b (32 * (n / 2)) (32 * n - 32 * (n / 2)) (sym e ∙ not-false r h) (rw w z)

-- ---- zeros are one list

zeros_are : (xs : List ℕ) → all_zero xs ≡ true → xs ≡ replicate (length xs) 0
unfolding all_zero
zeros_are [] h = refl
zeros_are (x ∷ xs) h =
    let x_is : x ≡ 0 = eqb-true x 0 (left_of (eqb x 0) (all_zero xs) h) in
    rw x_is (ap (λ (t : List ℕ). 0 ∷ t) (zeros_are xs (right_of (eqb x 0) (all_zero xs) h)))

-- a place of 32 bytes behind `n` places
pub free_place : (b : List ℕ) (n j : ℕ) → all_zero (drop (32 * n) b) ≡ true → n ≤ j → length (take 32 (drop (32 * j) b)) ≡ 32 → take 32 (drop (32 * j) b) ≡ replicate 32 0
free_place b n j h l k =
    let w : 32 * n + (32 * j - 32 * n) ≡ 32 * j = omega arith in
    zeros_are (take 32 (drop (32 * j) b)) (zeros_first b (32 * j) 32 (rw w at (zeros_behind b (32 * n) (32 * j - 32 * n) h)))
    ∙ ap (λ (m : ℕ). replicate m 0) k
