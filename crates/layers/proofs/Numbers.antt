-- Little-endian numbers: two widths side by side, and that reading and writing undo each other. Assumes nothing.
use mathlib.Core.Path.{◌≡◌, refl, sym, ap, ap₂, ◌∙◌}
use Prim.Native.Nat.{ℕ, zero, suc, ◌+◌, ◌*◌, ◌/◌, ◌%◌, ◌^◌, ◌-◌, ◌≤◌, ◌<◌}
use native.Mathlib.Omega.{arith}
use native.Mathlib.Nat.{pow-suc, pow-succ', mul_assoc, mod-mod, mod-lt, mul-add-mod_self_right, mul-add-div_right, div-eq_of_lt, one-le-pow, div-lt_iff_lt-mul, mod-add-div, zero-add, suc-add, div-one, div-div-eq-div-mul, add-mul-mod_self_left, add-mul-div_left, mod-eq_of_lt}
use mathlib.Core.List.{List, [], ◌∷◌, ◌++◌}
use lib.ListN.{length, take, drop}
use lib.Seq.{take-add, take-take, drop-drop}
use Rattle.layers.proofs.Runs.{length_over}
use lib.Arith.{mod-mul}
use Rattle.layers.specs.Bytes.{part, over, le_of, le_bytes, number_at, laid, AllBytes}
use borrow.Author.Tests.{le-leb, lt-leb, leb-true}
use mathlib.Core.Bool.{Bool, true, false, cond}
use lib.Dec.{leb}

-- the low bytes, then the high ones
pub le_append : (xs ys : List ℕ) → le_of (xs ++ ys) ≡ le_of xs + 256 ^ length xs * le_of ys
unfolding le_of
le_append [] ys = omega arith
le_append (x ∷ xs) ys =
    rw (le_append xs ys, pow-succ' 256 (length xs), mul_assoc 256 (256 ^ length xs) (le_of ys)) (omega arith)

-- a number of m + n bytes is its lower m and its upper n
pub le_part : (t : List ℕ) (a m n : ℕ) → length (part t a m) ≡ m → le_of (part t a (m + n)) ≡ le_of (part t a m) + 256 ^ m * le_of (part t (a + m) n)
le_part t a m n h =
    rw (take-add m n (drop a t), drop-drop m a t, le_append (take m (drop a t)) (take n (drop (a + m) t)), h) refl

-- what is lost above the width does not matter
pub le_low : (m x : ℕ) → le_bytes m (x % 256 ^ m) ≡ le_bytes m x
unfolding le_bytes
le_low zero x = refl
le_low (suc m) x =
    let e : x % 256 ^ suc m ≡ (x / 256 % 256 ^ m) * 256 + x % 256 = rw (pow-suc 256 m) (mod-mul x (one-le-pow m 256 (omega arith)) (omega arith)) in
    let lo : x % 256 ^ suc m % 256 ≡ x % 256 = rw e (mul-add-mod_self_right (x / 256 % 256 ^ m) 256 (x % 256) ∙ mod-mod x 256) in
    let hi : x % 256 ^ suc m / 256 ≡ x / 256 % 256 ^ m =
    rw e (mul-add-div_right {m = 256} (omega arith) (x / 256 % 256 ^ m) (x % 256) ∙ rw (div-eq_of_lt {n = x % 256} {m = 256} (mod-lt x (omega arith))) (omega arith)) in
    ap₂ ◌∷◌ lo (rw hi (le_low m (x / 256)))

-- a number in m + n bytes is its lower m and its upper n
pub le_split : (m n x : ℕ) → le_bytes (m + n) x ≡ le_bytes m x ++ le_bytes n (x / 256 ^ m)
unfolding le_bytes
le_split zero n x = rw (zero-add, div-one) refl
le_split (suc m) n x =
    rw (suc-add m n, pow-succ' 256 m, ← div-div-eq-div-mul x 256 (256 ^ m)) (ap (λ (l : List ℕ). x % 256 ∷ l) (le_split m n (x / 256)))

pub length_le : (n x : ℕ) → length (le_bytes n x) ≡ n
unfolding le_bytes
length_le zero x = refl
length_le (suc n) x = ap suc (length_le n (x / 256))

-- what was written is read
pub le_read : (n x : ℕ) → x < 256 ^ n → le_of (le_bytes n x) ≡ x
unfolding le_of le_bytes
le_read zero x h = omega arith
le_read (suc n) x h =
    rw (le_read n (x / 256) ((div-lt_iff_lt-mul {k = 256} (omega arith)).1 (rw (← pow-suc 256 n) h))) (mod-add-div x 256)

-- what was read is written
pub le_write : (bs : List ℕ) → AllBytes bs → le_bytes (length bs) (le_of bs) ≡ bs
unfolding le_of le_bytes AllBytes
le_write [] h = refl
le_write (b ∷ bs) h =
    let small : b < 256 = h 0 in
    let low : (b + 256 * le_of bs) % 256 ≡ b = add-mul-mod_self_left b 256 (le_of bs) ∙ mod-eq_of_lt small in
    let high : (b + 256 * le_of bs) / 256 ≡ le_of bs = add-mul-div_left b (le_of bs) {y = 256} (omega arith) ∙ rw (div-eq_of_lt small) (zero-add (le_of bs)) in
    ap₂ ◌∷◌ low (rw high (le_write bs (λ i. h (suc i))))

-- ---- as the code reads and writes them

module _ (w : ℕ) (t : List ℕ) (a : ℕ) where
  pub number_short : length t < w → 0 ≡ number_at w t a
  unfolding number_at
  number_short h = rw (lt-leb (a + w) (length t) (omega arith)) refl

  pub number_past : w ≤ length t → length t - w < a → 0 ≡ number_at w t a
  unfolding number_at
  number_past l h = rw (lt-leb (a + w) (length t) (omega arith)) refl

  pub number_in : a + w ≤ length t → number_at w t a ≡ le_of (part t a w)
  unfolding number_at
  number_in h = rw (le-leb (a + w) (length t) h) refl

  pub number_held : (r : ℕ) → a + w ≤ length t → r ≡ le_of (take w (take (length t - a) (drop a t))) → r ≡ number_at w t a
  number_held r l e = e ∙ (ap le_of (take-take w (length t - a) (drop a t) (omega arith)) ∙ sym (number_in l))

module _ (t : List ℕ) (a : ℕ) (b : List ℕ) where
  pub laid_short : length t < length b → t ≡ laid t a b
  unfolding laid
  laid_short h = rw (lt-leb (a + length b) (length t) (omega arith)) refl

  pub laid_past : length b ≤ length t → length t - length b < a → t ≡ laid t a b
  unfolding laid
  laid_past l h = rw (lt-leb (a + length b) (length t) (omega arith)) refl

  pub laid_in : a + length b ≤ length t → laid t a b ≡ over t a b
  unfolding laid
  laid_in h = rw (le-leb (a + length b) (length t) h) refl

  pub laid_over : (u : List ℕ) → length b ≤ length t → a ≤ length t - length b → u ≡ over t a b → u ≡ laid t a b
  laid_over u l h e = e ∙ sym (laid_in (omega arith))

  pub length_laid : length (laid t a b) ≡ length t
  unfolding laid
  length_laid = go (leb (a + length b) (length t)) refl
    where
      go : (c : Bool) → leb (a + length b) (length t) ≡ c → length (cond c (over t a b) t) ≡ length t
      go true e = length_over t a b (leb-true (a + length b) (length t) e)
      go false e = refl

pub ruleset laid_walk = (laid_short, laid_past, laid_over)

-- the bytes of a number that a callee answered
pub laid_bytes : (t u : List ℕ) (a : ℕ) (b c : List ℕ) → u ≡ laid t a b → b ≡ c → u ≡ laid t a c
laid_bytes t u a b c p q = p ∙ ap (laid t a) q
