-- Numbers of 2, 4 and 8 bytes as std reads and writes them, and as specs/ does. Assumes nothing.
use Rattle.std.specs.Int.{w16, w32, w64, from_le_bytes, from_be_bytes, bytes_low_first}
use mathlib.Core.Path.{◌≡◌, refl, sym, ap, ◌∙◌}
use Prim.Native.Nat.{ℕ, zero, suc, ◌+◌, ◌/◌, ◌%◌, ◌^◌, ◌≤◌}
use native.Mathlib.Omega.{arith}
use native.Mathlib.Nat.{div-one, div-div-eq-div-mul, pow-suc}
use mathlib.Core.List.{List, [], ◌∷◌}
use lib.ListN.{length, take, drop, get_or}
use lib.Seq.{drop-cons}
use Rattle.layers.specs.Bytes.{le_of, be_of, le_bytes, AllBytes}
use Rattle.layers.proofs.Determined.{again}

-- `n` elements from place `k` on, one by one
abbrev pub each_from : ℕ → ℕ → List ℕ → List ℕ
each_from k zero t = []
each_from k (suc n) t = get_or t k 0 ∷ each_from (suc k) n t

pub front : (n k : ℕ) (t : List ℕ) → k + n ≤ length t → take n (drop k t) ≡ each_from k n t
front zero k t h = refl
front (suc n) k t h = rw (drop-cons t k 0 (omega arith)) (ap (λ (l : List ℕ). get_or t k 0 ∷ l) (front n (suc k) t (omega arith)))

module _ (t : List ℕ) (r : ℕ) where
  pub le_2 : 2 ≤ length t → r ≡ from_le_bytes w16 (each_from 0 2 t) → r ≡ le_of (take 2 t)
  unfolding le_of
  le_2 h e = rw (front 2 0 t h) (omega (arith, e))

  pub le_4 : 4 ≤ length t → r ≡ from_le_bytes w32 (each_from 0 4 t) → r ≡ le_of (take 4 t)
  unfolding le_of
  le_4 h e = rw (front 4 0 t h) (omega (arith, e))

  pub le_8 : 8 ≤ length t → r ≡ from_le_bytes w64 (each_from 0 8 t) → r ≡ le_of (take 8 t)
  unfolding le_of
  le_8 h e = rw (front 8 0 t h) (omega (arith, e))

  pub be_2 : 2 ≤ length t → r ≡ from_be_bytes w16 (each_from 0 2 t) → r ≡ be_of (take 2 t)
  unfolding be_of
  be_2 h e = rw (front 2 0 t h) (omega (arith, e))

  pub be_4 : 4 ≤ length t → r ≡ from_be_bytes w32 (each_from 0 4 t) → r ≡ be_of (take 4 t)
  unfolding be_of
  be_4 h e = rw (front 4 0 t h) (omega (arith, e))

  pub be_8 : 8 ≤ length t → r ≡ from_be_bytes w64 (each_from 0 8 t) → r ≡ be_of (take 8 t)
  unfolding be_of
  be_8 h e = rw (front 8 0 t h) (omega (arith, e))

-- the bytes from the `i`-th on
pub low_first : (n i x : ℕ) → bytes_low_first i n x ≡ le_bytes n (x / 256 ^ i)
unfolding le_bytes
low_first zero i x = refl
low_first (suc n) zero x = rw div-one (ap (λ (l : List ℕ). x % 256 ∷ l) (low_first n 1 x))
low_first (suc n) (suc i) x = ap (λ (l : List ℕ). x / 256 ^ suc i % 256 ∷ l) (low_first n (suc (suc i)) x ∙ ap (le_bytes n) (rw (pow-suc 256 (suc i)) (sym (div-div-eq-div-mul x (256 ^ suc i) 256))))

pub written : (n x : ℕ) → bytes_low_first 0 n x ≡ le_bytes n x
written n x = low_first n 0 x ∙ ap (le_bytes n) (div-one x)

-- a number's bytes, where it was read from them
pub read_again : (n x : ℕ) (t : List ℕ) → AllBytes t → n ≤ length t → x ≡ le_of (take n t) → bytes_low_first 0 n x ≡ each_from 0 n t
read_again n x t known h e = written n x ∙ (ap (le_bytes n) e ∙ (again t known 0 n (omega arith) ∙ front n 0 t (omega arith)))
