-- A name with zeros behind it, and the entry that is made with it. Assumes nothing.
use mathlib.Core.Path.{◌≡◌, refl, sym, ap, ◌∙◌}
use Prim.Native.Nat.{ℕ, zero, suc, ◌+◌, ◌-◌, ◌≤◌}
use native.Mathlib.Omega.{arith}
use mathlib.Core.List.{List, ◌++◌}
use lib.ListN.{length, take, drop, get_or, replicate}
use lib.Seq.{take_at, get_or-drop, get_or-append-add}
use Rattle.layers.specs.Bytes.{laid}
use Rattle.layers.specs.Names.{Name}
use Rattle.layers.specs.Search.{name_of}
use Rattle.layers.specs.Change.{entry_naming}
use Rattle.layers.proofs.Numbers.{laid_in, length_laid}
use Rattle.layers.proofs.Least.{least_second}

-- ---- what follows is the same item all along

pub get_or_all : {A : Type 0} (n i : ℕ) (a : A) → get_or (replicate n a) i a ≡ a
get_or_all zero i a = refl
get_or_all (suc n) zero a = refl
get_or_all (suc n) (suc i) a = get_or_all n i a

-- past `xs` stands what follows it
pub get_d_past : {A : Type 0} (xs ys : List A) (i : ℕ) (d : A) → length xs ≤ i → get_or (xs ++ ys) i d ≡ get_or ys (i - length xs) d
get_d_past {A} xs ys i d h = let e : i ≡ length xs + (i - length xs) = omega arith in ap (λ (k : ℕ). get_or (xs ++ ys) k d) e ∙ get_or-append-add xs ys (i - length xs) d

-- ---- a name laid into 28 zeros

pub length_padded : (x : Name) → length (laid (replicate 28 0) 0 x) ≡ 28
length_padded x = length_laid (replicate 28 0) 0 x

module _ (x : Name) (h : length x ≤ 28) where
  name_laid : laid (replicate 28 0) 0 x ≡ x ++ drop (0 + length x) (replicate 28 0)
  name_laid = laid_in (replicate 28 0) 0 x (omega arith)

  pub name_back : take (length x) (laid (replicate 28 0) 0 x) ≡ x
  name_back = ap (λ (y : List ℕ). take (length x) y) name_laid ∙ take_at x (drop (0 + length x) (replicate 28 0)) (length x) refl

  pub name_past : (i : ℕ) → length x ≤ i → get_or (laid (replicate 28 0) 0 x) i 0 ≡ 0
  name_past i l =
      ap (λ (y : List ℕ). get_or y i 0) name_laid
      ∙ (get_d_past x (drop (0 + length x) (replicate 28 0)) i 0 l ∙ (get_or-drop (0 + length x) (replicate 28 0) (i - length x) 0 ∙ get_or_all 28 (0 + length x + (i - length x)) 0))

-- ---- the entry

module _ (d : ℕ) (x : Name) (c : ℕ) where
  pub naming_name : length (entry_naming d x c).name ≡ 28
  unfolding entry_naming
  naming_name = length_padded x

  -- it has the name, where that fits
  pub naming_named : length x ≤ 28 → name_of (entry_naming d x c) ≡ x
  unfolding entry_naming
  naming_named h = ap (λ (n : ℕ). take n (laid (replicate 28 0) 0 x)) (sym (least_second 28 (length x) h)) ∙ name_back x h
