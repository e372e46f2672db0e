-- How many items pass a test, and which. Assumes nothing.
use mathlib.Core.Path.{◌≡◌, refl, sym, ap, ◌∙◌}
use Prim.Native.Nat.{ℕ, zero, suc, ◌+◌, ◌≤◌, ◌<◌}
use native.Mathlib.Nat.{add-zero, add_assoc}
use native.Mathlib.Numerals.{add-one}
use native.Mathlib.Omega.{arith}
use mathlib.Core.Bool.{Bool, true, false}
use mathlib.Core.List.{List, [], ◌∷◌}
use lib.ListN.{length, drop, get_or, drop_of_length-le}
use lib.Seq.{drop-cons}
use mir.Val.{bool_byte}
use Rattle.layers.specs.Search.{one, count_if}
use Rattle.layers.proofs.EveryLaws.{no_true}

-- what lies past the list does not pass
module _ {A : Type 0} (p : A → Bool) (d : A) (past : p d ≡ false) where
  pub count_none : (xs : List A) (i : ℕ) → count_if p xs ≡ 0 → p (get_or xs i d) ≡ false
  unfolding count_if one
  count_none [] i h = past
  count_none (x ∷ xs) i h = go (p x) refl i h (count_none xs)
    where
      go : (b : Bool) → p x ≡ b → (i : ℕ) → one b + count_if p xs ≡ 0 → ((i : ℕ) → count_if p xs ≡ 0 → p (get_or xs i d) ≡ false) → p (get_or (x ∷ xs) i d) ≡ false
      go true e i h ih = absurd (omega arith)
      go false e zero h ih = e
      go false e (suc i) h ih = ih i (omega arith)

  pub none_count : (xs : List A) → ((i : ℕ) → p (get_or xs i d) ≡ false) → count_if p xs ≡ 0
  unfolding count_if one
  none_count [] h = refl
  none_count (x ∷ xs) h = rw (h 0, none_count xs (λ i. h (suc i))) refl

  -- where one passes, no other does
  pub count_one : (xs : List A) (i j : ℕ) → count_if p xs ≡ 1 → p (get_or xs i d) ≡ true → p (get_or xs j d) ≡ true → i ≡ j
  unfolding count_if one
  count_one [] i j h a b = absurd (omega arith)
  count_one (x ∷ xs) i j h a b = go (p x) refl i j h a b (count_one xs)
    where
      go : (t : Bool) → p x ≡ t → (i j : ℕ) → one t + count_if p xs ≡ 1 → p (get_or (x ∷ xs) i d) ≡ true → p (get_or (x ∷ xs) j d) ≡ true
          → ((i j : ℕ) → count_if p xs ≡ 1 → p (get_or xs i d) ≡ true → p (get_or xs j d) ≡ true → i ≡ j) → i ≡ j
      go true e zero zero h a b ih = refl
      go true e zero (suc j) h a b ih = no_true (sym (count_none xs j (omega arith)) ∙ b)
      go true e (suc i) j h a b ih = no_true (sym (count_none xs i (omega arith)) ∙ a)
      go false e zero j h a b ih = no_true (sym e ∙ a)
      go false e (suc i) zero h a b ih = no_true (sym e ∙ b)
      go false e (suc i) (suc j) h a b ih = ap suc (ih i j (omega arith) a b)

  pub one_count : (xs : List A) (i : ℕ) → p (get_or xs i d) ≡ true → ((j : ℕ) → p (get_or xs j d) ≡ true → j ≡ i) → count_if p xs ≡ 1
  unfolding count_if one
  one_count [] i h o = no_true (sym past ∙ h)
  one_count (x ∷ xs) i h o = go (p x) refl i h o (one_count xs)
    where
      other : (b : Bool) (j : ℕ) → p (get_or xs j d) ≡ b → (p (get_or xs j d) ≡ true → ⊥) → p (get_or xs j d) ≡ false
      other true j e n = absurd (n e)
      other false j e n = e

      go : (b : Bool) → p x ≡ b → (i : ℕ) → p (get_or (x ∷ xs) i d) ≡ true → ((j : ℕ) → p (get_or (x ∷ xs) j d) ≡ true → j ≡ i)
          → ((i : ℕ) → p (get_or xs i d) ≡ true → ((j : ℕ) → p (get_or xs j d) ≡ true → j ≡ i) → count_if p xs ≡ 1) → one b + count_if p xs ≡ 1
      go true e zero h o ih = rw (none_count xs (λ j. other (p (get_or xs j d)) j refl (λ t. let z : suc j ≡ 0 = o (suc j) t in omega arith))) refl
      go true e (suc i) h o ih = absurd (let z : 0 ≡ suc i = o 0 e in omega arith)
      go false e zero h o ih = no_true (sym e ∙ h)
      go false e (suc i) h o ih = rw (ih i h (λ j t. let z : suc j ≡ suc i = o (suc j) t in omega arith)) refl

  pub some_count : (xs : List A) (i : ℕ) → p (get_or xs i d) ≡ true → 0 < count_if p xs
  some_count xs i h = go (count_if p xs) refl
    where
      go : (n : ℕ) → count_if p xs ≡ n → 0 < n
      go zero e = no_true (sym (count_none xs i e) ∙ h)
      go (suc n) e = omega arith

-- where the count is not 0, one passes
pub count_some : {A : Type 0} (p : A → Bool) (d : A) (xs : List A) → 0 < count_if p xs → (i : ℕ) × (p (get_or xs i d) ≡ true)
unfolding count_if one
count_some p d [] h = absurd (omega arith)
count_some p d (x ∷ xs) h = go (p x) refl h (count_some p d xs)
  where
    go : (b : Bool) → p x ≡ b → 0 < one b + count_if p xs → (0 < count_if p xs → (i : ℕ) × (p (get_or xs i d) ≡ true)) → (i : ℕ) × (p (get_or (x ∷ xs) i d) ≡ true)
    go true e h ih = (0, e)
    go false e h ih = let t : (i : ℕ) × (p (get_or xs i d) ≡ true) = ih (omega arith) in (suc t.0, t.1)

pub count_below : {A : Type 0} (p : A → Bool) (xs : List A) → count_if p xs ≤ length xs
unfolding count_if one
count_below p [] = omega arith
count_below p (x ∷ xs) = go (p x) (count_below p xs)
  where
    go : (b : Bool) → count_if p xs ≤ length xs → one b + count_if p xs ≤ suc (length xs)
    go true h = omega arith
    go false h = omega arith

-- ---- how many pass, walked: `m` in all

one_at_most : (b : Bool) → one b ≤ 1
unfolding one
one_at_most true = omega arith
one_at_most false = omega arith

byte_is_one : (b : Bool) → bool_byte b ≡ one b
unfolding one
byte_is_one true = refl
byte_is_one false = refl

module _ (r : ℕ) (a b : Bool) (r_is : r ≡ bool_byte a) (a_is : a ≡ b) where
  pub counts_one : r ≡ one b
  counts_one = r_is ∙ (ap bool_byte a_is ∙ byte_is_one b)

  pub counts_at_most : r ≤ 1
  counts_at_most = rw counts_one (one_at_most b)

module _ {A : Type 0} (p : A → Bool) (xs : List A) (d : A) (i n m : ℕ) where
  pub count_next : (r k : ℕ) → r ≡ one (p (get_or xs i d)) → length xs ≡ k → i < k → n + count_if p (drop i xs) ≡ m → n + r + count_if p (drop (i + 1) xs) ≡ m
  unfolding count_if
  count_next r k e l h w =
      let s : count_if p (drop i xs) ≡ r + count_if p (drop (i + 1) xs) = rw (add-one i, drop-cons xs i d (omega arith), ← e) refl in
      add_assoc n r (count_if p (drop (i + 1) xs)) ∙ (ap (λ (z : ℕ). n + z) (sym s) ∙ w)

  pub count_end : (k : ℕ) → length xs ≡ k → k ≤ i → n + count_if p (drop i xs) ≡ m → n ≡ m
  unfolding count_if
  count_end k l h w = sym (add-zero n) ∙ (ap (λ (z : ℕ). n + z) (sym (rw (drop_of_length-le xs {i = i} (omega arith)) refl)) ∙ w)
