-- The order of names is one: of two names one comes first, and what comes before the earlier comes before the later. Assumes nothing.
use mathlib.Core.Path.{◌≡◌, refl, sym, ap₂, ◌∙◌}
use Rattle.std.specs.declared.cmp.Ordering.{Ordering}
use Rattle.std.specs.declared.cmp.Ordering.TheVariants.{Less, Equal, Greater}
use mathlib.Core.Logic.{◌⊎◌, inl, inr, ⊎_elim}
use Prim.Native.Nat.{ℕ, suc, ◌+◌, ◌≤◌, ◌<◌, min}
use native.Mathlib.Omega.{arith}
use native.Mathlib.Numerals.{add-one}
use mathlib.Core.Bool.{Bool, true, false}
use mathlib.Core.List.{[], ◌∷◌}
use lib.Dec.{ltb}
use lib.ListN.{length, drop, get_or, drop_of_length-le}
use lib.Seq.{drop-cons}
use borrow.Author.Tests.{eq-eqb, ne_eqb, lt-ltb, le-ltb, ltb-true, ltb-false}
use Rattle.std.specs.Ordering.{nat_cmp}
use Rattle.std.specs.Cmp.Lexicographic.{slice_cmp}
use Rattle.layers.specs.Names.{Name, order_of}

pub before_lt : (x y : ℕ) (xs ys : Name) → x < y → order_of (x ∷ xs) (y ∷ ys) ≡ Less
unfolding order_of
before_lt x y xs ys h = rw (lt-ltb x y h) refl

pub order_eq : (x y : ℕ) (xs ys : Name) → x ≡ y → order_of (x ∷ xs) (y ∷ ys) ≡ order_of xs ys
unfolding order_of
order_eq x y xs ys h = rw (le-ltb x y (omega arith), le-ltb y x (omega arith)) refl

pub after_gt : (x y : ℕ) (xs ys : Name) → y < x → order_of (x ∷ xs) (y ∷ ys) ≡ Greater
unfolding order_of
after_gt x y xs ys h = rw (le-ltb x y (omega arith), lt-ltb y x h) refl

clash : {P : Type 0} → Less ≡ Greater → P
clash e = absurd (let z : ◌≡◌ {A = ℕ} 0 1 = cc in omega arith)

-- less, equal or more
module _ {Q : Type 0} (x y : ℕ) where
  pub three : (x < y → Q) → (x ≡ y → Q) → (y < x → Q) → Q
  three l e g = go (ltb x y) refl (ltb y x) refl
    where
      go : (a : Bool) → ltb x y ≡ a → (b : Bool) → ltb y x ≡ b → Q
      go true p b q = l (ltb-true x y p)
      go false p true q = g (ltb-true y x q)
      go false p false q = let u : y ≤ x = ltb-false x y p in let v : x ≤ y = ltb-false y x q in e (omega arith)

-- in the words of std
pub order_as : (a b : Name) → slice_cmp nat_cmp a b ≡ order_of a b
unfolding order_of
order_as [] [] = refl
order_as [] (y ∷ ys) = refl
order_as (x ∷ xs) [] = refl
order_as (x ∷ xs) (y ∷ ys) =
    three x y
    (λ l. rw (lt-ltb x y l) refl)
    (λ e. rw (le-ltb x y (omega arith), le-ltb y x (omega arith), eq-eqb x y e) (order_as xs ys))
    (λ g. rw (le-ltb x y (omega arith), lt-ltb y x g, ne_eqb x y (λ e. omega arith)) refl)

-- ---- two names that are alike before byte `i`

byte_decides : (x y : ℕ) (xs ys : Name) → (x ≡ y → ⊥) → nat_cmp x y ≡ order_of (x ∷ xs) (y ∷ ys)
unfolding order_of
byte_decides x y xs ys d =
    three x y
    (λ l. rw (lt-ltb x y l) refl)
    (λ e. absurd (d e))
    (λ g. rw (le-ltb x y (omega arith), lt-ltb y x g, ne_eqb x y d) refl)

module _ (a b : Name) (i : ℕ) where
  byte_step : i < length a → i < length b → order_of (drop i a) (drop i b) ≡ order_of (get_or a i 0 ∷ drop (suc i) a) (get_or b i 0 ∷ drop (suc i) b)
  byte_step m n = rw (drop-cons a i 0 m, drop-cons b i 0 n) refl

  pub order_next : i < length a → i < length b → get_or a i 0 ≡ get_or b i 0 → order_of (drop i a) (drop i b) ≡ order_of a b → order_of (drop (i + 1) a) (drop (i + 1) b) ≡ order_of a b
  order_next m n e h = rw (add-one i) (sym (order_eq (get_or a i 0) (get_or b i 0) (drop (suc i) a) (drop (suc i) b) e) ∙ (sym (byte_step m n) ∙ h))

  pub order_differs : (o : Ordering) → i < length a → i < length b → (get_or a i 0 ≡ get_or b i 0 → ⊥) → o ≡ nat_cmp (get_or a i 0) (get_or b i 0) → order_of (drop i a) (drop i b) ≡ order_of a b → o ≡ order_of a b
  order_differs o m n d c h = c ∙ (byte_decides (get_or a i 0) (get_or b i 0) (drop (suc i) a) (drop (suc i) b) d ∙ (sym (byte_step m n) ∙ h))

  -- one of them has ended
  lengths_decide : i ≡ min (length a) (length b) → nat_cmp (length a) (length b) ≡ order_of (drop i a) (drop i b)
  unfolding order_of
  lengths_decide e =
      three (length a) (length b)
      (λ l. rw (lt-ltb (length a) (length b) l, drop_of_length-le a {i = i} (omega arith), drop-cons b i 0 (omega arith)) refl)
      (λ s. rw (drop_of_length-le a {i = i} (omega arith), drop_of_length-le b {i = i} (omega arith), le-ltb (length a) (length b) (omega arith), eq-eqb (length a) (length b) s) refl)
      (λ g. rw (le-ltb (length a) (length b) (omega arith), ne_eqb (length a) (length b) (λ s. omega arith), drop-cons a i 0 (omega arith), drop_of_length-le b {i = i} (omega arith)) refl)

  pub order_ended : (o : Ordering) → i ≡ min (length a) (length b) → o ≡ nat_cmp (length a) (length b) → order_of (drop i a) (drop i b) ≡ order_of a b → o ≡ order_of a b
  order_ended o e c h = c ∙ (lengths_decide e ∙ h)

-- how the first bytes decide
pub before_cons : (x y : ℕ) (xs ys : Name) → order_of (x ∷ xs) (y ∷ ys) ≡ Less → (x < y) ⊎ ((x ≡ y) × (order_of xs ys ≡ Less))
before_cons x y xs ys h =
    three x y (λ l. inl l) (λ e. inr (e, sym (order_eq x y xs ys e) ∙ h)) (λ g. clash (sym h ∙ after_gt x y xs ys g))

pub before_trans : (x y z : Name) → order_of x y ≡ Less → order_of y z ≡ Less → order_of x z ≡ Less
unfolding order_of
before_trans [] [] z p q = q
before_trans [] (y ∷ ys) [] p q = clash (sym q)
before_trans [] (y ∷ ys) (z ∷ zs) p q = refl
before_trans (x ∷ xs) [] z p q = clash (sym p)
before_trans (x ∷ xs) (y ∷ ys) [] p q = clash (sym q)
before_trans (x ∷ xs) (y ∷ ys) (z ∷ zs) p q =
    ⊎_elim
    (λ l. ⊎_elim (λ m. before_lt x z xs zs (omega arith)) (λ m. let e : y ≡ z = m.0 in before_lt x z xs zs (omega arith)) (before_cons y z ys zs q))
    (λ l. let d : x ≡ y = l.0 in ⊎_elim (λ m. before_lt x z xs zs (omega arith)) (λ m. let e : y ≡ z = m.0 in order_eq x z xs zs (omega arith) ∙ before_trans xs ys zs l.1 m.1) (before_cons y z ys zs q))
    (before_cons x y xs ys p)

-- the other way round
pub after_before : (x y : Name) → order_of x y ≡ Greater → order_of y x ≡ Less
unfolding order_of
after_before [] [] p = absurd (let z : ◌≡◌ {A = ℕ} 0 1 = cc in omega arith)
after_before [] (y ∷ ys) p = clash p
after_before (x ∷ xs) [] p = refl
after_before (x ∷ xs) (y ∷ ys) p =
    three x y (λ l. clash (sym (before_lt x y xs ys l) ∙ p)) (λ e. order_eq y x ys xs (sym e) ∙ after_before xs ys (sym (order_eq x y xs ys e) ∙ p)) (λ g. before_lt y x ys xs g)

-- names in the same place are one
pub same_one : (x y : Name) → order_of x y ≡ Equal → x ≡ y
unfolding order_of
same_one [] [] p = refl
same_one [] (y ∷ ys) p = absurd (let z : ◌≡◌ {A = ℕ} 0 1 = cc in omega arith)
same_one (x ∷ xs) [] p = absurd (let z : ◌≡◌ {A = ℕ} 0 1 = cc in omega arith)
same_one (x ∷ xs) (y ∷ ys) p =
    three x y (λ l. absurd (let w : Less ≡ Equal = sym (before_lt x y xs ys l) ∙ p in let z : ◌≡◌ {A = ℕ} 0 1 = cc in omega arith)) (λ e. ap₂ ◌∷◌ e (same_one xs ys (sym (order_eq x y xs ys e) ∙ p))) (λ g. absurd (let w : Greater ≡ Equal = sym (after_gt x y xs ys g) ∙ p in let z : ◌≡◌ {A = ℕ} 0 1 = cc in omega arith))

-- and back
pub before_after : (x y : Name) → order_of x y ≡ Less → order_of y x ≡ Greater
unfolding order_of
before_after [] [] p = absurd (let z : ◌≡◌ {A = ℕ} 0 1 = cc in omega arith)
before_after [] (y ∷ ys) p = refl
before_after (x ∷ xs) [] p = clash (sym p)
before_after (x ∷ xs) (y ∷ ys) p =
    three x y (λ l. after_gt y x ys xs l) (λ e. order_eq y x ys xs (sym e) ∙ before_after xs ys (sym (order_eq x y xs ys e) ∙ p)) (λ g. clash (sym p ∙ after_gt x y xs ys g))

-- a name stands in its own place
pub same_self : (x : Name) → order_of x x ≡ Equal
unfolding order_of
same_self [] = refl
same_self (x ∷ xs) = order_eq x x xs xs refl ∙ same_self xs
