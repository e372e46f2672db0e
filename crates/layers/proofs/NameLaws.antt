-- Names compared byte by byte, and what the comparisons say. Assumes nothing.
use mathlib.Core.Path.{◌≡◌, refl, ap, ap₂, ◌∙◌}
use Prim.Native.Nat.{ℕ}
use native.Mathlib.Omega.{arith}
use mathlib.Core.Bool.{Bool, true, false, cond, ◌||◌, ◌&&◌}
use mathlib.Core.List.{[], ◌∷◌}
use lib.ListN.{length}
use lib.Dec.{eqb}
use borrow.Author.Tests.{eq-eqb, eqb-true}
use Rattle.layers.specs.Names.{Name, same_name, holds, malformed_name}
use Rattle.std.specs.List.{list_any}
use Rattle.std.specs.Cmp.Lexicographic.{pointwise}

pub same_true : (a b : Name) → same_name a b ≡ true → a ≡ b
unfolding same_name
same_true [] [] h = refl
same_true [] (y ∷ ys) h = absurd (let z : ◌≡◌ {A = ℕ} 0 1 = cc in omega arith)
same_true (x ∷ xs) [] h = absurd (let z : ◌≡◌ {A = ℕ} 0 1 = cc in omega arith)
same_true (x ∷ xs) (y ∷ ys) h = go (eqb x y) refl (same_true xs ys) h
  where
    go : (t : Bool) → eqb x y ≡ t → (same_name xs ys ≡ true → xs ≡ ys) → cond t (same_name xs ys) false ≡ true → x ∷ xs ≡ y ∷ ys
    go true e ih h = ap₂ ◌∷◌ (eqb-true x y e) (ih h)
    go false e ih h = absurd (let z : ◌≡◌ {A = ℕ} 0 1 = cc in omega arith)

pub same_refl : (a : Name) → same_name a a ≡ true
unfolding same_name
same_refl [] = refl
same_refl (x ∷ xs) = rw (eq-eqb x x refl) (same_refl xs)

-- names of two lengths are not the same
pub same_lengths : (a b : Name) → (length a ≡ length b → ⊥) → false ≡ same_name a b
same_lengths a b h = go (same_name a b) refl
  where
    go : (t : Bool) → same_name a b ≡ t → false ≡ t
    go true e = absurd (h (ap length (same_true a b e)))
    go false e = refl

-- ---- in the words of std

or_if : (p q : Bool) → (p || q) ≡ cond p true q
or_if true q = refl
or_if false q = refl

pub and_if : (p q : Bool) → (p && q) ≡ cond p q false
and_if true q = refl
and_if false q = refl

pub same_as : (a b : Name) → pointwise eqb a b ≡ same_name a b
unfolding same_name
same_as [] [] = refl
same_as [] (y ∷ ys) = refl
same_as (x ∷ xs) [] = refl
same_as (x ∷ xs) (y ∷ ys) = and_if (eqb x y) (pointwise eqb xs ys) ∙ ap (λ (t : Bool). cond (eqb x y) t false) (same_as xs ys)

pub same_bytes : (a b : Name) (r : Bool) → r ≡ pointwise eqb a b → r ≡ same_name a b
same_bytes a b r e = e ∙ same_as a b

holds_as : (b : ℕ) (x : Name) → list_any (λ y. eqb y b) x ≡ holds b x
unfolding holds
holds_as b [] = refl
holds_as b (x ∷ xs) = or_if (eqb x b) (list_any (λ y. eqb y b) xs) ∙ ap (λ (t : Bool). cond (eqb x b) true t) (holds_as b xs)

pub malformed_as : (x : Name) → malformed_name x ≡ cond (eqb (length x) 0) true (cond (list_any (λ y. eqb y 0) x) true (cond (list_any (λ y. eqb y 47) x) true (cond (same_name x (46 ∷ [])) true (same_name x (46 ∷ 46 ∷ [])))))
unfolding malformed_name
malformed_as x = rw (holds_as 0 x, holds_as 47 x) refl

-- a name that a callee answered
pub same_of : (r : Bool) (a b x : Name) → r ≡ same_name a x → a ≡ b → r ≡ same_name b x
same_of r a b x p q = p ∙ ap (λ (l : Name). same_name l x) q
