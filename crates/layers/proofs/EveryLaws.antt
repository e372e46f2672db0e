-- A test of every place: walked place by place, what it says of each, and tests joined. Assumes nothing.
use mathlib.Core.Path.{◌≡◌, refl, sym, ◌∙◌}
use Prim.Native.Nat.{ℕ, zero, suc, ◌+◌, ◌≤◌, ◌<◌}
use native.Mathlib.Omega.{arith}
use native.Mathlib.Nat.{add-zero, add-suc, suc-add, zero-add}
use mathlib.Core.Bool.{Bool, true, false, not, cond}
use mathlib.Core.List.{List, [], ◌∷◌}
use lib.Dec.{eqb, ltb, leb}
use lib.ListN.{length, get_or, get_or-eq_default}
use borrow.Author.Tests.{eq-eqb, eqb-true, eqb-false, ltb-true, ltb-false, le-leb, leb-true}
use Rattle.layers.specs.Rules.{Exactly, every}

pub no_true : {A : Type 0} → false ≡ true → A
no_true e = absurd (let z : ◌≡◌ {A = ℕ} 0 1 = cc in omega arith)

-- ---- what it says of each place

module _ {A : Type 0} (p : ℕ → A → Bool) (d : A) where
  every_from : (k : ℕ) (xs : List A) → every p k xs ≡ true → (i : ℕ) → i < length xs → p (k + i) (get_or xs i d) ≡ true
  unfolding every
  every_from k [] h i l = absurd (omega arith)
  every_from k (x ∷ xs) h zero l = rw (add-zero k) (go (p k x) h)
    where
      go : (b : Bool) → cond b (every p (suc k) xs) false ≡ true → b ≡ true
      go true e = refl
      go false e = e
  every_from k (x ∷ xs) h (suc i) l = rw (add-suc k i, ← suc-add k i) (every_from (suc k) xs (go (p k x) h) i (omega arith))
    where
      go : (b : Bool) → cond b (every p (suc k) xs) false ≡ true → every p (suc k) xs ≡ true
      go true e = e
      go false e = no_true e

  pub all_from : (k : ℕ) (xs : List A) → ((i : ℕ) → i < length xs → p (k + i) (get_or xs i d) ≡ true) → every p k xs ≡ true
  unfolding every
  all_from k [] h = refl
  all_from k (x ∷ xs) h =
      rw (rw (add-zero k) at (h 0 (omega arith)))
      (all_from (suc k) xs (λ i l. rw (suc-add k i, ← add-suc k i) (h (suc i) (omega arith))))

-- a rule for each place, used or not, where what lies past the list passes
module _ {A : Type 0} (p : ℕ → A → Bool) (d : A) (past : (i : ℕ) → p i d ≡ true) where
  pub everywhere : (xs : List A) → every p 0 xs ≡ true → (i : ℕ) → p i (get_or xs i d) ≡ true
  everywhere xs h i = go (ltb i (length xs)) refl
    where
      go : (b : Bool) → ltb i (length xs) ≡ b → p i (get_or xs i d) ≡ true
      go true l = rw (zero-add i) at (every_from p d 0 xs h i (ltb-true i (length xs) l))
      go false l = rw (get_or-eq_default xs d {n = i} (ltb-false i (length xs) l)) (past i)

  pub every_exactly : (xs : List A) → Exactly (every p 0 xs) ((i : ℕ) → p i (get_or xs i d) ≡ true)
  every_exactly xs = record { sound = everywhere xs; whole = λ h. all_from p d 0 xs (λ i l. rw (zero-add i) (h i)) }

  -- places that count from 1
  pub every_from_one : (xs : List A) → Exactly (every p 1 xs) ((i : ℕ) → p i (get_or (d ∷ xs) i d) ≡ true)
  unfolding every
  every_from_one xs =
      let e : every p 0 (d ∷ xs) ≡ every p 1 xs = rw (past 0) refl in
      record { sound = λ h. everywhere (d ∷ xs) (e ∙ h); whole = λ h. sym e ∙ (every_exactly (d ∷ xs)).whole h }

-- two tests at each place are both at each place
pub every_both : {A : Type 0} (p q : ℕ → A → Bool) (k : ℕ) (xs : List A) → every (λ i x. cond (p i x) (q i x) false) k xs ≡ cond (every p k xs) (every q k xs) false
unfolding every
every_both p q k [] = refl
every_both p q k (x ∷ xs) = go (p k x) (q k x) (every p (suc k) xs) (every q (suc k) xs) (every_both p q (suc k) xs)
  where
    go : (a b c d : Bool) {e : Bool} → e ≡ cond c d false → cond (cond a b false) e false ≡ cond (cond a c false) (cond b d false) false
    go true true c d h = h
    go true false true d h = refl
    go true false false d h = refl
    go false b c d h = refl

-- ---- tests that are exact

pub eqb_exactly : (a b : ℕ) → Exactly (eqb a b) (a ≡ b)
eqb_exactly a b = record { sound = eqb-true a b; whole = eq-eqb a b }

pub leb_exactly : (a b : ℕ) → Exactly (leb a b) (a ≤ b)
leb_exactly a b = record { sound = leb-true a b; whole = le-leb a b }

-- one test more, and one rule more, which may lean on the rules before it
pub both : {a b : Bool} {P Q : Type 0} → Exactly a P → (P → Exactly b Q) → Exactly (cond a b false) (P × Q)
both {a = true} x y = record { sound = λ h. (x.sound refl, (y (x.sound refl)).sound h); whole = λ h. (y h.0).whole h.1 }
both {a = false} x y = record { sound = no_true; whole = λ h. x.whole h.0 }

-- two tests exact for one rule are equal
pub same_tests : {a b : Bool} {P : Type 0} → Exactly a P → Exactly b P → a ≡ b
same_tests {a = true} {b = true} x y = refl
same_tests {a = true} {b = false} x y = sym (y.whole (x.sound refl))
same_tests {a = false} {b = true} x y = x.whole (y.sound refl)
same_tests {a = false} {b = false} x y = refl

-- the rule said otherwise
pub again : {a : Bool} {P Q : Type 0} → Exactly a P → (P → Q) → (Q → P) → Exactly a Q
again x f g = record { sound = λ h. f (x.sound h); whole = λ q. x.whole (g q) }

-- a rule that holds, and one that cannot
pub sure : {P : Type 0} → P → Exactly true P
sure p = record { sound = λ _. p; whole = λ _. refl }

pub never : {P : Type 0} → (P → ⊥) → Exactly false P
never n = record { sound = no_true; whole = λ p. absurd (n p) }

-- a test turned round
pub refuted : {a : Bool} {P : Type 0} → Exactly a P → Exactly (not a) (P → ⊥)
refuted {a = true} x = never (λ n. n (x.sound refl))
refuted {a = false} x = sure (λ p. no_true (x.whole p))

-- two numbers, equal or not
pub split : (n m : ℕ) {a b : Bool} {P : Type 0} → (n ≡ m → Exactly a P) → ((n ≡ m → ⊥) → Exactly b P) → Exactly (cond (eqb n m) a b) P
split n m {a} {b} {P} x y = go (eqb n m) refl
  where
    go : (t : Bool) → eqb n m ≡ t → Exactly (cond t a b) P
    go true e = x (eqb-true n m e)
    go false e = y (eqb-false n m e)

-- a test at each place, exact there
module _ {A : Type 0} (p : ℕ → A → Bool) (P : ℕ → A → Type 0) (d : A) (past : (i : ℕ) → p i d ≡ true) (xs : List A) where
  pub each : ((i : ℕ) → Exactly (p i (get_or xs i d)) (P i (get_or xs i d))) → Exactly (every p 0 xs) ((i : ℕ) → P i (get_or xs i d))
  each x = again (every_exactly p d past xs) (λ h i. (x i).sound (h i)) (λ h i. (x i).whole (h i))

  pub each_from_one : ((i : ℕ) → Exactly (p i (get_or (d ∷ xs) i d)) (P i (get_or (d ∷ xs) i d))) → Exactly (every p 1 xs) ((i : ℕ) → P i (get_or (d ∷ xs) i d))
  each_from_one x = again (every_from_one p d past xs) (λ h i. (x i).sound (h i)) (λ h i. (x i).whole (h i))
