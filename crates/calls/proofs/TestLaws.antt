-- Lists of tests: what came through them, and what did not. Assumes nothing.
use Rattle.std.specs.Prelude.{Result, Ok, Err}
use mathlib.Core.Path.{◌≡◌, refl, sym, ap, ◌∙◌}
use Prim.Native.Nat.{ℕ}
use native.Mathlib.Omega.{arith}
use mathlib.Core.Bool.{Bool, true, false, not, cond}
use mathlib.Core.List.{List, [], ◌∷◌, ◌++◌}
use Rattle.calls.specs.Refusal.{Test, test, after_tests, passed}
use Rattle.calls.specs.declared.refusal.Refusal.{Refusal}

pub false_true : false ≡ true → ⊥
false_true e = let z : ◌≡◌ {A = ℕ} 0 1 = cc in omega arith

refused_fine : (r : Refusal) (k : ℕ) → Err r ≡ Ok k → ⊥
refused_fine r k e = let z : ◌≡◌ {A = ℕ} 0 1 = cc in omega arith

pub after_append : (ts us : List Test) (a : Result ℕ Refusal) → after_tests (ts ++ us) a ≡ after_tests ts (after_tests us a)
unfolding after_tests
after_append [] us a = refl
after_append (t ∷ ts) us a = ap (λ (b : Result ℕ Refusal). cond t.fails (Err t.gives) b) (after_append ts us a)

pub passed_append : (ts us : List Test) → passed (ts ++ us) ≡ cond (passed ts) (passed us) false
unfolding passed
passed_append [] us = refl
passed_append (t ∷ ts) us = go t.fails (passed_append ts us)
  where
    go : (b : Bool) → passed (ts ++ us) ≡ cond (passed ts) (passed us) false → cond b false (passed (ts ++ us)) ≡ cond (cond b false (passed ts)) (passed us) false
    go true e = refl
    go false e = e

-- where no test fails the answer stands
pub after_passed : (ts : List Test) (a : Result ℕ Refusal) → passed ts ≡ true → after_tests ts a ≡ a
unfolding after_tests passed
after_passed [] a h = refl
after_passed (t ∷ ts) a h = go t.fails h (after_passed ts a)
  where
    go : (b : Bool) → cond b false (passed ts) ≡ true → (passed ts ≡ true → after_tests ts a ≡ a) → cond b (Err t.gives) (after_tests ts a) ≡ a
    go true e ih = absurd (false_true e)
    go false e ih = ih e

-- where one fails it does not matter which answer would have stood
pub after_failed : (ts : List Test) (a b : Result ℕ Refusal) → passed ts ≡ false → after_tests ts a ≡ after_tests ts b
unfolding after_tests passed
after_failed [] a b h = absurd (false_true (sym h))
after_failed (t ∷ ts) a b h = go t.fails h (after_failed ts a b)
  where
    go : (c : Bool) → cond c false (passed ts) ≡ false → (passed ts ≡ false → after_tests ts a ≡ after_tests ts b) → cond c (Err t.gives) (after_tests ts a) ≡ cond c (Err t.gives) (after_tests ts b)
    go true e ih = refl
    go false e ih = ih e

pub fine_passed : (ts : List Test) (a : Result ℕ Refusal) (k : ℕ) → after_tests ts a ≡ Ok k → passed ts ≡ true
unfolding after_tests passed
fine_passed [] a k h = refl
fine_passed (t ∷ ts) a k h = go t.fails h (fine_passed ts a k)
  where
    go : (b : Bool) → cond b (Err t.gives) (after_tests ts a) ≡ Ok k → (after_tests ts a ≡ Ok k → passed ts ≡ true) → cond b false (passed ts) ≡ true
    go true e ih = absurd (refused_fine t.gives k e)
    go false e ih = ih e

pub refused_failed : (ts : List Test) (v : ℕ) (r : Refusal) → after_tests ts (Ok v) ≡ Err r → passed ts ≡ false
unfolding after_tests passed
refused_failed [] v r h = absurd (refused_fine r v (sym h))
refused_failed (t ∷ ts) v r h = go t.fails h (refused_failed ts v r)
  where
    go : (b : Bool) → cond b (Err t.gives) (after_tests ts (Ok v)) ≡ Err r → (after_tests ts (Ok v) ≡ Err r → passed ts ≡ false) → cond b false (passed ts) ≡ false
    go true e ih = refl
    go false e ih = ih e

-- ---- one test, as a callee answered it
module _ (r : Refusal) (ts : List Test) (a : Result ℕ Refusal) (b t : Bool) (q : b ≡ t) where
  pub fails : b ≡ true → Err r ≡ after_tests (test t r ∷ ts) a
  unfolding after_tests
  fails h = rw (← q, h) refl

  pub fails_not : not b ≡ true → Err r ≡ after_tests (test (not t) r ∷ ts) a
  unfolding after_tests
  fails_not h = rw (← q, h) refl

  module _ (z : Result ℕ Refusal) where
    pub passes : b ≡ false → z ≡ after_tests ts a → z ≡ after_tests (test t r ∷ ts) a
    unfolding after_tests
    passes h e = rw (← q, h) e

    pub passes_not : not b ≡ false → z ≡ after_tests ts a → z ≡ after_tests (test (not t) r ∷ ts) a
    unfolding after_tests
    passes_not h e = rw (← q, h) e

pub stands : (a : Result ℕ Refusal) → a ≡ after_tests [] a
unfolding after_tests
stands a = refl

pub ruleset tests = (stands, fails, fails_not, passes, passes_not)

-- ---- an answer that a callee gave after the tests `ts`, with more tests behind them
module _ (ts us : List Test) (f w : Result ℕ Refusal) (v : ℕ) (q : f ≡ after_tests ts (Ok v)) where
  pub stops : (r : Refusal) → f ≡ Err r → f ≡ after_tests (ts ++ us) w
  stops r h = q ∙ (after_failed ts (Ok v) (after_tests us w) (refused_failed ts v r (sym q ∙ h)) ∙ sym (after_append ts us w))

  pub goes_on : (k : ℕ) (z : Result ℕ Refusal) → f ≡ Ok k → z ≡ after_tests us w → z ≡ after_tests (ts ++ us) w
  goes_on k z h e = e ∙ sym (after_append ts us w ∙ after_passed ts (after_tests us w) (fine_passed ts (Ok v) k (sym q ∙ h)))

  -- the value that stands
  pub fine_value : (k : ℕ) → f ≡ Ok k → k ≡ v
  fine_value k h = let e : Ok k ≡ Ok v = sym h ∙ (q ∙ after_passed ts (Ok v) (fine_passed ts (Ok v) k (sym q ∙ h))) in cc

-- what is left where a test failed, and where none did
module _ {A : Type 0} (ts : List Test) (f : Result ℕ Refusal) (v : ℕ) (q : f ≡ after_tests ts (Ok v)) (z x y : A) where
  pub left_refused : (r : Refusal) → f ≡ Err r → z ≡ y → z ≡ cond (passed ts) x y
  left_refused r h e = rw (refused_failed ts v r (sym q ∙ h)) e

  pub left_fine : (k : ℕ) → f ≡ Ok k → z ≡ x → z ≡ cond (passed ts) x y
  left_fine k h e = rw (fine_passed ts (Ok v) k (sym q ∙ h)) e
