-- The tests of a call that writes, from what the code's tests showed. Assumes nothing.
use Rattle.std.specs.Prelude.{Result, Err}
use mathlib.Core.Path.{◌≡◌, refl, sym, ◌∙◌}
use Prim.Native.Nat.{ℕ, ◌≤◌, ◌<◌}
use mathlib.Core.Bool.{Bool, true, false, not, cond}
use mathlib.Core.List.{List, ◌∷◌, ◌++◌}
use lib.Dec.{eqb, ltb}
use borrow.Author.Tests.{eqb-true, not-false, lt-ltb, le-ltb}
use Rattle.calls.specs.Refusal.{Test, test, after_tests, passed}
use Rattle.calls.specs.declared.refusal.Refusal.{Refusal}
use Rattle.calls.proofs.TestLaws.{false_true, passed_append}

module _ (r : Refusal) (ts : List Test) (a : Result ℕ Refusal) where
  -- a test that holds where it should
  module _ (b t : Bool) (q : b ≡ t) where
    pub fails_no : b ≡ false → Err r ≡ after_tests (test (not t) r ∷ ts) a
    unfolding after_tests
    fails_no h = rw (← q, h) refl

    pub passes_yes : (z : Result ℕ Refusal) → b ≡ true → z ≡ after_tests ts a → z ≡ after_tests (test (not t) r ∷ ts) a
    unfolding after_tests
    passes_yes z h e = rw (← q, h) e

    -- two that are one test
    module _ (c : Bool) where
      pub fails_first : b ≡ true → Err r ≡ after_tests (test (cond t true c) r ∷ ts) a
      unfolding after_tests
      fails_first h = rw (← q, h) refl

      pub fails_second : b ≡ false → c ≡ true → Err r ≡ after_tests (test (cond t true c) r ∷ ts) a
      unfolding after_tests
      fails_second h g = rw (← q, h, g) refl

      pub passes_both : (z : Result ℕ Refusal) → b ≡ false → c ≡ false → z ≡ after_tests ts a → z ≡ after_tests (test (cond t true c) r ∷ ts) a
      unfolding after_tests
      passes_both z h g e = rw (← q, h, g) e

  -- two numbers
  module _ (m n : ℕ) where
    pub fails_lt : m < n → Err r ≡ after_tests (test (ltb m n) r ∷ ts) a
    unfolding after_tests
    fails_lt h = rw (lt-ltb m n h) refl

    pub passes_ge : (z : Result ℕ Refusal) → n ≤ m → z ≡ after_tests ts a → z ≡ after_tests (test (ltb m n) r ∷ ts) a
    unfolding after_tests
    passes_ge z h e = rw (le-ltb m n h) e

pub ruleset more_tests = (fails_no, passes_yes, fails_first, fails_second, passes_both, fails_lt, passes_ge)

-- ---- a test in the midst of those that did not fail
pub passed_at : (ts us : List Test) (t : Test) → passed (ts ++ (t ∷ us)) ≡ true → t.fails ≡ false
unfolding passed
passed_at ts us t h = go (passed ts) t.fails (sym (passed_append ts (t ∷ us)) ∙ h)
  where
    go : (a b : Bool) → cond a (cond b false (passed us)) false ≡ true → b ≡ false
    go true true e = absurd (false_true e)
    go true false e = refl
    go false b e = absurd (false_true e)

pub not_fails : (m n : ℕ) → not (eqb m n) ≡ false → m ≡ n
not_fails m n h = eqb-true m n (not-false (eqb m n) h)
