-- The tests of a node that a call names by its number, and of the upper layer, one at a time. Assumes nothing.
use Rattle.std.specs.Prelude.{Option, Some, None, Result, Ok, Err, is_some}
use mathlib.Core.Path.{◌≡◌, refl, ap}
use Prim.Native.Nat.{ℕ}
use mathlib.Core.Bool.{Bool, true, false, not}
use mathlib.Core.List.{List, [], ◌∷◌}
use lib.ListN.{length}
use borrow.Author.Tests.{eq-eqb, ne_eqb}
use Rattle.merge.specs.Nodes.{nodes_of, node_at}
use Rattle.merge.specs.State.{find_number}
use Rattle.merge.specs.declared.node.Node.{Node}
use Rattle.calls.specs.Refusal.{Test, test, after_tests}
use Rattle.calls.specs.Parents.{place_of, place_numbered, numbered, unknown, is_white}
use Rattle.calls.specs.Writing.{has_upper}
use Rattle.calls.specs.declared.refusal.Refusal.{Refusal}

-- ---- "30 read-only no upper layer"
module _ (r : Refusal) (ts : List Test) (a : Result ℕ Refusal) (u : List ℕ) where
  pub upper_fails : (length u ≡ 8192 → ⊥) → Err r ≡ after_tests (test (not (has_upper u)) r ∷ ts) a
  unfolding after_tests
  upper_fails h = rw (ne_eqb (length u) 8192 h) refl

  pub upper_passes : (z : Result ℕ Refusal) → length u ≡ 8192 → z ≡ after_tests ts a → z ≡ after_tests (test (not (has_upper u)) r ∷ ts) a
  unfolding after_tests
  upper_passes z h e = rw (eq-eqb (length u) 8192 h) e

-- ---- "2 ENOENT node unknown or whiteout"
module _ (s : List ℕ) (x : ℕ) (f : Option ℕ) (f_is : f ≡ find_number (nodes_of s) x) where
  pub known_place : (k : ℕ) → f ≡ Some k → k ≡ place_numbered s x
  unfolding place_of
  known_place k h = rw (← f_is, h) refl

  module _ (r : Refusal) (ts : List Test) (a : Result ℕ Refusal) where
    pub known_fails : f ≡ None → Err r ≡ after_tests (test (unknown s x) r ∷ ts) a
    unfolding after_tests
    known_fails h = rw (← f_is, h) refl

    module _ (k : ℕ) (h : f ≡ Some k) where
      pub known_passes : (z : Result ℕ Refusal) → z ≡ after_tests ts a → z ≡ after_tests (test (unknown s x) r ∷ ts) a
      unfolding after_tests
      known_passes z e = rw (← f_is, h) e

      module _ (n : Node) (n_is : n ≡ node_at (nodes_of s) k) (w : Bool) (w_is : w ≡ is_white n) where
        pub live_fails : w ≡ true → Err r ≡ after_tests (test (is_white (numbered s x)) r ∷ ts) a
        unfolding after_tests place_of
        live_fails g = rw (← f_is, h, ← n_is, ← w_is, g) refl

        pub live_passes : (z : Result ℕ Refusal) → w ≡ false → z ≡ after_tests ts a → z ≡ after_tests (test (is_white (numbered s x)) r ∷ ts) a
        unfolding after_tests place_of
        live_passes z g e = rw (← f_is, h, ← n_is, ← w_is, g) e

-- the place stands where no test is left
pub place_stands : (s : List ℕ) (x : ℕ) (f : Option ℕ) → f ≡ find_number (nodes_of s) x → (k : ℕ) → f ≡ Some k → Ok k ≡ after_tests [] (Ok (place_numbered s x))
unfolding after_tests
place_stands s x f f_is k h = ap Ok (known_place s x f f_is k h)

pub ruleset number_tests = (upper_fails, upper_passes, known_fails, known_passes, live_fails, live_passes, place_stands)
