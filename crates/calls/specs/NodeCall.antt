-- A node's bytes, as a call. Assumes nothing.
use Rattle.std.specs.Prelude.{ℕ, ◌+◌, ◌*◌, not, cond, List, [], ◌∷◌, ltb, length, Result, Ok}
use Rattle.calls.specs.declared.refusal.Refusal.{Refusal}
use Rattle.layers.specs.Bytes.{part, over}
use Rattle.calls.specs.Refusal.{Test, test, after_tests, passed}
use Rattle.calls.specs.Lengths.{state_fits}
use Rattle.calls.specs.Parents.{unknown, place_numbered}
use Rattle.calls.specs.declared.refusal.Refusal.TheVariants.{Enoent, Einval}

-- "2 unknown, then 22 if `out` has under 52 bytes", behind the lengths
unfoldable pub node_tests : List ℕ → ℕ → List ℕ → List Test
node_tests s x out =
    test (not (state_fits s)) Einval
    ∷ test (unknown s x) Enoent
    ∷ test (ltb (length out) 52) Einval
    ∷ []

abbrev pub node_answer : List ℕ → ℕ → List ℕ → Result ℕ Refusal
node_answer s x out = after_tests (node_tests s x out) (Ok 0)

-- "else the node's 52 bytes stand in `out`, and what follows them, on a refusal all of `out`, is untouched"
unfoldable pub node_out : List ℕ → ℕ → List ℕ → List ℕ
node_out s x out = cond (passed (node_tests s x out)) (over out 0 (part s (12 + 52 * place_numbered s x) 52)) out
