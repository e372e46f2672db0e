-- Forget, as a call. Assumes nothing.
use Rattle.std.specs.Prelude.{ℕ, cond, List}
use Rattle.merge.specs.Forget.{forget_spec}
use Rattle.calls.specs.Lengths.{state_fits}

-- "A call other than import given other lengths .. writes nothing; forget then does nothing."
unfoldable pub forget_call : List ℕ → ℕ → ℕ → List ℕ
forget_call s x m = cond (state_fits s) (forget_spec s x m) s
