-- The lengths of the lent memory that a call takes. Assumes nothing.
use Rattle.std.specs.Prelude.{ℕ, Bool, true, false, cond, List, eqb, length}

-- "`state`: 12 + 52 * 256 = 13324 bytes."
abbrev pub state_fits : List ℕ → Bool
state_fits s = eqb (length s) 13324

-- "`upper`: 8192 bytes, or 0 bytes where there is no upper layer."
unfoldable pub upper_fits : List ℕ → Bool
upper_fits u = cond (eqb (length u) 0) true (eqb (length u) 8192)

-- "`lower`: the lower layers' tables one after another, topmost first: 0, 8192, 16384 or 24576 bytes."
unfoldable pub lower_fits : List ℕ → Bool
lower_fits l = cond (eqb (length l) 0) true (cond (eqb (length l) 8192) true (cond (eqb (length l) 16384) true (eqb (length l) 24576)))

-- "A call other than import given other lengths answers 22 before any other test and writes nothing"
unfoldable pub lengths_test : List ℕ → List ℕ → List ℕ → Bool
lengths_test s u l = cond (state_fits s) (cond (upper_fits u) (lower_fits l) false) false
