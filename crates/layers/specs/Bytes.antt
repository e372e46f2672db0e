-- Bytes in lent memory: parts, one run laid over another, and numbers stored little-endian. Assumes nothing.
use Rattle.std.specs.Prelude.{ℕ, zero, suc, ◌+◌, ◌*◌, ◌/◌, ◌%◌, ◌^◌, ◌<◌, List, [], ◌∷◌, ◌++◌, cond, ltb, leb, length, take, drop, get_or}

-- the lesser of two numbers
abbrev pub least : ℕ → ℕ → ℕ
least a b = cond (ltb a b) a b

-- the `n` bytes of `t` from `a` on
abbrev pub part : List ℕ → ℕ → ℕ → List ℕ
part t a n = take n (drop a t)

-- `b` laid over `t` at `a`
abbrev pub over : List ℕ → ℕ → List ℕ → List ℕ
over t a b = take a t ++ b ++ drop (a + length b) t

-- the number that bytes stand for, the lowest first
unfoldable pub le_of : List ℕ → ℕ
le_of [] = 0
le_of (b ∷ bs) = b + 256 * le_of bs

-- the same, the highest first
unfoldable pub be_of : List ℕ → ℕ
be_of [] = 0
be_of (b ∷ bs) = 256 ^ length bs * b + be_of bs

-- a number in `n` bytes, the lowest first; what does not fit is lost
unfoldable pub le_bytes : ℕ → ℕ → List ℕ
le_bytes zero x = []
le_bytes (suc n) x = x % 256 ∷ le_bytes n (x / 256)

-- the number in the `w` bytes from `a` on; one that does not lie in `t` reads as 0
unfoldable pub number_at : ℕ → List ℕ → ℕ → ℕ
number_at w t a = cond (leb (a + w) (length t)) (le_of (part t a w)) 0

-- `b` laid over `t` at `a`; one that does not fit changes nothing
unfoldable pub laid : List ℕ → ℕ → List ℕ → List ℕ
laid t a b = cond (leb (a + length b) (length t)) (over t a b) t

-- each element is a byte
unfoldable pub AllBytes : List ℕ → Type 0
AllBytes t = (i : ℕ) → get_or t i 0 < 256
