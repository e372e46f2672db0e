-- Names as words write them: docs/TEXT.md, "In a name".
use Rattle.std.specs.Prelude.{ℕ, ◌+◌, ◌-◌, ◌*◌, ◌%◌, ◌==◌, List, [], ◌∷◌, if◌then◌else◌, nat_le}

-- a hexadecimal digit's value; a byte that is none has one too
abbrev pub hex_value : ℕ → ℕ
hex_value c =
    if nat_le 97 c then (c - 97) % 6 + 10
    else (if nat_le 58 c then 0 else c - 48)

-- the bytes of the name that a word writes: `\` and two digits stand for a byte, and a `\` with fewer behind it for 0, the last
unfoldable pub unescaped : List ℕ → List ℕ
unescaped [] = []
unescaped (b ∷ []) = if b == 92 then 0 ∷ [] else b ∷ []
unescaped (b ∷ c ∷ []) = if b == 92 then 0 ∷ [] else b ∷ unescaped (c ∷ [])
unescaped (b ∷ high ∷ low ∷ rest) =
    if b == 92
    then (hex_value high * 16 + hex_value low) ∷ unescaped rest
    else b ∷ unescaped (high ∷ low ∷ rest)
