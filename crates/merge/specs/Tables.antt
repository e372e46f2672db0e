-- The layers' tables by number, and the entries' places over all of them. Assumes nothing.
use denote.Ref.{Bor}
use Rattle.std.specs.Prelude.{◌≡◌, Option, MatchOption, ℕ, ◌+◌, ◌*◌, ◌-◌, ◌/◌, ◌%◌, cond, List, [], eqb, ltb, length}
use Rattle.layers.specs.Bytes.{part}
use Rattle.layers.specs.Names.{Name}
use Rattle.layers.specs.Items.{entries_of, entry_at}
use Rattle.layers.specs.Search.{name_of}

-- "In stacks, layer 0 is the upper one and 1 to 3 are the lower ones in order."
-- "`upper`: 8192 bytes, or 0 bytes where there is no upper layer. `lower`: the lower layers' tables one after another, topmost first"
unfoldable pub table_of : List ℕ → List ℕ → ℕ → List ℕ
table_of u l k =
    cond (eqb k 0) (cond (eqb (length u) 8192) u [])
    (cond (ltb 3 k) [] (cond (ltb (length l) (8192 * (k - 1) + 8192)) [] (part l (8192 * (k - 1)) 8192)))

-- the table that these bytes are, or none where there are none
abbrev pub IsTable : List ℕ → Option (Bor (List ℕ)) → Type 0
IsTable b r = MatchOption r (b ≡ []) (λ t. (t.now ≡ b) × (length b ≡ 8192))

-- the name at place `q` of all layers: 128 places a layer
abbrev pub place_name : List ℕ → List ℕ → ℕ → Name
place_name u l q = name_of (entry_at (entries_of (table_of u l (q / 128))) (q % 128))
