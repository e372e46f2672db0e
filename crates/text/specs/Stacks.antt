-- Stacks as they print.
use Rattle.std.specs.Prelude.{ℕ, List, ◌∷◌, ◌++◌, codes, decimal}
use Rattle.std.specs.List.{flat_map}
use Rattle.merge.specs.declared.stacks.Pair.{Pair}

-- a record as layer and number, a space before it
abbrev pub pair_text : Pair → List ℕ
pair_text p = 32 ∷ (decimal p.layer ++ 58 ∷ decimal p.number)

-- a stack, topmost first
abbrev pub stack_text : List Pair → List ℕ
stack_text ps = codes "stack" ++ flat_map pair_text ps
