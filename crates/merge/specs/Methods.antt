-- What a node's methods hand back. Assumes nothing.
use Rattle.std.specs.Prelude.{cond, ℕ, ◌+◌, ◌-◌, List, [], ◌∷◌, ltb, get_or}
use Rattle.merge.specs.declared.stacks.Pair.{Pair}
use Rattle.merge.specs.declared.node.Node.{Node}
use Rattle.merge.specs.Nodes.{no_pair}

-- ---- a node with one field changed

unfoldable pub with_number : Node → ℕ → Node
with_number n x = record { number = x; parent = n.parent; count = n.count; white = n.white; loaded = n.loaded; depth = n.depth; length = n.length; stack = n.stack; name = n.name }

unfoldable pub with_count : Node → ℕ → Node
with_count n x = record { number = n.number; parent = n.parent; count = x; white = n.white; loaded = n.loaded; depth = n.depth; length = n.length; stack = n.stack; name = n.name }

unfoldable pub with_white : Node → ℕ → Node
with_white n x = record { number = n.number; parent = n.parent; count = n.count; white = x; loaded = n.loaded; depth = n.depth; length = n.length; stack = n.stack; name = n.name }

unfoldable pub with_loaded : Node → ℕ → Node
with_loaded n x = record { number = n.number; parent = n.parent; count = n.count; white = n.white; loaded = x; depth = n.depth; length = n.length; stack = n.stack; name = n.name }

unfoldable pub with_stack : Node → List Pair → ℕ → Node
with_stack n ps d = record { number = n.number; parent = n.parent; count = n.count; white = n.white; loaded = n.loaded; depth = d; length = n.length; stack = ps; name = n.name }

-- ---- the methods

-- "The count falls by the amount, or to 0 if the amount exceeds it."
unfoldable pub fallen : ℕ → ℕ → ℕ
fallen c m = cond (ltb c m) 0 (c - m)

abbrev pub forgotten : Node → ℕ → Node
forgotten n m = with_count n (fallen n.count m)

-- "A lookup leaves a count at 4294967295 as it is"; else it "adds 1 to its count"
unfoldable pub risen : ℕ → ℕ
risen c = cond (ltb c 4294967295) (c + 1) c

abbrev pub counted : Node → Node
counted n = with_count n (risen n.count)

-- "put in front of the node's stack": the pairs move down, and a stack of 4 keeps its length
unfoldable pub deeper : ℕ → ℕ
deeper d = cond (ltb d 4) (d + 1) 4

unfoldable pub pushed : Pair → List Pair → List Pair
pushed p ps = p ∷ get_or ps 0 no_pair ∷ get_or ps 1 no_pair ∷ get_or ps 2 no_pair ∷ []

abbrev pub topped : Node → Pair → Node
topped n p = with_stack n (pushed p n.stack) (deeper n.depth)

-- "its stack becomes that record alone"
abbrev pub only_pair : Pair → List Pair
only_pair p = p ∷ no_pair ∷ no_pair ∷ no_pair ∷ []

abbrev pub alone : Node → Pair → Node
alone n p = with_stack n (only_pair p) 1
