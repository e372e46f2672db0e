-- What every node that a call leaves is like. Assumes nothing.
use Rattle.std.specs.Prelude.{◌≡◌, ℕ, ◌≤◌, get_or}
use Rattle.merge.specs.declared.node.Node.{Node}
use Rattle.merge.specs.Nodes.{no_pair, FitsNode}

pub record Tidy (n : Node) : Type 0 where
  -- its numbers fit their bytes, and its arrays are of their lengths
  pub fits : FitsNode n
  -- "Marks are 0 or 1."
  pub white_mark : n.white ≤ 1
  pub loaded_mark : n.loaded ≤ 1
  -- "a stack of 4 places with a length"
  pub depth_fits : n.depth ≤ 4
  -- "name (28)"
  pub length_fits : n.length ≤ 28
  -- "What a node does not use (stack places past the length, name bytes past the length) is zero"
  pub stack_unused : (i : ℕ) → n.depth ≤ i → get_or n.stack i no_pair ≡ no_pair
  pub name_unused : (i : ℕ) → n.length ≤ i → get_or n.name i 0 ≡ 0
