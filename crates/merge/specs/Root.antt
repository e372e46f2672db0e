-- The state with the root alone, not loaded yet. Assumes nothing.
use Rattle.std.specs.Prelude.{false, ℕ, List, replicate}
use Rattle.merge.specs.Heads.{with_head}
use Rattle.merge.specs.Changes.{put_in_bytes}
use Rattle.merge.specs.Stacks.{stack_from}
use Rattle.merge.specs.Fresh.{root_stack}
use Rattle.merge.specs.declared.node.Node.{Node}
use Rattle.merge.specs.declared.stacks.Stack.{Stack}

-- "The root is 1, count 2."
unfoldable pub root_node : Stack → Node
root_node st = record { number = 1; parent = 0; count = 2; white = 0; loaded = 0; depth = st.length; length = 0; stack = st.pairs; name = replicate 28 0 }

-- the root put into a state of `k` zeros; "Other numbers rise from 2"
unfoldable pub root_state : ℕ → List ℕ → List ℕ → List ℕ
root_state k u l = put_in_bytes (with_head (replicate k 0) (record { next = 2; count = 0 })) (root_node (stack_from (root_stack u l) false))
