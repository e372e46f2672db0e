-- Forget, over the state's bytes. Assumes nothing.
use Rattle.std.specs.Prelude.{cond, ℕ, List, leb, eqb, Option, Some, None}
use Rattle.merge.specs.Nodes.{nodes_of, node_at}
use Rattle.merge.specs.Methods.{with_loaded, forgotten, fallen}
use Rattle.merge.specs.State.{find_number, has_children}
use Rattle.merge.specs.Changes.{put_bytes, taken_bytes}

-- "the parent is then not loaded"
unfoldable pub unloaded_at : List ℕ → Option ℕ → List ℕ
unloaded_at s (Some k) = put_bytes s k (with_loaded (node_at (nodes_of s) k) 0)
unloaded_at s None = s

abbrev pub unloaded : List ℕ → ℕ → List ℕ
unloaded s p = unloaded_at s (find_number (nodes_of s) p)

-- "The count falls by the amount, or to 0 if the amount exceeds it. At 0 the node goes, with its name from the parent's table. Own: the parent is then not loaded; but a directory that has resident children stays, with count 0, and its parent keeps its mark."
unfoldable pub forgotten_at : List ℕ → ℕ → ℕ → Option ℕ → List ℕ
forgotten_at s x m None = s
forgotten_at s x m (Some k) =
    cond (eqb (fallen (node_at (nodes_of s) k).count m) 0)
    (cond (has_children (nodes_of s) x)
    (put_bytes s k (forgotten (node_at (nodes_of s) k) m))
    (unloaded (taken_bytes s k) (node_at (nodes_of s) k).parent))
    (put_bytes s k (forgotten (node_at (nodes_of s) k) m))

-- "Forget (`forget_one`): 0, the root and unknown numbers do nothing."
unfoldable pub forget_spec : List ℕ → ℕ → ℕ → List ℕ
forget_spec s x m = cond (leb x 1) s (forgotten_at s x m (find_number (nodes_of s) x))
