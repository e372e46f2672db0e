-- The count of a directory's children. Assumes nothing.
use Rattle.std.specs.Prelude.{ℕ, ◌+◌, ◌*◌, not, cond, List, [], ◌∷◌, length}
use Rattle.merge.specs.Nodes.{nodes_of}
use Rattle.merge.specs.State.{has_parent}
use Rattle.merge.specs.declared.node.Node.{Node}
use Rattle.calls.specs.Refusal.{Test, test, Outcome}
use Rattle.calls.specs.Lengths.{lengths_test}
use Rattle.calls.specs.Parents.{is_white, parent_tests, loaded_state, loading_call, live_children, white_children}
use Rattle.calls.specs.declared.refusal.Refusal.TheVariants.{Einval}

-- "live children + 65536 * whiteout children"
unfoldable pub child_counts : List Node → ℕ → ℕ
child_counts ns x = length (live_children ns x) + 65536 * length (white_children ns x)

-- what one node adds to the counts
unfoldable pub weight : ℕ → Node → ℕ
weight x n = cond (has_parent x n) (cond (is_white n) 65536 1) 0

-- "it refuses with 2, 20, load (23), in that order"
unfoldable pub count_before : List ℕ → List ℕ → List ℕ → ℕ → List Test
count_before u l s x = test (not (lengths_test s u l)) Einval ∷ parent_tests u l s x

-- "`count_entries_and_whiteout` gives live and whiteout children after loading"
abbrev pub count_spec : List ℕ → List ℕ → List ℕ → ℕ → Outcome
count_spec u l s x = loading_call u l s x (count_before u l s x) [] (loaded_state u l s x) (child_counts (nodes_of (loaded_state u l s x)) x)
