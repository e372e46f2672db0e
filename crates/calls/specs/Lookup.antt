-- Lookup. Assumes nothing.
use Rattle.std.specs.Prelude.{ℕ, Bool, not, List, [], ◌∷◌, Option, Result, is_some}
use Rattle.layers.specs.Names.{Name, malformed_name}
use Rattle.merge.specs.Nodes.{nodes_of, node_at}
use Rattle.merge.specs.Methods.{counted}
use Rattle.merge.specs.Seats.{seat_of, holder}
use Rattle.merge.specs.Changes.{put_bytes}
use Rattle.merge.specs.declared.node.Node.{Node}
use Rattle.calls.specs.Refusal.{Test, test, Outcome}
use Rattle.calls.specs.Lengths.{lengths_test}
use Rattle.calls.specs.Parents.{place_of, is_white, parent_tests, loaded_state, loading_call}
use Rattle.calls.specs.declared.refusal.Refusal.TheVariants.{Enoent, Einval}

-- the seat of the name `x` in the directory of number `p`, and where its node stands
abbrev pub seat_named : List ℕ → ℕ → Name → Result ℕ ℕ
seat_named s p x = seat_of (nodes_of s) p x

abbrev pub name_in : List ℕ → ℕ → Name → Option ℕ
name_in s p x = holder (seat_named s p x)

-- the place of the node that `p` has under the name `x`, and that node
abbrev pub place_named : List ℕ → ℕ → Name → ℕ
place_named s p x = place_of (nodes_of s) (name_in s p x)

abbrev pub child_named : List ℕ → ℕ → Name → Node
child_named s p x = node_at (nodes_of s) (place_named s p x)

-- `p` has no node of the name; a name of over 28 bytes no node has
abbrev pub absent : List ℕ → ℕ → Name → Bool
absent s p x = not (is_some (name_in s p x))

-- "22, 2 unknown or whiteout parent, 20"
unfoldable pub lookup_before : List ℕ → List ℕ → List ℕ → ℕ → Name → List Test
lookup_before u l s p x =
    test (not (lengths_test s u l)) Einval
    ∷ test (malformed_name x) Einval
    ∷ parent_tests u l s p

-- "2 absent or whiteout"
unfoldable pub name_tests : List ℕ → ℕ → Name → List Test
name_tests s p x =
    test (absent s p x) Enoent
    ∷ test (is_white (child_named s p x)) Enoent
    ∷ []

-- "Lookup of a live name adds 1 to its count."
unfoldable pub counted_state : List ℕ → ℕ → Name → List ℕ
counted_state s p x = put_bytes s (place_named s p x) (counted (child_named s p x))

-- "Lookup: 22, 2 unknown or whiteout parent, 20, load (23), 2 absent or whiteout."
abbrev pub lookup_spec : List ℕ → List ℕ → List ℕ → ℕ → Name → Outcome
lookup_spec u l s p x =
    loading_call u l s p (lookup_before u l s p x) (name_tests (loaded_state u l s p) p x)
    (counted_state (loaded_state u l s p) p x)
    (child_named (loaded_state u l s p) p x).number
