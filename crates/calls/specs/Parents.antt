-- The node that a call names by its number: known, whiteout, a directory; and its load. Assumes nothing.
use Rattle.std.specs.Prelude.{ℕ, Bool, false, not, cond, List, [], ◌∷◌, ◌++◌, eqb, length, get_or, Option, Some, None, Result, Ok, is_some}
use Rattle.merge.specs.declared.load.LoadError.{LoadError}
use Rattle.merge.specs.Nodes.{no_pair, nodes_of, node_at}
use Rattle.merge.specs.State.{find_number, those, children_of}
use Rattle.merge.specs.Tables.{table_of}
use Rattle.merge.specs.Scan.{is_walked}
use Rattle.merge.specs.Load.{load_errno, load_answer, load_bytes}
use Rattle.merge.specs.declared.stacks.Pair.{Pair}
use Rattle.merge.specs.declared.node.Node.{Node}
use Rattle.calls.specs.Refusal.{Test, test, after_tests, passed, Outcome}
use Rattle.calls.specs.declared.refusal.Refusal.TheVariants.{Enoent, Enotdir, Enfile}

-- the place found; where nothing is, a place that no node has
unfoldable pub place_of : List Node → Option ℕ → ℕ
place_of ns (Some k) = k
place_of ns None = length ns

-- the place of the node of number `x`, and that node
abbrev pub place_numbered : List ℕ → ℕ → ℕ
place_numbered s x = place_of (nodes_of s) (find_number (nodes_of s) x)

abbrev pub numbered : List ℕ → ℕ → Node
numbered s x = node_at (nodes_of s) (place_numbered s x)

-- no resident node has the number `x`
abbrev pub unknown : List ℕ → ℕ → Bool
unknown s x = not (is_some (find_number (nodes_of s) x))

-- "whiteout mark"
unfoldable pub is_white : Node → Bool
is_white n = not (eqb n.white 0)

abbrev pub top_of : Node → Pair
top_of n = get_or n.stack 0 no_pair

-- a node is a directory where its top record is one
unfoldable pub is_directory_node : List ℕ → List ℕ → Node → Bool
is_directory_node u l n = cond (eqb n.depth 0) false (is_walked (table_of u l (top_of n).layer) (top_of n).number)

-- "2 unknown or whiteout parent, 20"
unfoldable pub parent_tests : List ℕ → List ℕ → List ℕ → ℕ → List Test
parent_tests u l s x =
    test (unknown s x) Enoent
    ∷ test (is_white (numbered s x)) Enoent
    ∷ test (not (is_directory_node u l (numbered s x))) Enotdir
    ∷ []

-- a load is refused where its number is not 0
abbrev pub is_refused : Result (Unit {0}) LoadError → Bool
is_refused a = not (eqb (load_errno a) 0)

-- "load (23)" of the directory whose node stands at place `k`
unfoldable pub load_tests : List ℕ → List ℕ → List ℕ → ℕ → List Test
load_tests u l s k = test (is_refused (load_answer u l s k)) Enfile ∷ []

-- the state once the node of number `x` is loaded; a load that is refused leaves it as it was
abbrev pub loaded_state : List ℕ → List ℕ → List ℕ → ℕ → List ℕ
loaded_state u l s x = load_bytes u l s (place_numbered s x)

-- a call that loads the directory `x`: the tests `before`, asked of the state as it came, "load (23)", then the tests `behind`, asked of the loaded state.
-- "A refusal changes nothing, except that a load done before it stays."
abbrev pub loading_call : List ℕ → List ℕ → List ℕ → ℕ → List Test → List Test → List ℕ → ℕ → Outcome
loading_call u l s x before behind changed v =
    record {
      answer = after_tests (before ++ (load_tests u l s (place_numbered s x) ++ behind)) (Ok v);
      state = cond (passed before) (cond (passed (load_tests u l s (place_numbered s x) ++ behind)) changed (loaded_state u l s x)) s;
    }

-- the live and the whiteout children of `x`, in table order
unfoldable pub is_live : Node → Bool
is_live n = not (is_white n)

abbrev pub live_children : List Node → ℕ → List Node
live_children ns x = those is_live (children_of ns x)

abbrev pub white_children : List Node → ℕ → List Node
white_children ns x = those is_white (children_of ns x)
