-- Import. Assumes nothing.
use Rattle.std.specs.Prelude.{ℕ, Bool, false, not, cond, List, [], ◌∷◌, ◌++◌, eqb, length, replicate, Ok}
use Rattle.layers.specs.Rules.{valid_test}
use Rattle.merge.specs.Tables.{table_of}
use Rattle.merge.specs.Stacks.{stack_from}
use Rattle.merge.specs.Fresh.{root_stack}
use Rattle.merge.specs.Root as root
use Rattle.merge.specs.Heads.{with_head}
use Rattle.merge.specs.Changes.{put_in_bytes}
use Rattle.merge.specs.Load.{load_bytes}
use Rattle.merge.specs.declared.node.Node.{Node}
use Rattle.calls.specs.Refusal.{Test, test, after_tests, passed, Outcome}
use Rattle.calls.specs.Lengths.{state_fits, lengths_test}
use Rattle.calls.specs.Parents.{load_tests}
use Rattle.calls.specs.declared.refusal.Refusal.TheVariants.{Einval}

-- "at least one in all"
unfoldable pub no_layer : List ℕ → List ℕ → Bool
no_layer u l = cond (eqb (length u) 0) (eqb (length l) 0) false

-- a layer's table breaks a rule; no bytes are no layer
unfoldable pub broken_layer : List ℕ → Bool
broken_layer t = cond (eqb (length t) 0) false (not (valid_test t))

-- "Import refuses with 22 if there is no layer, more than 3 lower ones, or a broken rule above"; more than 3 lower ones are other lengths
unfoldable pub import_tests : List ℕ → List ℕ → List ℕ → List Test
import_tests u l s =
    test (not (lengths_test s u l)) Einval
    ∷ test (no_layer u l) Einval
    ∷ test (broken_layer (table_of u l 0)) Einval
    ∷ test (broken_layer (table_of u l 1)) Einval
    ∷ test (broken_layer (table_of u l 2)) Einval
    ∷ test (broken_layer (table_of u l 3)) Einval
    ∷ []

-- "A state that was never imported is all zeros: it has no node."
unfoldable pub blank : List ℕ
blank = replicate 13324 0

-- "refused for any reason, these lengths among them, it leaves a state of 13324 bytes all zeros, and a state of another length as it was"
unfoldable pub wiped : List ℕ → List ℕ
wiped s = cond (state_fits s) blank s

-- "The root's stack holds every layer's root (`import`)"
abbrev pub root_node : List ℕ → List ℕ → Node
root_node u l = root.root_node (stack_from (root_stack u l) false)

-- the root alone in these bytes; "Other numbers rise from 2"
unfoldable pub rooted : List ℕ → List ℕ → List ℕ → List ℕ
rooted u l s = put_in_bytes (with_head s (record { next = 2; count = 0 })) (root_node u l)

-- "22 ..; then with 23 if the root's names don't fit": the load of the root, which stands first
unfoldable pub root_tests : List ℕ → List ℕ → List Test
root_tests u l = load_tests u l (rooted u l blank) 0

-- "else it loads the root. A refused import leaves a state in which every number is unknown."
abbrev pub import_spec : List ℕ → List ℕ → List ℕ → Outcome
import_spec u l s =
    record {
      answer = after_tests (import_tests u l s ++ root_tests u l) (Ok 0);
      state = cond (passed (import_tests u l s ++ root_tests u l)) (load_bytes u l (rooted u l blank) 0) (wiped s);
    }
