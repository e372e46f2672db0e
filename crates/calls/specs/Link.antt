-- Link. Assumes nothing.
use Rattle.std.specs.Prelude.{◌≡◌, ℕ, suc, Bool, true, not, List, [], ◌∷◌, Option, Result}
use Rattle.layers.specs.Names.{Name, malformed_name}
use Rattle.layers.specs.Change.{entry_naming, added_entry}
use Rattle.merge.specs.Nodes.{nodes_of}
use Rattle.merge.specs.State.{find_number}
use Rattle.merge.specs.declared.node.Node.{Node}
use Rattle.calls.specs.Refusal.{Test, test}
use Rattle.calls.specs.Lengths.{lengths_test}
use Rattle.calls.specs.Parents.{place_numbered, numbered, unknown, is_white, is_directory_node, loaded_state}
use Rattle.calls.specs.Lookup.{seat_named, name_in}
use Rattle.calls.specs.Upper.{Up, up, node_in, upper_record, made_path, copied_up, without_whiteout, named_state, named_number}
use Rattle.calls.specs.Room.{missing_either, overfull}
use Rattle.calls.specs.Writing.{Written, has_upper, writing_call, is_live_name, is_long, no_place, whiteout_in, behind_load}
use Rattle.calls.specs.declared.refusal.Refusal.TheVariants.{Eperm, Enoent, Eexist, Enotdir, Einval, Enfile, Enospc, Erofs, Enametoolong}

-- of the source and the new parent: "2 either whiteout, 1, 20"
unfoldable pub link_nodes : List ℕ → List ℕ → Node → Node → List Test
link_nodes u l n m =
    test (is_white n) Enoent
    ∷ test (is_white m) Enoent
    ∷ test (is_directory_node u l n) Eperm
    ∷ test (not (is_directory_node u l m)) Enotdir
    ∷ []

-- "link: 22, 2 either unknown, 30, 2 either whiteout, 1, 20"; the source is `n`
unfoldable pub link_before : List ℕ → List ℕ → List ℕ → ℕ → ℕ → Name → List Test
link_before u l s n p x =
    test (not (lengths_test s u l)) Einval
    ∷ test (malformed_name x) Einval
    ∷ test (unknown s n) Enoent
    ∷ test (unknown s p) Enoent
    ∷ test (not (has_upper u)) Erofs
    ∷ link_nodes u l (numbered s n) (numbered s p)

-- "17, 36, 23 (as above), 28"; `j` is the source's place, `k` the parent's, `f` that of the name's node, `e` that of its upper whiteout's entry
unfoldable pub link_tests : List ℕ → List ℕ → ℕ → ℕ → Option ℕ → Option ℕ → Name → List Test
link_tests t s j k f e x =
    test (is_live_name s f) Eexist
    ∷ test (is_long x) Enametoolong
    ∷ test (no_place s f) Enfile
    ∷ test (overfull t e (missing_either s j k) (suc (missing_either s j k))) Enospc
    ∷ []

-- "Link: whiteout deletion, source's missing directories, source, parent's missing directories"
abbrev pub linkable : List ℕ → ℕ → ℕ → Option ℕ → Option ℕ → Up → Up
linkable l j k f e u = made_path l k (copied_up l j (without_whiteout e f u))

-- "then the entry", and the name's node; `t` is the name's seat
unfoldable pub linked : ℕ → ℕ → Result ℕ ℕ → Name → Up → Up
linked j k t x u =
    record {
      table = added_entry u.table (entry_naming (upper_record u k) x (upper_record u j));
      state = named_state t (node_in u k).number x (upper_record u j) u.state;
    }

unfoldable pub linked_number : ℕ → ℕ → Result ℕ ℕ → Name → Up → ℕ
linked_number j k t x u = named_number t (node_in u k).number x (upper_record u j) u.state

-- at the source's place, the parent's, that of the name's node, the name's seat and the place of its upper whiteout's entry
abbrev pub linked_at : List ℕ → List ℕ → List ℕ → Name → ℕ → ℕ → Option ℕ → Result ℕ ℕ → Option ℕ → Written
linked_at u l s x j k f t e =
    behind_load u s (link_tests u s j k f e x)
    (linked j k t x (linkable l j k f e (up u s)))
    (linked_number j k t x (linkable l j k f e (up u s)))

-- what holds behind the load: the source is where it was found, unless the load changed the state
pub record Still (b : Bool) (f : Option ℕ) (s : List ℕ) (n : ℕ) : Type 0 where
  pub still : b ≡ true → f ≡ find_number (nodes_of s) n

-- ---- the call

-- of the source `n` into the directory of number `p`: the tests behind the load, what is left where none fails, and the node's number
unfoldable pub link_behind : List ℕ → List ℕ → ℕ → ℕ → Name → List Test
link_behind t s n p x = link_tests t s (place_numbered s n) (place_numbered s p) (name_in s p x) (whiteout_in t s p x) x

abbrev pub linkable_in : List ℕ → List ℕ → List ℕ → ℕ → ℕ → Name → Up
linkable_in u l s n p x = linkable l (place_numbered s n) (place_numbered s p) (name_in s p x) (whiteout_in u s p x) (up u s)

unfoldable pub made_link : List ℕ → List ℕ → List ℕ → ℕ → ℕ → Name → Up
made_link u l s n p x = linked (place_numbered s n) (place_numbered s p) (seat_named s p x) x (linkable_in u l s n p x)

unfoldable pub made_link_number : List ℕ → List ℕ → List ℕ → ℕ → ℕ → Name → ℕ
made_link_number u l s n p x = linked_number (place_numbered s n) (place_numbered s p) (seat_named s p x) x (linkable_in u l s n p x)

abbrev pub linked_in : List ℕ → List ℕ → List ℕ → ℕ → ℕ → Name → Written
linked_in u l s n p x = behind_load u s (link_behind u s n p x) (made_link u l s n p x) (made_link_number u l s n p x)

-- "link: 22, 2 either unknown, 30, 2 either whiteout, 1, 20, load of the new parent (23), 17, 36, 23 (as above), 28."
abbrev pub link_spec : List ℕ → List ℕ → List ℕ → ℕ → ℕ → Name → Written
link_spec u l s n p x =
    writing_call u l s p (link_before u l s n p x) (link_behind u (loaded_state u l s p) n p x)
    (made_link u l (loaded_state u l s p) n p x)
    (made_link_number u l (loaded_state u l s p) n p x)
