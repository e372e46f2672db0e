-- What a creation, a copy-up and a link write: records and entries of the upper layer, and the stacks of the nodes. Assumes nothing.
use Rattle.std.specs.Prelude.{ℕ, zero, suc, Bool, false, cond, List, [], ◌∷◌, eqb, Option, Some, None, Result, Ok, Err}
use Rattle.layers.specs.Names.{Name}
use Rattle.layers.specs.Kinds.{kind_number}
use Rattle.layers.specs.Items.{records_of, record_at}
use Rattle.layers.specs.Search.{free_record_place}
use Rattle.layers.specs.Change.{entry_naming, added_entry, added_record, dropped_entry}
use Rattle.layers.specs.declared.items.Record.{Record}
use Rattle.layers.specs.declared.kinds.Kind.TheVariants.{Directory}
use Rattle.merge.specs.Nodes.{no_pair, nodes_of, node_at, node_name}
use Rattle.merge.specs.Methods.{with_stack, with_white, topped, alone}
use Rattle.merge.specs.Changes.{put_bytes, seated_number, seated_bytes}
use Rattle.merge.specs.Tables.{table_of}
use Rattle.merge.specs.Stacks.{pair, stack_from}
use Rattle.merge.specs.Load.{new_node}
use Rattle.merge.specs.declared.node.Node.{Node}
use Rattle.calls.specs.Parents.{place_numbered, top_of, is_directory_node}

-- what such a call has in hand: the upper layer's table and the state
pub record Up : Type 0 where
  pub table : List ℕ
  pub state : List ℕ

abbrev pub up : List ℕ → List ℕ → Up
up t s = record { table = t; state = s }

-- the node at place `k`, and the place of its parent
abbrev pub node_in : Up → ℕ → Node
node_in u k = node_at (nodes_of u.state) k

abbrev pub parent_place : List ℕ → ℕ → ℕ
parent_place s k = place_numbered s (node_at (nodes_of s) k).parent

-- "the top record is upper"
unfoldable pub in_upper : Node → Bool
in_upper n = eqb (top_of n).layer 0

-- the number of the record that the node at place `k` has on top
abbrev pub upper_record : Up → ℕ → ℕ
upper_record u k = (top_of (node_in u k)).number

-- ---- "Each new record and entry takes the lowest free place."

-- the number of the next new record, 0 where no place is free
unfoldable pub record_number : Option ℕ → ℕ
record_number (Some i) = i
record_number None = 0

abbrev pub new_record : List ℕ → ℕ
new_record t = record_number (free_record_place (records_of t))

-- a new record, and its entry under the name `x` in the directory `d`
unfoldable pub add_new : ℕ → Name → Record → List ℕ → List ℕ
add_new d x r t = added_entry (added_record t r) (entry_naming d x (new_record t))

-- ---- "Missing upper directories of the parent's path are made from the root down"

-- the record that a node has on top
abbrev pub top_record : List ℕ → List ℕ → Node → Record
top_record t l n = record_at (records_of (table_of t l (top_of n).layer)) (top_of n).number

-- "same permissions, not opaque, size and content 0"
unfoldable pub directory_like : Record → Record
directory_like r =
    record {
      number = 0;
      kind = kind_number Directory;
      opaque = 0;
      mark = 0;
      permissions = r.permissions;
      links = 0;
      device = 0;
      size = 0;
      content = 0;
    }

-- a record for the node at place `k`, added below its parent's upper record under the node's name
abbrev pub added_for : ℕ → Record → Up → List ℕ
added_for k r u = add_new (upper_record u (parent_place u.state k)) (node_name (node_in u k)) r u.table

-- one missing directory, whose parent is there, "put in front of the node's stack"
unfoldable pub made_directory : List ℕ → ℕ → Up → Up
made_directory l k u =
    record {
      table = added_for k (directory_like (top_record u.table l (node_in u k))) u;
      state = put_bytes u.state k (topped (node_in u k) (pair 0 (new_record u.table)));
    }

-- the directory at place `k`, after the missing ones above it; at most so many in all
unfoldable pub made_upper : ℕ → List ℕ → ℕ → Up → Up
made_upper zero l k u = u
made_upper (suc m) l k u = cond (in_upper (node_in u k)) u (made_directory l k (made_upper m l (parent_place u.state k) u))

-- "each directory reaches the root in at most 16 steps"
abbrev pub made_path : List ℕ → ℕ → Up → Up
made_path l k u = made_upper 16 l k u

-- ---- copy-up

-- "A file copied up carries kind, permissions, device, size and content"
unfoldable pub file_like : Record → Record
file_like r =
    record {
      number = 0;
      kind = r.kind;
      opaque = 0;
      mark = 0;
      permissions = r.permissions;
      links = 0;
      device = r.device;
      size = r.size;
      content = r.content;
    }

-- a file whose parent is there, copied up; "its stack becomes that record alone"
unfoldable pub copied_file : List ℕ → ℕ → Up → Up
copied_file l k u =
    record {
      table = added_for k (file_like (top_record u.table l (node_in u k))) u;
      state = put_bytes u.state k (alone (node_in u k) (pair 0 (new_record u.table)));
    }

-- the node at place `k` copied up: "A directory copied up is made so too."
unfoldable pub copied_up : List ℕ → ℕ → Up → Up
copied_up l k u =
    cond (in_upper (node_in u k)) u
    (cond (is_directory_node u.table l (node_in u k)) (made_path l k u)
    (copied_file l k (made_path l (parent_place u.state k) u)))

-- ---- "Creating over a whiteout deletes the whiteout's entry if it is in the upper layer; a record goes with its last entry"

-- the state in which the name's node has no record
unfoldable pub emptied : Option ℕ → List ℕ → List ℕ
emptied (Some j) s = put_bytes s j (with_stack (node_at (nodes_of s) j) (no_pair ∷ no_pair ∷ no_pair ∷ no_pair ∷ []) 0)
emptied None s = s

-- the whiteout's entry found at `e` goes; `f` is where the name's node stands
unfoldable pub without_whiteout : Option ℕ → Option ℕ → Up → Up
without_whiteout (Some e) f u = record { table = dropped_entry u.table e; state = emptied f u.state }
without_whiteout None f u = u

-- ---- the name's node

abbrev pub upper_alone : ℕ → Name → ℕ → Node
upper_alone p x c = new_node p (stack_from (pair 0 c ∷ []) false) x

-- "The node keeps number and count; its stack becomes the new record."
unfoldable pub given_record : List ℕ → ℕ → ℕ → List ℕ
given_record s j c = put_bytes s j (with_white (alone (node_at (nodes_of s) j) (pair 0 c)) 0)

-- so where the name has a node; one without gets it at the name's seat
unfoldable pub named_state : Result ℕ ℕ → ℕ → Name → ℕ → List ℕ → List ℕ
named_state (Ok j) p x c s = given_record s j c
named_state (Err k) p x c s = seated_bytes s (upper_alone p x c) k

unfoldable pub named_number : Result ℕ ℕ → ℕ → Name → ℕ → List ℕ → ℕ
named_number (Ok j) p x c s = (node_at (nodes_of s) j).number
named_number (Err k) p x c s = seated_number s k
