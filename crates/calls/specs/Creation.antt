-- mknod, create and symlink. Assumes nothing.
use Rattle.std.specs.Prelude.{ℕ, suc, ◌-◌, Bool, true, false, not, cond, List, [], ◌∷◌, ltb, length, Option, Result, Some, None}
use Rattle.std.specs.Int.Bits.{bit_and}
use Rattle.layers.specs.Names.{Name, malformed_name}
use Rattle.layers.specs.Kinds.{kind_number, number_or_zero, kind_of}
use Rattle.layers.specs.declared.items.Record.{Record}
use Rattle.layers.specs.declared.kinds.Kind.{Kind}
use Rattle.layers.specs.declared.kinds.Kind.TheVariants.{Fifo, Character, Directory, Block, Regular, Symlink, Socket}
use Rattle.merge.specs.Classes.{is_whiteout}
use Rattle.merge.specs.declared.node.Node.{Node}
use Rattle.calls.specs.Refusal.{Test, test}
use Rattle.calls.specs.Lengths.{lengths_test}
use Rattle.calls.specs.Parents.{place_numbered, numbered, unknown, is_white, is_directory_node, loaded_state}
use Rattle.calls.specs.Lookup.{seat_named, name_in}
use Rattle.calls.specs.Upper.{Up, up, node_in, upper_record, new_record, add_new, made_path, without_whiteout, named_state, named_number}
use Rattle.calls.specs.Room.{missing, overfull}
use Rattle.calls.specs.Writing.{Written, has_upper, writing_call, is_live_name, is_long, no_place, whiteout_in, behind_load}
use Rattle.calls.specs.declared.refusal.Refusal.TheVariants.{Eperm, Enoent, Eexist, Enotdir, Einval, Enfile, Enospc, Erofs, Enametoolong}

-- ---- the new record

-- "A new record has permissions without the umask's bits, size 0, content 0, the caller's device number if it is a device and else 0"
unfoldable pub made_record : ℕ → ℕ → ℕ → ℕ → ℕ → Record
made_record kind permissions umask device content =
    record {
      number = 0;
      kind = kind;
      opaque = 0;
      mark = 0;
      permissions = bit_and permissions (4095 - umask);
      links = 0;
      device = device;
      size = 0;
      content = content;
    }

-- ---- the order of tests

-- of the parent: "2 whiteout parent, 20"
unfoldable pub parent_node : List ℕ → List ℕ → Node → List Test
parent_node u l n =
    test (is_white n) Enoent
    ∷ test (not (is_directory_node u l n)) Enotdir
    ∷ []

-- "22, 2 unknown parent, 30, 2 whiteout parent, 20"; `bad` says that an argument is malformed
unfoldable pub creation_before : List ℕ → List ℕ → List ℕ → Bool → ℕ → Name → List Test
creation_before u l s bad p x =
    test (not (lengths_test s u l)) Einval
    ∷ test (cond (malformed_name x) true bad) Einval
    ∷ test (unknown s p) Enoent
    ∷ test (not (has_upper u)) Erofs
    ∷ parent_node u l (numbered s p)

-- "17, 1, 36, 23 (only if the name has no node), 28"; `k` is the parent's place, `f` that of the name's node, `e` that of its upper whiteout's entry
unfoldable pub creation_tests : List ℕ → List ℕ → ℕ → Option ℕ → Option ℕ → Name → Record → List Test
creation_tests t s k f e x r =
    test (is_live_name s f) Eexist
    ∷ test (is_whiteout r) Eperm
    ∷ test (is_long x) Enametoolong
    ∷ test (no_place s f) Enfile
    ∷ test (overfull t e (suc (length (missing s k))) (suc (length (missing s k)))) Enospc
    ∷ []

-- ---- what is written

-- the upper layer without the whiteout and with the parent's path
abbrev pub prepared : List ℕ → ℕ → Option ℕ → Option ℕ → Up → Up
prepared l k f e u = made_path l k (without_whiteout e f u)

-- the record, its entry and the name's node; `t` is the name's seat
unfoldable pub filled : ℕ → Result ℕ ℕ → Name → Record → Up → Up
filled k t x r u =
    record {
      table = add_new (upper_record u k) x r u.table;
      state = named_state t (node_in u k).number x (new_record u.table) u.state;
    }

unfoldable pub filled_number : ℕ → Result ℕ ℕ → Name → Up → ℕ
filled_number k t x u = named_number t (node_in u k).number x (new_record u.table) u.state

-- at the parent's place, that of the name's node, the name's seat and the place of its upper whiteout's entry
abbrev pub created_at : List ℕ → List ℕ → List ℕ → Name → Record → ℕ → Option ℕ → Result ℕ ℕ → Option ℕ → Written
created_at u l s x r k f t e =
    behind_load u s (creation_tests u s k f e x r)
    (filled k t x r (prepared l k f e (up u s)))
    (filled_number k t x (prepared l k f e (up u s)))

-- ---- the calls

-- in the directory of number `p`: the tests behind the load, what is left where none fails, and the node's number
unfoldable pub creation_behind : List ℕ → List ℕ → ℕ → Name → Record → List Test
creation_behind t s p x r = creation_tests t s (place_numbered s p) (name_in s p x) (whiteout_in t s p x) x r

abbrev pub prepared_in : List ℕ → List ℕ → List ℕ → ℕ → Name → Up
prepared_in u l s p x = prepared l (place_numbered s p) (name_in s p x) (whiteout_in u s p x) (up u s)

unfoldable pub created : List ℕ → List ℕ → List ℕ → ℕ → Name → Record → Up
created u l s p x r = filled (place_numbered s p) (seat_named s p x) x r (prepared_in u l s p x)

unfoldable pub created_number : List ℕ → List ℕ → List ℕ → ℕ → Name → ℕ
created_number u l s p x = filled_number (place_numbered s p) (seat_named s p x) x (prepared_in u l s p x)

abbrev pub created_in : List ℕ → List ℕ → List ℕ → ℕ → Name → Record → Written
created_in u l s p x r = behind_load u s (creation_behind u s p x r) (created u l s p x r) (created_number u l s p x)

-- "mknod, create, symlink: 22, 2 unknown parent, 30, 2 whiteout parent, 20, load (23), 17, 1, 36, 23, 28."
abbrev pub creation_spec : List ℕ → List ℕ → List ℕ → Bool → ℕ → Name → Record → Written
creation_spec u l s bad p x r =
    writing_call u l s p (creation_before u l s bad p x) (creation_behind u (loaded_state u l s p) p x r)
    (created u l (loaded_state u l s p) p x r)
    (created_number u l (loaded_state u l s p) p x)

-- "also permissions or umask over 4095"
unfoldable pub bad_mode : ℕ → ℕ → Bool
bad_mode permissions umask = cond (ltb 4095 permissions) true (ltb 4095 umask)

abbrev pub create_spec : List ℕ → List ℕ → List ℕ → ℕ → Name → ℕ → ℕ → Written
create_spec u l s p x permissions umask =
    creation_spec u l s (bad_mode permissions umask) p x (made_record (kind_number Regular) permissions umask 0 0)

-- "mknod of a directory, symlink or no kind"
abbrev pub not_made : Option Kind → Bool
not_made None = true
not_made (Some Fifo) = false
not_made (Some Character) = false
not_made (Some Directory) = true
not_made (Some Block) = false
not_made (Some Regular) = false
not_made (Some Symlink) = true
not_made (Some Socket) = false

abbrev pub is_device : Option Kind → Bool
is_device None = false
is_device (Some Fifo) = false
is_device (Some Character) = true
is_device (Some Directory) = false
is_device (Some Block) = true
is_device (Some Regular) = false
is_device (Some Symlink) = false
is_device (Some Socket) = false

unfoldable pub bad_node : ℕ → ℕ → ℕ → Bool
bad_node kind permissions umask = cond (not_made (kind_of kind)) true (bad_mode permissions umask)

-- "the caller's device number if it is a device and else 0"
unfoldable pub device_of : ℕ → ℕ → ℕ
device_of kind device = cond (is_device (kind_of kind)) device 0

abbrev pub mknod_spec : List ℕ → List ℕ → List ℕ → ℕ → Name → ℕ → ℕ → ℕ → ℕ → Written
mknod_spec u l s p x kind permissions umask device =
    creation_spec u l s (bad_node kind permissions umask) p x (made_record (number_or_zero (kind_of kind)) permissions umask (device_of kind device) 0)

-- "a symlink has permissions 511 and the caller's content number"
abbrev pub symlink_spec : List ℕ → List ℕ → List ℕ → ℕ → Name → ℕ → Written
symlink_spec u l s p x content = creation_spec u l s false p x (made_record (kind_number Symlink) 511 0 0 content)
