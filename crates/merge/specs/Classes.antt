-- What a record is to the merge, and what a layer has under a name in one of its directories. Assumes nothing.
use Rattle.std.specs.Prelude.{ℕ, Bool, false, cond, List, eqb, Option, Some, None}
use Rattle.layers.specs.Names.{Name}
use Rattle.layers.specs.Kinds.{kind_number}
use Rattle.layers.specs.Items.{entries_of, records_of, entry_at, record_at}
use Rattle.layers.specs.Search.{search_of}
use Rattle.layers.specs.declared.kinds.Kind.TheVariants.{Character, Directory}
use Rattle.layers.specs.declared.items.Record.{Record}
use Rattle.layers.specs.declared.items.Entry.{Entry}
use Rattle.merge.specs.declared.stacks.Class.{Class}
use Rattle.merge.specs.declared.stacks.Class.TheVariants.{Whiteout, Other, Plain, Opaque}

-- "A whiteout is a character device with device number 0." The kernel's overlayfs document: "A whiteout is created as a character device with
-- 0/0 device number or as a zero-size regular file with the xattr "trusted.overlay.whiteout"."
unfoldable pub is_whiteout : Record → Bool
is_whiteout r = cond (eqb r.kind (kind_number Character)) (eqb r.device 0) false

abbrev pub is_directory : Record → Bool
is_directory r = eqb r.kind (kind_number Directory)

-- "An opaque directory carries the mark." The kernel's overlayfs document: "A directory is made opaque by setting the xattr
-- "trusted.overlay.opaque" to "y"."
abbrev pub is_opaque : Record → Bool
is_opaque r = eqb r.opaque 1

unfoldable pub class_of : Record → Class
class_of r = cond (is_whiteout r) Whiteout (cond (is_directory r) (cond (is_opaque r) Opaque Plain) Other)

-- a record is classified where its entry stands: in the table `t`, in the directory `d`
unfoldable pub class_at : List ℕ → ℕ → ℕ → Class
class_at t d n = class_of (record_at (records_of t) n)

-- the record of the entry found, 0 for none
unfoldable pub child_at : List Entry → Option ℕ → ℕ
child_at es (Some j) = (entry_at es j).child
child_at es None = 0

-- the record that `x` has in the directory `d`, 0 for none
abbrev pub named : List Entry → ℕ → Name → ℕ
named es d x = child_at es (search_of es d x)

-- what the layer `t` has under the name `x` in the directory `d`
unfoldable pub seen_of : List ℕ → ℕ → Name → Option (Class × ℕ)
seen_of t d x = cond (eqb (named (entries_of t) d x) 0) None (Some (class_at t d (named (entries_of t) d x), named (entries_of t) d x))
