-- 28, decided before anything is written: what the whole call will need and free. Assumes nothing.
use Rattle.std.specs.Prelude.{ℕ, zero, suc, ◌+◌, Bool, true, false, not, cond, List, [], ◌∷◌, eqb, ltb, length, Option, Some, None, is_some}
use Rattle.layers.specs.Names.{Name}
use Rattle.layers.specs.Items.{records_of, entries_of, entry_at}
use Rattle.layers.specs.Search.{one, count_if, search_of, naming, used_entries, used_records}
use Rattle.merge.specs.Nodes.{nodes_of, node_at}
use Rattle.calls.specs.Parents.{top_of}
use Rattle.calls.specs.Upper.{in_upper, parent_place}
use Rattle.calls.specs.declared.room.MissingFrom.{MissingFrom}

-- ---- what is made

-- the places of the nodes from `k` up that are not in the upper layer, at most so many
unfoldable pub missing_from : ℕ → List ℕ → ℕ → List ℕ
missing_from zero s k = []
missing_from (suc m) s k = cond (in_upper (node_at (nodes_of s) k)) [] (k ∷ missing_from m s (parent_place s k))

-- a file, and at most 16 directories above it
abbrev pub missing : List ℕ → ℕ → List ℕ
missing s k = missing_from 17 s k

-- those that a walk has left
abbrev pub places_left : MissingFrom → List ℕ
places_left w = missing_from w.left w.s.now w.place

unfoldable pub is_in : ℕ → List ℕ → Bool
is_in x [] = false
is_in x (y ∷ ys) = cond (eqb x y) true (is_in x ys)

-- a place that is not among them
unfoldable pub is_outside : List ℕ → ℕ → Bool
is_outside ys x = not (is_in x ys)

-- how many from place `j` up are missing, those from `k` up left aside
abbrev pub missing_beside : List ℕ → ℕ → ℕ → ℕ
missing_beside s j k = count_if (is_outside (missing s k)) (missing s j)

-- those that two paths need; a directory that both need counts once
unfoldable pub missing_either : List ℕ → ℕ → ℕ → ℕ
missing_either s j k = length (missing s k) + missing_beside s j k

-- ---- what is freed

-- the upper entry of the whiteout that a creation or link at the name `x` deletes; `k` is the parent's place, `f` that of the name's node
unfoldable pub whiteout_entry : List ℕ → List ℕ → ℕ → Option ℕ → Name → Option ℕ
whiteout_entry t s k (Some j) x = cond (in_upper (node_at (nodes_of s) j)) (search_of (entries_of t) (top_of (node_at (nodes_of s) k)).number x) None
whiteout_entry t s k None x = None

abbrev pub freed_entries : Option ℕ → ℕ
freed_entries e = one (is_some e)

-- "a record goes with its last entry (whiteouts may share one)"
unfoldable pub freed_records : List ℕ → Option ℕ → ℕ
freed_records t (Some e) = one (eqb (naming (entry_at (entries_of t) e).child (entries_of t)) 1)
freed_records t None = 0

-- ---- "upper would hold over 128 records or entries"; "28 is decided on the numbers after the whole call, so freed places count as free"

-- so many records and entries are made, and the entry at `e` goes
unfoldable pub overfull : List ℕ → Option ℕ → ℕ → ℕ → Bool
overfull t e records entries =
    cond (ltb (128 + freed_records t e) (used_records (records_of t) + records)) true
    (ltb (128 + freed_entries e) (used_entries (entries_of t) + entries))
