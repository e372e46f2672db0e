-- An entry put and taken away, a record put: the only changes of a table. Assumes nothing.
use Rattle.std.specs.Prelude.{◌≡◌, ℕ, cond, List, eqb, length, replicate, Option, Some, None}
use Rattle.layers.specs.Bytes.{least, laid}
use Rattle.layers.specs.Names.{Name}
use Rattle.layers.specs.Items.{records_of, entries_of, entry_at, free_record, free_entry, with_record, with_entry, record_put, entry_put}
use Rattle.layers.specs.Search.{is_free, naming, free_entry_place, free_record_place}
use Rattle.layers.specs.declared.items.Record.{Record}
use Rattle.layers.specs.declared.items.Entry.{Entry}

-- "An entry: parent record, name, child record.": one that names the record `c` as `x` in the directory `d`, "name, then zeros"
unfoldable pub entry_naming : ℕ → Name → ℕ → Entry
entry_naming d x c = record { parent = d; child = c; length = least 28 (length x); zero = 0; name = laid (replicate 28 0) 0 x }

-- ---- "Each new record and entry takes the lowest free place."

-- where a damaged table has no free place, adding leaves it as it is
unfoldable pub entry_placed : List Entry → Option ℕ → Entry → List Entry
entry_placed es (Some k) e = with_entry es k e
entry_placed es None e = es

abbrev pub entry_added : List Entry → Entry → List Entry
entry_added es e = entry_placed es (free_entry_place es) e

-- the same of the table's bytes
unfoldable pub entry_put_at : List ℕ → Option ℕ → Entry → List ℕ
entry_put_at t (Some k) e = entry_put t k e
entry_put_at t None e = t

abbrev pub added_entry : List ℕ → Entry → List ℕ
added_entry t e = entry_put_at t (free_entry_place (entries_of t)) e

-- the table `u` is `t` with the entry added, at the place answered
pub record AddEntry (t : List ℕ) (e : Entry) (f : Option ℕ) (u : List ℕ) : Type 0 where
  pub bytes : u ≡ added_entry t e
  pub place : f ≡ free_entry_place (entries_of t)
  pub entries : entries_of u ≡ entry_added (entries_of t) e
  pub records : records_of u ≡ records_of t

-- "number: i where the place is used"
abbrev pub numbered : ℕ → Record → Record
numbered i r =
    record {
      number = i;
      kind = r.kind;
      opaque = r.opaque;
      mark = r.mark;
      permissions = r.permissions;
      links = r.links;
      device = r.device;
      size = r.size;
      content = r.content;
    }

unfoldable pub record_placed : List Record → Option ℕ → Record → List Record
record_placed rs (Some i) r = with_record rs i (numbered i r)
record_placed rs None r = rs

abbrev pub record_added : List Record → Record → List Record
record_added rs r = record_placed rs (free_record_place rs) r

-- the same of the table's bytes
unfoldable pub record_put_at : List ℕ → Option ℕ → Record → List ℕ
record_put_at t (Some i) r = record_put t i (numbered i r)
record_put_at t None r = t

abbrev pub added_record : List ℕ → Record → List ℕ
added_record t r = record_put_at t (free_record_place (records_of t)) r

-- the table `u` is `t` with the record added, its number being the place answered
pub record AddRecord (t : List ℕ) (r : Record) (f : Option ℕ) (u : List ℕ) : Type 0 where
  pub bytes : u ≡ added_record t r
  pub place : f ≡ free_record_place (records_of t)
  pub records : records_of u ≡ record_added (records_of t) r
  pub entries : entries_of u ≡ entries_of t

-- ---- "a record goes with its last entry (whiteouts may share one)"

-- the records without `c`, where no entry names it any more
unfoldable pub records_left : List Record → List Entry → ℕ → List Record
records_left rs es c = cond (eqb (naming c es) 0) (with_record rs c free_record) rs

-- the table without the record `c`, where none of its entries names it any more
unfoldable pub record_left : List ℕ → ℕ → List ℕ
record_left t c = cond (eqb (naming c (entries_of t)) 0) (record_put t c free_record) t

pub record FreedRecord (t : List ℕ) (c : ℕ) (u : List ℕ) : Type 0 where
  pub bytes : u ≡ record_left t c
  pub records : records_of u ≡ records_left (records_of t) (entries_of t) c
  pub entries : entries_of u ≡ entries_of t

-- the entries without the one at `j`
abbrev pub entries_left : List Entry → ℕ → List Entry
entries_left es j = with_entry es j free_entry

-- the table without the entry at `j`, and without its record if that was the last entry to name it; where that place is free or outside, the table as it is
unfoldable pub dropped_entry : List ℕ → ℕ → List ℕ
dropped_entry t j = cond (is_free (entry_at (entries_of t) j)) t (record_left (entry_put t j free_entry) (entry_at (entries_of t) j).child)

-- the table `u` is `t` without the entry at `j`; where that place is free or outside, it is `t`
pub record DropEntry (t : List ℕ) (j : ℕ) (u : List ℕ) : Type 0 where
  pub bytes : u ≡ dropped_entry t j
  pub entries : entries_of u ≡ cond (is_free (entry_at (entries_of t) j)) (entries_of t) (entries_left (entries_of t) j)
  pub records : records_of u ≡ cond (is_free (entry_at (entries_of t) j)) (records_of t) (records_left (records_of t) (entries_left (entries_of t) j) (entry_at (entries_of t) j).child)
