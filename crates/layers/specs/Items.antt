-- A table's records and entries, as docs/ABI.md lays them out. Assumes nothing.
use Rattle.std.specs.Prelude.{◌≡◌, ℕ, zero, suc, ◌+◌, ◌*◌, ◌-◌, ◌<◌, cond, List, [], ◌∷◌, ◌++◌, map, eqb, ltb, take, drop, get_or, set, replicate}
use Rattle.layers.specs.Bytes.{part, over, le_of, le_bytes}
use Rattle.layers.specs.declared.items.Record.{Record}
use Rattle.layers.specs.declared.items.Entry.{Entry}

-- `n` pieces of `w` bytes each, one after another
unfoldable pub pieces : ℕ → ℕ → List ℕ → List (List ℕ)
pieces w zero t = []
pieces w (suc n) t = take w t ∷ pieces w n (drop w t)

-- the record that 32 bytes hold
unfoldable pub record_of : List ℕ → Record
record_of b =
    record {
      number = get_or b 0 0;
      kind = get_or b 1 0;
      opaque = get_or b 2 0;
      mark = get_or b 3 0;
      permissions = le_of (part b 4 2);
      links = le_of (part b 6 2);
      device = le_of (part b 8 8);
      size = le_of (part b 16 8);
      content = le_of (part b 24 8);
    }

-- the bytes that hold a record: the first 8, and the other 24
unfoldable pub head_bytes : Record → List ℕ
head_bytes r = (r.number ∷ r.kind ∷ r.opaque ∷ r.mark ∷ []) ++ le_bytes 2 r.permissions ++ le_bytes 2 r.links

unfoldable pub tail_bytes : Record → List ℕ
tail_bytes r = le_bytes 8 r.device ++ le_bytes 8 r.size ++ le_bytes 8 r.content

unfoldable pub record_bytes : Record → List ℕ
record_bytes r = head_bytes r ++ tail_bytes r

-- the entry that 32 bytes hold
unfoldable pub entry_of : List ℕ → Entry
entry_of b = record { parent = get_or b 0 0; child = get_or b 1 0; length = get_or b 2 0; zero = get_or b 3 0; name = part b 4 28 }

-- the bytes that hold an entry
unfoldable pub entry_bytes : Entry → List ℕ
entry_bytes e = (e.parent ∷ e.child ∷ e.length ∷ e.zero ∷ []) ++ e.name

-- "Record place i (1 to 128) is the 32 bytes at 32 * (i - 1)"
unfoldable pub records_of : List ℕ → List Record
records_of t = map record_of (pieces 32 128 t)

-- "entry place j (0 to 127) the 32 bytes at 4096 + 32 * j"
unfoldable pub entries_of : List ℕ → List Entry
entries_of t = map entry_of (pieces 32 128 (drop 4096 t))

-- "A free place is 32 zero bytes."
abbrev pub free_record : Record
free_record = record { number = 0; kind = 0; opaque = 0; mark = 0; permissions = 0; links = 0; device = 0; size = 0; content = 0 }

abbrev pub free_entry : Entry
free_entry = record { parent = 0; child = 0; length = 0; zero = 0; name = replicate 28 0 }

-- record 0 and those past the table are free
abbrev pub record_at : List Record → ℕ → Record
record_at rs i = get_or (free_record ∷ rs) i free_record

abbrev pub entry_at : List Entry → ℕ → Entry
entry_at es j = get_or es j free_entry

-- the records with `r` at place `i`; there is no place 0, and none past the table
unfoldable pub with_record : List Record → ℕ → Record → List Record
with_record rs zero r = rs
with_record rs (suc i) r = set rs i r

-- the entries with `e` at place `j`; there is none past the table
abbrev pub with_entry : List Entry → ℕ → Entry → List Entry
with_entry es j e = set es j e

-- the table with `r` at the record place `i`; there is no place 0, and none past 128
unfoldable pub record_put : List ℕ → ℕ → Record → List ℕ
record_put t i r = cond (eqb i 0) t (cond (ltb 128 i) t (over t (32 * (i - 1)) (record_bytes r)))

-- the table with `e` at the entry place `j`; there is none past 127
unfoldable pub entry_put : List ℕ → ℕ → Entry → List ℕ
entry_put t j e = cond (ltb 127 j) t (over t (4096 + 32 * j) (entry_bytes e))

-- the table `u` is `t` with `r` at the record place `i`
pub record PutRecord (t : List ℕ) (i : ℕ) (r : Record) (u : List ℕ) : Type 0 where
  pub bytes : u ≡ record_put t i r
  pub records : records_of u ≡ with_record (records_of t) i r
  pub entries : entries_of u ≡ entries_of t

-- the table `u` is `t` with `e` at the entry place `j`
pub record PutEntry (t : List ℕ) (j : ℕ) (e : Entry) (u : List ℕ) : Type 0 where
  pub bytes : u ≡ entry_put t j e
  pub records : records_of u ≡ records_of t
  pub entries : entries_of u ≡ with_entry (entries_of t) j e

-- a record's numbers fit their bytes
pub record FitsHead (r : Record) : Type 0 where
  pub permissions_fit : r.permissions < 65536
  pub links_fit : r.links < 65536

pub record FitsTail (r : Record) : Type 0 where
  pub device_fit : r.device < 18446744073709551616
  pub size_fit : r.size < 18446744073709551616
  pub content_fit : r.content < 18446744073709551616
