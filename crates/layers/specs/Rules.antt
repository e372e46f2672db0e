-- The table rules of document 01 and of docs/ABI.md, each said without computation, and beside it the test that decides it. Assumes nothing.
use Rattle.std.specs.Prelude.{◌≡◌, ℕ, zero, suc, ◌≤◌, ◌<◌, Bool, true, false, not, cond, List, [], ◌∷◌, eqb, ltb, leb, length, take, drop, get_or, replicate, Option, Some, None, is_some}
use Rattle.layers.specs.Names.{Name, same_name, malformed_name}
use Rattle.layers.specs.Kinds.{kind_number, kind_of}
use Rattle.layers.specs.Items.{records_of, entries_of, record_at, entry_at, free_record, free_entry}
use Rattle.layers.specs.Search.{name_of, names_record, naming, search_of}
use Rattle.layers.specs.declared.items.Record.{Record}
use Rattle.layers.specs.declared.items.Entry.{Entry}
use Rattle.layers.specs.declared.kinds.Kind.{Kind}

-- the test is true exactly where the rule holds
pub record Exactly (test : Bool) (rule : Type 0) : Type 0 where
  pub sound : test ≡ true → rule
  pub whole : rule → test ≡ true

-- every item from place `k` on passes the test
unfoldable pub every : {A : Type 0} → (ℕ → A → Bool) → ℕ → List A → Bool
every p k [] = true
every p k (x ∷ xs) = cond (p k x) (every p (suc k) xs) false

-- the record place `i` is used
abbrev pub Present : List Record → ℕ → Type 0
Present rs i = (record_at rs i).number ≡ 0 → ⊥

-- the entry place `j` is used
abbrev pub Used : List Entry → ℕ → Type 0
Used es j = (entry_at es j).parent ≡ 0 → ⊥

-- ---- one record at its place

-- "A free place is 32 zero bytes."
abbrev pub FreeRecordIsZero : Record → Type 0
FreeRecordIsZero r = r.number ≡ 0 → r ≡ free_record

-- of a record whose number is 0
unfoldable pub free_record_test : Record → Bool
free_record_test r =
    cond (eqb r.kind 0)
    (cond (eqb r.opaque 0)
    (cond (eqb r.mark 0)
    (cond (eqb r.permissions 0)
    (cond (eqb r.links 0) (cond (eqb r.device 0) (cond (eqb r.size 0) (eqb r.content 0) false) false) false)
    false)
    false)
    false)
    false

-- "number: i where the place is used"
abbrev pub NumberIsPlace : ℕ → Record → Type 0
NumberIsPlace i r = (r.number ≡ 0 → ⊥) → r.number ≡ i

abbrev pub number_test : ℕ → Record → Bool
number_test i r = eqb r.number i

-- "Kinds: regular, directory, symlink, character device, block device, fifo, socket."
abbrev pub HasKind : Record → Type 0
HasKind r = (r.number ≡ 0 → ⊥) → (k : Kind) × (r.kind ≡ kind_number k)

abbrev pub kind_test : ℕ → Bool
kind_test n = is_some (kind_of n)

-- "permissions 0 to 4095"
abbrev pub PermissionsFit : Record → Type 0
PermissionsFit r = r.permissions ≤ 4095

abbrev pub permissions_test : Record → Bool
permissions_test r = leb r.permissions 4095

-- "The device number is 0 except for devices": character 2, block 6
abbrev pub OnlyDevicesHaveNumbers : Record → Type 0
OnlyDevicesHaveNumbers r = (r.kind ≡ 2 → ⊥) → (r.kind ≡ 6 → ⊥) → r.device ≡ 0

unfoldable pub device_test : ℕ → ℕ → Bool
device_test k d = cond (eqb k 2) true (cond (eqb k 6) true (eqb d 0))

-- "opaque setting: 0 none, 1 opaque"
abbrev pub OpaqueIsSetting : Record → Type 0
OpaqueIsSetting r = r.opaque ≤ 1

abbrev pub setting_test : Record → Bool
setting_test r = leb r.opaque 1

-- "the mark is set only on directories"
abbrev pub OnlyDirectoriesAreOpaque : Record → Type 0
OnlyDirectoriesAreOpaque r = (r.opaque ≡ 0 → ⊥) → r.kind ≡ 4

unfoldable pub opaque_test : ℕ → ℕ → Bool
opaque_test o k = cond (eqb o 0) true (eqb k 4)

-- record byte 3: "0"
abbrev pub MarkIsZero : Record → Type 0
MarkIsZero r = r.mark ≡ 0

abbrev pub mark_test : Record → Bool
mark_test r = eqb r.mark 0

-- record bytes 6, 7: "0"
abbrev pub LinksAreZero : Record → Type 0
LinksAreZero r = r.links ≡ 0

abbrev pub links_test : Record → Bool
links_test r = eqb r.links 0

-- what a record's own fields must keep
pub record GoodRecord (i : ℕ) (r : Record) : Type 0 where
  pub free : FreeRecordIsZero r
  pub number_is : NumberIsPlace i r
  pub kind_is : HasKind r
  pub permissions_fit : PermissionsFit r
  pub mark_zero : MarkIsZero r
  pub links_zero : LinksAreZero r
  pub opaque_is : OpaqueIsSetting r
  pub opaque_directory : OnlyDirectoriesAreOpaque r
  pub device_is : OnlyDevicesHaveNumbers r

-- the tests of a used record that follow its permissions'
unfoldable pub settings_test : Record → Bool
settings_test r =
    cond (mark_test r)
    (cond (links_test r)
    (cond (setting_test r) (cond (opaque_test r.opaque r.kind) (device_test r.kind r.device) false) false)
    false)
    false

unfoldable pub record_test : ℕ → Record → Bool
record_test i r =
    cond (eqb r.number 0) (free_record_test r)
    (cond (number_test i r) (cond (kind_test r.kind) (cond (permissions_test r) (settings_test r) false) false) false)

-- ---- one entry

-- "A free place is 32 zero bytes."
abbrev pub FreeEntryIsZero : Entry → Type 0
FreeEntryIsZero e = e.parent ≡ 0 → e ≡ free_entry

-- of an entry whose parent is 0
unfoldable pub free_entry_test : Entry → Bool
free_entry_test e = cond (eqb e.child 0) (cond (eqb e.length 0) (cond (eqb e.zero 0) (same_name e.name (replicate 28 0)) false) false) false

-- entry byte 3: "0"
abbrev pub ZeroIsZero : Entry → Type 0
ZeroIsZero e = e.zero ≡ 0

abbrev pub zero_test : Entry → Bool
zero_test e = eqb e.zero 0

-- "A name has 1 to 28 bytes"
abbrev pub LengthFits : Entry → Type 0
LengthFits e = (e.parent ≡ 0 → ⊥) → (1 ≤ e.length) × (e.length ≤ 28)

-- "name, then zeros"
abbrev pub NameIsPadded : Entry → Type 0
NameIsPadded e = (i : ℕ) → e.length ≤ i → get_or e.name i 0 ≡ 0

unfoldable pub all_zero : List ℕ → Bool
all_zero [] = true
all_zero (x ∷ xs) = cond (eqb x 0) (all_zero xs) false

-- "no byte 0, no "/", and is neither "." nor "..""; nor is it empty
pub record WellFormed (x : Name) : Type 0 where
  pub some : x ≡ [] → ⊥
  pub no_zero : (i : ℕ) → i < length x → get_or x i 0 ≡ 0 → ⊥
  pub no_slash : (i : ℕ) → i < length x → get_or x i 0 ≡ 47 → ⊥
  pub not_dot : x ≡ 46 ∷ [] → ⊥
  pub not_dots : x ≡ 46 ∷ 46 ∷ [] → ⊥

abbrev pub NameIsWellFormed : Entry → Type 0
NameIsWellFormed e = (e.parent ≡ 0 → ⊥) → WellFormed (name_of e)

abbrev pub well_formed_test : Name → Bool
well_formed_test x = not (malformed_name x)

-- what an entry's own fields must keep
pub record GoodEntry (e : Entry) : Type 0 where
  pub free : FreeEntryIsZero e
  pub zero_is : ZeroIsZero e
  pub length_fits : LengthFits e
  pub padded : NameIsPadded e
  pub well_formed : NameIsWellFormed e

-- a name of `n` bytes in 28
unfoldable pub name_test : ℕ → List ℕ → Bool
name_test n x = cond (all_zero (drop n x)) (well_formed_test (take n x)) false

unfoldable pub entry_test : Entry → Bool
entry_test e =
    cond (eqb e.parent 0) (free_entry_test e)
    (cond (zero_test e) (cond (leb 1 e.length) (cond (leb e.length 28) (name_test e.length e.name) false) false) false)

-- ---- the root: "Record 1 is the layer's root, a directory, named by no entry."

abbrev pub RootIsDirectory : List Record → Type 0
RootIsDirectory rs = ((record_at rs 1).number ≡ 1) × ((record_at rs 1).kind ≡ 4)

unfoldable pub root_test : List Record → Bool
root_test rs = cond (eqb (record_at rs 1).number 1) (eqb (record_at rs 1).kind 4) false

-- ---- an entry's parent and child

-- "parents are directories"
abbrev pub ParentIsDirectory : List Record → Entry → Type 0
ParentIsDirectory rs e = (e.parent ≡ 0 → ⊥) → (record_at rs e.parent).kind ≡ 4

abbrev pub parent_test : List Record → Entry → Bool
parent_test rs e = eqb (record_at rs e.parent).kind 4

-- "children exist"
abbrev pub ChildExists : List Record → Entry → Type 0
ChildExists rs e = (e.parent ≡ 0 → ⊥) → Present rs e.child

abbrev pub child_test : List Record → ℕ → Bool
child_test rs i = not (eqb (record_at rs i).number 0)

-- "named by no entry"
abbrev pub ChildIsNotRoot : Entry → Type 0
ChildIsNotRoot e = (e.parent ≡ 0 → ⊥) → e.child ≡ 1 → ⊥

abbrev pub not_root_test : Entry → Bool
not_root_test e = not (eqb e.child 1)

pub record GoodEnds (rs : List Record) (e : Entry) : Type 0 where
  pub parent_directory : ParentIsDirectory rs e
  pub child_exists : ChildExists rs e
  pub child_not_root : ChildIsNotRoot e

unfoldable pub ends_test : List Record → Entry → Bool
ends_test rs e =
    cond (eqb e.parent 0) true (cond (parent_test rs e) (cond (child_test rs e.child) (not_root_test e) false) false)

-- ---- how often a record is named

-- the entry place `j` names the record `i`
abbrev pub NamesAt : List Entry → ℕ → ℕ → Type 0
NamesAt es j i = Used es j × ((entry_at es j).child ≡ i)

-- "A directory other than the root is named by exactly one entry"
pub record NamedOnce (es : List Entry) (i : ℕ) : Type 0 where
  pub place : ℕ
  pub names_it : NamesAt es place i
  pub only : (k : ℕ) → NamesAt es k i → k ≡ place

abbrev pub DirectoryIsNamedOnce : List Entry → ℕ → Record → Type 0
DirectoryIsNamedOnce es i r = r.kind ≡ 4 → (i ≡ 1 → ⊥) → NamedOnce es i

-- of the record `r` at place `i`, which `n` entries name
unfoldable pub once_named_test : ℕ → ℕ → Record → Bool
once_named_test n i r = cond (eqb r.kind 4) (cond (eqb i 1) true (eqb n 1)) true

-- "any other record by one or more"
abbrev pub OtherIsNamed : List Entry → ℕ → Record → Type 0
OtherIsNamed es i r = (r.number ≡ 0 → ⊥) → (r.kind ≡ 4 → ⊥) → (j : ℕ) × NamesAt es j i

-- of the record `r`, which `n` entries name
unfoldable pub named_test : ℕ → Record → Bool
named_test n r = cond (eqb r.number 0) true (cond (eqb r.kind 4) true (ltb 0 n))

pub record GoodNaming (es : List Entry) (i : ℕ) (r : Record) : Type 0 where
  pub directory_once : DirectoryIsNamedOnce es i r
  pub other_named : OtherIsNamed es i r

unfoldable pub count_test : ℕ → ℕ → Record → Bool
count_test n i r = cond (once_named_test n i r) (named_test n r) false

abbrev pub naming_test : List Entry → ℕ → Record → Bool
naming_test es i r = count_test (naming i es) i r

-- ---- "each directory reaches the root in at most 16 steps"

-- the record `r` reaches the root in `n` steps, each from a record to the parent of an entry that names it
pub data Reaches (es : List Entry) : ℕ → ℕ → Type 0 where
  at_root : {r : ℕ} → r ≡ 1 → Reaches es 0 r
  up : {n r : ℕ} (j : ℕ) → NamesAt es j r → Reaches es n (entry_at es j).parent → Reaches es (suc n) r

abbrev pub DirectoryReachesRoot : List Entry → ℕ → Record → Type 0
DirectoryReachesRoot es i r = r.kind ≡ 4 → (n : ℕ) × (n ≤ 16) × Reaches es n i

-- the parent of the first entry that names `r`; 0 where there is none
unfoldable pub parent_of : List Entry → ℕ → ℕ
parent_of [] r = 0
parent_of (e ∷ es) r = cond (names_record r e) e.parent (parent_of es r)

-- at most `n` steps up from `r` end at the root
unfoldable pub climbs : ℕ → List Entry → ℕ → Bool
climbs zero es r = eqb r 1
climbs (suc n) es r = cond (eqb r 1) true (cond (eqb r 0) false (climbs n es (parent_of es r)))

unfoldable pub reach_test : List Entry → ℕ → Record → Bool
reach_test es i r = cond (eqb r.kind 4) (climbs 16 es i) true

-- ---- "no two entries share parent and name"

abbrev pub NamesAreDistinct : List Entry → Type 0
NamesAreDistinct es = (i j : ℕ) → Used es i → Used es j → (entry_at es i).parent ≡ (entry_at es j).parent → name_of (entry_at es i) ≡ name_of (entry_at es j) → i ≡ j

unfoldable pub is_place : ℕ → Option ℕ → Bool
is_place j (Some k) = eqb k j
is_place j None = false

-- a search for the entry's parent and name finds the entry itself
unfoldable pub once_test : List Entry → ℕ → Entry → Bool
once_test es j e = cond (eqb e.parent 0) true (is_place j (search_of es e.parent (name_of e)))

abbrev pub distinct_test : List Entry → Bool
distinct_test es = every (once_test es) 0 es

-- ---- all of them

-- "A table in which a byte breaks this layout is a broken rule (22), as is one that breaks document 01's rules"
pub record Valid (t : List ℕ) : Type 0 where
  pub size : length t ≡ 8192
  pub root : RootIsDirectory (records_of t)
  pub entries : (j : ℕ) → GoodEntry (entry_at (entries_of t) j)
  pub ends : (j : ℕ) → GoodEnds (records_of t) (entry_at (entries_of t) j)
  pub records : (i : ℕ) → GoodRecord i (record_at (records_of t) i)
  pub named : (i : ℕ) → GoodNaming (entries_of t) i (record_at (records_of t) i)
  pub reach : (i : ℕ) → DirectoryReachesRoot (entries_of t) i (record_at (records_of t) i)
  pub distinct : NamesAreDistinct (entries_of t)

unfoldable pub entries_test : List Record → List Entry → Bool
entries_test rs es = cond (every (λ _ e. entry_test e) 0 es) (every (λ _ e. ends_test rs e) 0 es) false

unfoldable pub records_test : List Record → List Entry → Bool
records_test rs es = cond (every record_test 1 rs) (cond (every (naming_test es) 1 rs) (every (reach_test es) 1 rs) false) false

unfoldable pub valid_test : List ℕ → Bool
valid_test t =
    cond (eqb (length t) 8192)
    (cond (root_test (records_of t))
    (cond (entries_test (records_of t) (entries_of t)) (cond (records_test (records_of t) (entries_of t)) (distinct_test (entries_of t)) false) false)
    false)
    false
