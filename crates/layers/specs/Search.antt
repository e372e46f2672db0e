-- The search of one layer for a parent and a name; free places; counts. Assumes nothing.
use Rattle.std.specs.Prelude.{ℕ, suc, ◌+◌, Bool, false, not, cond, List, [], ◌∷◌, eqb, take, Option, Some, None}
use Rattle.layers.specs.Names.{Name, same_name}
use Rattle.layers.specs.declared.items.Record.{Record}
use Rattle.layers.specs.declared.items.Entry.{Entry}

-- the first place from `k` on, `xs` standing there, whose item passes the test
unfoldable pub first_from : {A : Type 0} → (A → Bool) → ℕ → List A → Option ℕ
first_from p k [] = None
first_from p k (x ∷ xs) = cond (p x) (Some k) (first_from p (suc k) xs)

-- 1 for a test that is passed
unfoldable pub one : Bool → ℕ
one b = cond b 1 0

-- how many items pass the test
unfoldable pub count_if : {A : Type 0} → (A → Bool) → List A → ℕ
count_if p [] = 0
count_if p (x ∷ xs) = one (p x) + count_if p xs

-- an entry's name, without the zeros behind it
abbrev pub name_of : Entry → Name
name_of e = take e.length e.name

-- "parent record, 0 where the place is free"
unfoldable pub is_free : Entry → Bool
is_free e = eqb e.parent 0

-- "number: i where the place is used, 0 where it is free"
unfoldable pub no_record : Record → Bool
no_record r = eqb r.number 0

-- the entry names `x` in the directory `d`; a free place names nothing
unfoldable pub names : ℕ → Name → Entry → Bool
names d x e = cond (eqb e.parent 0) false (cond (eqb e.parent d) (same_name (name_of e) x) false)

-- the entry names the record `r`
unfoldable pub names_record : ℕ → Entry → Bool
names_record r e = cond (eqb e.parent 0) false (eqb e.child r)

-- the place that names `x` in `d`
abbrev pub search_of : List Entry → ℕ → Name → Option ℕ
search_of es d x = first_from (names d x) 0 es

-- "Each new record and entry takes the lowest free place."
abbrev pub free_entry_place : List Entry → Option ℕ
free_entry_place es = first_from is_free 0 es

abbrev pub free_record_place : List Record → Option ℕ
free_record_place rs = first_from no_record 1 rs

abbrev pub used_entries : List Entry → ℕ
used_entries es = count_if (λ e. not (is_free e)) es

abbrev pub used_records : List Record → ℕ
used_records rs = count_if (λ r. not (no_record r)) rs

-- how many entries name the record `r`
abbrev pub naming : ℕ → List Entry → ℕ
naming r es = count_if (names_record r) es

-- the first entry that names the record `r`
abbrev pub naming_place : ℕ → List Entry → Option ℕ
naming_place r es = first_from (names_record r) 0 es
