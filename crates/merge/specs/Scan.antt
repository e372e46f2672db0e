-- The directory scan. Assumes nothing.
use denote.Ref.{Bor}
use Rattle.std.specs.Prelude.{◌≡◌, ℕ, Bool, true, false, Option, MatchOption, cond, List, [], ◌∷◌, eqb, length}
use Rattle.layers.specs.Names.{Name}
use Rattle.layers.specs.Items.{entries_of, records_of, record_at}
use Rattle.layers.specs.Search.{name_of}
use Rattle.layers.specs.Order.{insert_by}
use Rattle.layers.specs.declared.items.Entry.{Entry}
use Rattle.merge.specs.Tables.{table_of}
use Rattle.merge.specs.Classes.{is_directory, is_opaque}
use Rattle.merge.specs.declared.stacks.Pair.{Pair}

-- "stop before a whiteout or a non-directory"; a layer that is not there has no directory
unfoldable pub is_walked : List ℕ → ℕ → Bool
is_walked t d = cond (eqb (length t) 8192) (is_directory (record_at (records_of t) d)) false

-- the table, where its directory `d` is walked
abbrev pub IsWalked : List ℕ → ℕ → Option (Bor (List ℕ)) → Type 0
IsWalked b d r = MatchOption r (is_walked b d ≡ false) (λ t. (t.now ≡ b) × (is_walked b d ≡ true))

-- "stop after an opaque one"
unfoldable pub ends_scan : List ℕ → ℕ → Bool
ends_scan t d = is_opaque (record_at (records_of t) d)

-- "walk its stack from the top": the records of a stack that its scan walks
unfoldable pub scanned : List ℕ → List ℕ → List Pair → List Pair
scanned u l [] = []
scanned u l (a ∷ s) =
    cond (is_walked (table_of u l a.layer) a.number)
    (a ∷ cond (ends_scan (table_of u l a.layer) a.number) [] (scanned u l s))
    []

-- the entry stands in the directory `d`; a free place stands nowhere
unfoldable pub in_directory : ℕ → Entry → Bool
in_directory d e = cond (eqb e.parent 0) false (eqb e.parent d)

-- names in byte order, each once: one entry's, those of one directory, those of all directories walked
unfoldable pub add_name : ℕ → Entry → List Name → List Name
add_name d e xs = cond (in_directory d e) (insert_by (λ x. x) (name_of e) xs) xs

unfoldable pub add_names : ℕ → List Entry → List Name → List Name
add_names d [] xs = xs
add_names d (e ∷ es) xs = add_names d es (add_name d e xs)

unfoldable pub names_of : List ℕ → List ℕ → List Pair → List Name → List Name
names_of u l [] xs = xs
names_of u l (a ∷ s) xs = names_of u l s (add_names a.number (entries_of (table_of u l a.layer)) xs)

-- the names below the stack `s`, in byte order, each once
unfoldable pub merged_names : List ℕ → List ℕ → List Pair → List Name
merged_names u l s = names_of u l (scanned u l s) []
