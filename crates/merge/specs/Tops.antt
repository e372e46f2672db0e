-- Where a name stands topmost, and what the private functions know of a place that the scan found. Assumes nothing.
use Rattle.std.specs.Prelude.{◌≡◌, ℕ, ◌*◌, ◌/◌, ◌%◌, ◌<◌, Bool, false, cond, List, [], ◌∷◌, eqb, length, drop, get_or, Option, Some, None}
use Rattle.layers.specs.Names.{Name}
use Rattle.layers.specs.Items.{entries_of, entry_at}
use Rattle.layers.specs.Search.{first_from, names, search_of}
use Rattle.layers.specs.declared.items.Entry.{Entry}
use Rattle.merge.specs.Tables.{table_of, place_name}
use Rattle.merge.specs.Scan.{scanned, in_directory}
use Rattle.merge.specs.Stacks.{collect}
use Rattle.merge.specs.declared.stacks.Pair.{Pair}

unfoldable pub or_else : Option ℕ → Option ℕ → Option ℕ
or_else (Some k) f = Some k
or_else None f = f

-- the place, 128 a layer, of the first entry of the name `x` in the directories `s`
unfoldable pub top_place : List ℕ → List ℕ → Name → List Pair → Option ℕ
top_place u l x [] = None
top_place u l x (a ∷ s) = or_else (first_from (names a.number x) (128 * a.layer) (entries_of (table_of u l a.layer))) (top_place u l x s)

-- each of the first `m` places is the topmost of its name below the stack `s`
pub record Topmost (u l : List ℕ) (s : List Pair) (q : List ℕ) (m : ℕ) : Type 0 where
  pub top : (j : ℕ) → j < m → top_place u l (place_name u l (get_or q j 0)) (scanned u l s) ≡ Some (get_or q j 0)

-- the entry at the place `q` stands in the directory `d` of layer `k`
unfoldable pub holds_place : List ℕ → List ℕ → ℕ → ℕ → ℕ → Bool
holds_place u l k d q = cond (eqb k (q / 128)) (cond (eqb (length (table_of u l k)) 8192) (in_directory d (entry_at (entries_of (table_of u l k)) (q % 128))) false) false

-- the entry of the name `x` in the directory `d` is `j`, where that is below 128
pub record Known (es : List Entry) (d : ℕ) (x : Name) (j : ℕ) : Type 0 where
  pub entry : j < 128 → search_of es d x ≡ Some j

-- the records of the name `x` are those from place `i` of the stack on
pub record Above (u l : List ℕ) (s : List Pair) (x : Name) (i : ℕ) : Type 0 where
  pub same : collect u l x (scanned u l (drop i s)) ≡ collect u l x (scanned u l s)
