-- The places of entries that stand for the merged names, as the scan collects them. Assumes nothing.
use Rattle.std.specs.Prelude.{◌≡◌, ℕ, suc, ◌*◌, cond, List, [], ◌∷◌, length, take, drop}
use Rattle.layers.specs.Names.{Name}
use Rattle.layers.specs.Items.{entries_of}
use Rattle.layers.specs.Order.{insert_by}
use Rattle.layers.specs.declared.items.Entry.{Entry}
use Rattle.merge.specs.Tables.{table_of, place_name}
use Rattle.merge.specs.Scan.{scanned, in_directory}
use Rattle.merge.specs.declared.stacks.Pair.{Pair}

-- places in the order of their names, the topmost for each name: one entry's, those of one directory, those of all directories walked
unfoldable pub add_place : (ℕ → Name) → ℕ → ℕ → Entry → List ℕ → List ℕ
add_place f d q e ps = cond (in_directory d e) (insert_by f q ps) ps

unfoldable pub add_places : (ℕ → Name) → ℕ → ℕ → List Entry → List ℕ → List ℕ
add_places f d q [] ps = ps
add_places f d q (e ∷ es) ps = add_places f d (suc q) es (add_place f d q e ps)

unfoldable pub places_of : List ℕ → List ℕ → List Pair → List ℕ → List ℕ
places_of u l [] ps = ps
places_of u l (a ∷ s) ps = places_of u l s (add_places (place_name u l) a.number (128 * a.layer) (entries_of (table_of u l a.layer)) ps)

-- the places that stand for the names below the stack `s`
unfoldable pub merged_places : List ℕ → List ℕ → List Pair → List ℕ
merged_places u l s = places_of u l (scanned u l s) []

-- of 512 places the first `r` are now `ps`, and those from there on are as they were
pub record Filled (p : List ℕ) (r : ℕ) (ps q : List ℕ) : Type 0 where
  pub first : take r q ≡ ps
  pub rest : drop r q ≡ drop r p
  pub long : length q ≡ 512
