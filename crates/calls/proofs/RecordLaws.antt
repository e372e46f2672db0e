-- A layer's record, where the layer has a table and where it has none. Assumes nothing.
use mathlib.Core.Path.{◌≡◌, refl, ap, ◌∙◌}
use Prim.Native.Nat.{ℕ, zero, suc}
use mathlib.Core.List.{List, [], map}
use lib.ListN.{length, get_or}
use Rattle.layers.specs.Bytes.{le_of}
use Rattle.layers.specs.Items.{pieces, record_of, records_of, record_at, free_record}
use Rattle.layers.specs.declared.items.Record.{Record}
use Rattle.merge.specs.Tables.{table_of}
use Rattle.merge.specs.declared.stacks.Pair.{Pair}
use Rattle.merge.proofs.TableLaws.{table_none}

-- no bytes hold no record
empty_record : (n i : ℕ) → get_or (map record_of (pieces 32 n [])) i free_record ≡ free_record
unfolding pieces record_of le_of
empty_record zero i = refl
empty_record (suc n) zero = refl
empty_record (suc n) (suc i) = empty_record n i

no_record_lem : (i : ℕ) → record_at (records_of []) i ≡ free_record
unfolding records_of
no_record_lem zero = refl
no_record_lem (suc i) = empty_record 128 i

module _ (u l : List ℕ) (p : Pair) (w : ℕ) (q : w ≡ p.layer) where
  pub record_none : table_of u l w ≡ [] → record_at (records_of (table_of u l p.layer)) p.number ≡ free_record
  record_none h = rw (← q, h) (no_record_lem p.number)

  pub record_there : (t : List ℕ) → t ≡ table_of u l w → (v : ℕ) (r : Record) → v ≡ p.number → r ≡ record_at (records_of t) v → r ≡ record_at (records_of (table_of u l p.layer)) p.number
  record_there t e v r k h = h ∙ rw (e, q, k) refl
