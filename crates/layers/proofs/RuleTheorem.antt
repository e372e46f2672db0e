-- The test of a table is true exactly where every rule holds. Assumes nothing.
use mathlib.Core.Path.{refl}
use Prim.Native.Nat.{ℕ}
use mathlib.Core.List.{List}
use lib.ListN.{length}
use Rattle.layers.specs.Items.{records_of, entries_of, record_at, entry_at, free_record, free_entry}
use Rattle.layers.specs.Rules.{Exactly, GoodEntry, entry_test, GoodEnds, ends_test, GoodRecord, record_test, GoodNaming, naming_test, DirectoryReachesRoot, reach_test, entries_test, records_test, Valid, valid_test}
use Rattle.layers.proofs.EveryLaws.{eqb_exactly, both, again, each, each_from_one}
use Rattle.layers.proofs.RuleLaws.{record_exactly, free_is_good, entry_exactly, free_entry_good, root_exactly, ends_exactly, naming_exactly, free_is_named}
use Rattle.layers.proofs.ReachLaws.{reach_exactly}
use Rattle.layers.proofs.RuleDistinct.{distinct_exactly}
use Rattle.layers.specs.declared.items.Record.{Record}
use Rattle.layers.specs.declared.items.Entry.{Entry}

module _ (rs : List Record) (es : List Entry) where
  abbrev pub EntryRules : Type 0
  EntryRules = ((j : ℕ) → GoodEntry (entry_at es j)) × ((j : ℕ) → GoodEnds rs (entry_at es j))

  abbrev pub RecordRules : Type 0
  RecordRules = ((i : ℕ) → GoodRecord i (record_at rs i)) × (((i : ℕ) → GoodNaming es i (record_at rs i)) × ((i : ℕ) → DirectoryReachesRoot es i (record_at rs i)))

  pub entries_exactly : Exactly (entries_test rs es) EntryRules
  unfolding entries_test
  entries_exactly =
      both (each (λ _ e. entry_test e) (λ _ e. GoodEntry e) free_entry (λ _. (entry_exactly free_entry).whole free_entry_good) es (λ j. entry_exactly (entry_at es j)))
      (λ _. each (λ _ e. ends_test rs e) (λ _ e. GoodEnds rs e) free_entry (λ _. unfold ends_test in refl) es (λ j. ends_exactly rs (entry_at es j)))

  -- a directory's way to the root is judged where parents are directories
  pub records_exactly : EntryRules → Exactly (records_test rs es) RecordRules
  unfolding records_test
  records_exactly g =
      both (each_from_one record_test GoodRecord free_record (λ i. (record_exactly i free_record).whole (free_is_good i)) rs (λ i. record_exactly i (record_at rs i)))
      (λ _. both (each_from_one (naming_test es) (GoodNaming es) free_record (λ i. (naming_exactly es i free_record).whole (free_is_named es i)) rs (λ i. naming_exactly es i (record_at rs i)))
      (λ n. each_from_one (reach_test es) (DirectoryReachesRoot es) free_record (λ i. unfold reach_test in refl) rs (reach_exactly es rs (λ j. (g.1 j).parent_directory) (λ i. (n i).directory_once))))

-- the test is true exactly where every rule holds
pub valid_exactly : (t : List ℕ) → Exactly (valid_test t) (Valid t)
unfolding valid_test
valid_exactly t =
    again
    (both (eqb_exactly (length t) 8192)
    (λ _. both (root_exactly (records_of t))
    (λ _. both (entries_exactly (records_of t) (entries_of t)) (λ g. both (records_exactly (records_of t) (entries_of t) g) (λ _. distinct_exactly (entries_of t))))))
    (λ v.
    record {
      size = v.0;
      root = v.1.0;
      entries = v.1.1.0.0;
      ends = v.1.1.0.1;
      records = v.1.1.1.0.0;
      named = v.1.1.1.0.1.0;
      reach = v.1.1.1.0.1.1;
      distinct = v.1.1.1.1;
    })
    (λ v. (v.size, (v.root, ((v.entries, v.ends), ((v.records, (v.named, v.reach)), v.distinct)))))
