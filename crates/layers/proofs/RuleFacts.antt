-- What the table rules give whoever uses a valid table. Assumes nothing.
use Rattle.std.specs.Prelude.{Some}
use mathlib.Core.Path.{◌≡◌, refl, sym, ap, ◌∙◌}
use Prim.Native.Nat.{ℕ, zero, suc, ◌≤◌, ◌<◌}
use native.Mathlib.Omega.{arith}
use native.Mathlib.Decide.{ℕ_discrete}
use mathlib.Core.Bool.{Bool, true, false}
use mathlib.Core.List.{List, ◌∷◌}
use lib.Dec.{ltb}
use lib.ListN.{length, get_or-eq_default}
use borrow.Author.Tests.{ltb-true, ltb-false}
use Rattle.layers.specs.Items.{records_of, entries_of, record_at, entry_at, free_record, free_entry}
use Rattle.layers.specs.Search.{name_of, search_of}
use Rattle.layers.specs.Rules.{Present, Used, NamesAt, NamedOnce, Valid, once_test}
use Rattle.layers.specs.declared.items.Record.{Record}
use Rattle.layers.proofs.ItemLaws.{length_records, length_entries}
use Rattle.layers.proofs.EveryLaws.{everywhere}
use Rattle.layers.proofs.RuleDistinct.{distinct_exactly, used_inside, once_sound}

-- used places lie in the table
pub used_below : (t : List ℕ) (j : ℕ) → Used (entries_of t) j → j < 128
used_below t j u = let h : j < length (entries_of t) = used_inside (entries_of t) j u in omega (arith, length_entries t)

pub present_below : (t : List ℕ) (i : ℕ) → Present (records_of t) i → (1 ≤ i) × (i ≤ 128)
present_below t i p = (above i p, go (ltb i 129) refl)
  where
    above : (i : ℕ) → Present (records_of t) i → 1 ≤ i
    above zero p = absurd (p refl)
    above (suc i) p = omega arith

    go : (b : Bool) → ltb i 129 ≡ b → i ≤ 128
    go true e = let h : i < 129 = ltb-true i 129 e in omega arith
    go false e =
        let h : 129 ≤ i = ltb-false i 129 e in
        let l : length (free_record ∷ records_of t) ≡ 129 = ap suc (length_records t) in
        absurd (p (ap (λ (r : Record). r.number) (get_or-eq_default (free_record ∷ records_of t) free_record {n = i} (omega arith))))

module _ (t : List ℕ) (v : Valid t) where
  -- a record with a kind is used, and has its place's number
  pub kind_present : (i : ℕ) → ((record_at (records_of t) i).kind ≡ 0 → ⊥) → Present (records_of t) i
  kind_present i n z = n (ap (λ (r : Record). r.kind) ((v.records i).free z))

  pub directory_present : (i : ℕ) → (record_at (records_of t) i).kind ≡ 4 → Present (records_of t) i
  directory_present i k = kind_present i (λ z. let e : ◌≡◌ {A = ℕ} 0 4 = sym z ∙ k in omega arith)

  pub number_place : (i : ℕ) → Present (records_of t) i → (record_at (records_of t) i).number ≡ i
  number_place i p = (v.records i).number_is p

  pub root_present : Present (records_of t) 1
  root_present z = let e : ◌≡◌ {A = ℕ} 0 1 = sym z ∙ v.root.0 in omega arith

  -- a used entry's parent is used
  pub parent_present : (j : ℕ) → Used (entries_of t) j → Present (records_of t) (entry_at (entries_of t) j).parent
  parent_present j u = directory_present (entry_at (entries_of t) j).parent ((v.ends j).parent_directory u)

  -- two entries that name one directory are one
  pub directory_once : (i j k : ℕ) → (record_at (records_of t) i).kind ≡ 4 → NamesAt (entries_of t) j i → NamesAt (entries_of t) k i → j ≡ k
  directory_once i j k d a b = let o : NamedOnce (entries_of t) i = (v.named i).directory_once d (not_root a.0 a.1) in o.only j a ∙ sym (o.only k b)
    where
      not_root : Used (entries_of t) j → (entry_at (entries_of t) j).child ≡ i → i ≡ 1 → ⊥
      not_root u c e = (v.ends j).child_not_root u (c ∙ e)

  -- every used record but the root has an entry that names it
  pub record_named : (i : ℕ) → Present (records_of t) i → (i ≡ 1 → ⊥) → (j : ℕ) × NamesAt (entries_of t) j i
  record_named i p n = go (ℕ_discrete (record_at (records_of t) i).kind 4)
    where
      go : Dec ((record_at (records_of t) i).kind ≡ 4) → (j : ℕ) × NamesAt (entries_of t) j i
      go (yes d) = let o : NamedOnce (entries_of t) i = (v.named i).directory_once d n in (o.place, o.names_it)
      go (no d) = (v.named i).other_named p d

  -- a search for an entry's parent and name finds the entry
  pub search_finds : (j : ℕ) → Used (entries_of t) j → search_of (entries_of t) (entry_at (entries_of t) j).parent (name_of (entry_at (entries_of t) j)) ≡ Some j
  search_finds j u =
      once_sound (entries_of t) j u (everywhere (once_test (entries_of t)) free_entry (λ _. unfold once_test in refl) (entries_of t) ((distinct_exactly (entries_of t)).whole v.distinct) j)
