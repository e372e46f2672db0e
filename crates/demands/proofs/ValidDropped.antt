-- A valid table stays valid where an entry that names no directory is taken away, and with the last such entry its record. Assumes nothing.
use mathlib.Core.Path.{◌≡◌, refl, sym, ap, ◌∙◌, subst}
use mathlib.Core.Logic.{◌≢◌, ◌⊎◌, inl, inr}
use Prim.Native.Nat.{ℕ, zero, suc, ◌≤◌}
use native.Mathlib.Omega.{arith}
use native.Mathlib.Decide.{ℕ_discrete}
use mathlib.Core.Bool.{true, false}
use mathlib.Core.List.{List}
use lib.Dec.{eqb}
use lib.ListN.{length}
use borrow.Author.Tests.{ne_eqb}
use Rattle.layers.specs.Items.{records_of, entries_of, record_at, entry_at, free_record, free_entry}
use Rattle.layers.specs.Search.{name_of, is_free, names_record, naming}
use Rattle.layers.specs.Change.{records_left, entries_left, dropped_entry, DropEntry}
use Rattle.layers.specs.Rules.{Present, Used, GoodEntry, GoodRecord, RootIsDirectory, GoodEnds, NamesAt, NamedOnce, GoodNaming, Reaches, at_root, up, DirectoryReachesRoot, NamesAreDistinct, Valid}
use Rattle.layers.specs.declared.items.Record.{Record}
use Rattle.layers.specs.declared.items.Entry.{Entry}
use Rattle.layers.proofs.EveryLaws.{no_true}
use Rattle.layers.proofs.CountLaws.{count_none, count_some}
use Rattle.layers.proofs.RuleLaws.{free_is_good, free_entry_good, names_record_exactly}
use Rattle.layers.proofs.ChangeLaws.{left_here, left_other, records_left_other, records_left_named, records_left_unnamed, freed_here}
use Rattle.layers.proofs.ChangeBytes.{length_dropped_entry, dropped_entry_lem}

-- ---- the lists `qs` and `fs` are the records `rs` without `c` and the entries `es` without the one at `j`, which names `c`

-- another entry names `c`, and the record stays
record Shared (rs qs : List Record) (fs : List Entry) (c : ℕ) : Type 0 where
  by : (k : ℕ) × NamesAt fs k c
  stays : record_at qs c ≡ record_at rs c

-- no entry names `c` any more, and the record goes
record Last (qs : List Record) (fs : List Entry) (c : ℕ) : Type 0 where
  unnamed : (k : ℕ) → NamesAt fs k c → ⊥
  gone : record_at qs c ≡ free_record

record Without (rs qs : List Record) (es fs : List Entry) (j c : ℕ) : Type 0 where
  named_it : (entry_at es j).child ≡ c
  no_directory : (record_at rs c).kind ≡ 4 → ⊥
  here : entry_at fs j ≡ free_entry
  others : (k : ℕ) → k ≢ j → entry_at fs k ≡ entry_at es k
  records : (i : ℕ) → i ≢ c → record_at qs i ≡ record_at rs i
  last : Shared rs qs fs c ⊎ Last qs fs c

module _ (rs qs : List Record) (es fs : List Entry) (j c : ℕ) (w : Without rs qs es fs j c) where
  -- a used entry is another one
  used_other : (k : ℕ) → Used fs k → k ≢ j
  used_other k u e = u (ap (λ (i : ℕ). (entry_at fs i).parent) e ∙ ap (λ (g : Entry). g.parent) w.here)

  used_same : (k : ℕ) → Used fs k → entry_at fs k ≡ entry_at es k
  used_same k u = w.others k (used_other k u)

  used_before : (k : ℕ) → Used fs k → Used es k
  used_before k u z = u (ap (λ (g : Entry). g.parent) (used_same k u) ∙ z)

  names_before : (k i : ℕ) → NamesAt fs k i → NamesAt es k i
  names_before k i n = (used_before k n.0, ap (λ (g : Entry). g.child) (sym (used_same k n.0)) ∙ n.1)

  -- what names another record is still there
  names_same : (k i : ℕ) → i ≢ c → NamesAt es k i → entry_at fs k ≡ entry_at es k
  names_same k i o n = w.others k (λ e. o (sym n.1 ∙ (ap (λ (q : ℕ). (entry_at es q).child) e ∙ w.named_it)))

  names_after : (k i : ℕ) → i ≢ c → NamesAt es k i → NamesAt fs k i
  names_after k i o n =
      let e : entry_at fs k ≡ entry_at es k = names_same k i o n in
      ((λ z. n.0 (ap (λ (g : Entry). g.parent) (sym e) ∙ z)), ap (λ (g : Entry). g.child) e ∙ n.1)

  directory_other : (i : ℕ) → (record_at rs i).kind ≡ 4 → i ≢ c
  directory_other i d e = w.no_directory (ap (λ (q : ℕ). (record_at rs q).kind) (sym e) ∙ d)

  directory_same : (i : ℕ) → (record_at rs i).kind ≡ 4 → record_at qs i ≡ record_at rs i
  directory_same i d = w.records i (directory_other i d)

  -- a record stays, or it is `c` and goes
  either_record : (i : ℕ) → (record_at qs i ≡ record_at rs i) ⊎ (record_at qs i ≡ free_record)
  either_record i = go (ℕ_discrete i c) w.last
    where
      go : Dec (i ≡ c) → Shared rs qs fs c ⊎ Last qs fs c → (record_at qs i ≡ record_at rs i) ⊎ (record_at qs i ≡ free_record)
      go (yes e) (inl s) = inl (ap (λ (q : ℕ). record_at qs q) e ∙ (s.stays ∙ ap (λ (q : ℕ). record_at rs q) (sym e)))
      go (yes e) (inr l) = inr (ap (λ (q : ℕ). record_at qs q) e ∙ l.gone)
      go (no o) l = inl (w.records i o)

  directory_before : (i : ℕ) → (record_at qs i).kind ≡ 4 → (record_at rs i).kind ≡ 4
  directory_before i d = go (either_record i)
    where
      go : (record_at qs i ≡ record_at rs i) ⊎ (record_at qs i ≡ free_record) → (record_at rs i).kind ≡ 4
      go (inl e) = ap (λ (r : Record). r.kind) (sym e) ∙ d
      go (inr e) = absurd (let z : ◌≡◌ {A = ℕ} 0 4 = ap (λ (r : Record). r.kind) (sym e) ∙ d in omega arith)

  -- ---- the rules, one by one

  root_without : RootIsDirectory rs → RootIsDirectory qs
  root_without r =
      let e : record_at qs 1 ≡ record_at rs 1 = directory_same 1 r.1 in
      (ap (λ (q : Record). q.number) e ∙ r.0, ap (λ (q : Record). q.kind) e ∙ r.1)

  entries_without : ((k : ℕ) → GoodEntry (entry_at es k)) → (k : ℕ) → GoodEntry (entry_at fs k)
  entries_without g k = go (ℕ_discrete k j)
    where
      go : Dec (k ≡ j) → GoodEntry (entry_at fs k)
      go (yes e) = subst GoodEntry (sym (ap (λ (q : ℕ). entry_at fs q) e ∙ w.here)) free_entry_good
      go (no o) = subst GoodEntry (sym (w.others k o)) (g k)

  records_without : ((i : ℕ) → GoodRecord i (record_at rs i)) → (i : ℕ) → GoodRecord i (record_at qs i)
  records_without g i = go (either_record i)
    where
      go : (record_at qs i ≡ record_at rs i) ⊎ (record_at qs i ≡ free_record) → GoodRecord i (record_at qs i)
      go (inl e) = subst (GoodRecord i) (sym e) (g i)
      go (inr e) = subst (GoodRecord i) (sym e) (free_is_good i)

  -- what an entry still names is still there
  child_same : (k i : ℕ) → NamesAt fs k i → record_at qs i ≡ record_at rs i
  child_same k i n = go (ℕ_discrete i c) w.last
    where
      go : Dec (i ≡ c) → Shared rs qs fs c ⊎ Last qs fs c → record_at qs i ≡ record_at rs i
      go (yes e) (inl s) = ap (λ (q : ℕ). record_at qs q) e ∙ (s.stays ∙ ap (λ (q : ℕ). record_at rs q) (sym e))
      go (yes e) (inr l) = absurd (l.unnamed k (n.0, n.1 ∙ e))
      go (no o) l = w.records i o

  ends_without : ((k : ℕ) → GoodEnds rs (entry_at es k)) → (k : ℕ) → GoodEnds qs (entry_at fs k)
  ends_without g k =
      record {
        parent_directory = λ u. parent u;
        child_exists = λ u z. (g k).child_exists (used_before k u) (exists u z);
        child_not_root = λ u e. (g k).child_not_root (used_before k u) (ap (λ (a : Entry). a.child) (sym (used_same k u)) ∙ e);
      }
    where
      parent : Used fs k → (record_at qs (entry_at fs k).parent).kind ≡ 4
      parent u =
          let d : (record_at rs (entry_at es k).parent).kind ≡ 4 = (g k).parent_directory (used_before k u) in
          ap (λ (a : Entry). (record_at qs a.parent).kind) (used_same k u) ∙ (ap (λ (r : Record). r.kind) (directory_same (entry_at es k).parent d) ∙ d)

      exists : Used fs k → (record_at qs (entry_at fs k).child).number ≡ 0 → (record_at rs (entry_at es k).child).number ≡ 0
      exists u z =
          ap (λ (a : Entry). (record_at rs a.child).number) (sym (used_same k u)) ∙ (ap (λ (r : Record). r.number) (sym (child_same k (entry_at fs k).child (u, refl))) ∙ z)

  once_without : (i : ℕ) → i ≢ c → NamedOnce es i → NamedOnce fs i
  once_without i o n = record { place = n.place; names_it = names_after n.place i o n.names_it; only = λ k m. n.only k (names_before k i m) }

  named_without : ((i : ℕ) → GoodNaming es i (record_at rs i)) → (i : ℕ) → GoodNaming fs i (record_at qs i)
  named_without g i =
      record {
        directory_once = λ d o. once_without i (directory_other i (directory_before i d)) ((g i).directory_once (directory_before i d) o);
        other_named = λ n d. go (ℕ_discrete i c) w.last n d;
      }
    where
      go : Dec (i ≡ c) → Shared rs qs fs c ⊎ Last qs fs c → Present qs i → ((record_at qs i).kind ≡ 4 → ⊥) → (k : ℕ) × NamesAt fs k i
      go (yes e) (inl s) n d = (s.by.0, (s.by.1.0, s.by.1.1 ∙ sym e))
      go (yes e) (inr l) n d = absurd (n (ap (λ (q : ℕ). (record_at qs q).number) e ∙ ap (λ (r : Record). r.number) l.gone))
      go (no o) l n d =
          let e : record_at qs i ≡ record_at rs i = w.records i o in
          let t : (k : ℕ) × NamesAt es k i = (g i).other_named (λ z. n (ap (λ (r : Record). r.number) e ∙ z)) (λ z. d (ap (λ (r : Record). r.kind) e ∙ z)) in
          (t.0, names_after t.0 i o t.1)

  -- a directory's way up goes by directories, which other entries name
  module _ (parents : (k : ℕ) → Used es k → (record_at rs (entry_at es k).parent).kind ≡ 4) where
    reaches_without : {n i : ℕ} → Reaches es n i → (record_at rs i).kind ≡ 4 → Reaches fs n i
    reaches_without (at_root e) d = at_root e
    reaches_without (up {n = n} {r = i} k names rest) d =
        up {n = n} {r = i} k (names_after k i (directory_other i d) names)
        (subst (λ (a : Entry). Reaches fs n a.parent) (sym (names_same k i (directory_other i d) names)) (reaches_without rest (parents k names.0)))

    reach_without : ((i : ℕ) → DirectoryReachesRoot es i (record_at rs i)) → (i : ℕ) → DirectoryReachesRoot fs i (record_at qs i)
    reach_without g i d =
        let t : (n : ℕ) × (n ≤ 16) × Reaches es n i = g i (directory_before i d) in
        (t.0, t.1, reaches_without t.2 (directory_before i d))

  distinct_without : NamesAreDistinct es → NamesAreDistinct fs
  distinct_without g i k a b p n =
      g i k (used_before i a) (used_before k b) (sym (ap (λ (e : Entry). e.parent) (used_same i a)) ∙ (p ∙ ap (λ (e : Entry). e.parent) (used_same k b)))
      (sym (ap name_of (used_same i a)) ∙ (n ∙ ap name_of (used_same k b)))

-- ---- the lists of a table without an entry

free_names : (c : ℕ) → names_record c free_entry ≡ false
unfolding names_record
free_names c = refl

-- the record `c` stays or goes with the entries that are left
left_last : (rs : List Record) (fs : List Entry) (c n : ℕ) → naming c fs ≡ n → Shared rs (records_left rs fs c) fs c ⊎ Last (records_left rs fs c) fs c
left_last rs fs c zero e =
    inr
    (record {
      unnamed = λ k n. no_true (sym (count_none (names_record c) free_entry (free_names c) fs k e) ∙ (names_record_exactly c (entry_at fs k)).whole n);
      gone = ap (λ (q : List Record). record_at q c) (records_left_unnamed rs fs c e) ∙ freed_here rs c;
    })
left_last rs fs c (suc n) e =
    let s : (k : ℕ) × (names_record c (entry_at fs k) ≡ true) = count_some (names_record c) free_entry fs (omega arith) in
    inl
    (record {
      by = (s.0, (names_record_exactly c (entry_at fs s.0)).sound s.1);
      stays = ap (λ (q : List Record). record_at q c) (records_left_named rs fs c (λ z. absurd (omega arith)));
    })

left_without : (rs : List Record) (es : List Entry) (j c : ℕ) → (entry_at es j).child ≡ c → ((record_at rs c).kind ≡ 4 → ⊥) → Without rs (records_left rs (entries_left es j) c) es (entries_left es j) j c
left_without rs es j c e d =
    record {
      named_it = e;
      no_directory = d;
      here = left_here es j;
      others = left_other es j;
      records = records_left_other rs (entries_left es j) c;
      last = left_last rs (entries_left es j) c (naming c (entries_left es j)) refl;
    }

-- ---- the table

-- the rules hold of a table whose lists are those of a valid one without an entry
valid_without : (t u : List ℕ) (j c : ℕ) → Valid t → Without (records_of t) (records_of u) (entries_of t) (entries_of u) j c → length u ≡ 8192 → Valid u
valid_without t u j c v w l =
    record {
      size = l;
      root = root_without (records_of t) (records_of u) (entries_of t) (entries_of u) j c w v.root;
      entries = entries_without (records_of t) (records_of u) (entries_of t) (entries_of u) j c w v.entries;
      ends = ends_without (records_of t) (records_of u) (entries_of t) (entries_of u) j c w v.ends;
      records = records_without (records_of t) (records_of u) (entries_of t) (entries_of u) j c w v.records;
      named = named_without (records_of t) (records_of u) (entries_of t) (entries_of u) j c w v.named;
      reach = reach_without (records_of t) (records_of u) (entries_of t) (entries_of u) j c w (λ k a. (v.ends k).parent_directory a) v.reach;
      distinct = distinct_without (records_of t) (records_of u) (entries_of t) (entries_of u) j c w v.distinct;
    }

-- "a record goes with its last entry"
pub valid_dropped : (t : List ℕ) → Valid t → (j : ℕ) → Used (entries_of t) j → ((record_at (records_of t) (entry_at (entries_of t) j).child).kind ≡ 4 → ⊥) → Valid (dropped_entry t j)
unfolding is_free
valid_dropped t v j u d =
    let h : DropEntry t j (dropped_entry t j) = dropped_entry_lem t j v.size in
    let b : eqb (entry_at (entries_of t) j).parent 0 ≡ false = ne_eqb (entry_at (entries_of t) j).parent 0 u in
    let es : entries_of (dropped_entry t j) ≡ entries_left (entries_of t) j = h.entries ∙ rw b refl in
    let rs : records_of (dropped_entry t j) ≡ records_left (records_of t) (entries_left (entries_of t) j) (entry_at (entries_of t) j).child = h.records ∙ rw b refl in
    valid_without t (dropped_entry t j) j (entry_at (entries_of t) j).child v (rw (es, rs) (left_without (records_of t) (entries_of t) j (entry_at (entries_of t) j).child refl d)) (length_dropped_entry t j v.size ∙ v.size)
