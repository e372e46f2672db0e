-- A valid table stays valid where an entry is added: one that names a record which is no directory, or one that names a new record. Assumes nothing.
use Rattle.std.specs.Prelude.{Some, None}
use mathlib.Core.Path.{◌≡◌, refl, sym, ap, ◌∙◌, subst}
use mathlib.Core.Logic.{◌≢◌}
use Prim.Native.Nat.{ℕ, suc, ◌≤◌}
use native.Mathlib.Omega.{arith}
use native.Mathlib.Decide.{ℕ_discrete}
use mathlib.Core.Bool.{true}
use mathlib.Core.List.{List, [], ◌∷◌}
use lib.ListN.{length}
use borrow.Author.Tests.{eqb-true}
use Rattle.layers.specs.Names.{Name}
use Rattle.layers.specs.Items.{records_of, entries_of, record_at, entry_at, free_entry, FitsTail}
use Rattle.layers.specs.Search.{is_free, no_record, name_of, names, search_of, free_entry_place, free_record_place}
use Rattle.layers.specs.Change.{entry_naming, numbered, added_entry, added_record, AddEntry, AddRecord, entry_added, record_added}
use Rattle.layers.specs.Rules.{Present, Used, WellFormed, GoodRecord, GoodEntry, RootIsDirectory, GoodEnds, NamesAt, NamedOnce, GoodNaming, Reaches, at_root, up, DirectoryReachesRoot, NamesAreDistinct, Valid}
use Rattle.layers.specs.declared.items.Record.{Record}
use Rattle.layers.specs.declared.items.Entry.{Entry}
use Rattle.layers.proofs.Least.{least_second}
use Rattle.layers.proofs.Padded.{naming_name, naming_named, name_past}
use Rattle.layers.proofs.EveryLaws.{no_true}
use Rattle.layers.proofs.RuleDistinct.{names_exactly, used_inside}
use Rattle.layers.proofs.RuleFacts.{directory_present, root_present}
use Rattle.layers.proofs.ChangeLaws.{missing_none, free_place_free, free_record_from, free_record_free, added_here, added_other, record_added_here, record_added_other}
use Rattle.layers.proofs.ChangeBytes.{length_added_entry, added_entry_lem, length_added_record, added_record_lem}

-- ---- the entries `fs`, which are `es` with `e` at the place `k`, free before

record Placed (es fs : List Entry) (k : ℕ) (e : Entry) : Type 0 where
  here : entry_at fs k ≡ e
  other : (j : ℕ) → j ≢ k → entry_at fs j ≡ entry_at es j
  was_free : (entry_at es k).parent ≡ 0
  used : e.parent ≢ 0

module _ (es fs : List Entry) (k : ℕ) (e : Entry) (p : Placed es fs k e) where
  -- a rule of each entry alone
  each_placed : (P : Entry → Type 0) → P e → ((j : ℕ) → P (entry_at es j)) → (j : ℕ) → P (entry_at fs j)
  each_placed P new old j = go (ℕ_discrete j k)
    where
      go : Dec (j ≡ k) → P (entry_at fs j)
      go (yes q) = subst P (sym (ap (entry_at fs) q ∙ p.here)) new
      go (no q) = subst P (sym (p.other j q)) (old j)

  -- what was used is another place
  used_other : (j : ℕ) → Used es j → j ≢ k
  used_other j u q = u (ap (λ (i : ℕ). (entry_at es i).parent) q ∙ p.was_free)

  names_kept : (j i : ℕ) → NamesAt es j i → NamesAt fs j i
  names_kept j i n = subst (λ (x : Entry). (x.parent ≡ 0 → ⊥) × (x.child ≡ i)) (sym (p.other j (used_other j n.0))) n

  names_new : NamesAt fs k e.child
  names_new = subst (λ (x : Entry). (x.parent ≡ 0 → ⊥) × (x.child ≡ e.child)) (sym p.here) (p.used, refl)

  names_before : (j i : ℕ) → j ≢ k → NamesAt fs j i → NamesAt es j i
  names_before j i q n = subst (λ (x : Entry). (x.parent ≡ 0 → ⊥) × (x.child ≡ i)) (p.other j q) n

  -- another record is named where it was
  once_kept : (i : ℕ) → i ≢ e.child → NamedOnce es i → NamedOnce fs i
  once_kept i d o = record { place = o.place; names_it = names_kept o.place i o.names_it; only = only }
    where
      only : (j : ℕ) → NamesAt fs j i → j ≡ o.place
      only j n = go (ℕ_discrete j k)
        where
          go : Dec (j ≡ k) → j ≡ o.place
          go (yes q) = absurd (d (sym n.1 ∙ ap (λ (x : Entry). x.child) (ap (entry_at fs) q ∙ p.here)))
          go (no q) = o.only j (names_before j i q n)

  -- the new one alone, where no entry named it
  once_new : ((j : ℕ) → NamesAt es j e.child → ⊥) → NamedOnce fs e.child
  once_new none = record { place = k; names_it = names_new; only = only }
    where
      only : (j : ℕ) → NamesAt fs j e.child → j ≡ k
      only j n = go (ℕ_discrete j k)
        where
          go : Dec (j ≡ k) → j ≡ k
          go (yes q) = q
          go (no q) = absurd (none j (names_before j e.child q n))

  reaches_kept : {n r : ℕ} → Reaches es n r → Reaches fs n r
  reaches_kept (at_root z) = at_root z
  reaches_kept (up {n = n} {r = r} j m rest) =
      up {n = n} {r = r} j (names_kept j r m)
      (subst (λ (x : Entry). Reaches fs n x.parent) (sym (p.other j (used_other j m.0))) (reaches_kept rest))

  reaches_new : {n : ℕ} → Reaches es n e.parent → Reaches fs (suc n) e.child
  reaches_new {n} h = up {n = n} {r = e.child} k names_new (subst (λ (x : Entry). Reaches fs n x.parent) (sym p.here) (reaches_kept h))

  module _ (m : search_of es e.parent (name_of e) ≡ None) where
    no_clash : (j : ℕ) → Used es j → (entry_at es j).parent ≡ e.parent → name_of (entry_at es j) ≡ name_of e → ⊥
    no_clash j u a b =
        no_true (sym (missing_none (names e.parent (name_of e)) free_entry 0 es m j (used_inside es j u)) ∙ (names_exactly e.parent (name_of e) (entry_at es j)).whole (u, (a, b)))

    distinct_placed : NamesAreDistinct es → NamesAreDistinct fs
    distinct_placed g i j u w a b = go (ℕ_discrete i k) (ℕ_discrete j k)
      where
        is_new : (i : ℕ) → i ≡ k → entry_at fs i ≡ e
        is_new i q = ap (entry_at fs) q ∙ p.here

        one_new : (i j : ℕ) → i ≡ k → j ≢ k → Used fs j → (entry_at fs i).parent ≡ (entry_at fs j).parent → name_of (entry_at fs i) ≡ name_of (entry_at fs j) → ⊥
        one_new i j q r w a b =
            no_clash j (subst (λ (x : Entry). x.parent ≡ 0 → ⊥) (p.other j r) w)
            (sym (ap (λ (x : Entry). x.parent) (p.other j r)) ∙ (sym a ∙ ap (λ (x : Entry). x.parent) (is_new i q)))
            (sym (ap name_of (p.other j r)) ∙ (sym b ∙ ap name_of (is_new i q)))

        go : Dec (i ≡ k) → Dec (j ≡ k) → i ≡ j
        go (yes q) (yes r) = q ∙ sym r
        go (yes q) (no r) = absurd (one_new i j q r w a b)
        go (no q) (yes r) = absurd (one_new j i r q u (sym a) (sym b))
        go (no q) (no r) =
            g i j (subst (λ (x : Entry). x.parent ≡ 0 → ⊥) (p.other i q) u) (subst (λ (x : Entry). x.parent ≡ 0 → ⊥) (p.other j r) w)
            (sym (ap (λ (x : Entry). x.parent) (p.other i q)) ∙ (a ∙ ap (λ (x : Entry). x.parent) (p.other j r)))
            (sym (ap name_of (p.other i q)) ∙ (b ∙ ap name_of (p.other j r)))

-- ---- the records with it: those that were there stand as they did, and at most the one that `e` names is new

record Grown (rs ss : List Record) (es : List Entry) (e : Entry) : Type 0 where
  elsewhere : (i : ℕ) → i ≢ e.child → record_at ss i ≡ record_at rs i
  kept : (i : ℕ) → Present rs i → record_at ss i ≡ record_at rs i
  child_there : Present ss e.child
  child_good : GoodRecord e.child (record_at ss e.child)
  child_not_root : e.child ≢ 1
  child_unnamed : (record_at ss e.child).kind ≡ 4 → (j : ℕ) → NamesAt es j e.child → ⊥
  child_near : (record_at ss e.child).kind ≡ 4 → (n : ℕ) × (n ≤ 15) × Reaches es n e.parent

module _ (t u : List ℕ) (v : Valid t) (k : ℕ) (e : Entry) (p : Placed (entries_of t) (entries_of u) k e) (g : Grown (records_of t) (records_of u) (entries_of t) e) (d : (record_at (records_of t) e.parent).kind ≡ 4) where
  grown_directory : (i : ℕ) → (record_at (records_of t) i).kind ≡ 4 → (record_at (records_of u) i).kind ≡ 4
  grown_directory i q = ap (λ (r : Record). r.kind) (g.kept i (directory_present t v i q)) ∙ q

  grown_present : (i : ℕ) → Present (records_of t) i → Present (records_of u) i
  grown_present i q z = q (sym (ap (λ (r : Record). r.number) (g.kept i q)) ∙ z)

  grown_root : RootIsDirectory (records_of u)
  grown_root = subst (λ (r : Record). (r.number ≡ 1) × (r.kind ≡ 4)) (sym (g.kept 1 (root_present t v))) v.root

  grown_entries : GoodEntry e → (j : ℕ) → GoodEntry (entry_at (entries_of u) j)
  grown_entries f = each_placed (entries_of t) (entries_of u) k e p GoodEntry f v.entries

  grown_ends : (j : ℕ) → GoodEnds (records_of u) (entry_at (entries_of u) j)
  grown_ends = each_placed (entries_of t) (entries_of u) k e p (GoodEnds (records_of u)) new old
    where
      new : GoodEnds (records_of u) e
      new = record { parent_directory = λ _. grown_directory e.parent d; child_exists = λ _. g.child_there; child_not_root = λ _. g.child_not_root }

      old : (j : ℕ) → GoodEnds (records_of u) (entry_at (entries_of t) j)
      old j =
          record {
            parent_directory = λ n. grown_directory (entry_at (entries_of t) j).parent ((v.ends j).parent_directory n);
            child_exists = λ n. grown_present (entry_at (entries_of t) j).child ((v.ends j).child_exists n);
            child_not_root = (v.ends j).child_not_root;
          }

  -- a rule of each record at its place
  each_grown : (P : ℕ → Record → Type 0) → P e.child (record_at (records_of u) e.child) → ((i : ℕ) → i ≢ e.child → P i (record_at (records_of t) i)) → (i : ℕ) → P i (record_at (records_of u) i)
  each_grown P new old i = go (ℕ_discrete i e.child)
    where
      go : Dec (i ≡ e.child) → P i (record_at (records_of u) i)
      go (yes q) = subst (λ (i : ℕ). P i (record_at (records_of u) i)) (sym q) new
      go (no q) = subst (P i) (sym (g.elsewhere i q)) (old i q)

  grown_records : (i : ℕ) → GoodRecord i (record_at (records_of u) i)
  grown_records = each_grown GoodRecord g.child_good (λ i _. v.records i)

  grown_named : (i : ℕ) → GoodNaming (entries_of u) i (record_at (records_of u) i)
  grown_named = each_grown (GoodNaming (entries_of u)) new old
    where
      new : GoodNaming (entries_of u) e.child (record_at (records_of u) e.child)
      new = record { directory_once = λ q _. once_new (entries_of t) (entries_of u) k e p (g.child_unnamed q); other_named = λ _ _. (k, names_new (entries_of t) (entries_of u) k e p) }

      old : (i : ℕ) → i ≢ e.child → GoodNaming (entries_of u) i (record_at (records_of t) i)
      old i n =
          record {
            directory_once = λ q m. once_kept (entries_of t) (entries_of u) k e p i n ((v.named i).directory_once q m);
            other_named = λ q m. let s : (j : ℕ) × NamesAt (entries_of t) j i = (v.named i).other_named q m in (s.0, names_kept (entries_of t) (entries_of u) k e p s.0 i s.1);
          }

  grown_reach : (i : ℕ) → DirectoryReachesRoot (entries_of u) i (record_at (records_of u) i)
  grown_reach = each_grown (DirectoryReachesRoot (entries_of u)) new old
    where
      new : DirectoryReachesRoot (entries_of u) e.child (record_at (records_of u) e.child)
      new q =
          let s : (n : ℕ) × (n ≤ 15) × Reaches (entries_of t) n e.parent = g.child_near q in
          let l : s.0 ≤ 15 = s.1 in
          (suc s.0, omega arith, reaches_new (entries_of t) (entries_of u) k e p s.2)

      old : (i : ℕ) → i ≢ e.child → DirectoryReachesRoot (entries_of u) i (record_at (records_of t) i)
      old i _ q = let s : (n : ℕ) × (n ≤ 16) × Reaches (entries_of t) n i = v.reach i q in (s.0, s.1, reaches_kept (entries_of t) (entries_of u) k e p s.2)

  grown_valid : length u ≡ 8192 → GoodEntry e → search_of (entries_of t) e.parent (name_of e) ≡ None → Valid u
  grown_valid n f m =
      record {
        size = n;
        root = grown_root;
        entries = grown_entries f;
        ends = grown_ends;
        records = grown_records;
        named = grown_named;
        reach = grown_reach;
        distinct = distinct_placed (entries_of t) (entries_of u) k e p m v.distinct;
      }

-- ---- the entry that is added

some_length : (x : Name) → (x ≡ [] → ⊥) → 1 ≤ length x
some_length [] n = absurd (n refl)
some_length (b ∷ x) n = omega arith

module _ (d : ℕ) (x : Name) (c : ℕ) where
  naming_good : d ≢ 0 → WellFormed x → length x ≤ 28 → GoodEntry (entry_naming d x c)
  unfolding entry_naming
  naming_good n w l =
      let e : length x ≡ (entry_naming d x c).length = least_second 28 (length x) l in
      let s : 1 ≤ length x = some_length x w.some in
      record {
        free = λ z. absurd (n z);
        zero_is = refl;
        length_fits = λ _. (omega arith, omega arith);
        padded = λ i h. name_past x l i (omega arith);
        well_formed = λ _. subst WellFormed (sym (naming_named d x c l)) w;
      }

parent_not_zero : (rs : List Record) (d : ℕ) → (record_at rs d).kind ≡ 4 → d ≢ 0
parent_not_zero rs d k z = let e : ◌≡◌ {A = ℕ} 0 4 = ap (λ (i : ℕ). (record_at rs i).kind) (sym z) ∙ k in omega arith

free_parent : (e : Entry) → is_free e ≡ true → e.parent ≡ 0
unfolding is_free
free_parent e h = eqb-true e.parent 0 h

added_placed : (es fs : List Entry) (k : ℕ) (e : Entry) → free_entry_place es ≡ Some k → fs ≡ entry_added es e → e.parent ≢ 0 → Placed es fs k e
added_placed es fs k e h q n =
    record {
      here = ap (λ (l : List Entry). entry_at l k) q ∙ added_here es e k h;
      other = λ j m. ap (λ (l : List Entry). entry_at l j) q ∙ added_other es e k h j m;
      was_free = free_parent (entry_at es k) (free_place_free es k h);
      used = n;
    }

-- ---- a link's: the record is there already, and no directory

same_grown : (t : List ℕ) → Valid t → (d : ℕ) (x : Name) (c : ℕ) → Present (records_of t) c → ((record_at (records_of t) c).kind ≡ 4 → ⊥) → Grown (records_of t) (records_of t) (entries_of t) (entry_naming d x c)
unfolding entry_naming
same_grown t v d x c p n =
    record {
      elsewhere = λ _ _. refl;
      kept = λ _ _. refl;
      child_there = p;
      child_good = v.records c;
      child_not_root = λ e. n (ap (λ (i : ℕ). (record_at (records_of t) i).kind) e ∙ v.root.1);
      child_unnamed = λ k. absurd (n k);
      child_near = λ k. absurd (n k);
    }

pub valid_linked : (t : List ℕ) → Valid t → (d c : ℕ) (x : Name) → (record_at (records_of t) d).kind ≡ 4 → Present (records_of t) c → ((record_at (records_of t) c).kind ≡ 4 → ⊥)
    → WellFormed x → length x ≤ 28 → search_of (entries_of t) d x ≡ None → (k : ℕ) → free_entry_place (entries_of t) ≡ Some k → Valid (added_entry t (entry_naming d x c))
unfolding entry_naming
valid_linked t v d c x q p n w l m k h =
    let a : AddEntry t (entry_naming d x c) (free_entry_place (entries_of t)) (added_entry t (entry_naming d x c)) = added_entry_lem t (entry_naming d x c) (naming_name d x c) v.size in
    let z : d ≢ 0 = parent_not_zero (records_of t) d q in
    grown_valid t (added_entry t (entry_naming d x c)) v k (entry_naming d x c)
    (added_placed (entries_of t) (entries_of (added_entry t (entry_naming d x c))) k (entry_naming d x c) h a.entries z)
    (subst (λ (ss : List Record). Grown (records_of t) ss (entries_of t) (entry_naming d x c)) (sym a.records) (same_grown t v d x c p n)) q
    (length_added_entry t (entry_naming d x c) (naming_name d x c) v.size ∙ v.size) (naming_good d x c z w l)
    (ap (search_of (entries_of t) d) (naming_named d x c l) ∙ m)

-- ---- a creation's and a copy-up's: the record is new

free_number : (r : Record) → no_record r ≡ true → r.number ≡ 0
unfolding no_record
free_number r h = eqb-true r.number 0 h

module _ (t : List ℕ) (v : Valid t) (d : ℕ) (x : Name) (r : Record) (i : ℕ) (h : free_record_place (records_of t) ≡ Some i) where
  -- what was there is another record
  there_other : (q : ℕ) → Present (records_of t) q → q ≢ i
  there_other q p e = p (ap (λ (j : ℕ). (record_at (records_of t) j).number) e ∙ free_number (record_at (records_of t) i) (free_record_free (records_of t) i h))

  new_grown : GoodRecord i (numbered i r) → (r.kind ≡ 4 → (n : ℕ) × (n ≤ 15) × Reaches (entries_of t) n d) → Grown (records_of t) (record_added (records_of t) r) (entries_of t) (entry_naming d x i)
  unfolding entry_naming
  new_grown g near =
      let e : record_at (record_added (records_of t) r) i ≡ numbered i r = record_added_here (records_of t) r i h in
      let l : 1 ≤ i = free_record_from (records_of t) i h in
      record {
        elsewhere = record_added_other (records_of t) r i h;
        kept = λ q p. record_added_other (records_of t) r i h q (there_other q p);
        child_there = λ z. let y : i ≡ 0 = sym (ap (λ (s : Record). s.number) e) ∙ z in omega arith;
        child_good = subst (GoodRecord i) (sym e) g;
        child_not_root = λ z. there_other 1 (root_present t v) (sym z);
        child_unnamed = λ _ j n. there_other (entry_at (entries_of t) j).child ((v.ends j).child_exists n.0) n.1;
        child_near = λ k. near (sym (ap (λ (s : Record). s.kind) e) ∙ k);
      }

pub valid_made : (t : List ℕ) → Valid t → (d : ℕ) (x : Name) (r : Record) → (record_at (records_of t) d).kind ≡ 4 → (r.kind ≡ 4 → (n : ℕ) × (n ≤ 15) × Reaches (entries_of t) n d)
    → WellFormed x → length x ≤ 28 → search_of (entries_of t) d x ≡ None → (i : ℕ) → free_record_place (records_of t) ≡ Some i → GoodRecord i (numbered i r) → FitsTail r
    → (k : ℕ) → free_entry_place (entries_of t) ≡ Some k → Valid (added_entry (added_record t r) (entry_naming d x i))
unfolding entry_naming
valid_made t v d x r q near w l m i hr g f k h =
    let n : length (added_record t r) ≡ 8192 = length_added_record t r v.size ∙ v.size in
    let b : AddRecord t r (free_record_place (records_of t)) (added_record t r) = added_record_lem t r v.size (record { permissions_fit = (let y : r.permissions ≤ 4095 = g.permissions_fit in omega arith); links_fit = (let y : r.links ≡ 0 = g.links_zero in omega arith) }) f in
    let a : AddEntry (added_record t r) (entry_naming d x i) (free_entry_place (entries_of (added_record t r))) (added_entry (added_record t r) (entry_naming d x i)) = added_entry_lem (added_record t r) (entry_naming d x i) (naming_name d x i) n in
    let z : d ≢ 0 = parent_not_zero (records_of t) d q in
    grown_valid t (added_entry (added_record t r) (entry_naming d x i)) v k (entry_naming d x i)
    (added_placed (entries_of t) (entries_of (added_entry (added_record t r) (entry_naming d x i))) k (entry_naming d x i) h (a.entries ∙ ap (λ (es : List Entry). entry_added es (entry_naming d x i)) b.entries) z)
    (subst (λ (ss : List Record). Grown (records_of t) ss (entries_of t) (entry_naming d x i)) (sym (a.records ∙ b.records)) (new_grown t v d x r i hr g near)) q
    (length_added_entry (added_record t r) (entry_naming d x i) (naming_name d x i) n ∙ n) (naming_good d x i z w l)
    (ap (search_of (entries_of t) d) (naming_named d x i l) ∙ m)
