-- What a change of one place does: to the search at the same and at another parent and name, to the other items, and to the counts. Assumes nothing.
use Rattle.std.specs.Prelude.{Option, Some, None}
use mathlib.Core.Path.{◌≡◌, refl, sym, ap, ap₂, ◌∙◌}
use mathlib.Core.Logic.{◌≢◌}
use Prim.Native.Nat.{ℕ, zero, suc, ◌+◌, ◌≤◌, ◌<◌}
use native.Mathlib.Omega.{arith}
use native.Mathlib.Nat.{add-zero, add-suc, suc-add, zero-add}
use mathlib.Core.Bool.{Bool, true, false, cond}
use mathlib.Core.List.{List, [], ◌∷◌}
use lib.Dec.{eqb}
use lib.ListN.{length, get_or, set}
use lib.Seq.{get_or-set_same, get_or-set_other}
use borrow.Author.Tests.{eq-eqb, ne_eqb, eqb-true, eqb-false}
use Rattle.layers.specs.Items.{records_of, entries_of, record_at, entry_at, free_record, free_entry, with_record, with_entry, record_put, entry_put, PutRecord, PutEntry}
use Rattle.layers.specs.Names.{Name}
use Rattle.layers.specs.Search.{first_from, one, count_if, names, search_of, is_free, no_record, naming, free_entry_place, free_record_place}
use Rattle.layers.specs.Change.{entry_placed, entry_added, entry_put_at, AddEntry, numbered, record_placed, record_added, record_put_at, AddRecord, records_left, record_left, FreedRecord, entries_left, dropped_entry, DropEntry}
use Rattle.layers.specs.declared.items.Record.{Record}
use Rattle.layers.specs.declared.items.Entry.{Entry}
use Rattle.layers.proofs.ItemLaws.{length_records, length_entries}

-- ---- the first that passes a test, after one item changed

module _ {A : Type 0} (p : A → Bool) (d : A) where
  -- what is found lies in the list
  pub first_below : (s : ℕ) (xs : List A) (k : ℕ) → first_from p s xs ≡ Some k → k < s + length xs
  unfolding first_from
  first_below s [] k h = absurd (let z : ◌≡◌ {A = ℕ} 0 1 = cc in omega arith)
  first_below s (x ∷ xs) k h = go (p x) h (first_below (suc s) xs k)
    where
      go : (b : Bool) → cond b (Some s) (first_from p (suc s) xs) ≡ Some k → (first_from p (suc s) xs ≡ Some k → k < suc s + length xs) → k < s + suc (length xs)
      go true e ih = let z : s ≡ k = cc in omega arith
      go false e ih = let z : k < suc s + length xs = ih e in omega arith

  -- what is found does not lie before the list
  pub first_from_lem : (s : ℕ) (xs : List A) (k : ℕ) → first_from p s xs ≡ Some k → s ≤ k
  unfolding first_from
  first_from_lem s [] k h = absurd (let z : ◌≡◌ {A = ℕ} 0 1 = cc in omega arith)
  first_from_lem s (x ∷ xs) k h = go (p x) h (first_from_lem (suc s) xs k)
    where
      go : (b : Bool) → cond b (Some s) (first_from p (suc s) xs) ≡ Some k → (first_from p (suc s) xs ≡ Some k → suc s ≤ k) → s ≤ k
      go true e ih = let z : s ≡ k = cc in omega arith
      go false e ih = let z : suc s ≤ k = ih e in omega arith

  -- and it passes
  pub first_passes : (s : ℕ) (xs : List A) (k : ℕ) → first_from p s xs ≡ Some (s + k) → p (get_or xs k d) ≡ true
  unfolding first_from
  first_passes s [] k h = absurd (let z : ◌≡◌ {A = ℕ} 0 1 = cc in omega arith)
  first_passes s (x ∷ xs) k h = go (p x) refl k h (first_passes (suc s) xs)
    where
      go : (b : Bool) → p x ≡ b → (k : ℕ) → cond b (Some s) (first_from p (suc s) xs) ≡ Some (s + k) → ((k : ℕ) → first_from p (suc s) xs ≡ Some (suc s + k) → p (get_or xs k d) ≡ true) → p (get_or (x ∷ xs) k d) ≡ true
      go true e zero h ih = e
      go true e (suc k) h ih = absurd (let z : s ≡ s + suc k = cc in omega arith)
      go false e zero h ih = absurd (let z : suc s ≤ s + 0 = first_from_lem (suc s) xs (s + 0) h in omega arith)
      go false e (suc k) h ih = ih k (h ∙ ap Some (add-suc s k ∙ sym (suc-add s k)))

  -- where none passes, none is found
  pub first_missing : (s : ℕ) (xs : List A) → ((i : ℕ) → i < length xs → p (get_or xs i d) ≡ false) → first_from p s xs ≡ None
  unfolding first_from
  first_missing s [] h = refl
  first_missing s (x ∷ xs) h = rw (h 0 (omega arith)) (first_missing (suc s) xs (λ i l. h (suc i) (omega arith)))

  -- where none is found, none passes
  pub missing_none : (s : ℕ) (xs : List A) → first_from p s xs ≡ None → (i : ℕ) → i < length xs → p (get_or xs i d) ≡ false
  unfolding first_from
  missing_none s [] h i l = absurd (omega arith)
  missing_none s (x ∷ xs) h i l = go (p x) refl i l h (missing_none (suc s) xs)
    where
      go : (b : Bool) → p x ≡ b → (i : ℕ) → i < suc (length xs) → cond b (Some s) (first_from p (suc s) xs) ≡ None → (first_from p (suc s) xs ≡ None → (i : ℕ) → i < length xs → p (get_or xs i d) ≡ false) → p (get_or (x ∷ xs) i d) ≡ false
      go true e i l h ih = absurd (let z : ◌≡◌ {A = ℕ} 0 1 = cc in omega arith)
      go false e zero l h ih = e
      go false e (suc i) l h ih = ih h i (omega arith)

  -- a place that passes neither before nor after the change
  pub first_set_other : (s : ℕ) (xs : List A) (k : ℕ) (a : A) → p a ≡ false → p (get_or xs k d) ≡ false → first_from p s (set xs k a) ≡ first_from p s xs
  unfolding first_from
  first_set_other s [] k a n m = refl
  first_set_other s (x ∷ xs) zero a n m = rw (n, m) refl
  first_set_other s (x ∷ xs) (suc k) a n m = ap (λ r. cond (p x) (Some s) r) (first_set_other (suc s) xs k a n m)

  -- a place that passes now, where none did
  pub first_set_new : (s : ℕ) (xs : List A) (k : ℕ) (a : A) → p a ≡ true → k < length xs → first_from p s xs ≡ None → first_from p s (set xs k a) ≡ Some (s + k)
  unfolding first_from
  first_set_new s [] k a h l m = absurd (omega arith)
  first_set_new s (x ∷ xs) zero a h l m = rw (h, add-zero s) refl
  first_set_new s (x ∷ xs) (suc k) a h l m = go (p x) m (first_set_new (suc s) xs k a h (omega arith))
    where
      go : (b : Bool) → cond b (Some s) (first_from p (suc s) xs) ≡ None → (first_from p (suc s) xs ≡ None → first_from p (suc s) (set xs k a) ≡ Some (suc s + k)) → cond b (Some s) (first_from p (suc s) (set xs k a)) ≡ Some (s + suc k)
      go true e ih = absurd (let z : ◌≡◌ {A = ℕ} 0 1 = cc in omega arith)
      go false e ih = ih e ∙ ap Some (suc-add s k ∙ sym (add-suc s k))

  -- how many pass, after one item changed
  pub count_set : (xs : List A) (k : ℕ) (a : A) → k < length xs → count_if p (set xs k a) + one (p (get_or xs k d)) ≡ count_if p xs + one (p a)
  unfolding count_if
  count_set [] k a l = absurd (omega arith)
  count_set (x ∷ xs) zero a l = let o : ℕ = one (p a) in let q : ℕ = one (p x) in let c : ℕ = count_if p xs in omega arith
  count_set (x ∷ xs) (suc k) a l = let ih : count_if p (set xs k a) + one (p (get_or xs k d)) ≡ count_if p xs + one (p a) = count_set xs k a (omega arith) in omega arith

-- ---- the searches of a table

free_names_nothing : (d : ℕ) (x : Name) (e : Entry) → is_free e ≡ true → names d x e ≡ false
unfolding names is_free
free_names_nothing d x e h = rw h refl

module _ (es : List Entry) (k : ℕ) (e : Entry) (d : ℕ) (x : Name) where
  -- at another parent or name nothing changes
  pub search_other : names d x e ≡ false → names d x (entry_at es k) ≡ false → search_of (with_entry es k e) d x ≡ search_of es d x
  search_other n m = first_set_other (names d x) free_entry 0 es k e n m

  -- a new name is found where it was put
  pub search_new : names d x e ≡ true → k < length es → search_of es d x ≡ None → search_of (with_entry es k e) d x ≡ Some k
  search_new h l m = first_set_new (names d x) free_entry 0 es k e h l m ∙ ap Some (zero-add k)

-- the lowest free place is free, and in the table
module _ (es : List Entry) (k : ℕ) (h : free_entry_place es ≡ Some k) where
  pub free_place_below : k < length es
  free_place_below = let l : k < 0 + length es = first_below is_free free_entry 0 es k h in omega arith

  pub free_place_free : is_free (entry_at es k) ≡ true
  free_place_free = first_passes is_free free_entry 0 es k (h ∙ ap Some (sym (zero-add k)))

module _ (rs : List Record) (i : ℕ) (h : free_record_place rs ≡ Some i) where
  pub free_record_from : 1 ≤ i
  free_record_from = first_from_lem no_record free_record 1 rs i h

  pub free_record_below : i < 1 + length rs
  free_record_below = first_below no_record free_record 1 rs i h

  pub free_record_free : no_record (record_at rs i) ≡ true
  free_record_free = go i h free_record_from
    where
      go : (i : ℕ) → free_record_place rs ≡ Some i → 1 ≤ i → no_record (record_at rs i) ≡ true
      go zero e l = absurd (omega arith)
      go (suc i) e l = first_passes no_record free_record 1 rs i (e ∙ ap Some (sym (suc-add 0 i ∙ ap suc (zero-add i))))

-- ---- an entry added

module _ (es : List Entry) (e : Entry) (k : ℕ) (h : free_entry_place es ≡ Some k) where
  added_is : entry_added es e ≡ with_entry es k e
  unfolding entry_placed
  added_is = rw h refl

  pub added_here : entry_at (entry_added es e) k ≡ e
  added_here = rw added_is (get_or-set_same es k e free_entry (free_place_below es k h))

  pub added_other : (j : ℕ) → j ≢ k → entry_at (entry_added es e) j ≡ entry_at es j
  added_other j n = rw added_is (get_or-set_other es k j e free_entry n)

  -- another parent or name is searched as before
  pub added_search_other : (d : ℕ) (x : Name) → names d x e ≡ false → search_of (entry_added es e) d x ≡ search_of es d x
  added_search_other d x n = rw added_is (search_other es k e d x n (free_names_nothing d x (entry_at es k) (free_place_free es k h)))

  -- the new name is found where it was put
  pub added_search : (d : ℕ) (x : Name) → names d x e ≡ true → search_of es d x ≡ None → search_of (entry_added es e) d x ≡ Some k
  added_search d x n m = rw added_is (search_new es k e d x n (free_place_below es k h) m)

-- ---- an entry taken away

set_default : {A : Type 0} (xs : List A) (j : ℕ) (a : A) → get_or (set xs j a) j a ≡ a
set_default [] j a = refl
set_default (x ∷ xs) zero a = refl
set_default (x ∷ xs) (suc j) a = set_default xs j a

free_entry_names : (d : ℕ) (x : Name) → names d x free_entry ≡ false
unfolding names
free_entry_names d x = refl

module _ (es : List Entry) (j : ℕ) where
  pub left_here : entry_at (entries_left es j) j ≡ free_entry
  left_here = set_default es j free_entry

  pub left_other : (i : ℕ) → i ≢ j → entry_at (entries_left es j) i ≡ entry_at es i
  left_other i n = get_or-set_other es j i free_entry free_entry n

  pub left_search_other : (d : ℕ) (x : Name) → names d x (entry_at es j) ≡ false → search_of (entries_left es j) d x ≡ search_of es d x
  left_search_other d x m = search_other es j free_entry d x (free_entry_names d x) m

  -- the name is gone, where no other entry has it
  pub left_search : (d : ℕ) (x : Name) → ((i : ℕ) → i ≢ j → names d x (entry_at es i) ≡ false) → search_of (entries_left es j) d x ≡ None
  left_search d x only = first_missing (names d x) free_entry 0 (entries_left es j) (λ i l. go i (eqb i j) refl)
    where
      go : (i : ℕ) (b : Bool) → eqb i j ≡ b → names d x (entry_at (entries_left es j) i) ≡ false
      go i true e = rw (eqb-true i j e, left_here) (free_entry_names d x)
      go i false e = rw (left_other i (eqb-false i j e)) (only i (eqb-false i j e))

-- ---- records put and freed

module _ (rs : List Record) (i : ℕ) (r : Record) where
  pub with_record_other : (q : ℕ) → q ≢ i → record_at (with_record rs i r) q ≡ record_at rs q
  unfolding with_record
  with_record_other q n = go q i n
    where
      go : (q i : ℕ) → q ≢ i → record_at (with_record rs i r) q ≡ record_at rs q
      go zero zero n = refl
      go zero (suc i) n = refl
      go (suc q) zero n = refl
      go (suc q) (suc i) n = get_or-set_other rs i q r free_record (λ e. n (ap suc e))

  pub with_record_here : 1 ≤ i → i ≤ length rs → record_at (with_record rs i r) i ≡ r
  unfolding with_record
  with_record_here lo hi = go i lo hi
    where
      go : (i : ℕ) → 1 ≤ i → i ≤ length rs → record_at (with_record rs i r) i ≡ r
      go zero lo hi = absurd (omega arith)
      go (suc i) lo hi = get_or-set_same rs i r free_record (omega arith)

pub freed_here : (rs : List Record) (c : ℕ) → record_at (with_record rs c free_record) c ≡ free_record
unfolding with_record
freed_here rs zero = refl
freed_here rs (suc c) = set_default rs c free_record

module _ (rs : List Record) (r : Record) (i : ℕ) (h : free_record_place rs ≡ Some i) where
  record_added_is : record_added rs r ≡ with_record rs i (numbered i r)
  unfolding record_placed
  record_added_is = rw h refl

  pub record_added_here : record_at (record_added rs r) i ≡ numbered i r
  record_added_here = rw record_added_is (with_record_here rs i (numbered i r) (free_record_from rs i h) (let l : i < 1 + length rs = free_record_below rs i h in omega arith))

  pub record_added_other : (q : ℕ) → q ≢ i → record_at (record_added rs r) q ≡ record_at rs q
  record_added_other q n = rw record_added_is (with_record_other rs i (numbered i r) q n)

module _ (rs : List Record) (es : List Entry) (c : ℕ) where
  pub records_left_named : naming c es ≢ 0 → records_left rs es c ≡ rs
  unfolding records_left
  records_left_named n = rw (ne_eqb (naming c es) 0 n) refl

  pub records_left_unnamed : naming c es ≡ 0 → records_left rs es c ≡ with_record rs c free_record
  unfolding records_left
  records_left_unnamed e = rw (eq-eqb (naming c es) 0 e) refl

  pub records_left_other : (q : ℕ) → q ≢ c → record_at (records_left rs es c) q ≡ record_at rs q
  unfolding records_left
  records_left_other q n = go (eqb (naming c es) 0)
    where
      go : (b : Bool) → record_at (cond b (with_record rs c free_record) rs) q ≡ record_at rs q
      go true = with_record_other rs c free_record q n
      go false = refl

module _ (t : List ℕ) (c : ℕ) where
  pub record_left_named : naming c (entries_of t) ≢ 0 → record_left t c ≡ t
  unfolding record_left
  record_left_named n = rw (ne_eqb (naming c (entries_of t)) 0 n) refl

  pub record_left_unnamed : naming c (entries_of t) ≡ 0 → record_left t c ≡ record_put t c free_record
  unfolding record_left
  record_left_unnamed e = rw (eq-eqb (naming c (entries_of t)) 0 e) refl

-- ---- as the code changes a table

pub free_below : (t : List ℕ) (f : Option ℕ) (k : ℕ) → f ≡ free_entry_place (entries_of t) → f ≡ Some k → k < 128
free_below t f k p q = let h : k < length (entries_of t) = free_place_below (entries_of t) k (sym p ∙ q) in omega (arith, length_entries t)

pub record_below : (t : List ℕ) (f : Option ℕ) (i : ℕ) → f ≡ free_record_place (records_of t) → f ≡ Some i → i < 256
record_below t f i p q = let h : i < 1 + length (records_of t) = free_record_below (records_of t) i (sym p ∙ q) in omega (arith, length_records t)

pub not_added : (t : List ℕ) (e : Entry) (f : Option ℕ) → f ≡ free_entry_place (entries_of t) → f ≡ None → AddEntry t e None t
unfolding entry_placed entry_put_at
not_added t e f p q = record { bytes = rw (← p, q) refl; place = sym q ∙ p; entries = rw (← p, q) refl; records = refl }

pub added : (t u : List ℕ) (e : Entry) (f : Option ℕ) (k : ℕ) → f ≡ free_entry_place (entries_of t) → f ≡ Some k → PutEntry t k e u → AddEntry t e (Some k) u
unfolding entry_placed entry_put_at
added t u e f k p q h = record { bytes = h.bytes ∙ rw (← p, q) refl; place = sym q ∙ p; entries = h.entries ∙ rw (← p, q) refl; records = h.records }

pub record_not_added : (t : List ℕ) (r : Record) (f : Option ℕ) → f ≡ free_record_place (records_of t) → f ≡ None → AddRecord t r None t
unfolding record_placed record_put_at
record_not_added t r f p q = record { bytes = rw (← p, q) refl; place = sym q ∙ p; records = rw (← p, q) refl; entries = refl }

pub record_added_lem : (t u : List ℕ) (r s : Record) (f : Option ℕ) (i : ℕ) → f ≡ free_record_place (records_of t) → f ≡ Some i → s ≡ numbered i r → PutRecord t i s u → AddRecord t r (Some i) u
unfolding record_placed record_put_at
record_added_lem t u r s f i p q e h = record { bytes = h.bytes ∙ rw (e, ← p, q) refl; place = sym q ∙ p; records = h.records ∙ rw (e, ← p, q) refl; entries = h.entries }

module _ (t u : List ℕ) (c n : ℕ) (q : n ≡ naming c (entries_of t)) where
  pub freed : (w : ℕ) (s : Record) → n ≡ 0 → w ≡ c → s ≡ free_record → PutRecord t w s u → FreedRecord t c u
  freed w s z e f h =
      record {
        bytes = h.bytes ∙ (rw (e, f) refl ∙ sym (record_left_unnamed t c (sym q ∙ z)));
        records = h.records ∙ (rw (e, f) refl ∙ sym (records_left_unnamed (records_of t) (entries_of t) c (sym q ∙ z)));
        entries = h.entries;
      }

  pub not_freed : (n ≡ 0 → ⊥) → FreedRecord t c t
  not_freed z = record { bytes = sym (record_left_named t c (λ e. z (q ∙ e))); records = sym (records_left_named (records_of t) (entries_of t) c (λ e. z (q ∙ e))); entries = refl }

module _ (t : List ℕ) (j p : ℕ) (q : p ≡ (entry_at (entries_of t) j).parent) where
  pub not_dropped : p ≡ 0 → DropEntry t j t
  unfolding is_free dropped_entry
  not_dropped z = record { bytes = rw (eq-eqb (entry_at (entries_of t) j).parent 0 (sym q ∙ z)) refl; entries = rw (eq-eqb (entry_at (entries_of t) j).parent 0 (sym q ∙ z)) refl; records = rw (eq-eqb (entry_at (entries_of t) j).parent 0 (sym q ∙ z)) refl }

  pub dropped : (u v : List ℕ) (c : ℕ) (e : Entry) → (p ≡ 0 → ⊥) → c ≡ (entry_at (entries_of t) j).child → e ≡ free_entry → PutEntry t j e u → FreedRecord u c v → DropEntry t j v
  unfolding is_free dropped_entry
  dropped u v c e z w f h k =
      let b : eqb (entry_at (entries_of t) j).parent 0 ≡ false = ne_eqb (entry_at (entries_of t) j).parent 0 (λ y. z (q ∙ y)) in
      let g : entries_of u ≡ entries_left (entries_of t) j = h.entries ∙ rw f refl in
      let p : u ≡ entry_put t j free_entry = h.bytes ∙ rw f refl in
      record {
        bytes = k.bytes ∙ (ap₂ record_left p w ∙ rw b refl);
        entries = k.entries ∙ (g ∙ rw b refl);
        records = k.records ∙ (ap₂ (λ (rs : List Record) (es : List Entry). records_left rs es c) h.records g ∙ rw (b, w) refl);
      }
