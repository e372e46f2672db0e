-- How many places of a table are used: fewer than 128 leave one free, and what each change of the table does to the numbers. Assumes nothing.
use Rattle.std.specs.Prelude.{Option, Some, None, is_some}
use mathlib.Core.Path.{◌≡◌, refl, sym, ap, ◌∙◌}
use mathlib.Core.Logic.{◌≢◌}
use Prim.Native.Nat.{ℕ, zero, suc, ◌+◌, ◌≤◌, ◌<◌}
use native.Mathlib.Omega.{arith}
use native.Mathlib.Decide.{ℕ_discrete}
use mathlib.Core.Bool.{Bool, true, false, not, cond}
use mathlib.Core.List.{List, [], ◌∷◌}
use lib.Dec.{eqb, ltb}
use lib.ListN.{length}
use borrow.Author.Tests.{eq-eqb, ne_eqb, ltb-false}
use Rattle.layers.specs.Names.{Name}
use Rattle.layers.specs.Items.{records_of, entries_of, record_at, entry_at, free_record, free_entry, with_record, with_entry, FitsHead, FitsTail}
use Rattle.layers.specs.Search.{first_from, one, count_if, is_free, no_record, names_record, naming, free_entry_place, free_record_place, used_entries, used_records}
use Rattle.layers.specs.Change.{entry_naming, entry_placed, entry_added, added_entry, numbered, record_placed, record_added, added_record, records_left, entries_left, dropped_entry}
use Rattle.layers.specs.Rules.{Present, Used, Valid}
use Rattle.layers.specs.declared.items.Record.{Record}
use Rattle.layers.specs.declared.items.Entry.{Entry}
use Rattle.layers.proofs.Padded.{naming_name}
use Rattle.layers.proofs.EveryLaws.{no_true}
use Rattle.layers.proofs.ItemLaws.{length_records, length_entries}
use Rattle.layers.proofs.RuleDistinct.{used_inside}
use Rattle.layers.proofs.RuleFacts.{present_below}
use Rattle.layers.proofs.RuleLaws.{names_record_exactly}
use Rattle.layers.proofs.ChangeLaws.{count_set, free_place_below, free_place_free, free_record_from, free_record_below, free_record_free, records_left_named, records_left_unnamed}
use Rattle.layers.proofs.ChangeBytes.{added_entry_lem, length_added_record, added_record_lem, dropped_entry_lem}
use Rattle.calls.specs.Upper.{new_record, add_new}
use Rattle.calls.specs.Room.{freed_entries, freed_records, overfull}

-- ---- fewer used than there are: one is free

module _ {A : Type 0} (p : A → Bool) where
  all_used : (s : ℕ) (xs : List A) → first_from p s xs ≡ None → count_if (λ x. not (p x)) xs ≡ length xs
  unfolding first_from count_if one
  all_used s [] h = refl
  all_used s (x ∷ xs) h = go (p x) h (all_used (suc s) xs)
    where
      go : (b : Bool) → cond b (Some s) (first_from p (suc s) xs) ≡ None → (first_from p (suc s) xs ≡ None → count_if (λ y. not (p y)) xs ≡ length xs) → one (not b) + count_if (λ y. not (p y)) xs ≡ suc (length xs)
      go true e ih = absurd (let z : ◌≡◌ {A = ℕ} 0 1 = cc in omega arith)
      go false e ih = let q : count_if (λ y. not (p y)) xs ≡ length xs = ih e in omega arith

  some_free : (s : ℕ) (xs : List A) → count_if (λ x. not (p x)) xs < length xs → (i : ℕ) × (first_from p s xs ≡ Some i)
  some_free s xs h = go (first_from p s xs) refl
    where
      go : (f : Option ℕ) → first_from p s xs ≡ f → (i : ℕ) × (first_from p s xs ≡ Some i)
      go (Some i) e = (i, e)
      go None e = absurd (let q : count_if (λ x. not (p x)) xs ≡ length xs = all_used s xs e in omega arith)

pub record_place_free : (t : List ℕ) → used_records (records_of t) < 128 → (i : ℕ) × (free_record_place (records_of t) ≡ Some i)
record_place_free t h = some_free no_record 1 (records_of t) (omega (arith, length_records t))

pub entry_place_free : (t : List ℕ) → used_entries (entries_of t) < 128 → (k : ℕ) × (free_entry_place (entries_of t) ≡ Some k)
entry_place_free t h = some_free is_free 0 (entries_of t) (omega (arith, length_entries t))

-- ---- one place of the lists changed

is_used : (e : Entry) → e.parent ≢ 0 → is_free e ≡ false
unfolding is_free
is_used e n = ne_eqb e.parent 0 n

is_present : (r : Record) → r.number ≢ 0 → no_record r ≡ false
unfolding no_record
is_present r n = ne_eqb r.number 0 n

module _ (es : List Entry) (k : ℕ) (e : Entry) (l : k < length es) where
  set_entry : used_entries (with_entry es k e) + one (not (is_free (entry_at es k))) ≡ used_entries es + one (not (is_free e))
  set_entry = count_set (λ a. not (is_free a)) free_entry es k e l

  entry_taken : is_free (entry_at es k) ≡ true → is_free e ≡ false → used_entries (with_entry es k e) ≡ suc (used_entries es)
  unfolding one
  entry_taken f u = let q : used_entries (with_entry es k e) + 0 ≡ used_entries es + 1 = rw (f, u) at set_entry in omega arith

  entry_given : is_free (entry_at es k) ≡ false → is_free e ≡ true → used_entries (with_entry es k e) + 1 ≡ used_entries es
  unfolding one
  entry_given f u = let q : used_entries (with_entry es k e) + 1 ≡ used_entries es + 0 = rw (f, u) at set_entry in omega arith

set_record : (rs : List Record) (i : ℕ) (r : Record) → 1 ≤ i → i ≤ length rs → used_records (with_record rs i r) + one (not (no_record (record_at rs i))) ≡ used_records rs + one (not (no_record r))
unfolding with_record
set_record rs zero r lo hi = absurd (omega arith)
set_record rs (suc i) r lo hi = count_set (λ a. not (no_record a)) free_record rs i r (omega arith)

module _ (rs : List Record) (i : ℕ) (r : Record) (lo : 1 ≤ i) (hi : i ≤ length rs) where
  record_taken : no_record (record_at rs i) ≡ true → no_record r ≡ false → used_records (with_record rs i r) ≡ suc (used_records rs)
  unfolding one
  record_taken f u = let q : used_records (with_record rs i r) + 0 ≡ used_records rs + 1 = rw (f, u) at (set_record rs i r lo hi) in omega arith

  record_given : no_record (record_at rs i) ≡ false → no_record r ≡ true → used_records (with_record rs i r) + 1 ≡ used_records rs
  unfolding one
  record_given f u = let q : used_records (with_record rs i r) + 1 ≡ used_records rs + 0 = rw (f, u) at (set_record rs i r lo hi) in omega arith

-- ---- a record added

module _ (rs : List Record) (r : Record) (i : ℕ) (h : free_record_place rs ≡ Some i) where
  record_added_is : record_added rs r ≡ with_record rs i (numbered i r)
  unfolding record_placed
  record_added_is = rw h refl

  records_rise : used_records (record_added rs r) ≡ suc (used_records rs)
  records_rise =
      let lo : 1 ≤ i = free_record_from rs i h in
      let hi : i < 1 + length rs = free_record_below rs i h in
      ap (λ (qs : List Record). used_records qs) record_added_is
      ∙ record_taken rs i (numbered i r) lo (omega arith) (free_record_free rs i h) (is_present (numbered i r) (λ z. omega arith))

module _ (t : List ℕ) (r : Record) (n : length t ≡ 8192) (f : FitsHead r) (g : FitsTail r) where
  pub added_record_entries : used_entries (entries_of (added_record t r)) ≡ used_entries (entries_of t)
  added_record_entries = ap (λ (es : List Entry). used_entries es) (added_record_lem t r n f g).entries

  pub added_record_records : (i : ℕ) → free_record_place (records_of t) ≡ Some i → used_records (records_of (added_record t r)) ≡ suc (used_records (records_of t))
  added_record_records i h = ap (λ (rs : List Record). used_records rs) (added_record_lem t r n f g).records ∙ records_rise (records_of t) r i h

-- ---- an entry added

module _ (es : List Entry) (e : Entry) (k : ℕ) (h : free_entry_place es ≡ Some k) where
  entry_added_is : entry_added es e ≡ with_entry es k e
  unfolding entry_placed
  entry_added_is = rw h refl

  entries_rise : e.parent ≢ 0 → used_entries (entry_added es e) ≡ suc (used_entries es)
  entries_rise u = ap (λ (fs : List Entry). used_entries fs) entry_added_is ∙ entry_taken es k e (free_place_below es k h) (free_place_free es k h) (is_used e u)

module _ (t : List ℕ) (e : Entry) (m : length e.name ≡ 28) (n : length t ≡ 8192) where
  pub added_entry_records : used_records (records_of (added_entry t e)) ≡ used_records (records_of t)
  added_entry_records = ap (λ (rs : List Record). used_records rs) (added_entry_lem t e m n).records

  pub added_entry_entries : e.parent ≢ 0 → (k : ℕ) → free_entry_place (entries_of t) ≡ Some k → used_entries (entries_of (added_entry t e)) ≡ suc (used_entries (entries_of t))
  added_entry_entries u k h = ap (λ (es : List Entry). used_entries es) (added_entry_lem t e m n).entries ∙ entries_rise (entries_of t) e k h u

-- ---- a new record and its entry

module _ (d : ℕ) (x : Name) (r : Record) (t : List ℕ) (n : length t ≡ 8192) (f : FitsHead r) (g : FitsTail r) where
  with_record_lem : length (added_record t r) ≡ 8192
  with_record_lem = length_added_record t r n ∙ n

  pub add_new_records : used_records (records_of t) < 128 → used_records (records_of (add_new d x r t)) ≡ suc (used_records (records_of t))
  unfolding add_new
  add_new_records l =
      let p : (i : ℕ) × (free_record_place (records_of t) ≡ Some i) = record_place_free t l in
      added_entry_records (added_record t r) (entry_naming d x (new_record t)) (naming_name d x (new_record t)) with_record_lem ∙ added_record_records t r n f g p.0 p.1

  pub add_new_entries : d ≢ 0 → used_entries (entries_of t) < 128 → used_entries (entries_of (add_new d x r t)) ≡ suc (used_entries (entries_of t))
  unfolding add_new entry_naming
  add_new_entries z l =
      let p : (k : ℕ) × (free_entry_place (entries_of t) ≡ Some k) = entry_place_free t l in
      let q : free_entry_place (entries_of (added_record t r)) ≡ Some p.0 = ap (λ (es : List Entry). free_entry_place es) (added_record_lem t r n f g).entries ∙ p.1 in
      added_entry_entries (added_record t r) (entry_naming d x (new_record t)) (naming_name d x (new_record t)) with_record_lem z p.0 q ∙ ap suc (added_record_entries t r n f g)

-- ---- an entry taken away

-- the entry at `j` of `es` names `c`
module _ (es : List Entry) (j c : ℕ) (u : Used es j) (q : (entry_at es j).child ≡ c) where
  naming_falls : naming c (entries_left es j) + 1 ≡ naming c es
  unfolding one names_record
  naming_falls =
      let b : names_record c (entry_at es j) ≡ true = (names_record_exactly c (entry_at es j)).whole (u, q) in
      let s : naming c (entries_left es j) + one (names_record c (entry_at es j)) ≡ naming c es + 0 = count_set (names_record c) free_entry es j free_entry (used_inside es j u) in
      let w : naming c (entries_left es j) + 1 ≡ naming c es + 0 = rw b at s in
      omega arith

  -- the record `c` goes where no other names it
  records_fall : (rs : List Record) → 1 ≤ c → c ≤ length rs → Present rs c → used_records (records_left rs (entries_left es j) c) + one (eqb (naming c es) 1) ≡ used_records rs
  unfolding one no_record
  records_fall rs lo hi p = go (ℕ_discrete (naming c es) 1)
    where
      go : Dec (naming c es ≡ 1) → used_records (records_left rs (entries_left es j) c) + one (eqb (naming c es) 1) ≡ used_records rs
      go (yes e) =
          let z : naming c (entries_left es j) ≡ 0 = omega (arith, naming_falls) in
          rw (eq-eqb (naming c es) 1 e, records_left_unnamed rs (entries_left es j) c z) (record_given rs c free_record lo hi (is_present (record_at rs c) p) refl)
      go (no o) =
          let z : naming c (entries_left es j) ≢ 0 = λ y. o (omega (arith, naming_falls)) in
          rw (ne_eqb (naming c es) 1 o, records_left_named rs (entries_left es j) c z) (omega arith)

module _ (t : List ℕ) (j : ℕ) (u : Used (entries_of t) j) where
  pub dropped_entry_entries : length t ≡ 8192 → used_entries (entries_of (dropped_entry t j)) + 1 ≡ used_entries (entries_of t)
  unfolding is_free
  dropped_entry_entries n =
      let es : entries_of (dropped_entry t j) ≡ entries_left (entries_of t) j = (dropped_entry_lem t j n).entries ∙ rw (ne_eqb (entry_at (entries_of t) j).parent 0 u) refl in
      ap (λ (fs : List Entry). used_entries fs + 1) es ∙ entry_given (entries_of t) j free_entry (used_inside (entries_of t) j u) (is_used (entry_at (entries_of t) j) u) refl

  pub dropped_entry_records : Valid t → used_records (records_of (dropped_entry t j)) + freed_records t (Some j) ≡ used_records (records_of t)
  unfolding is_free freed_records
  dropped_entry_records v =
      let c : Present (records_of t) (entry_at (entries_of t) j).child = (v.ends j).child_exists u in
      let b : (1 ≤ (entry_at (entries_of t) j).child) × ((entry_at (entries_of t) j).child ≤ 128) = present_below t (entry_at (entries_of t) j).child c in
      let hi : (entry_at (entries_of t) j).child ≤ 128 = b.1 in
      let rs : records_of (dropped_entry t j) ≡ records_left (records_of t) (entries_left (entries_of t) j) (entry_at (entries_of t) j).child = (dropped_entry_lem t j v.size).records ∙ rw (ne_eqb (entry_at (entries_of t) j).parent 0 u) refl in
      ap (λ (qs : List Record). used_records qs + freed_records t (Some j)) rs
      ∙ records_fall (entries_of t) j (entry_at (entries_of t) j).child u refl (records_of t) b.0 (omega (arith, length_records t)) c

-- ---- "28 is decided on the numbers after the whole call"

pub not_overfull : (t : List ℕ) (e : Option ℕ) (m n : ℕ) → overfull t e m n ≡ false → (used_records (records_of t) + m ≤ 128 + freed_records t e) × (used_entries (entries_of t) + n ≤ 128 + freed_entries e)
unfolding overfull
not_overfull t e m n h = go (ltb (128 + freed_records t e) (used_records (records_of t) + m)) refl h
  where
    go : (b : Bool) → ltb (128 + freed_records t e) (used_records (records_of t) + m) ≡ b → cond b true (ltb (128 + freed_entries e) (used_entries (entries_of t) + n)) ≡ false
        → (used_records (records_of t) + m ≤ 128 + freed_records t e) × (used_entries (entries_of t) + n ≤ 128 + freed_entries e)
    go true q k = no_true (sym k)
    go false q k = (ltb-false (128 + freed_records t e) (used_records (records_of t) + m) q, ltb-false (128 + freed_entries e) (used_entries (entries_of t) + n) k)

-- where nothing is freed
pub not_overfull_missing : (t : List ℕ) (m n : ℕ) → overfull t None m n ≡ false → (used_records (records_of t) + m ≤ 128) × (used_entries (entries_of t) + n ≤ 128)
unfolding freed_records one
not_overfull_missing t m n h =
    let p : (used_records (records_of t) + m ≤ 128 + 0) × (used_entries (entries_of t) + n ≤ 128 + 0) = not_overfull t None m n h in
    p
