-- The bytes that a change leaves: as many as before, and what their lists are. Assumes nothing.
use Rattle.std.specs.Prelude.{Option, Some, None}
use mathlib.Core.Path.{◌≡◌, refl, sym, ap, ◌∙◌}
use Prim.Native.Nat.{ℕ, ◌+◌, ◌*◌, ◌-◌, ◌≤◌}
use native.Mathlib.Omega.{arith}
use mathlib.Core.Bool.{Bool, true, false, cond}
use mathlib.Core.List.{List}
use lib.Dec.{eqb, ltb}
use lib.ListN.{length}
use borrow.Author.Tests.{eqb-true, eqb-false, ltb-true, ltb-false}
use Rattle.layers.specs.Items.{record_bytes, entry_bytes, records_of, entries_of, entry_at, free_record, free_entry, record_put, entry_put, PutRecord, PutEntry, FitsHead, FitsTail}
use Rattle.layers.specs.Search.{is_free, naming, free_entry_place, free_record_place}
use Rattle.layers.specs.Change.{numbered, entry_put_at, added_entry, AddEntry, record_put_at, added_record, AddRecord, record_left, FreedRecord, dropped_entry, DropEntry}
use Rattle.layers.specs.declared.items.Record.{Record}
use Rattle.layers.specs.declared.items.Entry.{Entry}
use Rattle.layers.proofs.Runs.{length_over}
use Rattle.layers.proofs.ItemLaws.{length_record, length_entry, record_put_none, record_put_past, record_put_in, entry_put_past, entry_put_in, put_record, put_entry, unput_record, past_record, past_entry}
use Rattle.layers.proofs.ChangeLaws.{record_left_named, record_left_unnamed, not_added, added, record_not_added, record_added_lem, freed, not_freed, not_dropped, dropped}

-- ---- one item put

module _ (t : List ℕ) (i : ℕ) (r : Record) (n : length t ≡ 8192) where
  pub length_record_put : length (record_put t i r) ≡ length t
  length_record_put = go (eqb i 0) refl (ltb 128 i) refl
    where
      go : (a : Bool) → eqb i 0 ≡ a → (b : Bool) → ltb 128 i ≡ b → length (record_put t i r) ≡ length t
      go true p b q = ap length (sym (record_put_none t i r (eqb-true i 0 p)))
      go false p true q = ap length (sym (record_put_past t i r (ltb-true 128 i q)))
      go false p false q =
          let hi : i ≤ 128 = ltb-false 128 i q in
          let lo : i ≡ 0 → ⊥ = eqb-false i 0 p in
          ap length (record_put_in t i r lo hi) ∙ length_over t (32 * (i - 1)) (record_bytes r) (rw (length_record r) (omega arith))

  pub record_put_lem : FitsHead r → FitsTail r → PutRecord t i r (record_put t i r)
  record_put_lem f g = go (eqb i 0) refl (ltb 128 i) refl
    where
      go : (a : Bool) → eqb i 0 ≡ a → (b : Bool) → ltb 128 i ≡ b → PutRecord t i r (record_put t i r)
      go true p b q = rw (← record_put_none t i r (eqb-true i 0 p)) (unput_record t i r (eqb-true i 0 p))
      go false p true q = rw (← record_put_past t i r (ltb-true 128 i q)) (past_record t i r (ltb-true 128 i q))
      go false p false q = put_record t (record_put t i r) i r f g n (eqb-false i 0 p) (ltb-false 128 i q) (record_put_in t i r (eqb-false i 0 p) (ltb-false 128 i q))

module _ (t : List ℕ) (j : ℕ) (e : Entry) (m : length e.name ≡ 28) (n : length t ≡ 8192) where
  pub length_entry_put : length (entry_put t j e) ≡ length t
  length_entry_put = go (ltb 127 j) refl
    where
      go : (b : Bool) → ltb 127 j ≡ b → length (entry_put t j e) ≡ length t
      go true q = ap length (sym (entry_put_past t j e (ltb-true 127 j q)))
      go false q =
          let h : j ≤ 127 = ltb-false 127 j q in
          ap length (entry_put_in t j e h) ∙ length_over t (4096 + 32 * j) (entry_bytes e) (rw (length_entry e m) (omega arith))

  pub entry_put_lem : PutEntry t j e (entry_put t j e)
  entry_put_lem = go (ltb 127 j) refl
    where
      go : (b : Bool) → ltb 127 j ≡ b → PutEntry t j e (entry_put t j e)
      go true q = rw (← entry_put_past t j e (ltb-true 127 j q)) (past_entry t j e (ltb-true 127 j q))
      go false q = let h : j ≤ 127 = ltb-false 127 j q in put_entry t (entry_put t j e) j e m n (omega arith) (entry_put_in t j e h)

-- ---- one item added

module _ (t : List ℕ) (e : Entry) (m : length e.name ≡ 28) (n : length t ≡ 8192) where
  pub length_added_entry : length (added_entry t e) ≡ length t
  unfolding entry_put_at
  length_added_entry = go (free_entry_place (entries_of t))
    where
      go : (f : Option ℕ) → length (entry_put_at t f e) ≡ length t
      go (Some k) = length_entry_put t k e m n
      go None = refl

  pub added_entry_lem : AddEntry t e (free_entry_place (entries_of t)) (added_entry t e)
  unfolding entry_put_at
  added_entry_lem = go (free_entry_place (entries_of t)) refl
    where
      go : (f : Option ℕ) → f ≡ free_entry_place (entries_of t) → AddEntry t e f (entry_put_at t f e)
      go (Some k) p = added t (entry_put t k e) e (Some k) k p refl (entry_put_lem t k e m n)
      go None p = not_added t e None p refl

module _ (t : List ℕ) (r : Record) (n : length t ≡ 8192) where
  pub length_added_record : length (added_record t r) ≡ length t
  unfolding record_put_at
  length_added_record = go (free_record_place (records_of t))
    where
      go : (f : Option ℕ) → length (record_put_at t f r) ≡ length t
      go (Some i) = length_record_put t i (numbered i r) n
      go None = refl

  pub added_record_lem : FitsHead r → FitsTail r → AddRecord t r (free_record_place (records_of t)) (added_record t r)
  unfolding record_put_at
  added_record_lem h g = go (free_record_place (records_of t)) refl
    where
      fits : (i : ℕ) → FitsHead (numbered i r)
      fits i = record { permissions_fit = h.permissions_fit; links_fit = h.links_fit }

      holds : (i : ℕ) → FitsTail (numbered i r)
      holds i = record { device_fit = g.device_fit; size_fit = g.size_fit; content_fit = g.content_fit }

      go : (f : Option ℕ) → f ≡ free_record_place (records_of t) → AddRecord t r f (record_put_at t f r)
      go (Some i) p = record_added_lem t (record_put t i (numbered i r)) r (numbered i r) (Some i) i p refl refl (record_put_lem t i (numbered i r) n (fits i) (holds i))
      go None p = record_not_added t r None p refl

-- ---- one item taken away

free_head : FitsHead free_record
free_head = record { permissions_fit = omega arith; links_fit = omega arith }

free_tail : FitsTail free_record
free_tail = record { device_fit = omega arith; size_fit = omega arith; content_fit = omega arith }

module _ (t : List ℕ) (c : ℕ) (n : length t ≡ 8192) where
  pub length_record_left : length (record_left t c) ≡ length t
  length_record_left = go (eqb (naming c (entries_of t)) 0) refl
    where
      go : (b : Bool) → eqb (naming c (entries_of t)) 0 ≡ b → length (record_left t c) ≡ length t
      go true q = ap length (record_left_unnamed t c (eqb-true (naming c (entries_of t)) 0 q)) ∙ length_record_put t c free_record n
      go false q = ap length (record_left_named t c (eqb-false (naming c (entries_of t)) 0 q))

  pub record_left_lem : FreedRecord t c (record_left t c)
  record_left_lem = go (eqb (naming c (entries_of t)) 0) refl
    where
      go : (b : Bool) → eqb (naming c (entries_of t)) 0 ≡ b → FreedRecord t c (record_left t c)
      go true q =
          let z : naming c (entries_of t) ≡ 0 = eqb-true (naming c (entries_of t)) 0 q in
          rw (record_left_unnamed t c z) (freed t (record_put t c free_record) c (naming c (entries_of t)) refl c free_record z refl refl (record_put_lem t c free_record n free_head free_tail))
      go false q =
          let z : naming c (entries_of t) ≡ 0 → ⊥ = eqb-false (naming c (entries_of t)) 0 q in
          rw (record_left_named t c z) (not_freed t t c (naming c (entries_of t)) refl z)

module _ (t : List ℕ) (j : ℕ) (n : length t ≡ 8192) where
  -- the table without the entry alone
  cleared : length (entry_put t j free_entry) ≡ 8192
  cleared = length_entry_put t j free_entry refl n ∙ n

  pub length_dropped_entry : length (dropped_entry t j) ≡ length t
  unfolding dropped_entry
  length_dropped_entry = go (is_free (entry_at (entries_of t) j))
    where
      go : (b : Bool) → length (cond b t (record_left (entry_put t j free_entry) (entry_at (entries_of t) j).child)) ≡ length t
      go true = refl
      go false = length_record_left (entry_put t j free_entry) (entry_at (entries_of t) j).child cleared ∙ length_entry_put t j free_entry refl n

  pub dropped_entry_lem : DropEntry t j (dropped_entry t j)
  unfolding dropped_entry is_free
  dropped_entry_lem = go (eqb (entry_at (entries_of t) j).parent 0) refl
    where
      go : (b : Bool) → eqb (entry_at (entries_of t) j).parent 0 ≡ b → DropEntry t j (cond b t (record_left (entry_put t j free_entry) (entry_at (entries_of t) j).child))
      go true q = not_dropped t j (entry_at (entries_of t) j).parent refl (eqb-true (entry_at (entries_of t) j).parent 0 q)
      go false q =
          dropped t j (entry_at (entries_of t) j).parent refl (entry_put t j free_entry) (record_left (entry_put t j free_entry) (entry_at (entries_of t) j).child) (entry_at (entries_of t) j).child free_entry (eqb-false (entry_at (entries_of t) j).parent 0 q) refl refl (entry_put_lem t j free_entry refl n)
          (record_left_lem (entry_put t j free_entry) (entry_at (entries_of t) j).child cleared)
