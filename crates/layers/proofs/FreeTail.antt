-- The places behind the used ones, which the walks over a table leave out. Assumes nothing.
use mathlib.Core.Path.{◌≡◌, refl, sym, ap, ◌∙◌}
use Prim.Native.Nat.{ℕ, ◌+◌, ◌*◌, ◌-◌, ◌≤◌, ◌<◌}
use native.Mathlib.Omega.{arith}
use mathlib.Core.Bool.{Bool, true, false}
use mathlib.Core.List.{List, ◌∷◌}
use lib.Dec.{ltb}
use lib.ListN.{length, take, drop, replicate, length-take, length-drop}
use lib.Seq.{drop-drop, get_or-drop, take-take, take_all}
use borrow.Author.Tests.{ltb-true, ltb-false}
use Rattle.layers.specs.Bytes.{part, le_of}
use Rattle.layers.specs.Names.{same_name}
use Rattle.layers.specs.Items.{record_of, entry_of, records_of, entries_of, record_at, entry_at, free_record, free_entry}
use Rattle.layers.specs.Rules.{every, all_zero, free_record_test, free_entry_test, entry_test, ends_test, record_test, count_test, once_named_test, named_test, reach_test}
use Rattle.layers.specs.RulesTally.{FreeFrom, entry_holds, record_holds}
use Rattle.layers.specs.declared.items.Record.{Record}
use Rattle.layers.specs.declared.items.Entry.{Entry}
use Rattle.layers.proofs.Runs.{drop_take}
use Rattle.layers.proofs.ItemLaws.{entry_is, record_is, entry_past, record_past}
use Rattle.layers.proofs.EveryLaws.{all_from}
use Rattle.layers.proofs.ZeroRuns.{free_place}

-- ---- zeros are free places

zeros_entry : entry_of (replicate 32 0) ≡ free_entry
unfolding entry_of
zeros_entry = refl

zeros_record : record_of (replicate 32 0) ≡ free_record
unfolding record_of le_of
zeros_record = refl

module _ (t : List ℕ) (n : ℕ) (l : length t ≡ 8192) where
  pub entries_free : all_zero (drop (32 * n) (take 4096 (drop 4096 t))) ≡ true → FreeFrom free_entry (entries_of t) n
  entries_free h = record { rest = λ j b. go j b (ltb j 128) refl }
    where
      whole : all_zero (drop (32 * n) (drop 4096 t)) ≡ true
      whole = ap (λ (b : List ℕ). all_zero (drop (32 * n) b)) (sym (take_all 4096 (drop 4096 t) (simp length-drop (omega arith)))) ∙ h

      go : (j : ℕ) → n ≤ j → (q : Bool) → ltb j 128 ≡ q → entry_at (entries_of t) j ≡ free_entry
      go j b true q =
          let k : j < 128 = ltb-true j 128 q in
          entry_is t j k
          ∙ (ap (λ (b : List ℕ). entry_of (take 32 b)) (sym (drop-drop (32 * j) 4096 t))
          ∙ (ap entry_of (free_place (drop 4096 t) n j whole b (simp (length-take, length-drop) (omega arith))) ∙ zeros_entry))
      go j b false q = sym (entry_past t j free_entry refl (let k : 128 ≤ j = ltb-false j 128 q in omega arith))

  pub records_free : all_zero (drop (32 * n) (take 4096 t)) ≡ true → FreeFrom free_record (free_record ∷ records_of t) (n + 1)
  records_free h = record { rest = λ i b. go i b (ltb i 129) refl }
    where
      inside : (j : ℕ) → j < 128 → take 32 (drop (32 * j) (take 4096 t)) ≡ part t (32 * j) 32
      inside j k =
          let w : 32 * j + (4096 - 32 * j) ≡ 4096 = omega arith in
          ap (λ (b : List ℕ). take 32 b) (rw w at (drop_take t (32 * j) (4096 - 32 * j) (omega arith)))
          ∙ take-take 32 (4096 - 32 * j) (drop (32 * j) t) (omega arith)

      go : (i : ℕ) → n + 1 ≤ i → (q : Bool) → ltb i 129 ≡ q → record_at (records_of t) i ≡ free_record
      go i b true q =
          let k : i < 129 = ltb-true i 129 q in
          record_is t i (λ z. omega arith) (omega arith)
          ∙ (ap record_of (sym (inside (i - 1) (omega arith)) ∙ free_place (take 4096 t) n (i - 1) h (omega arith) (simp (length-take, length-drop) (omega arith))) ∙ zeros_record)
      go i b false q = sym (record_past t i free_record refl (let k : 129 ≤ i = ltb-false i 129 q in omega arith))

-- ---- a test of every place ends there, where a free one passes

every_free : {A : Type 0} (p : ℕ → A → Bool) (d : A) → ((i : ℕ) → p i d ≡ true) → (xs : List A) (k i m : ℕ) → FreeFrom d xs m → m ≤ i → every p k (drop i xs) ≡ true
every_free p d past xs k i m g h =
    all_from p d k (drop i xs) (λ a _. ap (p (k + a)) (get_or-drop i xs a d ∙ g.rest (i + a) (omega arith)) ∙ past (k + a))

free_entry_passes : (rs : List Record) (j : ℕ) → entry_holds rs j free_entry ≡ true
unfolding entry_holds entry_test ends_test free_entry_test same_name
free_entry_passes rs j = refl

free_record_passes : (es : List Entry) (i : ℕ) → record_holds es i free_record ≡ true
unfolding record_holds record_test free_record_test count_test once_named_test named_test reach_test
free_record_passes es i = refl

module _ (rs : List Record) (es : List Entry) (m k : ℕ) where
  pub entries_end : FreeFrom free_entry es m → m ≤ k → every (entry_holds rs) k (drop k es) ≡ true
  entries_end g h = every_free (entry_holds rs) free_entry (free_entry_passes rs) es k k m g h

  pub records_end : FreeFrom free_record (free_record ∷ rs) m → m ≤ k → every (record_holds es) k (drop k (free_record ∷ rs)) ≡ true
  records_end g h = every_free (record_holds es) free_record (free_record_passes es) (free_record ∷ rs) k k m g h
