-- An accepted import leaves what holds between calls, and every call that changes no layer keeps it. Assumes nothing.
use Rattle.std.specs.Prelude.{Ok, Err}
use mathlib.Core.Path.{◌≡◌, refl, sym, ◌∙◌, subst}
use Prim.Native.Nat.{ℕ, zero, suc, ◌<◌}
use native.Mathlib.Omega.{arith}
use mathlib.Core.Bool.{Bool, true, false, not, cond}
use mathlib.Core.List.{List, [], ◌∷◌, ◌++◌}
use lib.Dec.{eqb}
use lib.ListN.{length}
use borrow.Author.Tests.{ne_eqb, lt-ltb, not-false}
use Rattle.layers.specs.Names.{Name}
use Rattle.layers.specs.Rules.{valid_test, Valid}
use Rattle.layers.proofs.RuleTheorem.{valid_exactly}
use Rattle.merge.specs.Tables.{table_of}
use Rattle.merge.specs.Root.{root_state}
use Rattle.merge.specs.Load.{load_bytes}
use Rattle.calls.specs.Refusal.{Test, test, passed}
use Rattle.calls.specs.Lengths.{state_fits, lengths_test}
use Rattle.calls.specs.Parents.{place_numbered, parent_tests, load_tests, loaded_state}
use Rattle.calls.specs.Import.{no_layer, broken_layer, import_tests, root_tests, blank, rooted, import_spec}
use Rattle.calls.specs.Lookup.{lookup_before, name_tests, place_named, counted_state, lookup_spec}
use Rattle.calls.specs.Count.{count_before, count_spec}
use Rattle.calls.specs.Listing.{listed, list_loaded, list_spec}
use Rattle.calls.specs.Forget.{forget_call}
use Rattle.calls.specs.declared.refusal.Refusal.TheVariants.{Einval}
use Rattle.calls.proofs.TestLaws.{passed_append, fine_passed}
use Rattle.merge.specs.Forget.{forget_spec}
use Rattle.demands.specs.Invariant.{Good}
use Rattle.demands.specs.Reads.{SoundLayers, Read, lookup, count, listing, forget, after_read, after_reads, AsAfresh, DemandThreeOfReads}
use Rattle.demands.proofs.InvariantKept.{counted_keeps, forget_keeps, good_fresh}
use Rattle.demands.proofs.InvariantFresh.{mark_fresh, names_fresh}
use Rattle.demands.proofs.InvariantLoad.{load_keeps}
use Rattle.demands.proofs.InvariantShare.{valid_children}
use Rattle.demands.proofs.InvariantRoot.{root_good}

-- ---- an accepted import

first_passed : (t : Test) (ts : List Test) → passed (t ∷ ts) ≡ true → (t.fails ≡ false) × (passed ts ≡ true)
unfolding passed
first_passed t ts h = go t.fails refl h
  where
    go : (b : Bool) → t.fails ≡ b → cond b false (passed ts) ≡ true → (t.fails ≡ false) × (passed ts ≡ true)
    go true e h = absurd (let z : ◌≡◌ {A = ℕ} 0 1 = cc in omega arith)
    go false e h = (e, h)

both_passed : (ts us : List Test) → passed (ts ++ us) ≡ true → passed ts ≡ true
both_passed ts us h = go (passed ts) refl (sym (passed_append ts us) ∙ h)
  where
    go : (b : Bool) → passed ts ≡ b → cond b (passed us) false ≡ true → passed ts ≡ true
    go true e q = e
    go false e q = absurd (let z : ◌≡◌ {A = ℕ} 0 1 = cc in omega arith)

-- a layer that broke no rule is valid
sound_table : (t : List ℕ) → broken_layer t ≡ false → length t ≡ 8192 → Valid t
unfolding broken_layer
sound_table t h l = (valid_exactly t).sound (not-false (valid_test t) (sym (rw (ne_eqb (length t) 0 (λ e. absurd (omega arith))) refl) ∙ h))

-- there are four layers at most
no_table : (u l : List ℕ) (k : ℕ) → 3 < k → length (table_of u l k) ≡ 8192 → ⊥
unfolding table_of
no_table u l k h e = absurd (let z : ◌≡◌ {A = ℕ} 0 8192 = sym (rw (ne_eqb k 0 (λ q. absurd (omega arith)), lt-ltb 3 k h) refl) ∙ e in omega arith)

module _ (u l s : List ℕ) (v : ℕ) (h : (import_spec u l s).answer ≡ Ok v) where
  all_passed : passed (import_tests u l s ++ root_tests u l) ≡ true
  all_passed = fine_passed (import_tests u l s ++ root_tests u l) (Ok 0) v h

  imported : (import_spec u l s).state ≡ load_bytes u l (rooted u l blank) 0
  imported = rw all_passed refl

  pub import_sound : SoundLayers u l
  unfolding import_tests
  import_sound = record { tables = go }
    where
      fits : (not (lengths_test s u l) ≡ false) × (passed (test (no_layer u l) Einval ∷ test (broken_layer (table_of u l 0)) Einval ∷ test (broken_layer (table_of u l 1)) Einval ∷ test (broken_layer (table_of u l 2)) Einval ∷ test (broken_layer (table_of u l 3)) Einval ∷ []) ≡ true)
      fits = first_passed _ _ (both_passed (import_tests u l s) (root_tests u l) all_passed)

      some : (no_layer u l ≡ false) × (passed (test (broken_layer (table_of u l 0)) Einval ∷ test (broken_layer (table_of u l 1)) Einval ∷ test (broken_layer (table_of u l 2)) Einval ∷ test (broken_layer (table_of u l 3)) Einval ∷ []) ≡ true)
      some = first_passed _ _ fits.1

      zeroth : (broken_layer (table_of u l 0) ≡ false) × (passed (test (broken_layer (table_of u l 1)) Einval ∷ test (broken_layer (table_of u l 2)) Einval ∷ test (broken_layer (table_of u l 3)) Einval ∷ []) ≡ true)
      zeroth = first_passed _ _ some.1

      one_more : (broken_layer (table_of u l 1) ≡ false) × (passed (test (broken_layer (table_of u l 2)) Einval ∷ test (broken_layer (table_of u l 3)) Einval ∷ []) ≡ true)
      one_more = first_passed _ _ zeroth.1

      two_more : (broken_layer (table_of u l 2) ≡ false) × (passed (test (broken_layer (table_of u l 3)) Einval ∷ []) ≡ true)
      two_more = first_passed _ _ one_more.1

      last : (broken_layer (table_of u l 3) ≡ false) × (passed [] ≡ true)
      last = first_passed _ _ two_more.1

      go : (k : ℕ) → length (table_of u l k) ≡ 8192 → Valid (table_of u l k)
      go zero e = sound_table (table_of u l 0) zeroth.0 e
      go (suc zero) e = sound_table (table_of u l 1) one_more.0 e
      go (suc (suc zero)) e = sound_table (table_of u l 2) two_more.0 e
      go (suc (suc (suc zero))) e = sound_table (table_of u l 3) last.0 e
      go (suc (suc (suc (suc k)))) e = absurd (no_table u l (suc (suc (suc (suc k)))) (omega arith) e)

  pub import_good : Good u l (import_spec u l s).state
  unfolding rooted root_state blank
  import_good = subst (Good u l) (sym imported) (load_keeps u l (rooted u l blank) (root_good u l 13324 (omega arith)) (valid_children u l import_sound.tables) 0)

-- ---- each call that changes no layer

module _ (u l s : List ℕ) (g : Good u l s) (v : SoundLayers u l) where
  loaded_good : (p : ℕ) → Good u l (loaded_state u l s p)
  loaded_good p = load_keeps u l s g (valid_children u l v.tables) (place_numbered s p)

  -- what a call that loads leaves, refused or not
  either_good : (ts us : List Test) (p : ℕ) (c : List ℕ) → Good u l c → Good u l (cond (passed ts) (cond (passed us) c (loaded_state u l s p)) s)
  either_good ts us p c h = go (passed ts) (passed us)
    where
      go : (a b : Bool) → Good u l (cond a (cond b c (loaded_state u l s p)) s)
      go true true = h
      go true false = loaded_good p
      go false b = g

  lookup_good : (p : ℕ) (x : Name) → Good u l (lookup_spec u l s p x).state
  unfolding counted_state
  lookup_good p x =
      either_good (lookup_before u l s p x) (load_tests u l s (place_numbered s p) ++ name_tests (loaded_state u l s p) p x) p (counted_state (loaded_state u l s p) p x)
      (counted_keeps u l (loaded_state u l s p) (loaded_good p) (place_named (loaded_state u l s p) p x))

  count_good : (x : ℕ) → Good u l (count_spec u l s x).state
  count_good x = either_good (count_before u l s x) (load_tests u l s (place_numbered s x) ++ []) x (loaded_state u l s x) (loaded_good x)

  list_good : (x o size : ℕ) (t : List ℕ) → Good u l (list_spec u l s x o size t).state
  unfolding list_spec list_loaded
  list_good x o size t = go (lengths_test s u l) (eqb size 0)
    where
      go : (a b : Bool) → Good u l (cond a (cond b (listed (Ok 0) s t) (list_loaded u l s x o size t)) (listed (Err Einval) s t)).state
      go true true = g
      go true false = either_good (parent_tests u l s x) (load_tests u l s (place_numbered s x) ++ []) x (loaded_state u l s x) (loaded_good x)
      go false b = g

  forget_good : (x m : ℕ) → Good u l (forget_call s x m)
  unfolding forget_call
  forget_good x m = go (state_fits s)
    where
      go : (b : Bool) → Good u l (cond b (forget_spec s x m) s)
      go true = forget_keeps u l s x m g
      go false = g

  pub read_good : (c : Read) → Good u l (after_read u l c s)
  unfolding after_read
  read_good (lookup p x) = lookup_good p x
  read_good (count x) = count_good x
  read_good (listing x o size t) = list_good x o size t
  read_good (forget x m) = forget_good x m

reads_good : (u l : List ℕ) → SoundLayers u l → (cs : List Read) (s : List ℕ) → Good u l s → Good u l (after_reads u l cs s)
unfolding after_reads
reads_good u l v [] s g = g
reads_good u l v (c ∷ cs) s g = reads_good u l v cs (after_read u l c s) (read_good u l s g v c)

-- ---- the demand

pub as_afresh : (u l s : List ℕ) → SoundLayers u l → Good u l s → AsAfresh u l s
as_afresh u l s v g =
    record {
      stacks = good_fresh u l s g;
      marks = mark_fresh u l _ g.nodes.coherent;
      names = names_fresh u l s g (valid_children u l v.tables);
    }

pub demand_three_of_reads : DemandThreeOfReads
demand_three_of_reads =
    record { reads_afresh = λ u l s v h cs. as_afresh u l _ (import_sound u l s v h) (reads_good u l (import_sound u l s v h) cs (import_spec u l s).state (import_good u l s v h)) }
