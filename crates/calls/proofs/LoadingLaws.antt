-- A call that loads a directory: refused before the load, by it, or behind it. Assumes nothing.
use Rattle.std.specs.Prelude.{Result, Ok, Err}
use mathlib.Core.Path.{◌≡◌, refl, sym, ◌∙◌}
use Prim.Native.Nat.{ℕ}
use mathlib.Core.Bool.{false, cond}
use mathlib.Core.List.{List, ◌++◌}
use Rattle.merge.specs.Load.{load_bytes}
use Rattle.calls.specs.Refusal.{Test, after_tests, passed}
use Rattle.calls.specs.Parents.{place_numbered, load_tests, loaded_state}
use Rattle.calls.specs.declared.refusal.Refusal.{Refusal}
use Rattle.calls.proofs.TestLaws.{passed_append, fine_passed, refused_failed, stops, goes_on, fine_value, left_refused, left_fine}

module _ (u l s : List ℕ) (p : ℕ) (ts us : List Test) (f : Result ℕ Refusal) (q : f ≡ after_tests ts (Ok (place_numbered s p))) where
  abbrev load : List Test
  load = load_tests u l s (place_numbered s p)

  pub refused_before : (r : Refusal) (v : ℕ) → f ≡ Err r → f ≡ after_tests (ts ++ (load ++ us)) (Ok v)
  refused_before r v h = stops ts (load ++ us) f (Ok v) (place_numbered s p) q r h

  pub unchanged_before : (r : Refusal) (c : List ℕ) → f ≡ Err r → s ≡ cond (passed ts) (cond (passed (load ++ us)) c (loaded_state u l s p)) s
  unchanged_before r c h = left_refused ts f (place_numbered s p) q s (cond (passed (load ++ us)) c (loaded_state u l s p)) s r h refl

  -- the upper layer that a call that writes leaves
  pub upper_before : (r : Refusal) (c : List ℕ) → f ≡ Err r → u ≡ cond (passed ts) (cond (passed (load ++ us)) c u) u
  upper_before r c h = left_refused ts f (place_numbered s p) q u (cond (passed (load ++ us)) c u) u r h refl

  module _ (k : ℕ) (h : f ≡ Ok k) where
    at_place : k ≡ place_numbered s p
    at_place = fine_value ts us f (Ok 0) (place_numbered s p) q k h

    pub loaded_is : (s' : List ℕ) → s' ≡ load_bytes u l s k → s' ≡ loaded_state u l s p
    loaded_is s' e = e ∙ rw at_place refl

    module _ (a : Result ℕ Refusal) (g : a ≡ after_tests (load_tests u l s k) (Ok k)) where
      loads : a ≡ after_tests load (Ok k)
      loads = g ∙ rw at_place refl

      pub refused_by_load : (r : Refusal) (v : ℕ) → a ≡ Err r → a ≡ after_tests (ts ++ (load ++ us)) (Ok v)
      refused_by_load r v t = goes_on ts (load ++ us) f (Ok v) (place_numbered s p) q k a h (stops load us a (Ok v) k loads r t)

      failed_load : (r : Refusal) → a ≡ Err r → passed (load ++ us) ≡ false
      failed_load r t = passed_append load us ∙ rw (refused_failed load k r (sym loads ∙ t)) refl

      pub unchanged_by_load : (r : Refusal) (c s' : List ℕ) → s' ≡ load_bytes u l s k → a ≡ Err r → s' ≡ cond (passed ts) (cond (passed (load ++ us)) c (loaded_state u l s p)) s
      unchanged_by_load r c s' e t = left_fine ts f (place_numbered s p) q s' (cond (passed (load ++ us)) c (loaded_state u l s p)) s k h (rw (failed_load r t) (loaded_is s' e))

      pub upper_by_load : (r : Refusal) (c : List ℕ) → a ≡ Err r → u ≡ cond (passed ts) (cond (passed (load ++ us)) c u) u
      upper_by_load r c t = left_fine ts f (place_numbered s p) q u (cond (passed (load ++ us)) c u) u k h (rw (failed_load r t) refl)

      module _ (j : ℕ) (t : a ≡ Ok j) where
        passed_load : passed (load ++ us) ≡ passed us
        passed_load = rw (passed_append load us, fine_passed load (Ok k) j (sym loads ∙ t)) refl

        pub answered_behind : (v : ℕ) (z : Result ℕ Refusal) → z ≡ after_tests us (Ok v) → z ≡ after_tests (ts ++ (load ++ us)) (Ok v)
        answered_behind v z d = goes_on ts (load ++ us) f (Ok v) (place_numbered s p) q k z h (goes_on load us a (Ok v) k loads j z t d)

        pub left_behind : (c w : List ℕ) → w ≡ cond (passed us) c (loaded_state u l s p) → w ≡ cond (passed ts) (cond (passed (load ++ us)) c (loaded_state u l s p)) s
        left_behind c w d =
            left_fine ts f (place_numbered s p) q w (cond (passed (load ++ us)) c (loaded_state u l s p)) s k h
            (d ∙ rw passed_load refl)

        pub upper_behind : (c w : List ℕ) → w ≡ cond (passed us) c u → w ≡ cond (passed ts) (cond (passed (load ++ us)) c u) u
        upper_behind c w d = left_fine ts f (place_numbered s p) q w (cond (passed (load ++ us)) c u) u k h (d ∙ rw passed_load refl)
