-- Copy-up as a call, from what the code's tests showed. Assumes nothing.
use Rattle.std.specs.Prelude.{None, Result, Ok, Err}
use mathlib.Core.Path.{◌≡◌, refl, sym, ◌∙◌}
use Prim.Native.Nat.{ℕ}
use mathlib.Core.Bool.{Bool, true, false, not, cond}
use mathlib.Core.List.{List, [], ◌++◌}
use lib.ListN.{length}
use borrow.Author.Tests.{eqb-true}
use Rattle.calls.specs.Refusal.{Test, after_tests, passed}
use Rattle.calls.specs.Lengths.{lengths_test}
use Rattle.calls.specs.Parents.{place_numbered, numbered, unknown, is_white}
use Rattle.calls.specs.Upper.{up, copied_up}
use Rattle.calls.specs.Room.{missing, overfull}
use Rattle.calls.specs.Writing.{has_upper}
use Rattle.calls.specs.CopyUp.{copy_up_before, copy_up_tests, copy_up_spec}
use Rattle.calls.specs.declared.refusal.Refusal.{Refusal}
use Rattle.calls.specs.declared.refusal.Refusal.TheVariants.{Enospc}
use Rattle.calls.proofs.TestLaws.{stands, fails, passes, fine_passed, stops, goes_on, fine_value, left_refused, left_fine}

-- where no test fails there is an upper layer
pub upper_there : (u l s : List ℕ) (x : ℕ) → passed (copy_up_before u l s x) ≡ true → length u ≡ 8192
unfolding copy_up_before passed
upper_there u l s x h = eqb-true (length u) 8192 (go (lengths_test s u l) (unknown s x) (has_upper u) (is_white (numbered s x)) h)
  where
    go : (a b c d : Bool) → cond (not a) false (cond b false (cond (not c) false (cond d false true))) ≡ true → c ≡ true
    go a b true d e = refl
    go true true false d e = e
    go true false false d e = e
    go false b false d e = e

module _ (u l s : List ℕ) (x : ℕ) where
  abbrev before : List Test
  before = copy_up_before u l s x

  abbrev behind : List Test
  behind = copy_up_tests u s (place_numbered s x)

  abbrev place : ℕ
  place = place_numbered s x

  -- what is left goes with the answer
  module _ (z : Result ℕ Refusal) (answer : z ≡ (copy_up_spec u l s x).answer) where
    state_kept : (r : Refusal) → z ≡ Err r → s ≡ (copy_up_spec u l s x).state
    state_kept r h = left_refused (before ++ behind) z 0 answer s (copied_up l place (up u s)).state s r h refl

    upper_kept : (r : Refusal) → z ≡ Err r → u ≡ (copy_up_spec u l s x).upper
    upper_kept r h = left_refused (before ++ behind) z 0 answer u (copied_up l place (up u s)).table u r h refl

  module _ (f : Result ℕ Refusal) (f_is : f ≡ after_tests (copy_up_before u l s x) (Ok (place_numbered s x))) where
    -- refused: 22, 2, 30, 2
    module _ (r : Refusal) (h : f ≡ Err r) where
      pub refused_answer : f ≡ (copy_up_spec u l s x).answer
      refused_answer = stops before behind f (Ok 0) place f_is r h

      pub refused_state : s ≡ (copy_up_spec u l s x).state
      refused_state = state_kept f refused_answer r h

      pub refused_upper : u ≡ (copy_up_spec u l s x).upper
      refused_upper = upper_kept f refused_answer r h

    module _ (k : ℕ) (h : f ≡ Ok k) where
      at_place : k ≡ place_numbered s x
      at_place = fine_value before behind f (Ok 0) place f_is k h

      pub upper_whole : length u ≡ 8192
      upper_whole = upper_there u l s x (fine_passed before (Ok place) k (sym f_is ∙ h))

      module _ (m : ℕ) (b : Bool) (m_is : m ≡ length (missing s k)) (b_is : b ≡ overfull u None m m) where
        over_is : b ≡ overfull u None (length (missing s place)) (length (missing s place))
        over_is = b_is ∙ rw (m_is, at_place) refl

        -- 28
        pub full_answer : b ≡ true → Err Enospc ≡ (copy_up_spec u l s x).answer
        unfolding copy_up_tests
        full_answer t =
            goes_on before behind f (Ok 0) place f_is k (Err Enospc) h
            (fails Enospc [] (Ok 0) b (overfull u None (length (missing s place)) (length (missing s place))) over_is t)

        pub full_state : b ≡ true → (v : List ℕ) → v ≡ s → v ≡ (copy_up_spec u l s x).state
        full_state t v e = e ∙ state_kept (Err Enospc) (full_answer t) Enospc refl

        pub full_upper : b ≡ true → (v : List ℕ) → v ≡ u → v ≡ (copy_up_spec u l s x).upper
        full_upper t v e = e ∙ upper_kept (Err Enospc) (full_answer t) Enospc refl

        module _ (t : b ≡ false) where
          pub copied_answer : Ok 0 ≡ (copy_up_spec u l s x).answer
          unfolding copy_up_tests
          copied_answer =
              goes_on before behind f (Ok 0) place f_is k (Ok 0) h
              (passes Enospc [] (Ok 0) b (overfull u None (length (missing s place)) (length (missing s place))) over_is (Ok 0) t (stands (Ok 0)))

          pub copied_state : (v : List ℕ) → v ≡ (copied_up l k (up u s)).state → v ≡ (copy_up_spec u l s x).state
          copied_state v e = left_fine (before ++ behind) (Ok 0) 0 copied_answer v (copied_up l place (up u s)).state s 0 refl (e ∙ rw at_place refl)

          pub copied_upper : (v : List ℕ) → v ≡ (copied_up l k (up u s)).table → v ≡ (copy_up_spec u l s x).upper
          copied_upper v e = left_fine (before ++ behind) (Ok 0) 0 copied_answer v (copied_up l place (up u s)).table u 0 refl (e ∙ rw at_place refl)
