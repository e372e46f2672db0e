-- Import, from what the code's tests showed. Assumes nothing.
use Rattle.std.specs.Prelude.{Result, Ok, Err}
use mathlib.Core.Path.{◌≡◌, refl, sym, ap, ◌∙◌}
use Prim.Native.Nat.{ℕ, zero, suc, ◌+◌, ◌≤◌, ◌<◌}
use native.Mathlib.Omega.{arith}
use mathlib.Core.Bool.{Bool, true, false, not, cond}
use mathlib.Core.List.{List, [], ◌∷◌}
use lib.Dec.{eqb, ltb}
use lib.ListN.{length, replicate}
use borrow.Author.Tests.{eqb-true, ltb-true, ltb-false}
use Rattle.layers.specs.Rules.{valid_test}
use Rattle.merge.specs.Tables.{table_of}
use Rattle.merge.specs.Heads.{with_head}
use Rattle.merge.specs.Changes.{put_in_bytes}
use Rattle.merge.specs.Stacks.{stack_from}
use Rattle.merge.specs.Fresh.{root_stack}
use Rattle.merge.specs.Load.{load_bytes}
use Rattle.merge.specs.declared.head.Head.{Head}
use Rattle.merge.specs.declared.stacks.Stack.{Stack}
use Rattle.merge.specs.declared.node.Node.{Node}
use Rattle.calls.specs.Refusal.{after_tests, passed}
use Rattle.calls.specs.Lengths.{state_fits, lengths_test}
use Rattle.calls.specs.Parents.{load_tests}
use Rattle.merge.specs.Root as root
use Rattle.calls.specs.Import.{no_layer, broken_layer, import_tests, blank, wiped, root_node, rooted, root_tests, import_spec}
use Rattle.calls.specs.declared.refusal.Refusal.{Refusal}
use Rattle.calls.specs.declared.refusal.Refusal.TheVariants.{Einval}
use Rattle.layers.proofs.EveryLaws.{no_true}
use Rattle.calls.proofs.TestLaws.{passed_append, fine_passed, refused_failed, stops, goes_on}

-- ---- a layer
module _ (w : List ℕ) where
  pub no_bytes : w ≡ [] → false ≡ broken_layer w
  unfolding broken_layer
  no_bytes h = rw h refl

  pub rules_decide : (t : List ℕ) → t ≡ w → length w ≡ 8192 → (b : Bool) → b ≡ valid_test t → not b ≡ broken_layer w
  unfolding broken_layer
  rules_decide t e h b g = rw (h, ← e, g) refl

module _ (u l : List ℕ) (k : ℕ) (b : Bool) where
  pub broken_so_far : ((i : ℕ) → i < k → broken_layer (table_of u l i) ≡ false) → b ≡ broken_layer (table_of u l k) → b ≡ false → (i : ℕ) → i < k + 1 → broken_layer (table_of u l i) ≡ false
  broken_so_far h q f i m = go (ltb i k) refl
    where
      go : (c : Bool) → ltb i k ≡ c → broken_layer (table_of u l i) ≡ false
      go true e = h i (ltb-true i k e)
      go false e = let z : k ≤ i = ltb-false i k e in let y : i ≡ k = omega arith in ap (λ (j : ℕ). broken_layer (table_of u l j)) y ∙ (sym q ∙ f)

  pub broken_at : (s : List ℕ) → b ≡ broken_layer (table_of u l k) → b ≡ true → k < 4 → Err Einval ≡ after_tests (import_tests u l s) (Ok 0)
  unfolding import_tests after_tests
  broken_at s q t h = go (not (lengths_test s u l)) (no_layer u l) (broken_layer (table_of u l 0)) (broken_layer (table_of u l 1)) (broken_layer (table_of u l 2)) (broken_layer (table_of u l 3)) k h refl refl refl refl (sym q ∙ t)
    where
      one_of : (a b c d e f : Bool) → Result ℕ Refusal
      one_of a b c d e f = cond a (Err Einval) (cond b (Err Einval) (cond c (Err Einval) (cond d (Err Einval) (cond e (Err Einval) (cond f (Err Einval) (Ok 0))))))

      go : (a b c d e f : Bool) (k : ℕ) → k < 4 → broken_layer (table_of u l 0) ≡ c → broken_layer (table_of u l 1) ≡ d → broken_layer (table_of u l 2) ≡ e → broken_layer (table_of u l 3) ≡ f → broken_layer (table_of u l k) ≡ true → Err Einval ≡ one_of a b c d e f
      go true b c d e f k m p q r s t = refl
      go false true c d e f k m p q r s t = refl
      go false false true d e f k m p q r s t = refl
      go false false false true e f k m p q r s t = refl
      go false false false false true f k m p q r s t = refl
      go false false false false false true k m p q r s t = refl
      go false false false false false false zero m p q r s t = no_true (sym p ∙ t)
      go false false false false false false (suc zero) m p q r s t = no_true (sym q ∙ t)
      go false false false false false false (suc (suc zero)) m p q r s t = no_true (sym r ∙ t)
      go false false false false false false (suc (suc (suc zero))) m p q r s t = no_true (sym s ∙ t)
      go false false false false false false (suc (suc (suc (suc k)))) m p q r s t = absurd (omega arith)

  pub none_broken : (s : List ℕ) → ((i : ℕ) → i < k → broken_layer (table_of u l i) ≡ false) → 4 ≤ k → (v : Bool) → v ≡ lengths_test s u l → v ≡ true → (w : Bool) → w ≡ no_layer u l → w ≡ false → Ok 0 ≡ after_tests (import_tests u l s) (Ok 0)
  unfolding import_tests after_tests
  none_broken s h m v v_is v_not w w_is w_not = rw (← v_is, v_not, ← w_is, w_not, h 0 (omega arith), h 1 (omega arith), h 2 (omega arith), h 3 (omega arith)) refl

-- ---- the state wiped

zeros_are_blank : (n : ℕ) → n ≡ 13324 → replicate n 0 ≡ blank
unfolding blank
zeros_are_blank n h = ap (λ (m : ℕ). replicate m 0) h

wiped_is : (s : List ℕ) → state_fits s ≡ true → wiped s ≡ blank
unfolding wiped
wiped_is s h = rw h refl

module _ (s : List ℕ) (b : Bool) (q : b ≡ state_fits s) where
  pub wiped_fits : (t : List ℕ) → b ≡ true → t ≡ replicate (length s) 0 → t ≡ wiped s
  wiped_fits t h e = e ∙ (zeros_are_blank (length s) (eqb-true (length s) 13324 (sym q ∙ h)) ∙ sym (wiped_is s (sym q ∙ h)))

  pub wiped_other : b ≡ false → s ≡ wiped s
  unfolding wiped
  wiped_other h = rw (← q, h) refl

-- the root alone in a state that was wiped
pub root_put : (u l s s₁ s₂ s₃ : List ℕ) (h : Head) (n : Node) → s₁ ≡ wiped s → h ≡ record { next = 2; count = 0 } → s₂ ≡ with_head s₁ h → n ≡ root_node u l → s₃ ≡ put_in_bytes s₂ n → s₃ ≡ rooted u l (wiped s)
unfolding rooted
root_put u l s s₁ s₂ s₃ h n a b c d e = e ∙ rw (d, c, b, a) refl

pub root_made : (u l : List ℕ) (st : Stack) → st ≡ stack_from (root_stack u l) false → record { number = 1; parent = 0; count = 2; white = 0; loaded = 0; depth = st.length; length = 0; stack = st.pairs; name = replicate 28 0 } ≡ root_node u l
unfolding root.root_node
root_made u l st e = rw e refl

-- ---- the import

passed_fits : (u l s : List ℕ) → passed (import_tests u l s) ≡ true → state_fits s ≡ true
unfolding import_tests passed lengths_test
passed_fits u l s h = go (state_fits s) refl
  where
    go : (b : Bool) → state_fits s ≡ b → b ≡ true
    go true e = refl
    go false e = rw e at h

module _ (u l s : List ℕ) (f : Result ℕ Refusal) (q : f ≡ after_tests (import_tests u l s) (Ok 0)) where
  pub import_refused : (r : Refusal) → f ≡ Err r → f ≡ (import_spec u l s).answer
  import_refused r h = stops (import_tests u l s) (root_tests u l) f (Ok 0) 0 q r h

  pub import_wiped : (r : Refusal) (t : List ℕ) → f ≡ Err r → t ≡ wiped s → t ≡ (import_spec u l s).state
  import_wiped r t h e = e ∙ rw (passed_append (import_tests u l s) (root_tests u l), refused_failed (import_tests u l s) 0 r (sym q ∙ h)) refl

  module _ (k : ℕ) (h : f ≡ Ok k) (t : List ℕ) (g : t ≡ rooted u l (wiped s)) (a : Result ℕ Refusal) (d : a ≡ after_tests (load_tests u l t 0) (Ok 0)) where
    were_passed : passed (import_tests u l s) ≡ true
    were_passed = fine_passed (import_tests u l s) (Ok 0) k (sym q ∙ h)

    fits : state_fits s ≡ true
    fits = passed_fits u l s were_passed

    root_is : t ≡ rooted u l blank
    root_is = g ∙ rw (wiped_is s fits) refl

    loads : a ≡ after_tests (root_tests u l) (Ok 0)
    unfolding root_tests
    loads = d ∙ rw root_is refl

    pub import_answered : a ≡ (import_spec u l s).answer
    import_answered = goes_on (import_tests u l s) (root_tests u l) f (Ok 0) 0 q k a h loads

    pub import_loaded : (j : ℕ) (w : List ℕ) → a ≡ Ok j → w ≡ load_bytes u l t 0 → w ≡ (import_spec u l s).state
    import_loaded j w y e =
        e ∙ rw (root_is, passed_append (import_tests u l s) (root_tests u l), were_passed, fine_passed (root_tests u l) (Ok 0) j (sym loads ∙ y)) refl

    pub root_wiped : (r : Refusal) (w v : List ℕ) → a ≡ Err r → length t ≡ length s → length w ≡ length t → v ≡ wiped w → v ≡ (import_spec u l s).state
    root_wiped r w v y m n e =
        let z : state_fits w ≡ true = ap (λ (i : ℕ). eqb i 13324) (n ∙ m) ∙ fits in
        (e ∙ wiped_is w z)
        ∙ rw (passed_append (import_tests u l s) (root_tests u l), were_passed, refused_failed (root_tests u l) 0 r (sym loads ∙ y), wiped_is s fits) refl
