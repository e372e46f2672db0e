-- What is in hand from one step of a call that writes to the next, and what the call leaves behind its tests. Assumes nothing.
use Rattle.std.specs.Prelude.{Result, Ok, Err}
use mathlib.Core.Path.{◌≡◌, refl, sym, ap, ◌∙◌}
use Prim.Native.Nat.{ℕ}
use mathlib.Core.Bool.{cond}
use mathlib.Core.List.{List}
use Rattle.calls.specs.Refusal.{Test, after_tests, passed}
use Rattle.calls.specs.Upper.{Up, up}
use Rattle.calls.specs.declared.refusal.Refusal.{Refusal}
use Rattle.calls.proofs.UpperLaws.{up_is}
use Rattle.calls.proofs.TestLaws.{after_passed, after_failed, fine_passed, refused_failed, left_refused, left_fine}

-- ---- in the loaded directory: the tests `ts`, which the code answered as `a`, and what they let be written
module _ (ts : List Test) (a : Result ℕ Refusal) (q : a ≡ after_tests ts (Ok 0)) where
  module _ (r : Refusal) (h : a ≡ Err r) where
    pub refused_behind : (v : ℕ) → a ≡ after_tests ts (Ok v)
    refused_behind v = q ∙ after_failed ts (Ok 0) (Ok v) (refused_failed ts 0 r (sym q ∙ h))

    pub kept_behind : (y z : List ℕ) → z ≡ cond (passed ts) y z
    kept_behind y z = left_refused ts a 0 q z y z r h refl

  -- what was in hand, `w`, is changed by `changed` and gives the number `value`
  module _ (value : Up → ℕ) (changed : Up → Up) (k : ℕ) (h : a ≡ Ok k) (t s : List ℕ) (w : Up) (e : t ≡ w.table) (d : s ≡ w.state) where
    pub value_behind : (n : ℕ) → n ≡ value (up t s) → Ok n ≡ after_tests ts (Ok (value w))
    value_behind n g = ap Ok (g ∙ ap value (up_is w t s e d)) ∙ sym (after_passed ts (Ok (value w)) (fine_passed ts (Ok 0) k (sym q ∙ h)))

    pub table_behind : (v y : List ℕ) → v ≡ (changed (up t s)).table → v ≡ cond (passed ts) (changed w).table y
    table_behind v y g = left_fine ts a 0 q v (changed w).table y k h (g ∙ ap (λ (i : Up). (changed i).table) (up_is w t s e d))

    pub state_behind : (v y : List ℕ) → v ≡ (changed (up t s)).state → v ≡ cond (passed ts) (changed w).state y
    state_behind v y g = left_fine ts a 0 q v (changed w).state y k h (g ∙ ap (λ (i : Up). (changed i).state) (up_is w t s e d))
