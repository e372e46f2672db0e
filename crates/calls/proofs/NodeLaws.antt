-- A node's bytes handed out. Assumes nothing.
use Rattle.std.specs.Prelude.{Option, Some, None, Ok, Err}
use mathlib.Core.Path.{◌≡◌, refl, ◌∙◌}
use Prim.Native.Nat.{ℕ, ◌+◌, ◌*◌, ◌≤◌, ◌<◌}
use native.Mathlib.Omega.{arith}
use mathlib.Core.Bool.{Bool, true, false, not}
use mathlib.Core.List.{List}
use lib.ListN.{length, length-take, length-drop}
use borrow.Author.Tests.{lt-ltb, le-ltb}
use Rattle.layers.specs.Bytes.{part, over, laid}
use Rattle.layers.proofs.Numbers.{laid_in}
use Rattle.merge.specs.Nodes.{nodes_of}
use Rattle.merge.specs.State.{find_number}
use Rattle.merge.proofs.HeadLaws.{in_memory}
use Rattle.merge.proofs.FoundLaws.{number_below}
use Rattle.calls.specs.Refusal.{after_tests, passed}
use Rattle.calls.specs.Lengths.{state_fits}
use Rattle.calls.specs.Parents.{place_of}
use Rattle.calls.specs.NodeCall.{node_tests, node_answer, node_out}
use Rattle.calls.specs.declared.refusal.Refusal.TheVariants.{Enoent, Einval}

-- a node found lies in the memory
pub found_in : (s : List ℕ) (x : ℕ) (f : Option ℕ) (k : ℕ) → f ≡ find_number (nodes_of s) x → f ≡ Some k → 52 * k + 64 ≤ length s
found_in s x f k q h = in_memory s k (number_below s f k h x q)

module _ (s : List ℕ) (x : ℕ) (out : List ℕ) (b : Bool) (t : b ≡ state_fits s) where
  pub node_lengths : not b ≡ true → Err Einval ≡ node_answer s x out
  unfolding node_tests after_tests
  node_lengths h = rw (← t, h) refl

  pub lengths_untouched : not b ≡ true → out ≡ node_out s x out
  unfolding node_tests passed node_out
  lengths_untouched h = rw (← t, h) refl

  module _ (g : not b ≡ false) (f : Option ℕ) (q : f ≡ find_number (nodes_of s) x) where
    pub node_unknown : f ≡ None → Err Enoent ≡ node_answer s x out
    unfolding node_tests after_tests
    node_unknown h = rw (← t, g, ← q, h) refl

    pub unknown_untouched : f ≡ None → out ≡ node_out s x out
    unfolding node_tests passed node_out
    unknown_untouched h = rw (← t, g, ← q, h) refl

    module _ (k : ℕ) (h : f ≡ Some k) where
      pub node_short : length out < 52 → Err Einval ≡ node_answer s x out
      unfolding node_tests after_tests
      node_short i = rw (← t, g, ← q, h, lt-ltb (length out) 52 i) refl

      pub short_untouched : length out < 52 → out ≡ node_out s x out
      unfolding node_tests passed node_out
      short_untouched i = rw (← t, g, ← q, h, lt-ltb (length out) 52 i) refl

      pub node_given : 52 ≤ length out → Ok 0 ≡ node_answer s x out
      unfolding node_tests after_tests
      node_given i = rw (← t, g, ← q, h, le-ltb (length out) 52 i) refl

      pub bytes_given : 52 ≤ length out → (w : List ℕ) → w ≡ laid out 0 (part s (12 + 52 * k) 52) → w ≡ node_out s x out
      unfolding node_tests passed node_out place_of
      bytes_given i w e =
          let l : 52 * k + 64 ≤ length s = found_in s x f k q h in
          let m : length (part s (12 + 52 * k) 52) ≡ 52 = simp (length-take, length-drop) (omega arith) in
          let y : w ≡ over out 0 (part s (12 + 52 * k) 52) = e ∙ laid_in out 0 (part s (12 + 52 * k) 52) (omega arith) in
          y ∙ rw (← t, g, ← q, h, le-ltb (length out) 52 i) refl

pub ruleset node_answers = (node_lengths, node_unknown, node_short, node_given)

pub ruleset node_outs = (lengths_untouched, unknown_untouched, short_untouched, bytes_given)
