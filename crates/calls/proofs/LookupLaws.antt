-- Lookup, from what the code's tests showed. Assumes nothing.
use Rattle.std.specs.Prelude.{Option, Some, None, Result, Ok, Err, is_some}
use Rattle.calls.specs.declared.refusal.Refusal.{Refusal}
use mathlib.Core.Path.{◌≡◌, refl, ap, ◌∙◌}
use Prim.Native.Nat.{ℕ}
use mathlib.Core.Bool.{Bool, true, false, cond}
use mathlib.Core.List.{List, []}
use Rattle.layers.specs.Names.{Name}
use Rattle.merge.specs.Nodes.{nodes_of, node_at}
use Rattle.merge.specs.Methods.{counted}
use Rattle.merge.specs.Seats.{seat_of, holder}
use Rattle.merge.specs.Changes.{put_bytes}
use Rattle.merge.specs.Load.{load_bytes}
use Rattle.merge.specs.declared.node.Node.{Node}
use Rattle.calls.specs.Refusal.{after_tests, passed}
use Rattle.calls.specs.Parents.{place_of, place_numbered, is_white, load_tests, loaded_state}
use Rattle.calls.specs.Lookup.{name_in, child_named, lookup_before, name_tests, counted_state, lookup_spec}
use Rattle.calls.specs.declared.refusal.Refusal.TheVariants.{Enoent}
use Rattle.calls.proofs.LoadingLaws.{loaded_is, answered_behind, left_behind}

-- ---- the name in the loaded directory
module _ (s : List ℕ) (p : ℕ) (x : Name) (y : Result ℕ ℕ) (b : y ≡ seat_of (nodes_of s) p x) (f : Option ℕ) (r : f ≡ holder y) where
  q : f ≡ name_in s p x
  q = r ∙ ap holder b

  pub name_absent : f ≡ None → Err Enoent ≡ after_tests (name_tests s p x) (Ok (child_named s p x).number)
  unfolding name_tests after_tests
  name_absent h = rw (← q, h) refl

  pub absent_stays : f ≡ None → s ≡ cond (passed (name_tests s p x)) (counted_state s p x) s
  unfolding name_tests passed
  absent_stays h = rw (← q, h) refl

  module _ (k : ℕ) (h : f ≡ Some k) (n : Node) (e : n ≡ node_at (nodes_of s) k) (w : Bool) (g : w ≡ is_white n) where
    pub name_white : w ≡ true → Err Enoent ≡ after_tests (name_tests s p x) (Ok (child_named s p x).number)
    unfolding name_tests after_tests place_of
    name_white t = rw (← q, h, ← e, ← g, t) refl

    pub white_stays : w ≡ true → s ≡ cond (passed (name_tests s p x)) (counted_state s p x) s
    unfolding name_tests passed place_of
    white_stays t = rw (← q, h, ← e, ← g, t) refl

    pub name_live : w ≡ false → Ok n.number ≡ after_tests (name_tests s p x) (Ok (child_named s p x).number)
    unfolding name_tests after_tests place_of
    name_live t = rw (← q, h, ← e, ← g, t) refl

    pub live_counted : (m : Node) (v : List ℕ) → w ≡ false → m ≡ counted n → v ≡ put_bytes s k m → v ≡ cond (passed (name_tests s p x)) (counted_state s p x) s
    unfolding name_tests passed place_of counted_state
    live_counted m v t i j = j ∙ rw (← q, h, ← e, ← g, t, i) refl

pub ruleset name_answers = (name_absent, name_white, name_live)

pub ruleset name_states = (absent_stays, white_stays, live_counted)

-- ---- the lookup, behind the load
module _ (u l s : List ℕ) (p : ℕ) (x : Name) (f : Result ℕ Refusal) (q : f ≡ after_tests (lookup_before u l s p x) (Ok (place_numbered s p))) (k : ℕ) (h : f ≡ Ok k)
    (a : Result ℕ Refusal) (g : a ≡ after_tests (load_tests u l s k) (Ok k)) (s' : List ℕ) (e : s' ≡ load_bytes u l s k) (j : ℕ) (t : a ≡ Ok j) where
  loaded : s' ≡ loaded_state u l s p
  loaded = loaded_is u l s p (lookup_before u l s p x) [] f q k h s' e

  pub lookup_answered : (z : Result ℕ Refusal) → z ≡ after_tests (name_tests s' p x) (Ok (child_named s' p x).number) → z ≡ (lookup_spec u l s p x).answer
  lookup_answered z d =
      answered_behind u l s p (lookup_before u l s p x) (name_tests (loaded_state u l s p) p x) f q k h a g j t (child_named (loaded_state u l s p) p x).number z
      (d ∙ rw loaded refl)

  pub lookup_left : (w : List ℕ) → w ≡ cond (passed (name_tests s' p x)) (counted_state s' p x) s' → w ≡ (lookup_spec u l s p x).state
  lookup_left w d =
      left_behind u l s p (lookup_before u l s p x) (name_tests (loaded_state u l s p) p x) f q k h a g j t (counted_state (loaded_state u l s p) p x) w
      (d ∙ rw loaded refl)
