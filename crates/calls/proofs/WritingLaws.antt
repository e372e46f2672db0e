-- The tests that a creation and a link share: a live name, and a place for a new node. Assumes nothing.
use Rattle.std.specs.Prelude.{Option, Some, None, is_some, MatchOption}
use mathlib.Core.Path.{◌≡◌, refl}
use Prim.Native.Nat.{ℕ}
use mathlib.Core.Bool.{Bool, true, false, not}
use mathlib.Core.List.{List}
use Rattle.merge.specs.Nodes.{nodes_of, node_at}
use Rattle.merge.specs.Load.{suffices}
use Rattle.calls.specs.Parents.{is_white}
use Rattle.calls.specs.Writing.{is_live_name, no_place}

module _ (s : List ℕ) (f : Option ℕ) where
  -- as the library tells an answer on what is there
  pub live_as_node : (r : Bool) (Gives : ℕ → Type 0) → MatchOption f (r ≡ false) Gives → ((j : ℕ) → Gives j → r ≡ not (is_white (node_at (nodes_of s) j))) → r ≡ is_live_name s f
  unfolding is_live_name
  live_as_node r Gives h k = go f h
    where
      go : (g : Option ℕ) → MatchOption g (r ≡ false) Gives → r ≡ is_live_name s g
      go (Some j) e = k j e
      go None e = e

  module _ (b : Bool) (b_is : is_some f ≡ not b) where
    pub place_had : b ≡ false → b ≡ no_place s f
    unfolding no_place
    place_had h = rw (b_is, h) refl

    pub place_asked : (c : Bool) → b ≡ true → c ≡ suffices s 1 → not c ≡ no_place s f
    unfolding no_place
    place_asked c h q = rw (b_is, h, q) refl
