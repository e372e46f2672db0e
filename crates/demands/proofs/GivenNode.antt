-- A node with one record alone, marked no whiteout: "The node keeps number and count; its stack becomes the new record." Assumes nothing.
use mathlib.Core.Path.{◌≡◌, refl}
use Prim.Native.Nat.{ℕ, zero, suc, ◌≤◌}
use native.Mathlib.Omega.{arith}
use mathlib.Core.List.{[], ◌∷◌}
use lib.ListN.{get_or}
use Rattle.layers.proofs.Padded.{get_or_all}
use Rattle.merge.specs.Nodes.{no_pair, key_of}
use Rattle.merge.specs.Tidy.{Tidy}
use Rattle.merge.specs.Methods.{with_white, with_stack, only_pair, alone}
use Rattle.merge.specs.Load.{stack_list, is_loaded}
use Rattle.merge.specs.declared.node.Node.{Node}
use Rattle.merge.specs.declared.stacks.Pair.{Pair}

module _ (n : Node) (p : Pair) where
  abbrev pub given : Node
  given = with_white (alone n p) 0

  pub given_key : key_of given ≡ key_of n
  unfolding with_white with_stack
  given_key = refl

  pub given_number : given.number ≡ n.number
  unfolding with_white with_stack
  given_number = refl

  pub given_white : given.white ≡ 0
  unfolding with_white
  given_white = refl

  pub given_loaded : is_loaded given ≡ is_loaded n
  unfolding with_white with_stack is_loaded
  given_loaded = refl

  pub given_stack : stack_list given ≡ p ∷ []
  unfolding with_white with_stack
  given_stack = refl

  only_past : (i : ℕ) → 1 ≤ i → get_or (only_pair p) i no_pair ≡ no_pair
  only_past zero l = absurd (omega arith)
  only_past (suc i) l = get_or_all 3 i no_pair

  pub given_tidy : Tidy n → Tidy given
  unfolding with_white with_stack
  given_tidy t =
      record {
        fits = record { numbers = record { number_fits = t.fits.numbers.number_fits; parent_fits = t.fits.numbers.parent_fits; count_fits = t.fits.numbers.count_fits }; arrays = record { stack_fits = refl; name_fits = t.fits.arrays.name_fits } };
        white_mark = omega arith;
        loaded_mark = t.loaded_mark;
        depth_fits = omega arith;
        length_fits = t.length_fits;
        stack_unused = only_past;
        name_unused = t.name_unused;
      }
