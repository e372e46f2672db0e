use Rattle.layers.specs.Rules.{all_zero}
use mathlib.Core.Bool.{true}
use lib.ListN.{drop}
use Prim.Native.Nat.{◌≤◌, ◌*◌}
use mathlib.Core.Path.{◌≡◌}
use Rattle.layers.proofs.free_places.used_places.Given as goal

abbrev pub invariant-loop-n : goal.invariant-loop-n
invariant-loop-n l = (l.n ≤ 128) × (all_zero (drop (32 * l.n) l.b) ≡ true)

abbrev pub decreases-loop-n : goal.decreases-loop-n
decreases-loop-n l = l.n
