use Rattle.layers.proofs.SortLaws.{Halved}
use Rattle.layers.specs.Names.{Name}
use Rattle.layers.specs.Order.{spot_from, Tells}
use Rattle.layers.specs.Sorted.{Sorted}
use lib.ListN.{length}
use Prim.Native.Nat.{ℕ, ◌≤◌, ◌-◌}
use Rattle.layers.proofs.spots.spot_among.Given as goal

abbrev pub invariant-loop-lo : goal.invariant-loop-lo
invariant-loop-lo g l = (l.hi ≤ length l.p) × ((f : ℕ → Name) (x : Name) → Tells (goal.F-post g l.order) f x → Sorted f l.p → Halved f l.p x (spot_from f 0 x l.p) l.lo l.hi)

abbrev pub decreases-loop-lo : goal.decreases-loop-lo
decreases-loop-lo g l = l.hi - l.lo
