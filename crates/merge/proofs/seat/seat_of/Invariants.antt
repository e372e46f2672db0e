use Rattle.merge.specs.Seats.{seat_in, seat_of}
use Rattle.merge.specs.Nodes.{nodes_of}
use mathlib.Core.List.{◌∷◌}
use lib.ListN.{length}
use Prim.Native.Nat.{◌≤◌, ◌-◌}
use mathlib.Core.Path.{◌≡◌}
use Rattle.merge.proofs.seat.seat_of.Given as goal

abbrev pub invariant-loop-lo : goal.invariant-loop-lo
invariant-loop-lo l = (l.hi ≤ length l.ns) × (seat_in (length (nodes_of l.s)) (nodes_of l.s) (l.p ∷ l.x) l.lo l.hi ≡ seat_of (nodes_of l.s) l.p l.x)

abbrev pub decreases-loop-lo : goal.decreases-loop-lo
decreases-loop-lo l = l.hi - l.lo
