use Prim.Native.Nat.{◌*◌}
use mathlib.Core.Path.{◌≡◌}
use lib.ListN.{drop}
use Rattle.layers.specs.Names.{order_of}
use Rattle.layers.proofs.names.compare.Given as goal

abbrev pub invariant-loop-i : goal.invariant-loop-i
invariant-loop-i l = order_of (drop (4 * l.i) l.a) (drop (4 * l.i) l.b) ≡ order_of l.a l.b
