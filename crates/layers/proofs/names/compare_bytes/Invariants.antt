use lib.ListN.{drop}
use mathlib.Core.Path.{◌≡◌}
use Rattle.layers.specs.Names.{order_of}
use Rattle.layers.proofs.names.compare_bytes.Given as goal

abbrev pub invariant-loop-i : goal.invariant-loop-i
invariant-loop-i l = order_of (drop l.i l.a) (drop l.i l.b) ≡ order_of l.a l.b
