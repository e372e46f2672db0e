use Rattle.layers.proofs.RuleOrder.{Ordered}
use Rattle.layers.specs.Items.{entries_of}
use lib.ListN.{length, take}
use Prim.Native.Nat.{◌≤◌}
use mathlib.Core.Path.{◌≡◌}
use Rattle.layers.proofs.distinct.names_are_distinct.Given as goal

abbrev pub invariant-loop-j : goal.invariant-loop-j
invariant-loop-j l = (l.n ≤ l.j) × (length l.p ≡ 512) × Ordered (entries_of l.t) l.j (take l.n l.p)
