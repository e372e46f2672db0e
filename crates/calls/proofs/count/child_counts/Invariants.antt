use Rattle.calls.specs.Count.{child_counts}
use Rattle.merge.specs.Nodes.{nodes_of}
use lib.ListN.{drop}
use Prim.Native.Nat.{◌+◌, ◌*◌, ◌≤◌}
use mathlib.Core.Path.{◌≡◌}
use Rattle.calls.proofs.count.child_counts.Given as goal

abbrev pub invariant-loop-j : goal.invariant-loop-j
invariant-loop-j l = (l.j ≤ l.j-end) × (l.n ≤ 65536 * l.j) × (l.n + child_counts (drop l.j (nodes_of l.s)) l.x ≡ child_counts (nodes_of l.s) l.x)
