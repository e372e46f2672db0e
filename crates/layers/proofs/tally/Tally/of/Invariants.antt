use Rattle.layers.specs.Items.{entries_of}
use Rattle.layers.specs.RulesTally.{Counted, Parented}
use lib.ListN.{drop}
use Prim.Native.Nat.{◌≤◌}
use Rattle.layers.proofs.tally.Tally.of.Given as goal

abbrev pub invariant-loop-j : goal.invariant-loop-j
invariant-loop-j l = (l.j ≤ 128) × Counted (drop l.j (entries_of l.t)) l.tally.counts × Parented (drop l.j (entries_of l.t)) l.tally.parents
