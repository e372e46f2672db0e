use Rattle.layers.specs.Rules.{climbs, reach_test}
use Rattle.layers.specs.Items.{records_of, entries_of, record_at}
use Prim.Native.Nat.{◌-◌, ◌<◌}
use mathlib.Core.Path.{◌≡◌}
use Rattle.layers.proofs.tally.Tally.reaches_root.Given as goal

abbrev pub invariant-loop : goal.invariant-loop
invariant-loop l = (l.q < 256) × (climbs (16 - l.counter) (entries_of l.t) l.q ≡ reach_test (entries_of l.t) l.i (record_at (records_of l.t) l.i))
