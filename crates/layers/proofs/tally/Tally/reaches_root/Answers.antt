use Prim.Native.Nat.{◌+◌, ◌-◌}
use native.Mathlib.Omega.{arith}
use Rattle.layers.specs.Items.{entries_of}
use Rattle.layers.proofs.RuleWalks.{reach_other, reach_start, climb_here, climb_none, climb_next, climb_end}
use borrow.Author.Rules.{rules}
use Rattle.layers.proofs.tally.Tally.reaches_root.Goals as goal

pub returns-then-not-is_directory : goal.returns-then-not-is_directory
returns-then-not-is_directory c = search (reach_other, rules)

pub loop-init : goal.loop-init
loop-init c = search (reach_start, rules)

pub returns-then-q-eq1 : goal.returns-then-q-eq1
returns-then-q-eq1 c = search (climb_here, climb_none, climb_end, rules)

pub returns-then-q-eq0 : goal.returns-then-q-eq0
returns-then-q-eq0 c = search (climb_here, climb_none, climb_end, rules)

pub loop-preserved : goal.loop-preserved
loop-preserved c = (
  search rules,
  climb_next (entries_of c.args.t.now) (16 - c.loop.counter) c.loop.q _ c.args.self.now.parents c.from-q.result (omega arith) c.if-q-eq1.false c.if-q-eq0.false c.loop.invariant.0 c.requires.1 c.from-q.ensures c.loop.invariant.1 (16 - (c.loop.counter + 1)) (omega arith),
)

pub returns : goal.returns
returns c = search (climb_here, climb_none, climb_end, rules)
