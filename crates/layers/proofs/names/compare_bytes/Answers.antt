use native.Mathlib.Omega.{arith}
use Rattle.layers.proofs.OrderLaws.{order_next, order_differs, order_ended}
use Rattle.layers.proofs.names.compare_bytes.Goals as goal

pub returns-then-a-i : goal.returns-then-a-i
returns-then-a-i c = order_differs c.args.a.now c.args.b.now c.loop-i.i c.cmp.result (omega arith) (omega arith) c.if-a-i.true c.cmp.ensures c.loop-i.invariant

pub loop-i-preserved : goal.loop-i-preserved
loop-i-preserved c = order_next c.args.a.now c.args.b.now c.loop-i.i (omega arith) (omega arith) c.if-a-i.false c.loop-i.invariant

pub returns : goal.returns
returns c = order_ended c.args.a.now c.args.b.now c.loop-i.i c.cmp-2.result (omega arith) c.cmp-2.ensures c.loop-i.invariant
