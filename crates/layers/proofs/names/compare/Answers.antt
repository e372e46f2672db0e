use mathlib.Core.Path.{◌≡◌, sym, ◌∙◌}
use Prim.Native.Nat.{◌+◌, ◌*◌, ◌/◌}
use native.Mathlib.Omega.{arith}
use Rattle.layers.proofs.OrderWords.{word_differs, word_on, rest_order}
use Rattle.layers.proofs.OrderLaws.{order_as}
use Rattle.layers.proofs.WordLaws.{lent_bytes}
use borrow.Author.Rules.{rules}
use Rattle.layers.proofs.names.compare.Goals as goal

pub returns-then-x-y : goal.returns-then-x-y
returns-then-x-y c = word_differs 4 c.args.a.now c.args.b.now (4 * c.loop-i.i) c.be_in-x.result c.be_in-y.result (search (lent_bytes, rules)) (search (lent_bytes, rules)) (omega arith) (omega arith) c.be_in-x.ensures c.be_in-y.ensures c.cmp.result c.if-x-y.true c.cmp.ensures c.loop-i.invariant

pub loop-i-preserved : goal.loop-i-preserved
loop-i-preserved c =
    let k : 4 * c.loop-i.i + 4 ≡ 4 * (c.loop-i.i + 1) = omega arith in
    rw k at (word_on 4 c.args.a.now c.args.b.now (4 * c.loop-i.i) c.be_in-x.result c.be_in-y.result (search (lent_bytes, rules)) (search (lent_bytes, rules)) (omega arith) (omega arith) c.be_in-x.ensures c.be_in-y.ensures c.if-x-y.false c.loop-i.invariant)

pub returns : goal.returns
returns c =
    let k : c.loop-i.i ≡ c.min-n.result / 4 = omega arith in
    rest_order c.args.a.now c.args.b.now (4 * (c.min-n.result / 4)) c.compare_bytes.result (omega arith) (omega arith) (c.compare_bytes.ensures ∙ sym (order_as _ _)) (rw k at c.loop-i.invariant)
