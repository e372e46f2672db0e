use Rattle.merge.proofs.StackLaws.{none_length}
use Rattle.merge.proofs.FreshLaws.{roots_start, roots_end, roots_there, roots_skip}
use borrow.Author.Rules.{rules}
use native.Mathlib.Omega.{arith}
use Rattle.merge.proofs.stacks.root_stack.Goals.{then-is_some, else-is_some}
use Rattle.merge.proofs.stacks.root_stack.Goals as goal

pub loop-k-init : goal.loop-k-init
loop-k-init c = search (roots_start, none_length, rules)

pub loop-k-preserved : goal.loop-k-preserved
loop-k-preserved c =
    elim c.if-is_some.branch [
      | then-is_some w ↦ rw w.out-is (omega (arith, w.pushed-out.ensures.1, c.loop-k.invariant.0), roots_there _ _ _ _ c.loop-k.invariant.1 c.loop-k-test.true _ c.from.ensures _ c.table.ensures _ c.is_some.ensures w.if-is_some.true _ w.pushed-out.ensures.0)
      | else-is_some w ↦ rw w.out-is (omega (arith, c.loop-k.invariant.0), roots_skip _ _ _ _ c.loop-k.invariant.1 c.loop-k-test.true _ c.from.ensures _ c.table.ensures _ c.is_some.ensures w.if-is_some.false)
    ]

pub returns : goal.returns
returns c = search (roots_end, rules)
