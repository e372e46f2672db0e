use native.Mathlib.Omega.{arith}
use Rattle.merge.proofs.StackLaws.{unmapped}
use Rattle.merge.proofs.PlaceStacks.{passing_start, passing_next, passing_known}
use borrow.Author.Rules.{rules}
use Rattle.merge.proofs.stacks.new_from_place.Goals as goal

pub loop-i-init : goal.loop-i-init
loop-i-init c = search (passing_start, unmapped, rules)

pub stack_from-requires : goal.stack_from-requires
stack_from-requires c = (omega (arith, c.loop-i-test.true, c.min-i-end.ensures), c.loop-i.invariant.1.above, passing_known _ _ _ _ _ _ (record { layer = 0; number = 0 }) _ _ c.loop-i.invariant.1 c.loop-i.invariant.0 c.min-i-end.ensures c.loop-i-test.true _ c.holds_place.ensures c.if-holds_place.true c.requires.0 _ c.from.ensures)

pub loop-i-preserved : goal.loop-i-preserved
loop-i-preserved c = (c.loop-i.invariant.0, passing_next _ _ _ _ _ _ (record { layer = 0; number = 0 }) _ _ c.loop-i.invariant.1 c.loop-i.invariant.0 c.min-i-end.ensures c.loop-i-test.true _ c.holds_place.ensures c.if-holds_place.false)
