use mathlib.Core.Path.{refl}
use native.Mathlib.Omega.{arith}
use Rattle.merge.proofs.StackLaws.{unmapped, stack_end, stack_stop, stack_merged, stack_scanned, stack_next}
use Rattle.merge.proofs.PlaceStacks.{above_start, none_within}
use borrow.Author.Rules.{rules}
use Rattle.merge.proofs.stacks.stack_from.Goals as goal

pub loop-i-init : goal.loop-i-init
loop-i-init c = search (above_start, none_within, unmapped, rules)

pub returns-in_default : goal.returns-in_default
returns-in_default c = (stack_stop _ _ _ (record { layer = 0; number = 0 }) _ _ _ _ _ c.loop-i.invariant.3 c.loop-i.invariant.0 c.min-i-end.ensures c.loop-i-test.true c.in_default.ensures, c.loop-i.invariant.2)

pub seen_known-f-requires : goal.seen_known-f-requires
seen_known-f-requires c = rw c.in-Some.ensures.0 c.loop-i.invariant.4

pub with_seen-out-requires : goal.with_seen-out-requires
with_seen-out-requires c = omega (arith, c.loop-i.invariant.1, c.loop-i-test.true, c.min-i-end.ensures)

pub returns-then-ends_seen : goal.returns-then-ends_seen
returns-then-ends_seen c = (stack_merged _ _ _ (record { layer = 0; number = 0 }) _ _ _ _ _ c.loop-i.invariant.3 c.loop-i.invariant.0 c.min-i-end.ensures c.loop-i-test.true _ c.in-Some.ensures.0 c.in-Some.ensures.1 _ c.seen_known-f.ensures _ c.with_seen-out.ensures.0 _ c.ends_seen.ensures c.if-ends_seen.true, omega (arith, c.with_seen-out.ensures.1, c.loop-i.invariant.1, c.loop-i-test.true, c.min-i-end.ensures))

pub returns-then-ends_scan : goal.returns-then-ends_scan
returns-then-ends_scan c = (stack_scanned _ _ _ (record { layer = 0; number = 0 }) _ _ _ _ _ c.loop-i.invariant.3 c.loop-i.invariant.0 c.min-i-end.ensures c.loop-i-test.true _ c.in-Some.ensures.0 c.in-Some.ensures.1 _ c.seen_known-f.ensures _ c.with_seen-out.ensures.0 _ c.ends_seen.ensures c.if-ends_seen.false _ c.ends_scan.ensures c.if-ends_scan.true, omega (arith, c.with_seen-out.ensures.1, c.loop-i.invariant.1, c.loop-i-test.true, c.min-i-end.ensures))

pub loop-i-preserved : goal.loop-i-preserved
loop-i-preserved c = (c.loop-i.invariant.0, omega (arith, c.with_seen-out.ensures.1, c.loop-i.invariant.1, c.loop-i-test.true, c.min-i-end.ensures), omega (arith, c.with_seen-out.ensures.1, c.loop-i.invariant.1, c.loop-i-test.true, c.min-i-end.ensures), stack_next _ _ _ (record { layer = 0; number = 0 }) _ _ _ _ _ c.loop-i.invariant.3 c.loop-i.invariant.0 c.min-i-end.ensures c.loop-i-test.true _ c.in-Some.ensures.0 c.in-Some.ensures.1 _ c.seen_known-f.ensures _ c.with_seen-out.ensures.0 _ c.ends_seen.ensures c.if-ends_seen.false _ c.ends_scan.ensures c.if-ends_scan.false, tt)

pub returns : goal.returns
returns c = (stack_end _ _ _ (record { layer = 0; number = 0 }) _ _ _ _ _ c.loop-i.invariant.3 c.loop-i.invariant.0 c.min-i-end.ensures c.loop-i-test.false, c.loop-i.invariant.2)
