use Rattle.merge.proofs.StackLaws.{unmapped}
use Rattle.merge.proofs.ScanLaws.{scan_start, scan_end, scan_enter, scan_stop, scan_ends, scan_next, entry_next}
use native.Mathlib.Omega.{arith}
use borrow.Author.Rules.{rules}
use Rattle.merge.proofs.scan.scan_childrens.Goals as goal

pub loop-i-init : goal.loop-i-init
loop-i-init c = search (scan_start, unmapped, rules)

pub returns-in_default : goal.returns-in_default
returns-in_default c = (scan_stop _ _ _ _ _ _ _ _ c.loop-i.invariant.2 c.loop-i.invariant.0 _ c.min-i-end.ensures c.loop-i-test.true (record { layer = 0; number = 0 }) c.in_default.ensures, omega (arith, c.loop-i.invariant.1, c.loop-i-test.true, c.min-i-end.ensures))

pub loop-j-init : goal.loop-j-init
loop-j-init c = (c.loop-i.invariant.0, omega (arith, c.loop-i.invariant.1), scan_enter _ _ _ _ _ _ _ _ c.loop-i.invariant.2 c.loop-i.invariant.0 _ c.min-i-end.ensures c.loop-i-test.true (record { layer = 0; number = 0 }) _ c.in-Some.ensures.0 c.in-Some.ensures.1, omega arith)

pub loop-j-preserved : goal.loop-j-preserved
loop-j-preserved c = (c.loop-i.invariant.0, omega (arith, c.loop-j.invariant.1, c.add_place-n.ensures), entry_next _ _ _ _ _ _ _ _ _ _ _ _ c.loop-j.invariant.2 _ _ _ c.add_place-n.ensures.0 c.place_of.ensures c.add_place-n.ensures.1 c.loop-j-test.true, omega (arith, c.loop-j.invariant.3, c.add_place-n.ensures.1))

pub returns-then-ends_scan : goal.returns-then-ends_scan
returns-then-ends_scan c = (scan_ends _ _ _ _ _ _ _ _ _ _ _ _ c.loop-j.invariant.2 c.loop-j-test.false _ c.ends_scan.ensures _ _ c.loop-j.invariant.3 c.loop-i.invariant.2.rest c.if-ends_scan.true, omega (arith, c.loop-j.invariant.1, c.loop-i-test.true, c.min-i-end.ensures, c.loop-j.auto))

pub loop-i-preserved : goal.loop-i-preserved
loop-i-preserved c = (c.loop-i.invariant.0, omega (arith, c.loop-j.invariant.1, c.loop-j.auto), scan_next _ _ _ _ _ _ _ _ _ _ _ _ c.loop-j.invariant.2 c.loop-j-test.false _ c.ends_scan.ensures _ _ c.loop-j.invariant.3 c.loop-i.invariant.2.rest c.if-ends_scan.false)

pub returns : goal.returns
returns c = (scan_end _ _ _ _ _ _ _ _ c.loop-i.invariant.2 c.loop-i.invariant.0 _ c.min-i-end.ensures c.loop-i-test.false, omega (arith, c.loop-i.invariant.1, c.loop-i.auto, c.min-i-end.ensures))
