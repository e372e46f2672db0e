use native.Mathlib.Omega.{arith}
use mathlib.Core.Path.{ap}
use lib.ListN.{length}
use borrow.Author.Rules.{rules}
use Rattle.calls.proofs.RoomLaws.{none_left, none_above, one_above}
use Rattle.calls.proofs.room.MissingFromIterator.next.Goals as goal

pub returns-then-self-eq0-clause-steps : goal.returns-then-self-eq0-clause-steps
returns-then-self-eq0-clause-steps c = search (none_left, rules)

pub returns-then-in_upper-clause-steps : goal.returns-then-in_upper-clause-steps
returns-then-in_upper-clause-steps c = search (none_above, rules)

pub returns-clause-steps : goal.returns-clause-steps
returns-clause-steps c = search (one_above, rules)

pub returns-clause-goes : goal.returns-clause-goes
returns-clause-goes c =
    let e = ap length (one_above _ _ _ c.if-self-eq0.false _ c.node_at-n.ensures _ c.in_upper.ensures c.if-in_upper.false _ _ c.from.ensures c.place_numbered-self.ensures) in
    record { on = λ _. (tt, tt, omega (arith, e)); keeps = tt; rests = λ _. tt }
