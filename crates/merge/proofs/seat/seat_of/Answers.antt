use Rattle.merge.proofs.SeatLaws.{seat_end, seat_before, seat_same, seat_after}
use borrow.Author.Rules.{rules}
use Rattle.merge.proofs.seat.seat_of.Goals as goal

pub loop-lo-preserved-in-Less : goal.loop-lo-preserved-in-Less
loop-lo-preserved-in-Less c = (search rules, search (seat_before, rules))

pub returns-in-Equal : goal.returns-in-Equal
returns-in-Equal c = search (seat_same, rules)

pub loop-lo-preserved : goal.loop-lo-preserved
loop-lo-preserved c = (search rules, search (seat_after, rules))

pub returns : goal.returns
returns c = search (seat_end, rules)
