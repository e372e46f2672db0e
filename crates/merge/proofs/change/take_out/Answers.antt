use Rattle.merge.proofs.ChangeLaws.{not_taken}
use Rattle.merge.proofs.ShiftLaws.{taken_in_tail}
use borrow.Author.Rules.{rules}
use Rattle.merge.proofs.change.take_out.Goals as goal

pub returns-then-c-k : goal.returns-then-c-k
returns-then-c-k c = search (not_taken, rules)

pub returns : goal.returns
returns c = search (taken_in_tail, rules)
