use Rattle.calls.proofs.UpperLaws.{number_kept, record_given}
use borrow.Author.Rules.{rules}
use Rattle.calls.proofs.upper.give_record.Goals as goal

pub returns : goal.returns
returns c = (search (number_kept, rules), search (record_given, rules))
