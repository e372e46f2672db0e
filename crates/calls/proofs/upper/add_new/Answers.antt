use Rattle.calls.proofs.UpperLaws.{number_fits, new_number_lem, new_added}
use borrow.Author.Rules.{rules}
use Rattle.calls.proofs.upper.add_new.Goals as goal

pub overflow_cast-c : goal.overflow_cast-c
overflow_cast-c c = search (number_fits, rules)

pub returns : goal.returns
returns c = (search (new_number_lem, rules), search (new_added, rules))
