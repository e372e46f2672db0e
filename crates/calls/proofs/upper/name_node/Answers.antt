use Rattle.calls.proofs.UpperLaws.{named_new, put_new, named_kept, put_kept}
use borrow.Author.Rules.{rules}
use Rattle.calls.proofs.upper.name_node.Goals as goal

pub returns-in-Ok : goal.returns-in-Ok
returns-in-Ok c = (search (named_kept, rules), search (put_kept, rules))

pub returns-in-Err : goal.returns-in-Err
returns-in-Err c = (search (named_new, rules), search (put_new, rules))
