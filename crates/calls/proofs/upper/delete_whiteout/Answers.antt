use Rattle.calls.proofs.UpperLaws.{the_table, the_state, not_deleted, deleted_table, deleted_state}
use borrow.Author.Rules.{rules}
use Rattle.calls.proofs.upper.delete_whiteout.Goals as goal

pub returns-in_default : goal.returns-in_default
returns-in_default c = (search (not_deleted the_table, rules), search (not_deleted the_state, rules))

pub returns : goal.returns
returns c = (search (deleted_table, rules), search (deleted_state, rules))
