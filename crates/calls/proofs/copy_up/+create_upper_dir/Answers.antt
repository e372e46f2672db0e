use Rattle.calls.proofs.UpperLaws.{the_table, the_state}
use Rattle.calls.proofs.CopiedLaws.{path_end, path_there, path_made}
use borrow.Author.Rules.{rules}
use Rattle.calls.proofs.copy_up.+create_upper_dir.Goals as goal

pub returns-then-depth-eq0 : goal.returns-then-depth-eq0
returns-then-depth-eq0 t c = (search (path_end the_table, rules), search (path_end the_state, rules))

pub returns-then-in_upper : goal.returns-then-in_upper
returns-then-in_upper t c = (search (path_there the_table, rules), search (path_there the_state, rules))

pub returns : goal.returns
returns t c = (search (path_made the_table, rules), search (path_made the_state, rules))
