use Rattle.calls.proofs.UpperLaws.{the_table, the_state}
use Rattle.calls.proofs.CopiedLaws.{copied_there, copied_directory, copied_file_lem}
use borrow.Author.Rules.{rules}
use Rattle.calls.proofs.copy_up.copy_node_up.Goals as goal

pub returns-then-in_upper : goal.returns-then-in_upper
returns-then-in_upper c = (search (copied_there the_table, rules), search (copied_there the_state, rules))

pub returns-then-is_directory : goal.returns-then-is_directory
returns-then-is_directory c = (search (copied_directory the_table, rules), search (copied_directory the_state, rules))

pub returns : goal.returns
returns c = (search (copied_file_lem the_table, rules), search (copied_file_lem the_state, rules))
