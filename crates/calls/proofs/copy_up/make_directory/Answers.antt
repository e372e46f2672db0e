use Rattle.calls.specs.Upper.{directory_like, made_directory}
use Rattle.merge.specs.Methods.{topped}
use Rattle.calls.proofs.CopiedLaws.{made_table, made_state}
use borrow.Author.Rules.{rules}
use Rattle.calls.proofs.copy_up.make_directory.Goals as goal

pub returns : goal.returns
unfolding made_directory
returns c = (search (made_table directory_like topped, rules), search (made_state directory_like topped, rules))
