use Rattle.calls.specs.Upper.{file_like, copied_file}
use Rattle.merge.specs.Methods.{alone}
use Rattle.calls.proofs.CopiedLaws.{made_table, made_state}
use borrow.Author.Rules.{rules}
use Rattle.calls.proofs.copy_up.copy_file.Goals as goal

pub returns : goal.returns
unfolding copied_file
returns c = (search (made_table file_like alone, rules), search (made_state file_like alone, rules))
