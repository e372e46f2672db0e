use Rattle.calls.proofs.DirentLaws.{name_laid, name_alone}
use borrow.Author.Rules.{rules}
use Rattle.calls.proofs.dirent.lay_name.Goals as goal

pub returns-then-p-ne0 : goal.returns-then-p-ne0
returns-then-p-ne0 c = search (name_laid, rules)

pub returns-else-p-ne0 : goal.returns-else-p-ne0
returns-else-p-ne0 c = search (name_alone, rules)
