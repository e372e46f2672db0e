use Rattle.calls.proofs.DirentLaws.{numbers_laid}
use borrow.Author.Rules.{rules}
use Rattle.calls.proofs.dirent.lay_numbers.Goals as goal

pub returns : goal.returns
returns c = search (numbers_laid, rules)
