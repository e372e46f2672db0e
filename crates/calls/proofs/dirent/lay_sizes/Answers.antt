use Rattle.calls.proofs.DirentLaws.{sizes_laid}
use borrow.Author.Rules.{rules}
use Rattle.calls.proofs.dirent.lay_sizes.Goals as goal

pub returns : goal.returns
returns c = search (sizes_laid, rules)
