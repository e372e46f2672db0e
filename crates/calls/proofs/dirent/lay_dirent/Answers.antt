use Rattle.calls.proofs.DirentLaws.{dirent_laid}
use borrow.Author.Rules.{rules}
use Rattle.calls.proofs.dirent.lay_dirent.Goals as goal

pub returns : goal.returns
returns c = search (dirent_laid, rules)
