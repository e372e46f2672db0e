use Rattle.calls.specs.Upper.{file_like}
use borrow.Author.Rules.{rules}
use Rattle.calls.proofs.copy_up.file_like.Goals as goal

pub returns : goal.returns
unfolding file_like
returns c = search rules
