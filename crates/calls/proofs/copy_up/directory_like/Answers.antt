use Rattle.calls.specs.Upper.{directory_like}
use borrow.Author.Rules.{rules}
use Rattle.calls.proofs.copy_up.directory_like.Goals as goal

pub returns : goal.returns
unfolding directory_like
returns c = search rules
