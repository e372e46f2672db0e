use Rattle.calls.specs.Parents.{is_white}
use borrow.Author.Rules.{rules}
use Rattle.calls.proofs.parent.is_white.Goals as goal

pub returns : goal.returns
unfolding is_white
returns c = search rules
