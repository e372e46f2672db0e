use Rattle.calls.proofs.UpperLaws.{alone_made}
use borrow.Author.Rules.{rules}
use Rattle.calls.proofs.upper.upper_alone.Goals as goal

pub returns : goal.returns
returns c = search (alone_made, rules)
