use Rattle.calls.proofs.UpperLaws.{top_upper}
use borrow.Author.Rules.{rules}
use Rattle.calls.proofs.upper.in_upper.Goals as goal

pub returns : goal.returns
returns c = search (top_upper, rules)
