use Rattle.calls.proofs.TestLaws.{tests}
use Rattle.calls.specs.Count.{count_before}
use borrow.Author.Rules.{rules}
use Rattle.calls.proofs.count.counted_place.Goals as goal

pub returns-then-not-lengths_fit : goal.returns-then-not-lengths_fit
unfolding count_before
returns-then-not-lengths_fit c = search (tests, rules)

pub returns : goal.returns
unfolding count_before
returns c = search (tests, rules)
