use Rattle.calls.proofs.TestLaws.{tests}
use Rattle.calls.specs.Lookup.{lookup_before}
use borrow.Author.Rules.{rules}
use Rattle.calls.proofs.lookup.lookup_place.Goals as goal

pub returns-then-not-lengths_fit : goal.returns-then-not-lengths_fit
unfolding lookup_before
returns-then-not-lengths_fit c = search (tests, rules)

pub returns-then-malformed : goal.returns-then-malformed
unfolding lookup_before
returns-then-malformed c = search (tests, rules)

pub returns : goal.returns
unfolding lookup_before
returns c = search (tests, rules)
