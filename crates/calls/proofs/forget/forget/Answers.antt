use Rattle.calls.specs.Forget.{forget_call}
use Rattle.layers.proofs.Cases.{cases}
use borrow.Author.Rules.{rules}
use Rattle.calls.proofs.forget.forget.Goals as goal

pub returns-then-state_fits : goal.returns-then-state_fits
unfolding forget_call
returns-then-state_fits c = search (cases, rules)

pub returns-else-state_fits : goal.returns-else-state_fits
unfolding forget_call
returns-else-state_fits c = search (cases, rules)
