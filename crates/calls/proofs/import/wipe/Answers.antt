use Rattle.calls.proofs.ImportLaws.{wiped_fits, wiped_other}
use borrow.Author.Rules.{rules}
use Rattle.calls.proofs.import.wipe.Goals as goal

pub returns-then-state_fits : goal.returns-then-state_fits
returns-then-state_fits c = search (wiped_fits, wiped_other, rules)

pub returns-else-state_fits : goal.returns-else-state_fits
returns-else-state_fits c = search (wiped_fits, wiped_other, rules)
