use Rattle.calls.specs.Creation.{bad_mode}
use Rattle.layers.proofs.Cases.{cases}
use borrow.Author.Rules.{rules}
use Rattle.calls.proofs.creation.bad_mode.Goals as goal

pub returns-then-permissions-gt4095 : goal.returns-then-permissions-gt4095
unfolding bad_mode
returns-then-permissions-gt4095 c = search (cases, rules)

pub returns-else-permissions-gt4095 : goal.returns-else-permissions-gt4095
unfolding bad_mode
returns-else-permissions-gt4095 c = search (cases, rules)
