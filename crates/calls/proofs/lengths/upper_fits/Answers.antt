use Rattle.std.proofs.Common.{tests, arith}
use Rattle.std.proofs.lemmas.Grind.{common_steps}
use Rattle.calls.specs.Lengths.{upper_fits}
use Rattle.calls.proofs.lengths.upper_fits.Goals as goal

pub returns-in-0 : goal.returns-in-0
unfolding upper_fits
returns-in-0 c = grind (arith, tests, common_steps)

pub returns-in_default : goal.returns-in_default
unfolding upper_fits
returns-in_default c = grind (arith, tests, common_steps)
