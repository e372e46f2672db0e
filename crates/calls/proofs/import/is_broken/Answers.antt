use Rattle.calls.proofs.ImportLaws.{no_bytes, rules_decide}
use Rattle.calls.proofs.import.is_broken.Goals as goal

pub returns-in_default : goal.returns-in_default
returns-in_default c = no_bytes _ c.in_default.ensures

pub returns : goal.returns
returns c = rules_decide _ _ c.in-Some.ensures.0 c.in-Some.ensures.1 _ c.valid.ensures
