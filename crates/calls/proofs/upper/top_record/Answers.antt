use Rattle.calls.proofs.UpperLaws.{top_none}
use Rattle.calls.proofs.upper.top_record.Goals as goal

pub returns-in_default : goal.returns-in_default
returns-in_default c = top_none c.args.n _ c.top_of-p.ensures _ _ _ c.from.ensures _ c.in_default.ensures c.no_record.ensures
