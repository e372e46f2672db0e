use Rattle.layers.proofs.Blank.{blank_record}
use Rattle.layers.proofs.record_rules.record_is_blank.Goals as goal

pub returns : goal.returns
returns c = blank_record c.args.r c.no_record.result c.eq.result c.no_record.ensures c.eq.ensures
