use Rattle.layers.proofs.Blank.{blank_entry}
use Rattle.layers.proofs.entry_rules.entry_is_blank.Goals as goal

pub returns : goal.returns
returns c = blank_entry c.args.e c.no_entry.result c.eq.result c.no_entry.ensures c.eq.ensures
