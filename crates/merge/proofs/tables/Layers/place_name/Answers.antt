use Rattle.merge.proofs.TableLaws.{no_name, name_there}
use Rattle.merge.proofs.tables.Layers.place_name.Goals as goal

pub returns-in_default : goal.returns-in_default
returns-in_default c = no_name _ _ _ _ c.from.ensures c.in_default.ensures

pub returns : goal.returns
returns c = name_there _ _ _ _ _ _ _ c.from.ensures c.from-2.ensures c.in-Some.ensures.0 c.name_at.ensures
