use Rattle.calls.proofs.ListingLaws.{no_type, type_there}
use Rattle.calls.proofs.page.type_of.Goals as goal

pub returns-in_default : goal.returns-in_default
returns-in_default c = no_type _ _ _ _ c.from.ensures c.in_default.ensures

pub returns : goal.returns
returns c = type_there _ _ _ _ c.from.ensures _ c.in-Some.ensures.0 _ _ c.from-2.ensures c.kind_at.ensures
