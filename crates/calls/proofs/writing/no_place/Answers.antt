use Rattle.calls.proofs.WritingLaws.{place_had, place_asked}
use Rattle.calls.proofs.writing.no_place.Goals as goal

pub returns-then-is_none : goal.returns-then-is_none
returns-then-is_none c = place_asked _ _ _ c.is_none.ensures _ c.if-is_none.true c.has_room.ensures

pub returns-else-is_none : goal.returns-else-is_none
returns-else-is_none c = place_had _ _ _ c.is_none.ensures c.if-is_none.false
