use Rattle.calls.proofs.RoomLaws.{entry_freed}
use Rattle.calls.proofs.room.freed_entries.Goals as goal

pub returns : goal.returns
returns c = entry_freed _ _ _ c.is_some.ensures c.from.ensures
