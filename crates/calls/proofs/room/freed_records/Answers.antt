use Rattle.calls.proofs.RoomLaws.{no_record_goes, record_freed}
use borrow.Author.Rules.{rules}
use Rattle.calls.proofs.room.freed_records.Goals as goal

pub returns-in_default : goal.returns-in_default
returns-in_default c = (search (no_record_goes, rules), search rules)

pub returns : goal.returns
returns c = search (record_freed, rules)
