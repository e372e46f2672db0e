use Rattle.calls.proofs.RoomLaws.{over_records, over_entries}
use borrow.Author.Rules.{rules}
use Rattle.calls.proofs.room.overfull.Goals as goal

pub returns-then-not-has_free_records : goal.returns-then-not-has_free_records
returns-then-not-has_free_records c = search (over_records, rules)

pub returns-else-not-has_free_records : goal.returns-else-not-has_free_records
returns-else-not-has_free_records c = search (over_entries, rules)
