use Rattle.calls.proofs.CreationRecords.{device_kept, device_none}
use borrow.Author.Rules.{rules}
use Rattle.calls.proofs.creation.device_of.Goals as goal

pub returns-then-is_device : goal.returns-then-is_device
returns-then-is_device c = search (device_kept, rules)

pub returns-else-is_device : goal.returns-else-is_device
returns-else-is_device c = search (device_none, rules)
