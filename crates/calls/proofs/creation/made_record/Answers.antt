use Rattle.calls.proofs.CreationRecords.{record_made}
use borrow.Author.Rules.{rules}
use Rattle.calls.proofs.creation.made_record.Goals as goal

pub returns : goal.returns
returns c = search (record_made, rules)
