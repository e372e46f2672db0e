use Rattle.calls.proofs.CreationRecords.{bad_kind, bad_bits}
use borrow.Author.Rules.{rules}
use Rattle.calls.proofs.creation.bad_node.Goals as goal

pub returns-then-not_made : goal.returns-then-not_made
returns-then-not_made c = search (bad_kind, bad_bits, rules)

pub returns-else-not_made : goal.returns-else-not_made
returns-else-not_made c = search (bad_bits, rules)
