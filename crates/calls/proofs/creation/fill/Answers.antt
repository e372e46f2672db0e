use Rattle.calls.proofs.CreationLaws.{fills_number, fills_table, fills_state}
use borrow.Author.Rules.{rules}
use Rattle.calls.proofs.creation.fill.Goals as goal

pub returns : goal.returns
returns c = (search (fills_number, rules), search (fills_table, rules), search (fills_state, rules))
