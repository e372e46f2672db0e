use Rattle.calls.proofs.CreationLaws.{in_answered, in_left, in_wrote}
use borrow.Author.Rules.{rules}
use Rattle.calls.proofs.creation.create_in.Goals as goal

pub returns : goal.returns
returns c = (search (in_answered, rules), search (in_left, rules), search (in_wrote, rules))
