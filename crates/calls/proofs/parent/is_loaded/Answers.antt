use Rattle.calls.proofs.ParentLaws.{loaded_at}
use borrow.Author.Rules.{rules}
use Rattle.calls.proofs.parent.is_loaded.Goals as goal

pub returns : goal.returns
returns c = search (loaded_at, rules)
