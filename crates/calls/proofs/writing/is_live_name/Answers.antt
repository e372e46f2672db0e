use borrow.Author.Rules.{rules}
use Rattle.calls.proofs.WritingLaws.{live_as_node}
use Rattle.calls.proofs.writing.is_live_name.Goals as goal

pub returns : goal.returns
returns c = live_as_node _ _ _ _ c.is_some_and.ensures (λ j k. search rules)
