use Rattle.merge.specs.Pushes.{ends_seen}
use borrow.Author.Rules.{rules}
use Rattle.merge.proofs.stacks.ends_seen.Goals as goal

pub returns-in-None : goal.returns-in-None
unfolding ends_seen
returns-in-None c = search rules

pub returns-in-Some : goal.returns-in-Some
unfolding ends_seen
returns-in-Some c = search rules
