use Rattle.merge.specs.Pushes.{with_seen}
use Rattle.merge.proofs.PushLaws.{seen_at}
use borrow.Author.Rules.{rules}
use Rattle.merge.proofs.stacks.with_seen.Goals as goal

pub returns-in-None : goal.returns-in-None
unfolding with_seen
returns-in-None c = search (seen_at, rules)

pub returns-in-Some : goal.returns-in-Some
unfolding with_seen
returns-in-Some c = search (seen_at, rules)
