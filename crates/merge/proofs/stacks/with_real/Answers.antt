use Rattle.merge.specs.Pushes.{with_real}
use Rattle.merge.proofs.PushLaws.{real_at}
use borrow.Author.Rules.{rules}
use Rattle.merge.proofs.stacks.with_real.Goals as goal

pub returns-in-Whiteout : goal.returns-in-Whiteout
unfolding with_real
returns-in-Whiteout c = search (real_at, rules)

pub returns-in-Other : goal.returns-in-Other
unfolding with_real
returns-in-Other c = search (real_at, rules)

pub returns-in-Plain : goal.returns-in-Plain
unfolding with_real
returns-in-Plain c = search (real_at, rules)

pub returns-in-Opaque : goal.returns-in-Opaque
unfolding with_real
returns-in-Opaque c = search (real_at, rules)
