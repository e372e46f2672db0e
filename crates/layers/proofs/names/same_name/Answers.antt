use Rattle.layers.proofs.NameLaws.{same_lengths, same_bytes}
use borrow.Author.Rules.{rules}
use Rattle.layers.proofs.names.same_name.Goals as goal

pub returns-then-a-b : goal.returns-then-a-b
returns-then-a-b c = search (same_lengths, rules)

pub returns-then-a-lt4 : goal.returns-then-a-lt4
returns-then-a-lt4 c = search (same_bytes, rules)
