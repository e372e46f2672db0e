use Rattle.layers.specs.Search.{names}
use Rattle.layers.proofs.NameLaws.{same_of}
use Rattle.layers.proofs.Cases.{cases}
use borrow.Author.Rules.{rules}
use Rattle.layers.proofs.search.names_at.Goals as goal

pub returns-then-p-eq0 : goal.returns-then-p-eq0
unfolding names
returns-then-p-eq0 c = search (cases, same_of, rules) depth 12

pub returns-then-p-d : goal.returns-then-p-d
unfolding names
returns-then-p-d c = search (cases, same_of, rules) depth 12

pub returns : goal.returns
unfolding names
returns c = search (cases, same_of, rules) depth 12
