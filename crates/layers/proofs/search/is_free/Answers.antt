use Rattle.layers.specs.Search.{is_free}
use Rattle.layers.proofs.Cases.{eqb_of}
use borrow.Author.Rules.{rules}
use Rattle.layers.proofs.search.is_free.Goals as goal

pub returns : goal.returns
unfolding is_free
returns c = search (eqb_of, rules)
