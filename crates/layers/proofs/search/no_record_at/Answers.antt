use Rattle.layers.specs.Search.{no_record}
use Rattle.layers.proofs.Cases.{eqb_of}
use borrow.Author.Rules.{rules}
use Rattle.layers.proofs.search.no_record_at.Goals as goal

pub returns : goal.returns
unfolding no_record
returns c = search (eqb_of, rules)
