use Rattle.layers.proofs.ItemLaws.{record_fields}
use borrow.Author.Rules.{rules}
use Rattle.layers.proofs.items.record_of.Goals as goal

pub returns : goal.returns
returns c = search (record_fields, rules)
