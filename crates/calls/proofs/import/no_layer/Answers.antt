use Rattle.calls.specs.Import.{no_layer}
use Rattle.layers.proofs.Cases.{cases}
use borrow.Author.Rules.{rules}
use Rattle.calls.proofs.import.no_layer.Goals as goal

pub returns-then-is_empty : goal.returns-then-is_empty
unfolding no_layer
returns-then-is_empty c = search (cases, rules)

pub returns-else-is_empty : goal.returns-else-is_empty
unfolding no_layer
returns-else-is_empty c = search (cases, rules)
