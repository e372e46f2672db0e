use Rattle.layers.proofs.NameLaws.{malformed_as}
use Rattle.layers.proofs.Cases.{cases}
use borrow.Author.Rules.{rules}
use Rattle.layers.proofs.names.malformed.Goals as goal

pub returns-then-same_name : goal.returns-then-same_name
returns-then-same_name c = rw malformed_as (search (cases, rules) depth 14)

pub returns-else-same_name : goal.returns-else-same_name
returns-else-same_name c = rw malformed_as (search (cases, rules) depth 14)
