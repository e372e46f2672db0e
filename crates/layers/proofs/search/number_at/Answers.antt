use Rattle.layers.proofs.Places.{record_out, number_is}
use mathlib.Core.Path.{refl}
use borrow.Author.Rules.{rules}
use Rattle.layers.proofs.search.number_at.Goals as goal

pub returns-then-i-eq0 : goal.returns-then-i-eq0
returns-then-i-eq0 c = search (record_out (λ r. r.number) refl, number_is, rules)

pub returns-then-i-gt128 : goal.returns-then-i-gt128
returns-then-i-gt128 c = search (record_out (λ r. r.number) refl, number_is, rules)

pub returns : goal.returns
returns c = search (record_out (λ r. r.number) refl, number_is, rules)
