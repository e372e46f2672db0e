use Rattle.layers.proofs.WordLaws.{word_not, halves_end, lent_bytes}
use borrow.Author.Rules.{rules}
use Rattle.layers.proofs.names.same_halves.Goals as goal

pub returns-then-number_at : goal.returns-then-number_at
returns-then-number_at c = search (word_not 4, rules)

pub returns : goal.returns
returns c = search (halves_end 4, lent_bytes, rules)
