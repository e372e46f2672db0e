use mathlib.Core.Path.{refl}
use native.Mathlib.Omega.{arith}
use Rattle.std.proofs.lemmas.Iterator.{YieldsList-from_range}
use Rattle.std.proofs.lemmas.Iterator.Search.{all_from_yields_List}
use Rattle.layers.proofs.WordLaws.{word_not, words_alike, lent_bytes}
use borrow.Author.Rules.{rules}
use borrow.Author.Tests.{tests}
use Rattle.layers.proofs.names.same_words.Goals as goal

pub returns-then-number_at : goal.returns-then-number_at
returns-then-number_at c = search (word_not 8, rules)

pub returns : goal.returns
returns c =
    words_alike c.args.a.now c.args.b.now c.div_ceil.result c.number_at.result c.number_at-2.result c.all.result (search (lent_bytes, rules)) (search (lent_bytes, rules)) c.requires.0 c.requires.1 c.div_ceil.ensures c.number_at.ensures c.number_at-2.ensures c.if-number_at.false
    (all_from_yields_List _ _ _ c.all.result c.all.ensures.ran (YieldsList-from_range 0 c.div_ceil.result c.div_ceil.result refl (omega arith)) (λ x b q k. search (rules, tests)))
