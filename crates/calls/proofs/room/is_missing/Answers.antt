use mathlib.Core.Path.{sym, ◌∙◌}
use lib.Dec.{eqb}
use borrow.Author.Rules.{rules}
use borrow.Author.Tests.{tests}
use Rattle.std.proofs.lemmas.Iterator.Search.{any_from_yields_List}
use Rattle.calls.proofs.RoomLaws.{walk_yields, is_in_any}
use Rattle.calls.proofs.room.is_missing.Goals as goal

pub returns : goal.returns
returns c =
    any_from_yields_List (λ y. eqb c.args.i y) c.any.new.self _ c.any.result c.any.ensures.ran (walk_yields _ _ c.missing.ensures) (λ x b q k. search (rules, tests))
    ∙ sym (is_in_any c.args.i _)
