use mathlib.Core.List.{◌∷◌}
use mathlib.Core.Path.{refl, sym}
use Rattle.std.proofs.lemmas.Iterator.{YieldsList-from_range}
use Rattle.std.proofs.lemmas.Iterator.Search.{find_from_yields_List}
use Rattle.layers.specs.Items.{records_of, record_at, free_record}
use Rattle.layers.specs.Search.{no_record}
use Rattle.layers.proofs.Places.{length_from_zero}
use Rattle.layers.proofs.Ranges.{first_at}
use borrow.Author.Rules.{rules}
use borrow.Author.Tests.{tests}
use Rattle.layers.proofs.search.free_record.Goals as goal

pub returns : goal.returns
returns c =
    first_at no_record free_record (free_record ∷ records_of c.args.t.now) 128 1 (sym (length_from_zero c.args.t.now)) c.find.result
    (find_from_yields_List (λ j. no_record (record_at (records_of c.args.t.now) j)) _ _ _ c.find.ensures.ran (YieldsList-from_range 1 129 128 refl refl) (λ x b q k. search (rules, tests)))
