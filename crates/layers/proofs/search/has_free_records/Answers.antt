use mathlib.Core.Path.{◌≡◌, sym}
use mathlib.Core.List.{◌∷◌}
use Rattle.layers.proofs.Places.{length_from_zero}
use lib.ListN.{length, drop}
use native.Mathlib.Omega.{arith}
use Rattle.std.specs.List.{filter}
use Rattle.std.proofs.lemmas.Iterator.{YieldsList-from_take}
use Rattle.std.proofs.lemmas.Iterator.Consumers.{YieldsList-at, YieldsList-from_filter, count_from_yields_List}
use Rattle.layers.specs.Items.{records_of, record_at, free_record}
use Rattle.layers.specs.Search.{count_if, no_record}
use Rattle.layers.proofs.ItemLaws.{length_records}
use Rattle.layers.proofs.Ranges.{down, down_listed, passing_all, either, taken}
use borrow.Author.Rules.{rules}
use borrow.Author.Tests.{tests}
use Rattle.layers.proofs.search.has_free_records.Goals as goal

pub returns : goal.returns
returns c =
    let l = filter (λ j. no_record (record_at (records_of c.args.t.now) j)) (down 1 128) in
    let m : length l ≡ count_if no_record (drop 1 (free_record ∷ records_of c.args.t.now)) = passing_all no_record free_record (free_record ∷ records_of c.args.t.now) 128 1 (sym (length_from_zero c.args.t.now)) in
    taken c.args.n _ l c.count.result
    (count_from_yields_List c.take.result _ c.count.ensures.ran
    (YieldsList-from_take c.args.n (YieldsList-at c.take.ensures.source
    (YieldsList-from_filter _ (λ j. no_record (record_at (records_of c.args.t.now) j)) (YieldsList-at c.filter.ensures.source (down_listed 1 128 c.rev.ensures.source)) c.filter.ensures.closure (λ x b q k. search (rules, tests)))) c.take.ensures.count))
    (omega (arith, m, either no_record (records_of c.args.t.now), length_records c.args.t.now))
