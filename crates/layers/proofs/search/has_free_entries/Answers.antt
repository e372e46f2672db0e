use mathlib.Core.Path.{◌≡◌, sym}
use lib.ListN.{length, drop}
use native.Mathlib.Omega.{arith}
use Rattle.std.specs.List.{filter}
use Rattle.std.proofs.lemmas.Iterator.{YieldsList-from_take}
use Rattle.std.proofs.lemmas.Iterator.Consumers.{YieldsList-at, YieldsList-from_filter, count_from_yields_List}
use Rattle.layers.specs.Items.{entries_of, entry_at, free_entry}
use Rattle.layers.specs.Search.{count_if, is_free}
use Rattle.layers.proofs.ItemLaws.{length_entries}
use Rattle.layers.proofs.Ranges.{down, down_listed, passing_all, either, taken}
use borrow.Author.Rules.{rules}
use borrow.Author.Tests.{tests}
use Rattle.layers.proofs.search.has_free_entries.Goals as goal

pub returns : goal.returns
returns c =
    let l = filter (λ j. is_free (entry_at (entries_of c.args.t.now) j)) (down 0 128) in
    let m : length l ≡ count_if is_free (drop 0 (entries_of c.args.t.now)) = passing_all is_free free_entry (entries_of c.args.t.now) 128 0 (sym (length_entries c.args.t.now)) in
    taken c.args.n _ l c.count.result
    (count_from_yields_List c.take.result _ c.count.ensures.ran
    (YieldsList-from_take c.args.n (YieldsList-at c.take.ensures.source
    (YieldsList-from_filter _ (λ j. is_free (entry_at (entries_of c.args.t.now) j)) (YieldsList-at c.filter.ensures.source (down_listed 0 128 c.rev.ensures.source)) c.filter.ensures.closure (λ x b q k. search (rules, tests)))) c.take.ensures.count))
    (omega (arith, m, either is_free (entries_of c.args.t.now), length_entries c.args.t.now))
