use mathlib.Core.Path.{refl, sym}
use Rattle.std.proofs.lemmas.Iterator.{YieldsList-from_range}
use Rattle.std.proofs.lemmas.Iterator.Search.{find_from_yields_List}
use Rattle.layers.specs.Items.{entries_of, entry_at, free_entry}
use Rattle.layers.specs.Search.{names}
use Rattle.layers.proofs.ItemLaws.{length_entries}
use Rattle.layers.proofs.Ranges.{first_at}
use borrow.Author.Rules.{rules}
use borrow.Author.Tests.{tests}
use Rattle.layers.proofs.search.search.Goals as goal

pub returns : goal.returns
returns c =
    first_at (names c.args.d c.args.x.now) free_entry (entries_of c.args.t.now) 128 0 (sym (length_entries c.args.t.now)) c.find.result
    (find_from_yields_List (λ j. (names c.args.d c.args.x.now) (entry_at (entries_of c.args.t.now) j)) _ _ _ c.find.ensures.ran (YieldsList-from_range 0 128 128 refl refl) (λ x b q k. search (rules, tests)))
