use mathlib.Core.Path.{refl, ◌∙◌}
use Prim.Native.Nat.{◌+◌}
use native.Mathlib.Omega.{arith}
use Rattle.std.proofs.lemmas.Iterator.{YieldsList-from_range}
use Rattle.std.proofs.lemmas.Iterator.Search.{all_from_yields_List}
use Rattle.layers.specs.Items.{records_of, entries_of, entry_at, free_entry}
use Rattle.layers.specs.RulesTally.{entry_holds}
use Rattle.layers.proofs.ItemLaws.{length_entries}
use Rattle.layers.proofs.FreeTail.{entries_end}
use Rattle.layers.proofs.Ranges.{every_in}
use Rattle.layers.proofs.RuleWalks.{entries_together}
use borrow.Author.Rules.{rules}
use borrow.Author.Tests.{tests}
use Rattle.layers.proofs.rules.entries_are_good.Goals as goal

pub returns : goal.returns
returns c =
    let rs = records_of c.args.t.now in let es = entries_of c.args.t.now in
    entries_together rs es _
    (all_from_yields_List (λ j. entry_holds rs j (entry_at es j)) _ _ c.all.result c.all.ensures.ran (YieldsList-from_range 0 c.args.n c.args.n refl (omega arith)) (λ x b q k. search (rules, tests))
    ∙ every_in (entry_holds rs) free_entry es c.args.n 0 (omega (arith, length_entries c.args.t.now)) (entries_end rs es c.args.n (0 + c.args.n) c.requires.1 (omega arith)))
