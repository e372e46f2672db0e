use mathlib.Core.Path.{refl, ◌∙◌}
use mathlib.Core.List.{◌∷◌}
use Prim.Native.Nat.{◌+◌, ◌-◌}
use native.Mathlib.Omega.{arith}
use Rattle.std.proofs.lemmas.Iterator.{YieldsList-from_range}
use Rattle.std.proofs.lemmas.Iterator.Search.{all_from_yields_List}
use Rattle.layers.specs.Items.{records_of, entries_of, record_at, free_record}
use Rattle.layers.specs.RulesTally.{record_holds}
use Rattle.layers.proofs.Places.{length_from_zero}
use Rattle.layers.proofs.FreeTail.{records_end}
use Rattle.layers.proofs.Ranges.{every_in}
use Rattle.layers.proofs.RuleWalks.{records_together}
use borrow.Author.Rules.{rules}
use borrow.Author.Tests.{tests}
use Rattle.layers.proofs.tally.Tally.records_are_good.Goals as goal

pub returns : goal.returns
returns c =
    let rs = records_of c.args.t.now in let es = entries_of c.args.t.now in
    records_together rs es _
    (all_from_yields_List (λ i. record_holds es i (record_at rs i)) _ _ c.all.result c.all.ensures.ran (YieldsList-from_range 1 c.args.n (c.args.n - 1) refl refl) (λ x b q k. search (rules, tests))
    ∙ every_in (record_holds es) free_record (free_record ∷ rs) (c.args.n - 1) 1 (omega (arith, length_from_zero c.args.t.now)) (records_end rs es c.args.n (1 + (c.args.n - 1)) c.requires.1 (omega arith)))
