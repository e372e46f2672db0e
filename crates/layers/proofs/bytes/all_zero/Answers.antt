use lib.Bits.{bit_or}
use Rattle.std.proofs.lemmas.Iterator.{YieldsList-from_slice}
use Rattle.std.proofs.lemmas.Iterator.Consumers.{fold_from_yields_List}
use Rattle.layers.proofs.ZeroRuns.{no_bits}
use borrow.Author.Rules.{rules}
use borrow.Author.Tests.{tests}
use Rattle.layers.proofs.bytes.all_zero.Goals as goal

pub returns : goal.returns
returns c =
    no_bits c.args.b.now c.fold.result
    (fold_from_yields_List _ bit_or 0 c.fold.result c.fold.ensures.ran (YieldsList-from_slice c.args.b.now (cc)) (λ a x b q k. search (rules, tests)))
