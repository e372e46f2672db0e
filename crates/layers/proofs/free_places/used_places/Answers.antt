use Rattle.layers.proofs.ZeroRuns.{nothing_behind, half_free}
use borrow.Author.Rules.{rules}
use Rattle.layers.proofs.free_places.used_places.Goals as goal

pub loop-n-init : goal.loop-n-init
loop-n-init c = search (nothing_behind, rules)

pub loop-n-preserved : goal.loop-n-preserved
loop-n-preserved c = search (half_free, rules)
