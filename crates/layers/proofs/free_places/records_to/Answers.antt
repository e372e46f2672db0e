use Rattle.layers.proofs.FreeTail.{records_free}
use lib.ListN.{length-take}
use native.Mathlib.Omega.{arith}
use borrow.Author.Rules.{rules}
use Rattle.layers.proofs.free_places.records_to.Goals as goal

pub slice_bounds-used_places-end : goal.slice_bounds-used_places-end
slice_bounds-used_places-end c = simp length-take (omega arith)

pub used_places-requires : goal.used_places-requires
used_places-requires c = simp length-take (omega arith)

pub returns : goal.returns
returns c = search (records_free, rules)
