use Rattle.merge.proofs.PlaceStacks.{Passing}
use lib.ListN.{length}
use mathlib.Core.Path.{◌≡◌}
use Rattle.merge.proofs.stacks.new_from_place.Given as goal

abbrev pub invariant-loop-i : goal.invariant-loop-i
invariant-loop-i l = (length l.s ≡ 4) × Passing l.ls.upper.now l.ls.lower.now l.s l.len l.x l.q l.i
