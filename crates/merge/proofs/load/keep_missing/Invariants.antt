use Rattle.merge.proofs.LoadLaws.{Keeping}
use Rattle.merge.specs.Load.{place_has_none}
use Rattle.merge.specs.Nodes.{nodes_of}
use lib.ListN.{length}
use Prim.Native.Nat.{◌≤◌}
use mathlib.Core.Path.{◌≡◌}
use Rattle.merge.proofs.load.keep_missing.Given as goal

abbrev pub invariant-loop-i : goal.invariant-loop-i
invariant-loop-i l = Keeping (place_has_none l.ls.upper.now l.ls.lower.now (nodes_of l.s) l.x) l.initial.p l.n l.p l.m l.i
