use Rattle.merge.proofs.BehindLaws.{Adding}
use Rattle.merge.specs.Load.{add_names}
use Rattle.merge.specs.Tables.{place_name}
use lib.ListN.{length, take, drop}
use mathlib.Core.List.{map}
use Prim.Native.Nat.{◌≤◌}
use mathlib.Core.Path.{◌≡◌}
use Rattle.merge.proofs.load.add_names.Given as goal

abbrev pub invariant-loop-i : goal.invariant-loop-i
invariant-loop-i l = (length l.s ≡ length l.initial.s) × Adding l.ls.upper.now l.ls.lower.now l.p l.q l.m l.s l.k l.i × (add_names l.ls.upper.now l.ls.lower.now l.p (take l.d l.a) (map (place_name l.ls.upper.now l.ls.lower.now) (drop l.i (take l.m l.q))) l.s ≡ add_names l.ls.upper.now l.ls.lower.now l.p (take l.d l.a) (map (place_name l.ls.upper.now l.ls.lower.now) (take l.m l.q)) l.initial.s)
