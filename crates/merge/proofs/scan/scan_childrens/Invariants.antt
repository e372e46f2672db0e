use Rattle.merge.proofs.ScanLaws.{Scanned, InLayer}
use lib.ListN.{length}
use Prim.Native.Nat.{◌+◌, ◌*◌, ◌≤◌, ◌<◌, ◌-◌}
use mathlib.Core.Path.{◌≡◌}
use Rattle.merge.proofs.scan.scan_childrens.Given as goal

abbrev pub invariant-loop-j : goal.invariant-loop-j
invariant-loop-j l = (length l.s ≡ 4) × (l.n ≤ 128 * l.i + l.j) × InLayer l.ls.upper.now l.ls.lower.now l.s l.len l.initial.p l.a.layer l.a.number l.t l.p l.n l.i l.j × (l.initial.n ≤ l.n)

abbrev pub invariant-loop-i : goal.invariant-loop-i
invariant-loop-i l = (length l.s ≡ 4) × (l.n ≤ 128 * l.i) × Scanned l.ls.upper.now l.ls.lower.now l.s l.len l.initial.p l.p l.n l.i
