use lib.ListN.{length, drop}
use Rattle.calls.specs.Listing.{child_dirents}
use Rattle.calls.specs.Pages.{fill}
use Rattle.merge.specs.Nodes.{nodes_of, count_of}
use Prim.Native.Nat.{◌+◌, ◌-◌, ◌≤◌}
use mathlib.Core.Path.{◌≡◌}
use Rattle.calls.proofs.page.put_children.Given as goal

abbrev pub invariant-loop-j : goal.invariant-loop-j
invariant-loop-j l = (l.i ≤ l.k + 2) × (l.k ≤ count_of l.s) × (length l.buf ≡ length l.initial.buf) × (fill l.w.offset l.w.limit l.i l.at l.buf (child_dirents l.ls.upper.now l.ls.lower.now l.x (drop l.k (nodes_of l.s))) ≡ fill l.w.offset l.w.limit 2 l.start l.initial.buf (child_dirents l.ls.upper.now l.ls.lower.now l.x (nodes_of l.s)))

abbrev pub decreases-loop-j : goal.decreases-loop-j
decreases-loop-j l = count_of l.s - l.k
