use Rattle.layers.proofs.PlaceLaws.{moved}
use lib.ListN.{length}
use Prim.Native.Nat.{◌≤◌, ◌<◌}
use mathlib.Core.Path.{◌≡◌}
use Rattle.layers.proofs.spots.put_in.Given as goal

abbrev pub invariant-loop-k : goal.invariant-loop-k
invariant-loop-k l = (length l.initial.p ≡ 512) × (length l.p ≡ 512) × (l.n < 512) × (l.i ≤ l.k) × (l.p ≡ moved l.initial.p l.n l.k)
