use Rattle.layers.specs.Search.{count_if, is_free, used_entries}
use Rattle.layers.specs.Items.{entries_of}
use lib.ListN.{drop}
use mathlib.Core.Bool.{not}
use Prim.Native.Nat.{◌+◌, ◌≤◌}
use mathlib.Core.Path.{◌≡◌}
use Rattle.layers.proofs.search.used_entries.Given as goal

abbrev pub invariant-loop-j : goal.invariant-loop-j
invariant-loop-j l = (l.n ≤ l.j) × (l.n + count_if (λ e. not (is_free e)) (drop l.j (entries_of l.t)) ≡ used_entries (entries_of l.t))
