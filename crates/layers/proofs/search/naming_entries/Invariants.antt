use Rattle.layers.specs.Search.{count_if, names_record, naming}
use Rattle.layers.specs.Items.{entries_of}
use lib.ListN.{drop}
use Prim.Native.Nat.{◌+◌, ◌≤◌}
use mathlib.Core.Path.{◌≡◌}
use Rattle.layers.proofs.search.naming_entries.Given as goal

abbrev pub invariant-loop-j : goal.invariant-loop-j
invariant-loop-j l = (l.n ≤ l.j) × (l.n + count_if (names_record l.r) (drop l.j (entries_of l.t)) ≡ naming l.r (entries_of l.t))
