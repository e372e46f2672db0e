use Rattle.layers.specs.Search.{count_if, no_record, used_records}
use Rattle.layers.specs.Items.{records_of, free_record}
use lib.ListN.{drop}
use mathlib.Core.Bool.{not}
use mathlib.Core.List.{◌∷◌}
use Prim.Native.Nat.{◌+◌, ◌<◌}
use mathlib.Core.Path.{◌≡◌}
use Rattle.layers.proofs.search.used_records.Given as goal

abbrev pub invariant-loop-i : goal.invariant-loop-i
invariant-loop-i l = (l.n < l.i) × (l.n + count_if (λ r. not (no_record r)) (drop l.i (free_record ∷ records_of l.t)) ≡ used_records (records_of l.t))
