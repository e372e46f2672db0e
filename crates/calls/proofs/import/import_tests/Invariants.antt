use mathlib.Core.Bool.{false}
use mathlib.Core.Path.{◌≡◌}
use Prim.Native.Nat.{ℕ, ◌<◌}
use Rattle.merge.specs.Tables.{table_of}
use Rattle.calls.specs.Import.{broken_layer}
use Rattle.calls.proofs.import.import_tests.Given as goal

abbrev pub invariant-loop-k : goal.invariant-loop-k
invariant-loop-k l = (i : ℕ) → i < l.k → broken_layer (table_of l.ls.upper.now l.ls.lower.now i) ≡ false
