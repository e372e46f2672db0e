use Rattle.merge.proofs.StackLaws.{Left}
use Rattle.layers.specs.Items.{entries_of}
use Rattle.merge.specs.Nodes.{no_pair}
use Rattle.merge.specs.Tables.{table_of}
use Rattle.layers.specs.Search.{search_of}
use Rattle.std.specs.Prelude.{IfSome, Some}
use lib.ListN.{length, get_or}
use Prim.Native.Nat.{◌≤◌}
use mathlib.Core.Path.{◌≡◌}
use Rattle.merge.proofs.stacks.stack_from.Given as goal

abbrev pub invariant-loop-i : goal.invariant-loop-i
invariant-loop-i l = (length l.s ≡ 4) × (l.out.length ≤ l.i) × (l.out.length ≤ 4) × Left l.ls.upper.now l.ls.lower.now l.s no_pair l.len l.x l.out l.i × IfSome l.here (λ j. search_of (entries_of (table_of l.ls.upper.now l.ls.lower.now (get_or l.s l.i no_pair).layer)) (get_or l.s l.i no_pair).number l.x ≡ Some j)
