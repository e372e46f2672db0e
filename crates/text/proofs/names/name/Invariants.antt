use Rattle.std.proofs.Common.{◌≡◌, ◌≤◌, ◌++◌, length}
use Rattle.text.specs.Names.{unescaped}
use Rattle.text.proofs.names.name.Given as goal

abbrev pub invariant-loop-byte : goal.invariant-loop-byte
invariant-loop-byte g l = (l.name.items ++ unescaped l.byte-iterator.rest.now ≡ unescaped l.fn.w) × (length l.name.items ≤ g.row.N)
