use Prim.Native.Nat.{◌-◌, ◌%◌}
use native.Mathlib.Omega.{arith}
use native.Mathlib.Nat.{mod-lt}
use Rattle.calls.specs.Dirents.{padding}
use borrow.Author.Rules.{rules}
use Rattle.calls.proofs.dirent.zeros_behind.Goals as goal

pub returns : goal.returns
unfolding padding
returns c = (search rules, mod-lt (8 - c.args.n % 8) (omega arith))
