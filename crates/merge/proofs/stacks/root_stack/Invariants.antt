use Rattle.merge.proofs.FreshLaws.{RootsLeft}
use Prim.Native.Nat.{◌≤◌}
use Rattle.merge.proofs.stacks.root_stack.Given as goal

abbrev pub invariant-loop-k : goal.invariant-loop-k
invariant-loop-k l = (l.out.length ≤ l.k) × RootsLeft l.ls.upper.now l.ls.lower.now l.out l.k
