use Rattle.std.proofs.Common.{◌≤◌, length}
use Rattle.text.proofs.words.word.Given as goal

abbrev pub invariant-loop : goal.invariant-loop
invariant-loop l = l.a ≤ length l.s
