use Rattle.merge.proofs.ClassLaws.{unwalked, walked_told, unwalked_told}
use Rattle.merge.proofs.scan.walked.Goals as goal

pub returns-in_err-t : goal.returns-in_err-t
returns-in_err-t c = rw (c.from_residual.ensures, ← c.from.ensures) (unwalked _ _ c.in_err-t.ensures)

pub returns-then-is_walked : goal.returns-then-is_walked
returns-then-is_walked c = rw (← c.from.ensures) (walked_told _ _ _ c.in_ok-t.ensures.0 _ c.is_walked.ensures c.if-is_walked.true)

pub returns-else-is_walked : goal.returns-else-is_walked
returns-else-is_walked c = rw (← c.from.ensures) (unwalked_told _ _ _ c.in_ok-t.ensures.0 _ c.is_walked.ensures c.if-is_walked.false)
