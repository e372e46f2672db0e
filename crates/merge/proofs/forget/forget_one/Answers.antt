use Rattle.merge.proofs.ForgetLaws.{forgets}
use borrow.Author.Rules.{rules}
use Rattle.merge.proofs.forget.forget_one.Goals as goal
use Rattle.merge.proofs.forget.forget_one.Goals.{else-n-eq0-via-then-n-eq0+else-not-has_children, else-n-eq0-via-else-n-eq0}

pub returns-then-not-has_children : goal.returns-then-not-has_children
returns-then-not-has_children c = search (forgets, rules)

pub returns : goal.returns
returns c =
    elim c.else-n-eq0.branch [
      | else-n-eq0-via-then-n-eq0+else-not-has_children w ↦ search (forgets, rules)
      | else-n-eq0-via-else-n-eq0 w ↦ search (forgets, rules)
    ]
