use Rattle.calls.proofs.ParentLaws.{no_top, top_gone, top_decides}
use borrow.Author.Rules.{rules}
use Rattle.calls.proofs.parent.is_directory.Goals as goal

pub returns-then-n-eq0 : goal.returns-then-n-eq0
returns-then-n-eq0 c = search (no_top, rules)

pub returns-in_default : goal.returns-in_default
returns-in_default c = top_gone _ _ _ c.if-n-eq0.false _ c.from.ensures c.in_default.ensures

pub returns : goal.returns
returns c = top_decides _ _ _ c.if-n-eq0.false _ c.from.ensures _ _ c.in-Some.ensures.0 c.is_walked.ensures
