use Rattle.calls.proofs.Raised.{found, missing, raised}
use Rattle.calls.proofs.ParentLaws.{parents}
use borrow.Author.Rules.{rules}
use Rattle.calls.proofs.parent.parent_place.Goals as goal

pub returns-in_err-k : goal.returns-in_err-k
returns-in_err-k c =
    let h = missing _ _ _ c.ok_or.ensures.value _ c.in_err-k.was in
    rw (raised _ _ _ c.ok_or.ensures.value _ c.in_err-k.was _ c.from_residual.ensures.1) (search (parents, rules))

pub returns-then-is_white : goal.returns-then-is_white
returns-then-is_white c =
    let h = found _ _ _ c.ok_or.ensures.value _ c.in_ok-k.was in
    search (parents, rules)

pub returns-then-is_directory : goal.returns-then-is_directory
returns-then-is_directory c =
    let h = found _ _ _ c.ok_or.ensures.value _ c.in_ok-k.was in
    search (parents, rules)

pub returns : goal.returns
returns c =
    let h = found _ _ _ c.ok_or.ensures.value _ c.in_ok-k.was in
    search (parents, rules)
