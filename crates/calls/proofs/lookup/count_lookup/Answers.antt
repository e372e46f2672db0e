use Rattle.calls.proofs.Raised.{found, missing, raised}
use Rattle.calls.proofs.LookupLaws.{name_answers, name_states}
use borrow.Author.Rules.{rules}
use Rattle.calls.proofs.lookup.count_lookup.Goals as goal

pub returns-in_err-k : goal.returns-in_err-k
returns-in_err-k c =
    let h = missing _ _ _ c.ok_or.ensures.value _ c.in_err-k.was in
    (rw (raised _ _ _ c.ok_or.ensures.value _ c.in_err-k.was _ c.from_residual.ensures.1) (search (name_answers, rules)), search (name_states, rules))

pub returns-then-is_white : goal.returns-then-is_white
returns-then-is_white c =
    let h = found _ _ _ c.ok_or.ensures.value _ c.in_ok-k.was in
    (search (name_answers, rules), search (name_states, rules))

pub returns : goal.returns
returns c =
    let h = found _ _ _ c.ok_or.ensures.value _ c.in_ok-k.was in
    (search (name_answers, rules), search (name_states, rules))
