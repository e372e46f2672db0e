use Rattle.calls.proofs.Raised.{found, missing, raised}
use Rattle.calls.proofs.NodeLaws.{node_answers, node_outs, found_in}
use borrow.Author.Rules.{rules}
use Rattle.calls.proofs.node.node.Goals as goal

pub returns-then-not-state_fits : goal.returns-then-not-state_fits
returns-then-not-state_fits c = (search (node_answers, rules), search (node_outs, rules))

pub returns-in_err-k : goal.returns-in_err-k
returns-in_err-k c =
    let h = missing _ _ _ c.ok_or.ensures.value _ c.in_err-k.was in
    (rw (raised _ _ _ c.ok_or.ensures.value _ c.in_err-k.was _ c.from_residual.ensures.1) (search (node_answers, rules)), search (node_outs, rules))

pub returns-then-out-lt52 : goal.returns-then-out-lt52
returns-then-out-lt52 c =
    let h = found _ _ _ c.ok_or.ensures.value _ c.in_ok-k.was in
    (search (node_answers, rules), search (node_outs, rules))

pub lay_bytes-requires : goal.lay_bytes-requires
lay_bytes-requires c =
    let h = found _ _ _ c.ok_or.ensures.value _ c.in_ok-k.was in
    search (found_in, rules)

pub returns : goal.returns
returns c =
    let h = found _ _ _ c.ok_or.ensures.value _ c.in_ok-k.was in
    (search (node_answers, rules), search (node_outs, rules))
