use Rattle.calls.proofs.Raised.{handed_on, lent}
use Rattle.calls.proofs.CopyUpLaws.{refused_answer, refused_state, refused_upper, upper_whole, full_answer, full_state, full_upper, copied_answer, copied_state, copied_upper}
use borrow.Author.Rules.{rules}
use Rattle.calls.proofs.copy_up.copy_up.Goals as goal

pub returns-in_err-k : goal.returns-in_err-k
returns-in_err-k c =
    let h = c.in_err-k.was in
    (rw (handed_on _ _ _ c.from_residual.ensures.1 h) (search (refused_answer, rules)), search (refused_state, rules), search (refused_upper, rules))

pub unwrap-upper-requires : goal.unwrap-upper-requires
unwrap-upper-requires c =
    let h = c.in_ok-k.was in
    c.as_mut_array.ensures.variant.1 (search (upper_whole, rules))

pub returns-then-overfull : goal.returns-then-overfull
returns-then-overfull c =
    let h = c.in_ok-k.was in
    let e = lent _ _ _ c.as_mut_array.ensures.cases c.unwrap-upper.ensures in
    let d = rw e at c.overfull.ensures in
    (search (full_answer, rules), search (full_state, rules), search (full_upper, rules))

pub returns : goal.returns
returns c =
    let h = c.in_ok-k.was in
    let e = lent _ _ _ c.as_mut_array.ensures.cases c.unwrap-upper.ensures in
    let d = rw e at c.overfull.ensures in
    let m = rw e at c.copy_node_up.ensures in
    (search (copied_answer, rules), search (copied_state, rules), search (copied_upper, rules))
