use Rattle.calls.proofs.Raised.{handed_on}
use Rattle.calls.proofs.CountLaws.{counts_answered, counts_left}
use Rattle.calls.proofs.LoadingLaws.{refused_before, unchanged_before, refused_by_load, unchanged_by_load}
use borrow.Author.Rules.{rules}
use Rattle.calls.proofs.count.count_entries_and_whiteout.Goals as goal

pub returns-in_err-k : goal.returns-in_err-k
returns-in_err-k c =
    let h = c.in_err-k.was in
    (rw (handed_on _ _ _ c.from_residual.ensures.1 h) (search (refused_before, rules)), search (unchanged_before, rules))

pub returns-in_err-load_at : goal.returns-in_err-load_at
returns-in_err-load_at c =
    let g = c.in_ok-k.was in
    let h = c.in_err-load_at.was in
    (rw (handed_on _ _ _ c.from_residual-in_err-load_at.ensures.1 h) (search (refused_by_load, rules)), search (unchanged_by_load, rules))

pub returns : goal.returns
returns c =
    let g = c.in_ok-k.was in
    let h = c.in_ok-load_at.was in
    (search (counts_answered, rules), search (counts_left, rules))
