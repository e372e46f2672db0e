use Rattle.calls.proofs.Raised.{handed_on}
use Rattle.calls.proofs.ListCallLaws.{list_walk}
use borrow.Author.Rules.{rules}
use Rattle.calls.proofs.listing.list_loaded.Goals as goal

pub returns-in_err-k : goal.returns-in_err-k
returns-in_err-k c =
    let h = c.in_err-k.was in
    rw (handed_on _ _ _ c.from_residual.ensures.1 h) (search (list_walk, rules))

pub returns-in_err-load_at : goal.returns-in_err-load_at
returns-in_err-load_at c =
    let g = c.in_ok-k.was in
    let h = c.in_err-load_at.was in
    rw (handed_on _ _ _ c.from_residual-in_err-load_at.ensures.1 h) (search (list_walk, rules))

pub returns : goal.returns
returns c =
    let g = c.in_ok-k.was in
    let h = c.in_ok-load_at.was in
    search (list_walk, rules)
