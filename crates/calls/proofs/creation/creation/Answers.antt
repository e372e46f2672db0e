use Rattle.calls.proofs.Raised.{handed_on, lent}
use Rattle.calls.proofs.LoadingLaws.{refused_before, unchanged_before, upper_before, refused_by_load, unchanged_by_load, upper_by_load}
use Rattle.calls.proofs.CreationLaws.{creation_has_upper, creation_answered, creation_left, creation_wrote}
use borrow.Author.Rules.{rules}
use Rattle.calls.proofs.creation.creation.Goals as goal

pub returns-in_err-j : goal.returns-in_err-j
returns-in_err-j c =
    let h = c.in_err-j.was in
    (rw (handed_on _ _ _ c.from_residual.ensures.1 h) (search (refused_before, rules)), search (unchanged_before, rules), search (upper_before, rules))

pub returns-in_err-load_at : goal.returns-in_err-load_at
returns-in_err-load_at c =
    let g = c.in_ok-j.was in
    let h = c.in_err-load_at.was in
    (rw (handed_on _ _ _ c.from_residual-in_err-load_at.ensures.1 h) (search (refused_by_load, rules)), search (unchanged_by_load, rules), search (upper_by_load, rules))

pub unwrap-requires : goal.unwrap-requires
unwrap-requires c =
    let g = c.in_ok-j.was in
    c.as_mut_array.ensures.variant.1 (search (creation_has_upper, rules))

pub returns : goal.returns
returns c =
    let g = c.in_ok-j.was in
    let h = c.in_ok-load_at.was in
    let e = lent _ _ _ c.as_mut_array.ensures.cases c.unwrap.ensures in
    let d = rw e at c.create_in.ensures in
    (search (creation_answered, rules), search (creation_left, rules), search (creation_wrote, rules))
