use Rattle.calls.proofs.Raised.{handed_on, lent}
use Rattle.calls.proofs.LoadingLaws.{refused_before, unchanged_before, upper_before, refused_by_load, unchanged_by_load, upper_by_load}
use Rattle.calls.proofs.LinkLaws.{still_there, still_known, still_unknown, link_has_upper, link_answered, link_left, link_wrote}
use borrow.Author.Rules.{rules}
use Rattle.calls.proofs.link.link_found.Goals.{then-is_loaded, else-is_loaded}
use Rattle.calls.proofs.link.link_found.Goals as goal

pub returns-in_err-i : goal.returns-in_err-i
returns-in_err-i c =
    let h = c.in_err-i.was in
    (rw (handed_on _ _ _ c.from_residual.ensures.1 h) (search (refused_before, rules)), search (unchanged_before, rules), search (upper_before, rules))

pub returns-in_err-load_at : goal.returns-in_err-load_at
returns-in_err-load_at c =
    let g = c.in_ok-i.was in
    let h = c.in_err-load_at.was in
    (rw (handed_on _ _ _ c.from_residual-in_err-load_at.ensures.1 h) (search (refused_by_load, rules)), search (unchanged_by_load, rules), search (upper_by_load, rules))

pub unwrap-requires : goal.unwrap-requires
unwrap-requires c =
    let g = c.in_ok-i.was in
    c.as_mut_array.ensures.variant.1 (search (link_has_upper, rules))

pub link_in-requires : goal.link_in-requires
link_in-requires c =
    elim c.if-is_loaded.branch [
      | then-is_loaded w ↦ still_known _ _ _ _ _ (still_there _ _ _ _ _ _ _ _ c.requires c.is_loaded.ensures c.load_at.ensures.1) w.if-is_loaded.true w.still-is
      | else-is_loaded w ↦ still_unknown _ _ _ w.still-is
    ]

pub returns : goal.returns
returns c =
    let g = c.in_ok-i.was in
    let h = c.in_ok-load_at.was in
    let e = lent _ _ _ c.as_mut_array.ensures.cases c.unwrap.ensures in
    let d = rw e at c.link_in.ensures in
    (search (link_answered, rules), search (link_left, rules), search (link_wrote, rules))
