use Rattle.calls.proofs.Raised.{handed_on}
use Rattle.calls.proofs.WritingSteps.{refused_behind, kept_behind}
use Rattle.calls.proofs.LinkLaws.{linked_value, linked_table, linked_state}
use borrow.Author.Rules.{rules}
use Rattle.calls.proofs.link.link_at.Goals as goal

pub returns-in_err-link_tests : goal.returns-in_err-link_tests
returns-in_err-link_tests c =
    let h = c.in_err-link_tests.was in
    (rw (handed_on _ _ _ c.from_residual.ensures.1 h) (search (refused_behind, rules)), search (kept_behind, rules), search (kept_behind, rules))

pub returns : goal.returns
returns c =
    let h = c.in_ok-link_tests.was in
    (search (linked_value, rules), search (linked_state, rules), search (linked_table, rules))
