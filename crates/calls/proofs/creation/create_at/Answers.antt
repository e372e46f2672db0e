use Rattle.calls.proofs.Raised.{handed_on}
use Rattle.calls.proofs.WritingSteps.{refused_behind, kept_behind}
use Rattle.calls.proofs.CreationLaws.{created_value, created_table, created_state}
use borrow.Author.Rules.{rules}
use Rattle.calls.proofs.creation.create_at.Goals as goal

pub returns-in_err-creation_tests : goal.returns-in_err-creation_tests
returns-in_err-creation_tests c =
    let h = c.in_err-creation_tests.was in
    (rw (handed_on _ _ _ c.from_residual.ensures.1 h) (search (refused_behind, rules)), search (kept_behind, rules), search (kept_behind, rules))

pub returns : goal.returns
returns c =
    let h = c.in_ok-creation_tests.was in
    (search (created_value, rules), search (created_state, rules), search (created_table, rules))
