use Rattle.calls.proofs.Raised.{found, missing, raised}
use Rattle.calls.proofs.TestLaws.{tests}
use Rattle.calls.proofs.NumberTests.{number_tests}
use Rattle.calls.proofs.WritingTests.{more_tests}
use Rattle.calls.proofs.CreationLaws.{parent_found}
use Rattle.calls.specs.Creation.{creation_before}
use borrow.Author.Rules.{rules}
use Rattle.calls.proofs.creation.creation_place.Goals as goal

pub returns-then-not-lengths_fit : goal.returns-then-not-lengths_fit
unfolding creation_before
returns-then-not-lengths_fit c = search (tests, number_tests, more_tests, rules) depth 12

pub returns-then-malformed : goal.returns-then-malformed
unfolding creation_before
returns-then-malformed c = search (tests, number_tests, more_tests, rules) depth 12

pub returns-then-bad : goal.returns-then-bad
unfolding creation_before
returns-then-bad c = search (tests, number_tests, more_tests, rules) depth 12

pub returns-in_err-k : goal.returns-in_err-k
unfolding creation_before
returns-in_err-k c =
    let h = missing _ _ _ c.ok_or.ensures.value _ c.in_err-k.was in
    rw (raised _ _ _ c.ok_or.ensures.value _ c.in_err-k.was _ c.from_residual.ensures.1) (search (tests, number_tests, more_tests, rules) depth 12)

pub returns-then-ls-ne8192 : goal.returns-then-ls-ne8192
unfolding creation_before
returns-then-ls-ne8192 c =
    let h = found _ _ _ c.ok_or.ensures.value _ c.in_ok-k.was in
    search (tests, number_tests, more_tests, rules) depth 12

pub returns : goal.returns
unfolding creation_before
returns c =
    let h = found _ _ _ c.ok_or.ensures.value _ c.in_ok-k.was in
    search (tests, number_tests, more_tests, parent_found, rules) depth 12 fits 8000
