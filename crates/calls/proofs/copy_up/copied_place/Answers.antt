use Rattle.calls.proofs.Raised.{found, missing, raised}
use Rattle.calls.proofs.TestLaws.{tests}
use Rattle.calls.proofs.NumberTests.{number_tests}
use Rattle.calls.specs.CopyUp.{copy_up_before}
use borrow.Author.Rules.{rules}
use Rattle.calls.proofs.copy_up.copied_place.Goals as goal

pub returns-then-not-lengths_fit : goal.returns-then-not-lengths_fit
unfolding copy_up_before
returns-then-not-lengths_fit c = search (tests, number_tests, rules)

pub returns-in_err-k : goal.returns-in_err-k
unfolding copy_up_before
returns-in_err-k c =
    let h = missing _ _ _ c.ok_or.ensures.value _ c.in_err-k.was in
    rw (raised _ _ _ c.ok_or.ensures.value _ c.in_err-k.was _ c.from_residual.ensures.1) (search (tests, number_tests, rules))

pub returns-then-ls-ne8192 : goal.returns-then-ls-ne8192
unfolding copy_up_before
returns-then-ls-ne8192 c =
    let h = found _ _ _ c.ok_or.ensures.value _ c.in_ok-k.was in
    search (tests, number_tests, rules)

pub returns-then-is_white : goal.returns-then-is_white
unfolding copy_up_before
returns-then-is_white c =
    let h = found _ _ _ c.ok_or.ensures.value _ c.in_ok-k.was in
    search (tests, number_tests, rules)

pub returns : goal.returns
unfolding copy_up_before
returns c =
    let h = found _ _ _ c.ok_or.ensures.value _ c.in_ok-k.was in
    search (tests, number_tests, rules)
