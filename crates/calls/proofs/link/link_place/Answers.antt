use Rattle.calls.proofs.Raised.{found, missing, raised}
use Rattle.calls.proofs.TestLaws.{tests}
use Rattle.calls.proofs.NumberTests.{number_tests}
use Rattle.calls.proofs.LinkLaws.{link_found}
use Rattle.calls.specs.Link.{link_before}
use borrow.Author.Rules.{rules}
use Rattle.calls.proofs.link.link_place.Goals as goal

pub returns-then-not-lengths_fit : goal.returns-then-not-lengths_fit
unfolding link_before
returns-then-not-lengths_fit c = search (tests, number_tests, rules) depth 12

pub returns-then-malformed : goal.returns-then-malformed
unfolding link_before
returns-then-malformed c = search (tests, number_tests, rules) depth 12

pub returns-in_err-j : goal.returns-in_err-j
unfolding link_before
returns-in_err-j c =
    let h = missing _ _ _ c.ok_or.ensures.value _ c.in_err-j.was in
    rw (raised _ _ _ c.ok_or.ensures.value _ c.in_err-j.was _ c.from_residual.ensures.1) (search (tests, number_tests, rules) depth 12)

pub returns-in_err-k : goal.returns-in_err-k
unfolding link_before
returns-in_err-k c =
    let i = found _ _ _ c.ok_or.ensures.value _ c.in_ok-j.was in
    let h = missing _ _ _ c.ok_or-2.ensures.value _ c.in_err-k.was in
    rw (raised _ _ _ c.ok_or-2.ensures.value _ c.in_err-k.was _ c.from_residual-in_err-k.ensures.1) (search (tests, number_tests, rules) depth 12)

pub returns-then-ls-ne8192 : goal.returns-then-ls-ne8192
unfolding link_before
returns-then-ls-ne8192 c =
    let i = found _ _ _ c.ok_or.ensures.value _ c.in_ok-j.was in
    let h = found _ _ _ c.ok_or-2.ensures.value _ c.in_ok-k.was in
    search (tests, number_tests, rules) depth 12

pub returns : goal.returns
unfolding link_before
returns c =
    let i = found _ _ _ c.ok_or.ensures.value _ c.in_ok-j.was in
    let h = found _ _ _ c.ok_or-2.ensures.value _ c.in_ok-k.was in
    search (tests, number_tests, link_found, rules) depth 12
