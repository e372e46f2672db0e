use Rattle.calls.proofs.TestLaws.{tests}
use Rattle.calls.proofs.WritingTests.{more_tests}
use Rattle.calls.proofs.CreationLaws.{room_for}
use Rattle.calls.specs.Creation.{creation_tests}
use borrow.Author.Rules.{rules}
use Rattle.calls.proofs.creation.creation_tests.Goals as goal

pub returns-then-is_live_name : goal.returns-then-is_live_name
unfolding creation_tests
returns-then-is_live_name c = search (tests, more_tests, rules) depth 20

pub returns-then-is_whiteout : goal.returns-then-is_whiteout
unfolding creation_tests
returns-then-is_whiteout c = search (tests, more_tests, rules) depth 20

pub returns-then-x-gt28 : goal.returns-then-x-gt28
unfolding creation_tests
returns-then-x-gt28 c = search (tests, more_tests, rules) depth 20

pub returns-then-no_place : goal.returns-then-no_place
unfolding creation_tests
returns-then-no_place c = search (tests, more_tests, rules) depth 20

pub returns-then-overfull : goal.returns-then-overfull
unfolding creation_tests
returns-then-overfull c = search (tests, more_tests, room_for, rules) depth 20

pub returns : goal.returns
unfolding creation_tests
returns c = search (tests, more_tests, room_for, rules) depth 20
