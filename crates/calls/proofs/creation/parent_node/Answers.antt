use Rattle.calls.proofs.TestLaws.{tests}
use Rattle.calls.proofs.WritingTests.{more_tests}
use Rattle.calls.specs.Creation.{parent_node}
use borrow.Author.Rules.{rules}
use Rattle.calls.proofs.creation.parent_node.Goals as goal

pub returns-then-is_white : goal.returns-then-is_white
unfolding parent_node
returns-then-is_white c = search (tests, more_tests, rules)

pub returns-then-is_directory : goal.returns-then-is_directory
unfolding parent_node
returns-then-is_directory c = search (tests, more_tests, rules)

pub returns : goal.returns
unfolding parent_node
returns c = search (tests, more_tests, rules)
