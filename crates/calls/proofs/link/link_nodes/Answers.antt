use Rattle.calls.proofs.TestLaws.{tests}
use Rattle.calls.proofs.WritingTests.{more_tests}
use Rattle.calls.proofs.LinkLaws.{white_of, directory_of}
use Rattle.calls.specs.Link.{link_nodes}
use borrow.Author.Rules.{rules}
use Rattle.calls.proofs.link.link_nodes.Goals as goal

pub returns-then-is_white : goal.returns-then-is_white
unfolding link_nodes
returns-then-is_white c = search (tests, more_tests, white_of, rules) depth 12

pub returns-then-is_white-2 : goal.returns-then-is_white-2
unfolding link_nodes
returns-then-is_white-2 c = search (tests, more_tests, white_of, rules) depth 12

pub returns-then-is_directory : goal.returns-then-is_directory
unfolding link_nodes
returns-then-is_directory c = search (tests, more_tests, white_of, directory_of, rules) depth 12

pub returns-then-is_directory-2 : goal.returns-then-is_directory-2
unfolding link_nodes
returns-then-is_directory-2 c = search (tests, more_tests, white_of, directory_of, rules) depth 12

pub returns : goal.returns
unfolding link_nodes
returns c = search (tests, more_tests, white_of, directory_of, rules) depth 12
