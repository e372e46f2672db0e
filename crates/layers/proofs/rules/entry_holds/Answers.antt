use Rattle.layers.proofs.ZeroLaws.{told, free_entry_holds}
use Rattle.layers.proofs.RuleWalks.{turned, entry_test_of, ends_test_of}
use Rattle.layers.specs.RulesTally.{entry_holds}
use borrow.Author.Rules.{rules}
use Rattle.layers.proofs.rules.entry_holds.Goals as goal

pub free_entry_is_good-requires : goal.free_entry_is_good-requires
free_entry_is_good-requires c = search (told, rules)

pub returns-then-parent_at-eq0 : goal.returns-then-parent_at-eq0
returns-then-parent_at-eq0 c = search (free_entry_holds, rules)

pub returns-then-not-entry_is_good : goal.returns-then-not-entry_is_good
unfolding entry_holds
returns-then-not-entry_is_good c = search (turned, entry_test_of, ends_test_of, rules) depth 12

pub returns : goal.returns
unfolding entry_holds
returns c = search (turned, entry_test_of, ends_test_of, rules) depth 12
