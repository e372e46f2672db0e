use Rattle.layers.proofs.ZeroLaws.{told, free_record_holds}
use Rattle.layers.proofs.RuleWalks.{turned, record_test_of, naming_test_of}
use Rattle.layers.specs.RulesTally.{record_holds}
use borrow.Author.Rules.{rules}
use Rattle.layers.proofs.tally.Tally.record_holds.Goals as goal

pub free_record_is_good-requires : goal.free_record_is_good-requires
free_record_is_good-requires c = search (told, rules)

pub returns-then-number_at-eq0 : goal.returns-then-number_at-eq0
returns-then-number_at-eq0 c = search (free_record_holds, rules)

pub returns-then-not-record_is_good : goal.returns-then-not-record_is_good
unfolding record_holds
returns-then-not-record_is_good c = search (turned, record_test_of, naming_test_of, rules) depth 14

pub returns-then-not-naming_is_good : goal.returns-then-not-naming_is_good
unfolding record_holds
returns-then-not-naming_is_good c = search (turned, record_test_of, naming_test_of, rules) depth 14

pub returns : goal.returns
unfolding record_holds
returns c = search (turned, record_test_of, naming_test_of, rules) depth 14
