use Rattle.layers.proofs.RuleWalks.{not_padded, padded_name, length_front}
use borrow.Author.Rules.{rules}
use Rattle.layers.proofs.entry_rules.name_is_good.Goals as goal

pub returns-then-not-all_zero : goal.returns-then-not-all_zero
returns-then-not-all_zero c = search (not_padded, rules)

pub slice_bounds-malformed-end : goal.slice_bounds-malformed-end
slice_bounds-malformed-end c = search (length_front, rules)

pub returns : goal.returns
returns c = search (padded_name, rules)
