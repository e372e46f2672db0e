use Rattle.layers.proofs.ItemLaws.{unput_record, past_record, record_laid}
use borrow.Author.Rules.{rules}
use Rattle.layers.proofs.items.put_record.Goals as goal

pub returns-then-i-eq0 : goal.returns-then-i-eq0
returns-then-i-eq0 c = search (unput_record, past_record, record_laid, rules)

pub returns-then-i-gt128 : goal.returns-then-i-gt128
returns-then-i-gt128 c = search (unput_record, past_record, record_laid, rules)

pub returns : goal.returns
returns c = search (unput_record, past_record, record_laid, rules)
