use Rattle.layers.proofs.ZeroLaws.{record_zeros, record_none, record_nought}
use borrow.Author.Rules.{rules}
use Rattle.layers.proofs.free_places.free_record_is_good.Goals as goal

pub returns-then-i-eq0 : goal.returns-then-i-eq0
returns-then-i-eq0 c = search (record_zeros, record_none, record_nought, rules)

pub returns-then-i-gt128 : goal.returns-then-i-gt128
returns-then-i-gt128 c = search (record_zeros, record_none, record_nought, rules)

pub returns : goal.returns
returns c = search (record_zeros, record_none, record_nought, rules)
