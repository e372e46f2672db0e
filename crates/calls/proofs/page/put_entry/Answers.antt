use Rattle.calls.proofs.ChildLaws.{entry_answer_lem, entry_over_lem}
use Rattle.calls.proofs.PageLaws.{passed_answer, passed_over}
use borrow.Author.Rules.{rules}
use Rattle.calls.proofs.page.put_entry.Goals as goal

pub returns-then-index-w : goal.returns-then-index-w
returns-then-index-w c = (search (passed_answer, rules), search (passed_over, rules))

pub returns : goal.returns
returns c = (search (entry_answer_lem, rules), search (entry_over_lem, rules))
