use Rattle.calls.proofs.WholeLaws.{page_written}
use borrow.Author.Rules.{rules}
use Rattle.calls.proofs.page.write_page.Goals as goal

pub returns : goal.returns
returns c = search (page_written, rules)
