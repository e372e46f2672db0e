use Rattle.calls.proofs.LinkLaws.{links_number, links_table, links_state}
use borrow.Author.Rules.{rules}
use Rattle.calls.proofs.link.put_link.Goals as goal

pub returns : goal.returns
returns c = (search (links_number, rules), search (links_table, rules), search (links_state, rules))
