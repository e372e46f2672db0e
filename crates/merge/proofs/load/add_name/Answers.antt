use Rattle.merge.proofs.BehindLaws.{node_passed, added_passes}
use Rattle.merge.proofs.LoadLaws.{added_name}
use borrow.Author.Rules.{rules}
use Rattle.merge.proofs.load.add_name.Goals as goal

pub put_new_from-requires : goal.put_new_from-requires
put_new_from-requires c = search (node_passed, rules)

pub returns : goal.returns
returns c = (search (added_name, rules), search (added_passes, rules))
