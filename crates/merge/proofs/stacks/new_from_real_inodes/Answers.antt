use Rattle.merge.proofs.PlaceStacks.{above_none}
use borrow.Author.Rules.{rules}
use Rattle.merge.proofs.stacks.new_from_real_inodes.Goals as goal

pub stack_from-requires : goal.stack_from-requires
stack_from-requires c = (search rules, search (above_none, rules), tt)
