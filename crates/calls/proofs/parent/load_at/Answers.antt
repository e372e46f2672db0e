use Rattle.calls.proofs.ParentLaws.{load_fine, load_refused}
use borrow.Author.Rules.{rules}
use Rattle.calls.proofs.parent.load_at.Goals as goal

pub returns-in_err-load_directory : goal.returns-in_err-load_directory
returns-in_err-load_directory c = (load_refused _ _ _ _ _ c.load_directory.ensures.0 _ c.in_err-load_directory.was _ c.from_residual.ensures.1, search rules)

pub returns : goal.returns
returns c = (load_fine _ _ _ _ _ c.load_directory.ensures.0 _ c.in_ok-load_directory.was, search rules)
