use mathlib.Core.Path.{sym, ◌∙◌}
use Rattle.calls.proofs.ImportLaws.{import_refused, import_wiped, import_answered, import_loaded, root_wiped}
use borrow.Author.Rules.{rules}
use Rattle.calls.proofs.import.import.Goals as goal

pub returns-in-Err : goal.returns-in-Err
returns-in-Err c = (sym c.in-Err.is ∙ import_refused _ _ _ _ c.import_tests.ensures _ c.in-Err.is, import_wiped _ _ _ _ c.import_tests.ensures _ _ c.in-Err.is c.wipe.ensures)

pub returns-in-Ok-load_at : goal.returns-in-Ok-load_at
returns-in-Ok-load_at c = (
  sym c.in-Ok-load_at.is ∙ import_answered _ _ _ _ c.import_tests.ensures _ c.in-Ok.is _ c.put_root.ensures _ c.load_at.ensures.0,
  import_loaded _ _ _ _ c.import_tests.ensures _ c.in-Ok.is _ c.put_root.ensures _ c.load_at.ensures.0 _ _ c.in-Ok-load_at.is c.load_at.ensures.1,
)

pub returns-in-Err-load_at : goal.returns-in-Err-load_at
returns-in-Err-load_at c = (
  sym c.in-Err-load_at.is ∙ import_answered _ _ _ _ c.import_tests.ensures _ c.in-Ok.is _ c.put_root.ensures _ c.load_at.ensures.0,
  root_wiped _ _ _ _ c.import_tests.ensures _ c.in-Ok.is _ c.put_root.ensures _ c.load_at.ensures.0 _ _ _ c.in-Err-load_at.is (search rules) (search rules) c.wipe-in-Err-load_at.ensures,
)
