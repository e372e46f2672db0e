use Rattle.merge.proofs.BehindLaws.{to_add_sorted}
use Rattle.merge.proofs.LoadLaws.{to_add_topmost, loaded_before, loaded_same, load_done, load_added, load_refused, load_unchanged}
use borrow.Author.Rules.{rules}
use Rattle.merge.proofs.load.load_directory.Goals as goal

pub returns-then-is_loaded : goal.returns-then-is_loaded
returns-then-is_loaded c = (search (loaded_before, rules), search (loaded_same, rules))

pub add_names-requires : goal.add_names-requires
add_names-requires c = (search rules, to_add_sorted _ _ _ _ _ _ c.to_add-m.ensures, to_add_topmost _ _ _ _ _ _ _ c.to_add-m.ensures c.from.ensures)

pub returns-then-has_room : goal.returns-then-has_room
returns-then-has_room c = (search (load_done, rules), search (load_added, rules))

pub returns : goal.returns
returns c = (search (load_refused, rules), load_unchanged _ _ _ _ _ c.node_at-n.ensures _ c.is_loaded.ensures c.if-is_loaded.false _ _ c.to_add-m.ensures _ c.has_room.ensures c.if-has_room.false)
