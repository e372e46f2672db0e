use mathlib.Core.Path.{refl}
use Rattle.layers.proofs.ChangeLaws.{record_below, record_not_added, record_added_lem}
use borrow.Author.Rules.{rules}
use Rattle.layers.proofs.change.add_record.Goals as goal

pub returns-in_err-i : goal.returns-in_err-i
returns-in_err-i c = rw c.from_residual.ensures (record_not_added c.args.t.now c.args.r c.free_record.result c.free_record.ensures c.in_err-i.was)

pub overflow_cast-i : goal.overflow_cast-i
overflow_cast-i c = record { fits = search (record_below, rules) }

pub returns : goal.returns
returns c = record_added_lem c.args.t.now c.put_record.new.t c.args.r _ c.free_record.result c.in_ok-i.i c.free_record.ensures c.in_ok-i.was refl c.put_record.ensures
