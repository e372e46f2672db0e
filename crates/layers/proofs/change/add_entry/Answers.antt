use Rattle.layers.proofs.ChangeLaws.{not_added, added}
use Rattle.layers.proofs.change.add_entry.Goals as goal

pub returns-in_err-k : goal.returns-in_err-k
returns-in_err-k c = rw c.from_residual.ensures (not_added c.args.t.now c.args.e c.free_entry.result c.free_entry.ensures c.in_err-k.was)

pub returns : goal.returns
returns c = added c.args.t.now c.put_entry.new.t c.args.e c.free_entry.result c.in_ok-k.k c.free_entry.ensures c.in_ok-k.was c.put_entry.ensures
