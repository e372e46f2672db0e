use Rattle.calls.proofs.RoomLaws.{whiteout_none, whiteout_lower, whiteout_upper}
use Rattle.calls.proofs.room.whiteout_entry.Goals as goal

pub returns-in_err-j : goal.returns-in_err-j
returns-in_err-j c = rw c.from_residual.ensures (whiteout_none _ _ _ _ _ c.in_err-j.was)

pub returns-then-in_upper : goal.returns-then-in_upper
returns-then-in_upper c = whiteout_upper _ _ _ _ _ _ c.in_ok-j.was _ c.node_at.ensures _ c.in_upper.ensures c.if-in_upper.true _ _ _ c.node_at-then-in_upper.ensures c.top_of-d.ensures c.search.ensures

pub returns : goal.returns
returns c = whiteout_lower _ _ _ _ _ _ c.in_ok-j.was _ c.node_at.ensures _ c.in_upper.ensures c.if-in_upper.false
