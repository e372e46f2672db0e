use native.Mathlib.Omega.{arith}
use Rattle.merge.proofs.StateLaws.{bytes_here, bytes_past, lent_many}
use Rattle.merge.proofs.state.bytes_at.Goals as goal

pub returns-in_default : goal.returns-in_default
returns-in_default c = bytes_past c.args.s.now c.args.j (omega (arith, lent_many _ _ c.nodes.ensures.0, c.in_default.ensures.lookup.3))

pub returns : goal.returns
returns c = bytes_here c.args.s.now c.args.j (omega (arith, lent_many _ _ c.nodes.ensures.0, c.in-Some.ensures.lookup.3.0)) c.nodes.result.now _ c.nodes.ensures.0 (c.in-Some.ensures.lookup.3.1 _)
