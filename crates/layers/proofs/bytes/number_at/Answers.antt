use mathlib.Core.Path.{◌∙◌}
use native.Mathlib.Omega.{arith}
use Rattle.layers.proofs.Numbers.{number_short, number_past}
use Rattle.layers.proofs.bytes.number_at.Goals as goal

pub returns-then-t-size : goal.returns-then-t-size
returns-then-t-size g c = c.zero.ensures ∙ number_short g.T.Number.width c.args.t.now c.args.a (omega arith)

pub returns-then-t-size-2 : goal.returns-then-t-size-2
returns-then-t-size-2 g c = c.zero-then-t-size-2.ensures ∙ number_past g.T.Number.width c.args.t.now c.args.a (omega arith) (omega arith)
