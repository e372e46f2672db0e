use mathlib.Core.Path.{◌∙◌}
use Rattle.layers.proofs.Endian.{written}
use Rattle.layers.proofs.Numbers.{laid_bytes}
use borrow.Author.Rules.{rules}
use Rattle.layers.proofs.bytes.U64Number.put.Goals as goal

pub returns : goal.returns
returns c = (laid_bytes c.args.t.now c.lay.new.t c.args.a c.to_le_bytes.result _ c.lay.ensures (c.to_le_bytes.ensures ∙ written 8 c.args.self), search rules)
