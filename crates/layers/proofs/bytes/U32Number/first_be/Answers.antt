use Rattle.std.specs.Int.{w32, from_be_bytes}
use mathlib.Core.Path.{ap, ◌∙◌}
use Rattle.layers.proofs.Endian.{be_4, read_again}
use Rattle.layers.proofs.WordLaws.{lent_bytes}
use borrow.Author.Rules.{rules}
use Rattle.layers.proofs.bytes.U32Number.first_be.Goals as goal

pub returns : goal.returns
returns c = be_4 c.args.b.now c.swap_bytes.result c.requires (c.swap_bytes.ensures ∙ ap (from_be_bytes w32) (read_again 4 c.first.result c.args.b.now (search (lent_bytes, rules)) c.requires c.first.ensures))
