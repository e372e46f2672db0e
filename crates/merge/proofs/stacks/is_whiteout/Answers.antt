use mathlib.Core.Path.{refl, sym, ◌∙◌}
use borrow.Author.Tests.{eq-eqb, ne_eqb}
use Rattle.merge.specs.Classes.{is_whiteout}
use Rattle.merge.proofs.stacks.is_whiteout.Goals as goal

pub returns-then-r-from : goal.returns-then-r-from
unfolding is_whiteout
returns-then-r-from c = rw (eq-eqb c.args.r.kind 2 (c.if-r-from.true ∙ c.from.ensures)) refl

pub returns-else-r-from : goal.returns-else-r-from
unfolding is_whiteout
returns-else-r-from c = rw (ne_eqb c.args.r.kind c.from.result c.if-r-from.false, ne_eqb c.args.r.kind 2 (λ z. c.if-r-from.false (z ∙ sym c.from.ensures))) refl
