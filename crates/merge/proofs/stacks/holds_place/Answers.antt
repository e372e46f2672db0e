use mathlib.Core.Path.{sym, ◌∙◌}
use Rattle.merge.proofs.PlaceStacks.{other_layer, no_layer_lem, holds_is}
use Rattle.merge.proofs.stacks.holds_place.Goals as goal

pub returns-then-from-q : goal.returns-then-from-q
returns-then-from-q c = other_layer _ _ _ _ _ (λ z. c.if-from-q.true (c.from.ensures ∙ z))

pub returns-in_default : goal.returns-in_default
returns-in_default c = no_layer_lem _ _ _ _ _ (sym c.from.ensures ∙ c.if-from-q.false) _ c.from-2.ensures c.in_default.ensures

pub returns : goal.returns
returns c = holds_is _ _ _ _ _ (sym c.from.ensures ∙ c.if-from-q.false) _ c.from-2.ensures _ _ _ c.in-Some.ensures.0 c.in-Some.ensures.1 c.from-3.ensures c.in_directory.ensures
