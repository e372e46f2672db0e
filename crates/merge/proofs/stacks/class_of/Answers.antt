use mathlib.Core.Path.{refl}
use borrow.Author.Tests.{eq-eqb, ne_eqb}
use Rattle.merge.specs.Classes.{class_of}
use Rattle.merge.proofs.stacks.class_of.Goals as goal

pub returns-then-is_whiteout : goal.returns-then-is_whiteout
unfolding class_of
returns-then-is_whiteout c = rw (← c.if-is_whiteout.ensures) refl

pub returns-then-not-is_directory : goal.returns-then-not-is_directory
unfolding class_of
returns-then-not-is_directory c = rw (← c.if-is_whiteout.ensures, ← c.if-not-is_directory.ensures) refl

pub returns-then-r-eq1 : goal.returns-then-r-eq1
unfolding class_of
returns-then-r-eq1 c = rw (← c.if-is_whiteout.ensures, ← c.if-not-is_directory.ensures, eq-eqb c.args.r.opaque 1 c.if-r-eq1.true) refl

pub returns : goal.returns
unfolding class_of
returns c = rw (← c.if-is_whiteout.ensures, ← c.if-not-is_directory.ensures, ne_eqb c.args.r.opaque 1 c.if-r-eq1.false) refl
