use mathlib.Core.List.{[]}
use Rattle.layers.proofs.RuleOrder.{ordered_start, ordered_free, ordered_next, ordered_end, taken_twice, length_put_spot}
use Prim.Native.Nat.{◌<◌}
use native.Mathlib.Omega.{arith}
use borrow.Author.Rules.{rules}
use Rattle.layers.proofs.distinct.names_are_distinct.Goals as goal

pub loop-j-init : goal.loop-j-init
loop-j-init c = (search rules, search rules, ordered_start _ [])

pub loop-j-preserved-then-parent_at-eq0 : goal.loop-j-preserved-then-parent_at-eq0
loop-j-preserved-then-parent_at-eq0 c = (search rules, search rules, search (ordered_free, rules))

pub loop-j-preserved : goal.loop-j-preserved
loop-j-preserved c = let below : c.loop-j.j < 128 = omega arith in
    (search rules, search (length_put_spot, rules), search (ordered_next, rules))

pub returns-then-not-put_place : goal.returns-then-not-put_place
returns-then-not-put_place c = search (taken_twice, rules)

pub returns : goal.returns
returns c = search (ordered_end, rules)
