use native.Mathlib.Omega.{arith}
use mathlib.Core.Path.{ap, ◌∙◌}
use lib.ListN.{length}
use borrow.Author.Rules.{rules}
use borrow.Author.Tests.{tests}
use Rattle.std.proofs.Common.{inl}
use Rattle.std.proofs.lemmas.Iterator.Consumers.{YieldsList-from_filter, YieldsList-at, count_from_yields_List}
use Rattle.calls.specs.Room.{places_left, missing, is_outside}
use Rattle.calls.proofs.RoomLaws.{length_missing, length_filtered, walk_yields}
use Rattle.calls.proofs.room.missing_beside.Goals as goal

pub count-requires-clause-fits : goal.count-requires-clause-fits
count-requires-clause-fits c =
    let n = ap places_left c.filter.ensures.source ∙ c.missing.ensures in
    inl (omega (arith, ap length n, length_missing c.args.s.now 17 c.args.i))

pub returns : goal.returns
unfolding is_outside
returns c =
    let n = ap places_left c.filter.ensures.source ∙ c.missing.ensures in
    let walk = YieldsList-at c.filter.ensures.source (walk_yields _ _ c.missing.ensures) in
    let test = is_outside (missing c.args.s.now c.args.k) in
    let e = count_from_yields_List _ _ c.count.ensures.ran (YieldsList-from_filter _ test walk c.filter.ensures.closure (λ x b q k. search (rules, tests))) in
    (e ∙ length_filtered _ _, omega (arith, c.count.ensures.bound, ap length n, length_missing c.args.s.now 17 c.args.i))
