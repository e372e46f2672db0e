use mathlib.Core.Path.{refl, ◌≡◌}
use Prim.Native.Nat.{◌+◌, ◌-◌, ◌/◌}
use native.Mathlib.Omega.{arith}
use lib.ListN.{length, take, get_or}
use lib.Seq.{take_all}
use Rattle.layers.specs.Order.{spot_from}
use Rattle.layers.proofs.SortLaws.{halved_start, halved_end, halved_before, halved_same, halved_after}
use borrow.Author.Rules.{rules}
use Rattle.layers.proofs.spots.spot_among.Goals as goal

pub loop-lo-init : goal.loop-lo-init
loop-lo-init g c =
    let p = c.args.p.now in
    let whole : take (length p) p ≡ p = take_all (length p) p (omega arith) in
    (omega arith, λ f x t s. rw whole at (halved_start f p x (length p) (rw whole s)))

pub loop-lo-preserved-in-Less : goal.loop-lo-preserved-in-Less
loop-lo-preserved-in-Less g c =
    let p = c.args.p.now in
    let mid = c.loop-lo.lo + (c.loop-lo.hi - c.loop-lo.lo) / 2 in
    (omega arith, λ f x t s. halved_before f p x (spot_from f 0 x p) c.loop-lo.lo c.loop-lo.hi mid (c.loop-lo.invariant.1 f x t s) c.loop-lo.invariant.0 c.loop-lo-test.true refl (f (get_or p mid 0)) refl c.order.result (t (get_or p mid 0) c.order.result (search rules) c.order.ensures) c.in-Less.is)

pub returns-in-Equal : goal.returns-in-Equal
returns-in-Equal g c =
    let p = c.args.p.now in
    let mid = c.loop-lo.lo + (c.loop-lo.hi - c.loop-lo.lo) / 2 in
    λ f x t s. halved_same f p x (spot_from f 0 x p) c.loop-lo.lo c.loop-lo.hi mid (c.loop-lo.invariant.1 f x t s) c.loop-lo.invariant.0 c.loop-lo-test.true refl (f (get_or p mid 0)) refl c.order.result (t (get_or p mid 0) c.order.result (search rules) c.order.ensures) c.in-Equal.is

pub loop-lo-preserved : goal.loop-lo-preserved
loop-lo-preserved g c =
    let p = c.args.p.now in
    let mid = c.loop-lo.lo + (c.loop-lo.hi - c.loop-lo.lo) / 2 in
    (c.loop-lo.invariant.0, λ f x t s. halved_after f p x (spot_from f 0 x p) c.loop-lo.lo c.loop-lo.hi mid (c.loop-lo.invariant.1 f x t s) c.loop-lo.invariant.0 c.loop-lo-test.true refl (f (get_or p mid 0)) refl c.order.result (t (get_or p mid 0) c.order.result (search rules) c.order.ensures) c.in-Greater.is)

pub returns : goal.returns
returns g c = λ f x t s. halved_end f c.args.p.now x (spot_from f 0 x c.args.p.now) c.loop-lo.lo c.loop-lo.hi (c.loop-lo.invariant.1 f x t s) (omega arith)
