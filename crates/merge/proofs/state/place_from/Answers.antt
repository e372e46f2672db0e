use Rattle.merge.proofs.PassedLaws.{passed_start}
use lib.ListN.{length}
use Prim.Native.Nat.{◌≤◌}
use native.Mathlib.Omega.{arith}
use Rattle.merge.proofs.StateLaws.{length_nodes, lent_many, spot_walk, spot_end}
use borrow.Author.Rules.{rules}
use Rattle.merge.proofs.state.place_from.Goals as goal

pub loop-j-init : goal.loop-j-init
loop-j-init c = search (passed_start, rules)

pub returns-in-Less : goal.returns-in-Less
returns-in-Less c = search (spot_walk, rules)

pub returns-in-Equal : goal.returns-in-Equal
returns-in-Equal c = search (spot_walk, rules)

pub loop-j-preserved : goal.loop-j-preserved
loop-j-preserved c = search (spot_walk, rules)

pub returns : goal.returns
returns c =
    let l : c.loop-j.j ≤ length c.nodes-ns.result.now =
    c.loop-j.auto.j-end (omega (arith, lent_many _ _ c.nodes-ns.ensures.0, length_nodes c.args.s.now, c.requires.within)) in
    search (spot_end, rules)
