use Rattle.std.proofs.lemmas.Iterator.{YieldsList-from_slice}
use Rattle.std.proofs.lemmas.Iterator.Search.{position_from_yields_List}
use Rattle.std.proofs.Common.{rules, tests}
use Rattle.merge.proofs.StateLaws.{position_is}
use Rattle.merge.specs.Nodes.{node_of}
use Rattle.merge.specs.State.{is_child}
use Rattle.merge.proofs.state.child.Goals as goal

pub returns-then-x-lt8 : goal.returns-then-x-lt8
returns-then-x-lt8 c =
    position_is node_of (is_child c.args.p c.args.x.now) c.nodes.result.now _ c.position.result c.nodes.ensures.1
    (position_from_yields_List (λ b. is_child c.args.p c.args.x.now (node_of b)) _ _ _ c.position.ensures.ran (YieldsList-from_slice c.nodes.result.now cc) (λ x b q k. search (rules, tests)))

pub returns : goal.returns
returns c =
    position_is node_of (is_child c.args.p c.args.x.now) c.nodes-2.result.now _ c.position-2.result c.nodes-2.ensures.1
    (position_from_yields_List (λ b. is_child c.args.p c.args.x.now (node_of b)) _ _ _ c.position-2.ensures.ran (YieldsList-from_slice c.nodes-2.result.now cc) (λ x b q k. search (rules, tests)))
