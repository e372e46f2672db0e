use Rattle.std.proofs.lemmas.Iterator.{YieldsList-from_slice}
use Rattle.std.proofs.lemmas.Iterator.Search.{position_from_yields_List}
use Rattle.std.proofs.Common.{rules, tests}
use Rattle.merge.proofs.StateLaws.{position_is}
use Rattle.merge.specs.Nodes.{node_of}
use Rattle.merge.specs.State.{is_number}
use Rattle.merge.proofs.state.find.Goals as goal

pub returns : goal.returns
returns c =
    position_is node_of (is_number c.args.x) c.nodes.result.now _ c.position.result c.nodes.ensures.1
    (position_from_yields_List (λ b. is_number c.args.x (node_of b)) _ _ _ c.position.ensures.ran (YieldsList-from_slice c.nodes.result.now cc) (λ x b q k. search (rules, tests)))
