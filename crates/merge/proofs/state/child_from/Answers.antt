use Rattle.std.proofs.lemmas.Iterator.{YieldsList-from_slice}
use Rattle.std.proofs.lemmas.Iterator.Search.{position_from_yields_List}
use Rattle.std.proofs.Common.{◌≡◌, ◌∙◌, None, Some, position, sym, arith, rules, tests}
use Rattle.merge.proofs.StateLaws.{past_all, place_behind}
use Rattle.merge.specs.Nodes.{node_of}
use Rattle.merge.specs.State.{has_parent}
use Rattle.merge.proofs.state.child_from.Goals as goal

pub returns-in_err-get : goal.returns-in_err-get
returns-in_err-get c = c.from_residual.ensures ∙ past_all node_of (has_parent c.args.p) c.nodes.result.now _ c.nodes.ensures.1 c.args.k (omega (arith, c.in_err-get.ensures.lookup))

pub returns-in_err-i : goal.returns-in_err-i
returns-in_err-i c =
    let e : c.position.result ≡ position (λ b. has_parent c.args.p (node_of b)) c.in_ok-get.field-0.now =
    position_from_yields_List (λ b. has_parent c.args.p (node_of b)) _ _ _ c.position.ensures.ran (YieldsList-from_slice c.in_ok-get.field-0.now cc) (λ x b q k. search (rules, tests)) in
    c.from_residual-in_err-i.ensures ∙ place_behind node_of (has_parent c.args.p) c.nodes.result.now _ c.nodes.ensures.1 c.args.k _ None c.in_ok-get.ensures.lookup.0.2 (sym c.in_err-i.was ∙ e)

pub returns : goal.returns
returns c =
    let e : c.position.result ≡ position (λ b. has_parent c.args.p (node_of b)) c.in_ok-get.field-0.now =
    position_from_yields_List (λ b. has_parent c.args.p (node_of b)) _ _ _ c.position.ensures.ran (YieldsList-from_slice c.in_ok-get.field-0.now cc) (λ x b q k. search (rules, tests)) in
    place_behind node_of (has_parent c.args.p) c.nodes.result.now _ c.nodes.ensures.1 c.args.k _ (Some c.in_ok-i.i) c.in_ok-get.ensures.lookup.0.2 (sym c.in_ok-i.was ∙ e)
