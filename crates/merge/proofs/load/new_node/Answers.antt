use mathlib.Core.Path.{refl, ◌∙◌}
use Rattle.merge.specs.Load.{new_node}
use Rattle.merge.proofs.LoadLaws.{byte_one}
use Rattle.merge.proofs.load.new_node.Goals as goal

pub returns : goal.returns
unfolding new_node
returns c = rw (c.from.ensures ∙ byte_one c.args.st.whiteout, c.at_most.ensures, c.at_most-2.ensures, c.padded-name.ensures) refl
