use Rattle.merge.specs.Nodes.{key_of, nodes_of}
use mathlib.Core.List.{◌∷◌}
use Rattle.layers.specs.Order.{spot_from}
use lib.ListN.{drop}
use mathlib.Core.Path.{◌≡◌}
use Rattle.merge.proofs.state.place_from.Given as goal

abbrev pub invariant-loop-j : goal.invariant-loop-j
invariant-loop-j l = spot_from key_of l.j (l.q ∷ l.x) (drop l.j (nodes_of l.s)) ≡ spot_from key_of 0 (l.p ∷ l.x) (nodes_of l.s)
