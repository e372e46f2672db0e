use Rattle.layers.proofs.PlaceLaws.{move_start, move_step, move_end, no_places, no_room, no_place_lem}
use lib.ListN.{length-set}
use borrow.Author.Rules.{rules}
use Rattle.layers.proofs.spots.put_in.Goals as goal

pub returns-then-p-ne512 : goal.returns-then-p-ne512
returns-then-p-ne512 c = search (no_places, no_room, no_place_lem, move_end, rules)

pub returns-then-n-ge512 : goal.returns-then-n-ge512
returns-then-n-ge512 c = search (no_places, no_room, no_place_lem, move_end, rules)

pub returns-then-n-i : goal.returns-then-n-i
returns-then-n-i c = search (no_places, no_room, no_place_lem, move_end, rules)

pub loop-k-init : goal.loop-k-init
loop-k-init c = search (move_start, rules)

pub loop-k-preserved : goal.loop-k-preserved
loop-k-preserved c = (search rules, simp length-set (search rules), search rules, search rules, search (move_step, rules))

pub shape_of-p : goal.shape_of-p
shape_of-p c = simp length-set (search rules)

pub returns : goal.returns
returns c = search (no_places, no_room, no_place_lem, move_end, rules)
