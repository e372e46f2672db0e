use Rattle.merge.proofs.BehindLaws.{adding_start, adding_this, adding_next, place_short}
use Rattle.merge.proofs.LoadLaws.{top_this, add_next, add_end}
use lib.ListN.{take}
use borrow.Author.Rules.{rules}
use Rattle.merge.proofs.load.add_names.Goals as goal

pub loop-i-init : goal.loop-i-init
loop-i-init c = (search rules, search (adding_start, rules), search rules)

pub add_name-k-requires : goal.add_name-k-requires
add_name-k-requires c = (search (place_short, rules), search (adding_this, rules), search rules, search (top_this, rules))

pub loop-i-preserved : goal.loop-i-preserved
loop-i-preserved c = (search rules, adding_next c.args.ls.upper.now c.args.ls.lower.now c.args.p c.args.q.now c.args.m c.loop-i.i c.place_name.result.now c.loop-i-test.true c.place_name.ensures c.add_name-k.new.s c.add_name-k.result c.told-q c.requires.0 c.requires.1 c.add_name-k.ensures.1, add_next c.args.ls.upper.now c.args.ls.lower.now c.args.p (take c.args.d c.args.a) c.args.q.now c.args.m c.loop-i.i c.loop-i.s c.add_name-k.new.s _ c.place_name.result.now c.told-q c.requires.0 c.loop-i-test.true c.place_name.ensures c.add_name-k.ensures.0 c.loop-i.invariant.2)

pub returns : goal.returns
returns c = search (add_end, rules)
