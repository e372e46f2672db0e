use Prim.Native.Nat.{◌≤◌}
use native.Mathlib.Omega.{arith}
use Rattle.layers.specs.Items.{entries_of, entry_at, free_entry}
use Rattle.layers.specs.Search.{names_record, naming}
use Rattle.layers.proofs.ItemLaws.{length_entries}
use Rattle.layers.proofs.CountLaws.{count_next, count_end, counts_one, counts_at_most}
use Rattle.layers.proofs.search.naming_entries.Goals as goal

pub loop-j-preserved : goal.loop-j-preserved
loop-j-preserved c =
    let p = names_record c.args.r in
    let es = entries_of c.args.t.now in
    let b = p (entry_at es c.loop-j.j) in
    let small : c.from-n.result ≤ 1 = counts_at_most c.from-n.result c.names_record.result b c.from-n.ensures c.names_record.ensures in
    (omega arith, count_next p es free_entry c.loop-j.j c.loop-j.n (naming c.args.r es) c.from-n.result 128 (counts_one c.from-n.result c.names_record.result b c.from-n.ensures c.names_record.ensures) (length_entries c.args.t.now) c.loop-j-test.true c.loop-j.invariant.1)

pub returns : goal.returns
returns c = (count_end (names_record c.args.r) (entries_of c.args.t.now) free_entry c.loop-j.j c.loop-j.n (naming c.args.r (entries_of c.args.t.now)) 128 (length_entries c.args.t.now) (omega arith) c.loop-j.invariant.1, omega arith)
