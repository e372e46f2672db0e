use mathlib.Core.Path.{◌≡◌, ap}
use mathlib.Core.Bool.{not}
use Prim.Native.Nat.{◌≤◌}
use native.Mathlib.Omega.{arith}
use Rattle.layers.specs.Items.{entries_of, entry_at, free_entry}
use Rattle.layers.specs.Search.{is_free, used_entries}
use Rattle.layers.proofs.ItemLaws.{length_entries}
use Rattle.layers.proofs.CountLaws.{count_next, count_end, counts_one, counts_at_most}
use Rattle.layers.proofs.search.used_entries.Goals as goal

pub loop-j-preserved : goal.loop-j-preserved
loop-j-preserved c =
    let es = entries_of c.args.t.now in
    let b = not (is_free (entry_at es c.loop-j.j)) in
    let e : not c.is_free.result ≡ b = ap not c.is_free.ensures in
    let small : c.from-n.result ≤ 1 = counts_at_most c.from-n.result (not c.is_free.result) b c.from-n.ensures e in
    (omega arith, count_next (λ x. not (is_free x)) es free_entry c.loop-j.j c.loop-j.n (used_entries es) c.from-n.result 128 (counts_one c.from-n.result (not c.is_free.result) b c.from-n.ensures e) (length_entries c.args.t.now) c.loop-j-test.true c.loop-j.invariant.1)

pub returns : goal.returns
returns c = (count_end (λ x. not (is_free x)) (entries_of c.args.t.now) free_entry c.loop-j.j c.loop-j.n (used_entries (entries_of c.args.t.now)) 128 (length_entries c.args.t.now) (omega arith) c.loop-j.invariant.1, omega arith)
