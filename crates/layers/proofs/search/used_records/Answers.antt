use mathlib.Core.Path.{◌≡◌, ap}
use mathlib.Core.Bool.{not}
use mathlib.Core.List.{◌∷◌}
use Prim.Native.Nat.{◌≤◌}
use native.Mathlib.Omega.{arith}
use Rattle.layers.specs.Items.{records_of, record_at, free_record}
use Rattle.layers.specs.Search.{no_record, used_records}
use Rattle.layers.proofs.Places.{length_from_zero}
use Rattle.layers.proofs.CountLaws.{count_next, count_end, counts_one, counts_at_most}
use Rattle.layers.proofs.search.used_records.Goals as goal

pub loop-i-preserved : goal.loop-i-preserved
loop-i-preserved c =
    let rs = records_of c.args.t.now in
    let b = not (no_record (record_at rs c.loop-i.i)) in
    let e : not c.no_record_at.result ≡ b = ap not c.no_record_at.ensures in
    let small : c.from-n.result ≤ 1 = counts_at_most c.from-n.result (not c.no_record_at.result) b c.from-n.ensures e in
    (omega arith, count_next (λ x. not (no_record x)) (free_record ∷ rs) free_record c.loop-i.i c.loop-i.n (used_records rs) c.from-n.result 129 (counts_one c.from-n.result (not c.no_record_at.result) b c.from-n.ensures e) (length_from_zero c.args.t.now) c.loop-i-test.true c.loop-i.invariant.1)

pub returns : goal.returns
returns c = (count_end (λ x. not (no_record x)) (free_record ∷ records_of c.args.t.now) free_record c.loop-i.i c.loop-i.n (used_records (records_of c.args.t.now)) 129 (length_from_zero c.args.t.now) (omega arith) c.loop-i.invariant.1, omega arith)
