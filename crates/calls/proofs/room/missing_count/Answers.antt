use native.Mathlib.Omega.{arith}
use Rattle.std.proofs.Common.{inl}
use Rattle.std.proofs.lemmas.Iterator.Consumers.{count_from_yields_List}
use Rattle.calls.proofs.RoomLaws.{length_missing, walk_yields}
use Rattle.calls.proofs.room.missing_count.Goals as goal

pub count-requires-clause-fits : goal.count-requires-clause-fits
count-requires-clause-fits c = inl (rw c.missing.ensures (omega (arith, length_missing c.args.s.now 17 c.args.k)))

pub returns : goal.returns
returns c =
    let e = count_from_yields_List _ _ c.count.ensures.ran (walk_yields _ _ c.missing.ensures) in
    (e, omega (arith, e, length_missing c.args.s.now 17 c.args.k))
