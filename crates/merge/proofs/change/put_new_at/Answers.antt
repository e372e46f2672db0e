use mathlib.Core.Path.{◌≡◌, ◌∙◌}
use Prim.Native.Nat.{◌≤◌}
use native.Mathlib.Omega.{arith}
use Rattle.std.specs.Prelude.{None}
use Rattle.merge.specs.Heads.{next_of}
use Rattle.merge.specs.Changes.{seat_spot}
use Rattle.merge.proofs.SeatLaws.{seats, seat_beyond, seated, unseated, unseated_number, unseated_bytes, seated_number_lem, seated_bytes_lem, fit_room}
use borrow.Author.Rules.{rules}
use Rattle.merge.proofs.change.put_new_at.Goals as goal
use Rattle.merge.proofs.change.put_new_at.Goals.{then-is_full-via-then-is_full, then-is_full-via-else-is_full+then-count-k}

pub returns-in_default : goal.returns-in_default
returns-in_default c = (search (unseated, seats, rules), search (unseated_number, seats, rules), search (unseated_bytes, seats, rules))

pub returns-then-is_full : goal.returns-then-is_full
returns-then-is_full c =
    let e : c.in-Ok.x ≡ next_of c.args.s.now = c.in-Ok.ensures.1 ∙ c.next_number.ensures in
    let l : c.in-Ok.x ≤ 4294967295 = omega (arith, c.in-Ok.ensures) in
    let h : seat_spot c.args.s.now c.args.k ≡ None =
    elim c.then-is_full.branch [
      | then-is_full-via-then-is_full w ↦ search (seats, rules)
      | then-is_full-via-else-is_full+then-count-k w ↦ seat_beyond _ _ _ e l _ c.is_full.ensures w.if-is_full.false _ w.count.ensures.0 w.if-count-k.true
    ] in
    (unseated _ _ h, unseated_number _ _ h, unseated_bytes _ _ _ h)

pub insert-requires : goal.insert-requires
insert-requires c = (search rules, fit_room _ _ c.is_full.ensures (search rules))

pub returns : goal.returns
returns c =
    let e : c.in-Ok.x ≡ next_of c.args.s.now = c.in-Ok.ensures.1 ∙ c.next_number.ensures in
    let l : c.in-Ok.x ≤ 4294967295 = omega (arith, c.in-Ok.ensures) in
    (search (seated, seats, rules), search (seated_number_lem, seats, rules), search (seated_bytes_lem, seats, rules))
