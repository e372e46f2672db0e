use mathlib.Core.Path.{◌≡◌, ◌∙◌}
use Prim.Native.Nat.{◌≤◌}
use native.Mathlib.Omega.{arith}
use Rattle.merge.specs.Heads.{next_of}
use Rattle.merge.proofs.PassedLaws.{behinds, spot_next}
use Rattle.merge.proofs.ChangeLaws.{news, spot_in, spot_room}
use borrow.Author.Rules.{rules}
use Rattle.merge.proofs.change.put_new_from.Goals as goal

pub returns-in_default : goal.returns-in_default
returns-in_default c = (search (behinds, rules), search (news, rules))

pub returns-in_default-spot_from : goal.returns-in_default-spot_from
returns-in_default-spot_from c =
    let e : c.in-Ok.x ≡ next_of c.args.s.now = c.in-Ok.ensures.1 ∙ c.next_number.ensures in
    let l : c.in-Ok.x ≤ 4294967295 = omega (arith, c.in-Ok.ensures) in
    (search (behinds, rules), search (news, rules))

pub insert-requires : goal.insert-requires
insert-requires c = (search (spot_in, rules), search (spot_room, rules))

pub overflow_add-result : goal.overflow_add-result
overflow_add-result c = search (spot_next, rules)

pub returns : goal.returns
returns c =
    let e : c.in-Ok.x ≡ next_of c.args.s.now = c.in-Ok.ensures.1 ∙ c.next_number.ensures in
    let l : c.in-Ok.x ≤ 4294967295 = omega (arith, c.in-Ok.ensures) in
    (search (behinds, rules), search (news, rules))
