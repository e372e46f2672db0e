use native.Mathlib.Omega.{arith}
use Rattle.calls.proofs.DirentLaws.{none_left, some_left, full_by, dirent_next, dirent_written}
use borrow.Author.Rules.{rules}
use Rattle.calls.proofs.dirent.put_dirent.Goals as goal

pub returns-in_err-checked_sub : goal.returns-in_err-checked_sub
returns-in_err-checked_sub c =
    let h = none_left _ _ _ c.checked_sub.ensures c.in_err-checked_sub.was in
    rw c.from_residual.ensures (full_by c.args.limit c.args.buf.now c.args.at c.args.index c.args.inode c.args.kind c.args.name.now c.min.result _ (search rules) c.zeros_behind-p.ensures.0 (omega (arith, h)))

pub returns-in_err-left : goal.returns-in_err-left
returns-in_err-left c =
    let h = some_left _ _ _ c.checked_sub.ensures _ c.in_ok-checked_sub.was in
    let g = none_left _ _ _ c.checked_sub-2.ensures c.in_err-left.was in
    rw c.from_residual-in_err-left.ensures (full_by c.args.limit c.args.buf.now c.args.at c.args.index c.args.inode c.args.kind c.args.name.now c.min.result _ (search rules) c.zeros_behind-p.ensures.0 (omega (arith, h, g)))

pub returns-then-left-p : goal.returns-then-left-p
returns-then-left-p c =
    let h = some_left _ _ _ c.checked_sub.ensures _ c.in_ok-checked_sub.was in
    let g = some_left _ _ _ c.checked_sub-2.ensures _ c.in_ok-left.was in
    full_by c.args.limit c.args.buf.now c.args.at c.args.index c.args.inode c.args.kind c.args.name.now c.min.result _ (search rules) c.zeros_behind-p.ensures.0 (omega (arith, h, g, c.if-left-p.true))

pub returns : goal.returns
returns c =
    let h = some_left _ _ _ c.checked_sub.ensures _ c.in_ok-checked_sub.was in
    let g = some_left _ _ _ c.checked_sub-2.ensures _ c.in_ok-left.was in
    (search (dirent_next, rules), search (dirent_written, rules))
