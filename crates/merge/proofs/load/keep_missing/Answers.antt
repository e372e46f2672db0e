use Rattle.merge.proofs.LoadLaws.{keep_start, keep_missing, skip_resident, keep_end}
use borrow.Author.Rules.{rules}
use Rattle.merge.proofs.load.keep_missing.Goals.{then-has_none, else-has_none}
use Rattle.merge.proofs.load.keep_missing.Goals as goal

pub loop-i-init : goal.loop-i-init
loop-i-init c = let l = c.told-p in search (keep_start, rules)

pub loop-i-preserved : goal.loop-i-preserved
loop-i-preserved c =
    elim c.if-has_none.branch [
      | then-has_none w ↦ let h = w.if-has_none.true in let l = c.told-p in rw (w.p-is, w.m-is) (search (keep_missing, rules))
      | else-has_none w ↦ let h = w.if-has_none.false in let l = c.told-p in rw (w.p-is, w.m-is) (search (skip_resident, rules))
    ]

pub returns : goal.returns
returns c = search (keep_end, rules)
