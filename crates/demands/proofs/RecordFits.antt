-- A record read from bytes fits its bytes again. Assumes nothing.
use mathlib.Core.Path.{◌≡◌, refl, sym, subst}
use Prim.Native.Nat.{ℕ, zero, suc, ◌+◌, ◌*◌, ◌^◌, ◌-◌, ◌≤◌, ◌<◌}
use native.Mathlib.Omega.{arith}
use native.Mathlib.Decide.{ℕ_discrete}
use native.Mathlib.Nat.{pow-succ', one-le-pow}
use mathlib.Core.Bool.{Bool, true, false, cond}
use mathlib.Core.List.{List, [], ◌∷◌}
use lib.Dec.{eqb, ltb}
use lib.ListN.{length, take, drop}
use borrow.Author.Tests.{ltb-true, ltb-false}
use Rattle.layers.specs.Bytes.{part, le_of, AllBytes}
use Rattle.layers.specs.Items.{record_of, records_of, record_at, free_record, FitsTail}
use Rattle.layers.proofs.Determined.{bytes_drop}
use Rattle.layers.proofs.ItemLaws.{record_past, record_is}
use Rattle.merge.specs.Tables.{table_of}
use Rattle.merge.specs.declared.node.Node.{Node}
use Rattle.merge.proofs.NodeFits.{bytes_part}
use Rattle.calls.specs.Parents.{top_of}
use Rattle.calls.specs.Upper.{top_record}

-- `n` bytes at most hold a number below 256 to the `n`
take_bound : (n : ℕ) (b : List ℕ) → AllBytes b → le_of (take n b) < 256 ^ n
unfolding le_of AllBytes
take_bound zero b h = omega arith
take_bound (suc n) [] h = let o : 1 ≤ 256 ^ suc n = one-le-pow (suc n) 256 (omega arith) in omega arith
take_bound (suc n) (x ∷ b) h =
    let o : x < 256 = h 0 in
    let c : le_of (take n b) < 256 ^ n = take_bound n b (λ i. h (suc i)) in
    rw (pow-succ' 256 n) (omega arith)

eight_bound : (b : List ℕ) (a : ℕ) → AllBytes b → le_of (part b a 8) < 18446744073709551616
eight_bound b a h = take_bound 8 (drop a b) (bytes_drop b a h)

free_fits : FitsTail free_record
free_fits = record { device_fit = omega arith; size_fit = omega arith; content_fit = omega arith }

read_fits : (b : List ℕ) → AllBytes b → FitsTail (record_of b)
unfolding record_of
read_fits b h = record { device_fit = eight_bound b 8 h; size_fit = eight_bound b 16 h; content_fit = eight_bound b 24 h }

pub record_fits : (t : List ℕ) → AllBytes t → (i : ℕ) → FitsTail (record_at (records_of t) i)
record_fits t h i = go (ℕ_discrete i 0) (ltb 128 i) refl
  where
    go : Dec (i ≡ 0) → (b : Bool) → ltb 128 i ≡ b → FitsTail (record_at (records_of t) i)
    go (yes z) b e = rw z free_fits
    go (no z) true e = subst FitsTail (record_past t i free_record refl (ltb-true 128 i e)) free_fits
    go (no z) false e = subst FitsTail (sym (record_is t i z (ltb-false 128 i e))) (read_fits (part t (32 * (i - 1)) 32) (bytes_part t (32 * (i - 1)) 32 h))

-- the layers' tables are bytes where the slices are
pub bytes_table : (u l : List ℕ) → AllBytes u → AllBytes l → (k : ℕ) → AllBytes (table_of u l k)
unfolding table_of AllBytes
bytes_table u l p q k = go (eqb k 0) (eqb (length u) 8192) (ltb 3 k) (ltb (length l) (8192 * (k - 1) + 8192))
  where
    none : AllBytes []
    none i = omega arith

    go : (a b c d : Bool) → AllBytes (cond a (cond b u []) (cond c [] (cond d [] (part l (8192 * (k - 1)) 8192))))
    go true true c d = p
    go true false c d = none
    go false b true d = none
    go false b false true = none
    go false b false false = bytes_part l (8192 * (k - 1)) 8192 q

-- so of what a node has on top
pub top_fits : (u l : List ℕ) → AllBytes u → AllBytes l → (n : Node) → FitsTail (top_record u l n)
top_fits u l p q n = record_fits (table_of u l (top_of n).layer) (bytes_table u l p q (top_of n).layer) (top_of n).number
