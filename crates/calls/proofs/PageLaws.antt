-- Entries written one after another are a page of their list. Assumes nothing.
use Rattle.std.specs.Prelude.{Option, Some, None}
use mathlib.Core.Path.{◌≡◌, refl, sym, ap, ◌∙◌}
use Prim.Native.Nat.{ℕ, suc, ◌+◌, ◌-◌, ◌≤◌, ◌<◌}
use native.Mathlib.Omega.{arith}
use native.Mathlib.Nat.{add-zero, zero-add, sub-zero}
use native.Mathlib.Numerals.{add-one}
use mathlib.Core.Bool.{Bool, true, false, cond}
use mathlib.Core.List.{List, [], ◌∷◌, ◌++◌, append-nil}
use lib.Dec.{leb, ltb}
use lib.Seq.{drop-nil}
use lib.ListN.{length, take, drop, length-append, length-drop, length-replicate, take-append-drop}
use borrow.Author.Tests.{le-leb, lt-leb, lt-ltb, le-ltb, leb-true, leb-false, ltb-true, ltb-false}
use Rattle.layers.specs.Bytes.{least, over}
use Rattle.layers.proofs.Numbers.{length_le}
use Rattle.layers.proofs.Runs.{over_next, length_over}
use Rattle.layers.proofs.Least.{least_right}
use Rattle.calls.specs.Dirents.{Dirent, dirent_size, dirent_bytes, room_of, fits, put_answer, put_dirent}
use Rattle.calls.specs.Pages.{fitting, bytes_from, page_bytes, remaining, page_of, page_over, entry_answer, entry_over, Filled, filled, fill}

pub length_dirent : (i : ℕ) (d : Dirent) → length (dirent_bytes i d) ≡ dirent_size d
unfolding dirent_bytes dirent_size
length_dirent i d = simp (length-append, length_le, length-replicate) (omega arith)

-- ---- one entry

module _ (o limit : ℕ) (t : List ℕ) (at i : ℕ) (d : Dirent) where
  pub passed_answer : i < o → Some at ≡ entry_answer o limit t at i d
  unfolding entry_answer
  passed_answer h = rw (lt-ltb i o h) refl

  pub passed_over : i < o → t ≡ entry_over o limit t at i d
  unfolding entry_over
  passed_over h = rw (lt-ltb i o h) refl

  pub put_answer_lem : o ≤ i → (r : Option ℕ) → r ≡ put_answer limit t at d → r ≡ entry_answer o limit t at i d
  unfolding entry_answer
  put_answer_lem h r e = rw (le-ltb i o h) e

  pub put_over : o ≤ i → (v : List ℕ) → v ≡ put_dirent limit t at i d → v ≡ entry_over o limit t at i d
  unfolding entry_over
  put_over h v e = rw (le-ltb i o h) e

  -- the entries that follow one that was written or passed over, and one that did not fit
  module _ (r : Option ℕ) (v : List ℕ) (p : r ≡ entry_answer o limit t at i d) (q : v ≡ entry_over o limit t at i d) (ds : List Dirent) where
    pub fill_next : (a : ℕ) → r ≡ Some a → fill o limit (i + 1) a v ds ≡ fill o limit i at t (d ∷ ds)
    unfolding fill entry_answer entry_over put_answer put_dirent
    fill_next a h = rw (add-one i) (go (ltb i o) (fits limit t at d) (sym p ∙ h) q)
      where
        go : (b c : Bool) → cond b (Some at) (cond c (Some (at + dirent_size d)) None) ≡ Some a → v ≡ cond b t (cond c (over t at (dirent_bytes i d)) t)
            → fill o limit (suc i) a v ds ≡ cond b (fill o limit (suc i) at t ds) (cond c (fill o limit (suc i) (at + dirent_size d) (over t at (dirent_bytes i d)) ds) (filled at true t))
        go true c e f = let z : at ≡ a = cc in rw (z, f) refl
        go false true e f = let z : at + dirent_size d ≡ a = cc in rw (z, f) refl
        go false false e f = absurd (let z : ◌≡◌ {A = ℕ} 0 1 = cc in omega arith)

    pub fill_full : r ≡ None → filled at true v ≡ fill o limit i at t (d ∷ ds)
    unfolding fill entry_answer entry_over put_answer put_dirent
    fill_full h = go (ltb i o) (fits limit t at d) (sym p ∙ h) q
      where
        go : (b c : Bool) → cond b (Some at) (cond c (Some (at + dirent_size d)) None) ≡ None → v ≡ cond b t (cond c (over t at (dirent_bytes i d)) t)
            → filled at true v ≡ cond b (fill o limit (suc i) at t ds) (cond c (fill o limit (suc i) (at + dirent_size d) (over t at (dirent_bytes i d)) ds) (filled at true t))
        go true c e f = absurd (let z : ◌≡◌ {A = ℕ} 0 1 = cc in omega arith)
        go false true e f = absurd (let z : ◌≡◌ {A = ℕ} 0 1 = cc in omega arith)
        go false false e f = rw f refl

-- ---- entries written one after another are a page

over_nothing : (t : List ℕ) (a : ℕ) → t ≡ over t a []
over_nothing t a = rw (append-nil (take a t), add-zero a) (sym (take-append-drop a t))

-- the `n` entries from index `i` on, the first written at `at`
abbrev from : ℕ → ℕ → List ℕ → List Dirent → ℕ → Filled
from i at t ds n = filled (at + length (bytes_from i (take n ds))) (ltb n (length ds)) (over t at (bytes_from i (take n ds)))

ltb_suc : (a b : ℕ) → ltb a b ≡ ltb (suc a) (suc b)
ltb_suc a b = go (ltb a b) refl
  where
    go : (t : Bool) → ltb a b ≡ t → t ≡ ltb (suc a) (suc b)
    go true e = sym (lt-ltb (suc a) (suc b) (let h : a < b = ltb-true a b e in omega arith))
    go false e = sym (le-ltb (suc a) (suc b) (let h : b ≤ a = ltb-false a b e in omega arith))

same_filled : (a b : ℕ) (p q : Bool) (t u : List ℕ) → a ≡ b → p ≡ q → t ≡ u → filled a p t ≡ filled b q u
same_filled a b p q t u e f g = rw (e, f, g) refl

from_none : (i at : ℕ) (t : List ℕ) (d : Dirent) (ds : List Dirent) → filled at true t ≡ from i at t (d ∷ ds) 0
unfolding bytes_from
from_none i at t d ds = same_filled at (at + 0) true (ltb 0 (suc (length ds))) t (over t at []) (sym (add-zero at)) (sym (lt-ltb 0 (suc (length ds)) (omega arith))) (over_nothing t at)

from_next : (i at : ℕ) (t : List ℕ) (d : Dirent) (ds : List Dirent) (n : ℕ) → at + dirent_size d ≤ length t → from (suc i) (at + dirent_size d) (over t at (dirent_bytes i d)) ds n ≡ from i at t (d ∷ ds) (suc n)
unfolding bytes_from
from_next i at t d ds n h =
    let m : dirent_size d ≡ length (dirent_bytes i d) = sym (length_dirent i d) in
    same_filled (at + dirent_size d + length (bytes_from (suc i) (take n ds))) (at + length (dirent_bytes i d ++ bytes_from (suc i) (take n ds))) (ltb n (length ds)) (ltb (suc n) (suc (length ds)))
    (over (over t at (dirent_bytes i d)) (at + dirent_size d) (bytes_from (suc i) (take n ds))) (over t at (dirent_bytes i d ++ bytes_from (suc i) (take n ds)))
    (rw (length-append (dirent_bytes i d) (bytes_from (suc i) (take n ds))) (omega arith))
    (ltb_suc n (length ds))
    (ap (λ (k : ℕ). over (over t at (dirent_bytes i d)) (at + k) (bytes_from (suc i) (take n ds))) m ∙ over_next t at (dirent_bytes i d) (bytes_from (suc i) (take n ds)) (omega arith))

module _ (o limit : ℕ) where
  -- past the offset
  fill_run : (i at : ℕ) (t : List ℕ) (ds : List Dirent) → o ≤ i → at ≤ least limit (length t) → fill o limit i at t ds ≡ from i at t ds (fitting (least limit (length t) - at) ds)
  unfolding fill fitting bytes_from
  fill_run i at t [] h l = same_filled at (at + 0) false false t (over t at []) (sym (add-zero at)) refl (over_nothing t at)
  fill_run i at t (d ∷ ds) h l = rw (le-ltb i o h) (go (leb (at + dirent_size d) (least limit (length t))) refl (fill_run (suc i) (at + dirent_size d) (over t at (dirent_bytes i d)) ds))
    where
      go : (b : Bool) → leb (at + dirent_size d) (least limit (length t)) ≡ b
          → (o ≤ suc i → at + dirent_size d ≤ least limit (length (over t at (dirent_bytes i d)))
          → fill o limit (suc i) (at + dirent_size d) (over t at (dirent_bytes i d)) ds
          ≡ from (suc i) (at + dirent_size d) (over t at (dirent_bytes i d)) ds (fitting (least limit (length (over t at (dirent_bytes i d))) - (at + dirent_size d)) ds))
          → cond b (fill o limit (suc i) (at + dirent_size d) (over t at (dirent_bytes i d)) ds) (filled at true t)
          ≡ from i at t (d ∷ ds) (cond (leb (dirent_size d) (least limit (length t) - at)) (suc (fitting (least limit (length t) - at - dirent_size d) ds)) 0)
      go true e ih =
          let w : at + dirent_size d ≤ least limit (length t) = leb-true (at + dirent_size d) (least limit (length t)) e in
          let z : least limit (length t) ≤ length t = least_right limit (length t) in
          let m : length (dirent_bytes i d) ≡ dirent_size d = length_dirent i d in
          let g : length (over t at (dirent_bytes i d)) ≡ length t = length_over t at (dirent_bytes i d) (omega arith) in
          let k : least limit (length t) - (at + dirent_size d) ≡ least limit (length t) - at - dirent_size d = omega arith in
          ih (omega arith) (let r : least limit (length (over t at (dirent_bytes i d))) ≡ least limit (length t) = ap (least limit) g in omega arith)
          ∙ (ap (λ (j : ℕ). from (suc i) (at + dirent_size d) (over t at (dirent_bytes i d)) ds (fitting j ds)) (ap (λ (j : ℕ). least limit j - (at + dirent_size d)) g ∙ k)
          ∙ (from_next i at t d ds (fitting (least limit (length t) - at - dirent_size d) ds) (omega arith)
          ∙ ap (λ (b : Bool). from i at t (d ∷ ds) (cond b (suc (fitting (least limit (length t) - at - dirent_size d) ds)) 0)) (sym (le-leb (dirent_size d) (least limit (length t) - at) (omega arith)))))
      go false e ih =
          let w : least limit (length t) < at + dirent_size d = leb-false (at + dirent_size d) (least limit (length t)) e in
          from_none i at t d ds
          ∙ ap (λ (b : Bool). from i at t (d ∷ ds) (cond b (suc (fitting (least limit (length t) - at - dirent_size d) ds)) 0)) (sym (lt-leb (dirent_size d) (least limit (length t) - at) (omega arith)))

  -- those below the offset are passed over
  fill_skip : (i at : ℕ) (t : List ℕ) (ds : List Dirent) → i ≤ o → fill o limit i at t ds ≡ fill o limit o at t (drop (o - i) ds)
  unfolding fill
  fill_skip i at t [] h = sym (ap (fill o limit o at t) (drop-nil (o - i)))
  fill_skip i at t (d ∷ ds) h = go (ltb i o) refl (fill_skip (suc i) at t ds)
    where
      go : (b : Bool) → ltb i o ≡ b → (suc i ≤ o → fill o limit (suc i) at t ds ≡ fill o limit o at t (drop (o - suc i) ds))
          → fill o limit i at t (d ∷ ds) ≡ fill o limit o at t (drop (o - i) (d ∷ ds))
      go true e ih =
          let l : i < o = ltb-true i o e in
          let k : o - i ≡ suc (o - suc i) = omega arith in
          rw (k, e) (ih (omega arith))
      go false e ih =
          let l : o ≤ i = ltb-false i o e in
          let k : o - i ≡ 0 = omega arith in
          let z : i ≡ o = omega arith in
          ap (λ (j : ℕ). fill o limit j at t (d ∷ ds)) z ∙ ap (λ (j : ℕ). fill o limit o at t (drop j (d ∷ ds))) (sym k)

  -- all entries, written one after another from the start of the buffer
  pub fill_page : (t : List ℕ) (ds : List Dirent) → fill o limit 0 0 t ds ≡ record { page = page_of (room_of limit t) o ds; buffer = page_over (room_of limit t) o ds t }
  unfolding page_bytes remaining
  fill_page t ds =
      fill_skip 0 0 t ds (omega arith)
      ∙ (ap (λ (j : ℕ). fill o limit o 0 t (drop j ds)) (sub-zero o)
      ∙ (fill_run o 0 t (drop o ds) (omega arith) (omega arith)
      ∙ (ap (λ (j : ℕ). from o 0 t (drop o ds) (fitting j (drop o ds))) (sub-zero (least limit (length t)))
      ∙ same_filled (0 + length (bytes_from o (take (fitting (least limit (length t)) (drop o ds)) (drop o ds)))) (length (bytes_from o (take (fitting (least limit (length t)) (drop o ds)) (drop o ds))))
      (ltb (fitting (least limit (length t)) (drop o ds)) (length (drop o ds))) (ltb (o + fitting (least limit (length t)) (drop o ds)) (length ds))
      (over t 0 (bytes_from o (take (fitting (least limit (length t)) (drop o ds)) (drop o ds)))) (over t 0 (bytes_from o (take (fitting (least limit (length t)) (drop o ds)) (drop o ds))))
      (zero-add _)
      (below_dropped (fitting (least limit (length t)) (drop o ds)) ds)
      refl)))
    where
      below_dropped : (n : ℕ) (ds : List Dirent) → ltb n (length (drop o ds)) ≡ ltb (o + n) (length ds)
      below_dropped n ds = go (ltb (o + n) (length ds)) refl
        where
          go : (b : Bool) → ltb (o + n) (length ds) ≡ b → ltb n (length (drop o ds)) ≡ b
          go true e = let h : o + n < length ds = ltb-true (o + n) (length ds) e in lt-ltb n (length (drop o ds)) (rw (length-drop o ds) (omega arith))
          go false e = let h : length ds ≤ o + n = ltb-false (o + n) (length ds) e in le-ltb n (length (drop o ds)) (rw (length-drop o ds) (omega arith))
