-- Runs moved inside lent memory. Assumes nothing.
use mathlib.Core.Path.{◌≡◌, refl, sym, ap, ap₂, ◌∙◌}
use Prim.Native.Nat.{ℕ, suc, ◌+◌, ◌-◌, ◌≤◌, ◌<◌}
use native.Mathlib.Omega.{arith}
use native.Mathlib.Numerals.{add-one}
use native.Mathlib.Nat.{add_assoc, add-suc, suc-add, add-zero}
use mathlib.Core.List.{List, [], ◌∷◌, ◌++◌, append_assoc, append-nil}
use lib.ListN.{length, take, drop, get_or, set, length-append, length-take, length-drop}
use lib.Seq.{paste, paste-suc, drop-paste, take_all, take-suc, drop-cons, set_at, get_or-take, get_or-drop, drop_at, append_snoc}
use lib.ListN.{take-append-drop}
use native.Mathlib.Nat.{sub-zero}
use Rattle.layers.specs.Bytes.{part, over}
use Rattle.layers.proofs.Runs.{take_over}

-- ---- towards the end: from the last byte to the first

-- one byte more of a run, in front of it
pub part_front : (t : List ℕ) (p m : ℕ) → p < length t → part t p (suc m) ≡ get_or t p 0 ∷ part t (suc p) m
part_front t p m h = rw (drop-cons t p 0 h) refl

pub over_front : (t : List ℕ) (q v : ℕ) (b : List ℕ) → q < length t → set (over t (suc q) b) q v ≡ over t q (v ∷ b)
over_front t q v b h =
    let e : over t (suc q) b ≡ take q t ++ get_or t q 0 ∷ (b ++ drop (suc q + length b) t) =
    rw (take-suc t q 0 h, append_assoc (take q t ++ (get_or t q 0 ∷ [])) b (drop (suc q + length b) t)) (append_snoc (take q t) (get_or t q 0) (b ++ drop (suc q + length b) t)) in
    rw (e, set_at (take q t) (get_or t q 0) (b ++ drop (suc q + length b) t) v q (simp length-take (omega arith)))
    (rw (append_assoc (take q t) (v ∷ b) (drop (q + suc (length b)) t), add-suc q (length b), suc-add q (length b)) refl)

module _ (t t₀ : List ℕ) (p q n i : ℕ) where
  -- a byte that the store has not reached yet
  pub unmoved_down : t ≡ over t₀ (q + i) (part t₀ (p + i) (n - i)) → 0 < i → i ≤ n → p ≤ q → q + n ≤ length t₀ → get_or t (p + (i - 1)) 0 ≡ get_or t₀ (p + (i - 1)) 0
  unmoved_down e z h l m =
      let f : q + i + length (part t₀ (p + i) (n - i)) ≤ length t₀ = simp (length-take, length-drop) (omega arith) in
      sym (get_or-take (q + i) t (p + (i - 1)) 0 (omega arith))
      ∙ (ap (λ (x : List ℕ). get_or x (p + (i - 1)) 0) (ap (λ (x : List ℕ). take (q + i) x) e ∙ take_over t₀ (q + i) (part t₀ (p + i) (n - i)) f (q + i) (omega arith))
      ∙ get_or-take (q + i) t₀ (p + (i - 1)) 0 (omega arith))

  pub moved_down : t ≡ over t₀ (q + i) (part t₀ (p + i) (n - i)) → 0 < i → i ≤ n → p ≤ q → q + n ≤ length t₀
      → set t (q + (i - 1)) (get_or t (p + (i - 1)) 0) ≡ over t₀ (q + (i - 1)) (part t₀ (p + (i - 1)) (n - (i - 1)))
  moved_down e z h l m =
      let a : q + i ≡ suc (q + (i - 1)) = omega arith in
      let b : p + i ≡ suc (p + (i - 1)) = omega arith in
      let c : n - (i - 1) ≡ suc (n - i) = omega arith in
      let v : ℕ = get_or t₀ (p + (i - 1)) 0 in
      rw (unmoved_down e z h l m, c, part_front t₀ (p + (i - 1)) (n - i) (omega arith))
      (ap (λ (x : List ℕ). set x (q + (i - 1)) v) (e ∙ ap₂ (λ (x y : ℕ). over t₀ x (part t₀ y (n - i))) a b)
      ∙ over_front t₀ (q + (i - 1)) v (part t₀ (suc (p + (i - 1))) (n - i)) (omega arith))

pub over_none : (t : List ℕ) (q p n : ℕ) → t ≡ over t (q + n) (part t (p + n) (n - n))
over_none t q p n =
    let z : n - n ≡ 0 = omega arith in
    rw (z, add-zero (q + n), append-nil (take (q + n) t)) (sym (take-append-drop (q + n) t))

pub moved_all : (t t₀ : List ℕ) (p q n i : ℕ) → t ≡ over t₀ (q + i) (part t₀ (p + i) (n - i)) → i ≤ 0 → t ≡ over t₀ q (part t₀ p n)
moved_all t t₀ p q n i e h =
    let z : i ≡ 0 = omega arith in
    rw (z, add-zero q, add-zero p, sub-zero n) at e

-- ---- towards the start: from the first byte to the last
module _ (t t₀ : List ℕ) (p q n i : ℕ) where
  pub moved_up : t ≡ paste t₀ p (part t₀ q n) i → i < n → p ≤ q → q + n ≤ length t₀ → set t (p + i) (get_or t (q + i) 0) ≡ paste t₀ p (part t₀ q n) (i + 1)
  moved_up e h l m =
      let k : length (part t₀ q n) ≡ n = simp (length-take, length-drop) (omega arith) in
      let j : q + i ≡ p + i + (q - p) = omega arith in
      let d : drop (p + i) t ≡ drop (p + i) t₀ = ap (λ (x : List ℕ). drop (p + i) x) e ∙ drop-paste t₀ p (part t₀ q n) i (omega arith) (omega arith) in
      let g : get_or t (q + i) 0 ≡ get_or (part t₀ q n) i 0 =
      ap (λ (x : ℕ). get_or t x 0) j
      ∙ (sym (get_or-drop (p + i) t (q - p) 0)
      ∙ (ap (λ (x : List ℕ). get_or x (q - p) 0) d
      ∙ (get_or-drop (p + i) t₀ (q - p) 0 ∙ (ap (λ (x : ℕ). get_or t₀ x 0) (sym j) ∙ (sym (get_or-drop q t₀ i 0) ∙ sym (get_or-take n (drop q t₀) i 0 h)))))) in
      rw (g, e, add-one i) (paste-suc t₀ p (part t₀ q n) i 0 (omega arith) (omega arith))

  pub moved_up_all : t ≡ paste t₀ p (part t₀ q n) i → i ≤ n → n ≤ i → q + n ≤ length t₀ → t ≡ over t₀ p (part t₀ q n)
  moved_up_all e h l m =
      let k : length (part t₀ q n) ≡ n = simp (length-take, length-drop) (omega arith) in
      let z : i ≡ length (part t₀ q n) = omega arith in
      rw (z, take_all (length (part t₀ q n)) (part t₀ q n) (omega arith)) at e

-- ---- a run laid in front of another
pub over_before : (t : List ℕ) (a : ℕ) (x y : List ℕ) → a + length x + length y ≤ length t → over (over t (a + length x) y) a x ≡ over t a (x ++ y)
over_before t a x y h =
    let n : length (take (a + length x) t) ≡ a + length x = simp length-take (omega arith) in
    rw (
      take_over t (a + length x) y (omega arith) a (omega arith),
      append_assoc (take (a + length x) t) y (drop (a + length x + length y) t),
      drop_at (take (a + length x) t) (y ++ drop (a + length x + length y) t) (a + length x) n,
      length-append x y,
      ← append_assoc (take a t) x y,
      ← add_assoc a (length x) (length y),
      append_assoc (take a t ++ x) y (drop (a + length x + length y) t),
    )
    refl
