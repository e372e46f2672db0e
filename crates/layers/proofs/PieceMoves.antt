-- Pieces of equal width: one put in, the others moved down, and one taken out, the others moved up. Assumes nothing.
use mathlib.Core.Path.{◌≡◌, refl, sym, ap, ◌∙◌}
use Prim.Native.Nat.{ℕ, zero, suc, ◌+◌, ◌*◌, ◌-◌, ◌≤◌}
use native.Mathlib.Omega.{arith}
use native.Mathlib.Nat.{add_assoc, mul-zero, mul-add, zero-add, sub-zero}
use mathlib.Core.List.{List, [], ◌∷◌, ◌++◌, map, append_assoc}
use lib.ListN.{length, take, drop, length-append, length-take, length-drop}
use lib.Seq.{take-add, take_at, drop_at, drop-drop}
use Rattle.layers.specs.Bytes.{part, over}
use Rattle.layers.specs.Items.{pieces}
use Rattle.layers.proofs.Runs.{drop_over, take_over}
use Rattle.layers.proofs.Pieces.{mul_next}

-- `a` at place `k`, those from `k` on one place down
abbrev pub insert_at : {A : Type 0} → ℕ → A → List A → List A
insert_at k a l = take k l ++ a ∷ drop k l

-- without the one at place `k`, those after it one place up
abbrev pub remove_at : {A : Type 0} → ℕ → List A → List A
remove_at k l = take k l ++ drop (suc k) l

-- only the bytes of the pieces matter
pub pieces_front : (w n : ℕ) (t x : List ℕ) → w * n ≤ length t → pieces w n (take (w * n) t ++ x) ≡ pieces w n t
unfolding pieces
pieces_front w zero t x h = refl
pieces_front w (suc n) t x h =
    let m : w * suc n ≡ w + w * n = mul_next w n in
    let k : length (take w t) ≡ w = simp length-take (omega arith) in
    rw (m, take-add w (w * n) t, append_assoc (take w t) (take (w * n) (drop w t)) x, take_at (take w t) (take (w * n) (drop w t) ++ x) w k, drop_at (take w t) (take (w * n) (drop w t) ++ x) w k)
    (ap (λ r. take w t ∷ r) (pieces_front w n (drop w t) x (simp length-drop (omega arith))))

pub rows : (w k n : ℕ) → k ≤ n → w * k + w * (n - k) ≡ w * n
rows w k n h = let e : k + (n - k) ≡ n = omega arith in sym (mul-add w k (n - k)) ∙ ap (λ (x : ℕ). w * x) e

pub pieces_insert : (w n : ℕ) (t : List ℕ) (k : ℕ) (b : List ℕ) → length b ≡ w → k ≤ n → w * n + w ≤ length t
    → pieces w (suc n) (over t (w * k) (b ++ part t (w * k) (w * (n - k)))) ≡ insert_at k b (pieces w n t)
unfolding pieces
pieces_insert w n t zero b e h l =
    rw (mul-zero w, sub-zero n, append_assoc b (take (w * n) t) (drop (0 + length (b ++ take (w * n) t)) t), take_at b (take (w * n) t ++ drop (0 + length (b ++ take (w * n) t)) t) w e, drop_at b (take (w * n) t ++ drop (0 + length (b ++ take (w * n) t)) t) w e)
    (ap (λ r. b ∷ r) (pieces_front w n t (drop (0 + length (b ++ take (w * n) t)) t) (omega arith)))
pieces_insert w zero t (suc k) b e h l = absurd (omega arith)
pieces_insert w (suc n) t (suc k) b e h l =
    let m : w * suc n ≡ w + w * n = mul_next w n in
    let s : suc n - suc k ≡ n - k = omega arith in
    let r : w * k + w * (n - k) ≡ w * n = rows w k n (omega arith) in
    let d : part t (w + w * k) (w * (n - k)) ≡ part (drop w t) (w * k) (w * (n - k)) = ap (λ (x : List ℕ). take (w * (n - k)) x) (sym (drop-drop (w * k) w t)) in
    let f : w + w * k + length (b ++ part t (w + w * k) (w * (n - k))) ≤ length t = simp (length-append, length-take, length-drop, e) (omega arith) in
    rw (mul_next w k, s, take_over t (w + w * k) (b ++ part t (w + w * k) (w * (n - k))) f w (omega arith), drop_over t w (w * k) (b ++ part t (w + w * k) (w * (n - k))) f, d)
    (ap (λ r. take w t ∷ r) (pieces_insert w n (drop w t) k b e (omega arith) (simp length-drop (omega arith))))

pub pieces_remove : (w n : ℕ) (t : List ℕ) (k : ℕ) (z : List ℕ) → length z ≡ w → k ≤ n → w * n + w ≤ length t
    → pieces w n (over t (w * k) (part t (w * k + w) (w * (n - k)) ++ z)) ≡ remove_at k (pieces w (suc n) t)
unfolding pieces
pieces_remove w n t zero z e h l =
    rw (mul-zero w, sub-zero n, zero-add w, append_assoc (take (w * n) (drop w t)) z (drop (0 + length (take (w * n) (drop w t) ++ z)) t))
    (pieces_front w n (drop w t) (z ++ drop (0 + length (take (w * n) (drop w t) ++ z)) t) (simp length-drop (omega arith)))
pieces_remove w zero t (suc k) z e h l = absurd (omega arith)
pieces_remove w (suc n) t (suc k) z e h l =
    let m : w * suc n ≡ w + w * n = mul_next w n in
    let s : suc n - suc k ≡ n - k = omega arith in
    let r : w * k + w * (n - k) ≡ w * n = rows w k n (omega arith) in
    let d : part t (w + w * k + w) (w * (n - k)) ≡ part (drop w t) (w * k + w) (w * (n - k)) = ap (λ (x : List ℕ). take (w * (n - k)) x) (rw (add_assoc w (w * k) w) (sym (drop-drop (w * k + w) w t))) in
    let f : w + w * k + length (part t (w + w * k + w) (w * (n - k)) ++ z) ≤ length t = simp (length-append, length-take, length-drop, e) (omega arith) in
    rw (mul_next w k, s, take_over t (w + w * k) (part t (w + w * k + w) (w * (n - k)) ++ z) f w (omega arith), drop_over t w (w * k) (part t (w + w * k + w) (w * (n - k)) ++ z) f, d)
    (ap (λ r. take w t ∷ r) (pieces_remove w n (drop w t) k z e (omega arith) (simp length-drop (omega arith))))

pub map_insert : {A B : Type 0} (f : A → B) (l : List A) (k : ℕ) (a : A) → map f (insert_at k a l) ≡ insert_at k (f a) (map f l)
map_insert f l zero a = refl
map_insert f [] (suc k) a = refl
map_insert f (x ∷ xs) (suc k) a = ap (λ r. f x ∷ r) (map_insert f xs k a)

pub map_remove : {A B : Type 0} (f : A → B) (l : List A) (k : ℕ) → map f (remove_at k l) ≡ remove_at k (map f l)
map_remove f [] zero = refl
map_remove f (x ∷ xs) zero = refl
map_remove f [] (suc k) = refl
map_remove f (x ∷ xs) (suc k) = ap (λ r. f x ∷ r) (map_remove f xs k)
