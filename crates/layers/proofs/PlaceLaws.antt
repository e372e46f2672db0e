-- A place put in among others. Assumes nothing.
use Rattle.std.specs.Prelude.{Option, Some, None}
use Rattle.std.specs.declared.cmp.Ordering.{Ordering}
use Rattle.std.specs.declared.cmp.Ordering.TheVariants.{Less, Equal, Greater}
use mathlib.Core.Path.{◌≡◌, refl, sym, ap, ◌∙◌}
use Prim.Native.Nat.{ℕ, suc, ◌+◌, ◌-◌, ◌≤◌, ◌<◌}
use native.Mathlib.Omega.{arith}
use native.Mathlib.Numerals.{add-one}
use mathlib.Core.List.{List, [], ◌∷◌, ◌++◌, append_assoc}
use mathlib.Core.Bool.{Bool, true, false, cond}
use lib.Dec.{leb, ltb}
use borrow.Author.Tests.{eq-eqb, ne_eqb, le-leb, lt-leb, lt-ltb, le-ltb, leb-false, ltb-false}
use lib.ListN.{length, take, drop, get_or, set, length-append, length-take, length-drop, take-append-drop, get_or-append}
use Rattle.layers.proofs.Runs.{drop_take}
use lib.Seq.{take-take, take-suc, drop-cons, append_snoc, set_at, take_at, get_or-take, length-take-le}
use Rattle.layers.specs.Bytes.{part}
use Rattle.layers.specs.Order.{inserted, put_in, insert_step, insert_by, spot_step, spot_from}
use Rattle.layers.specs.Names.{Name, order_of}

set_head : (p x : List ℕ) (k a : ℕ) → k < length p → set (take (suc k) p ++ x) k a ≡ take k p ++ a ∷ x
set_head p x k a h = rw (take-suc p k 0 h, append_snoc (take k p) (get_or p k 0) x) (set_at (take k p) (get_or p k 0) x a k (length-take-le k p (omega arith)))

part_cons : (p : List ℕ) (h n : ℕ) → h < n → n ≤ length p → part p h (n - h) ≡ get_or p h 0 ∷ part p (suc h) (n - suc h)
part_cons p h n l m = let e : n - h ≡ suc (n - suc h) = omega arith in rw (e, drop-cons p h 0 (omega arith)) refl

-- `p` where the places from `k` to `n` are moved down by one
abbrev pub moved : List ℕ → ℕ → ℕ → List ℕ
moved p n k = take (suc k) p ++ (part p k (n - k) ++ drop (suc n) p)

pub move_start : (p : List ℕ) (n : ℕ) → p ≡ moved p n n
move_start p n = let e : n - n ≡ 0 = omega arith in rw e (sym (take-append-drop (suc n) p))

pub move_end : (u p : List ℕ) (n i k q : ℕ) → u ≡ moved p n k → i ≤ k → k ≤ i → k ≤ n → length p ≡ 512 → n < 512 → set u i q ≡ put_in p n i q
unfolding put_in
move_end u p n i k q e g h m o l =
    let s : k ≡ i = omega arith in
    rw (e, s, eq-eqb (length p) 512 o, lt-leb 512 n l, le-ltb n i (omega arith)) (set_head p (part p i (n - i) ++ drop (suc n) p) i q (omega arith))

pub no_places : (p : List ℕ) (n i q : ℕ) → (length p ≡ 512 → ⊥) → p ≡ put_in p n i q
unfolding put_in
no_places p n i q h = rw (ne_eqb (length p) 512 h) refl

pub no_room : (p : List ℕ) (n i q : ℕ) → length p ≡ 512 → 512 ≤ n → p ≡ put_in p n i q
unfolding put_in
no_room p n i q l h = rw (eq-eqb (length p) 512 l, le-leb 512 n h) refl

pub no_place_lem : (p : List ℕ) (n i q : ℕ) → length p ≡ 512 → n < 512 → n < i → p ≡ put_in p n i q
unfolding put_in
no_place_lem p n i q l m h = rw (eq-eqb (length p) 512 l, lt-leb 512 n m, lt-ltb n i h) refl

pub length_put_in : (p : List ℕ) (n i q : ℕ) → length p ≡ 512 → length (put_in p n i q) ≡ 512
unfolding put_in
length_put_in p n i q l = rw (eq-eqb (length p) 512 l) (go (leb 512 n) refl (ltb n i) refl)
  where
    go : (a : Bool) → leb 512 n ≡ a → (b : Bool) → ltb n i ≡ b → length (cond a p (cond b p (inserted p n i q))) ≡ 512
    go true x b y = l
    go false x true y = l
    go false x false y =
        let h : n < 512 = leb-false 512 n x in
        let k : i ≤ n = ltb-false n i y in
        simp (length-append, length-take, length-drop) (omega arith)

pub move_step : (u p : List ℕ) (n k : ℕ) → u ≡ moved p n (k + 1) → k < n → length p ≡ 512 → n < 512 → set u (k + 1) (get_or u k 0) ≡ moved p n k
move_step u p n h e m o l =
    let s : u ≡ moved p n (suc h) = rw (add-one h) at e in
    let y : get_or u h 0 ≡ get_or p h 0 = rw s (get_or-append (take (suc (suc h)) p) (part p (suc h) (n - suc h) ++ drop (suc n) p) 0 h (simp length-take (omega arith)) ∙ get_or-take (suc (suc h)) p h 0 (omega arith)) in
    rw (add-one h, y, s)
    (set_head p (part p (suc h) (n - suc h) ++ drop (suc n) p) (suc h) (get_or p h 0) (omega arith)
    ∙ ap (λ (z : List ℕ). take (suc h) p ++ (z ++ drop (suc n) p)) (sym (part_cons p h n (omega arith) (omega arith))))

-- ---- a place put in where its name belongs

pub spot_inserts : {A : Type 0} (f : A → Name) (q : A) (k : ℕ) (ys : List A) (m : ℕ) → spot_from f k (f q) ys ≡ Some m → (i : ℕ) × (m ≡ k + i) × (i ≤ length ys) × (insert_by f q ys ≡ take i ys ++ q ∷ drop i ys)
unfolding spot_from insert_by spot_step insert_step
spot_inserts f q k [] m h = (0, let z : m ≡ k = cc in omega arith, omega arith, refl)
spot_inserts {A} f q k (y ∷ ys) m h = go (order_of (f q) (f y)) h (spot_inserts f q (suc k) ys m)
  where
    go : (o : Ordering) → spot_step o k (spot_from f (suc k) (f q) ys) ≡ Some m
        → (spot_from f (suc k) (f q) ys ≡ Some m → (i : ℕ) × (m ≡ suc k + i) × (i ≤ length ys) × (insert_by f q ys ≡ take i ys ++ q ∷ drop i ys))
        → (i : ℕ) × (m ≡ k + i) × (i ≤ length (y ∷ ys)) × (insert_step o q y ys (insert_by f q ys) ≡ take i (y ∷ ys) ++ q ∷ drop i (y ∷ ys))
    go Less h ih = (0, let z : m ≡ k = cc in omega arith, omega arith, refl)
    go Equal h ih = absurd (let z : ◌≡◌ {A = ℕ} 0 1 = cc in omega arith)
    go Greater h ih = let t : (i : ℕ) × (m ≡ suc k + i) × (i ≤ length ys) × (insert_by f q ys ≡ take i ys ++ q ∷ drop i ys) = ih h in
        (suc t.0, let z : m ≡ suc k + t.0 = t.1 in omega arith, let z : t.0 ≤ length ys = t.2 in omega arith, ap (λ (l : List A). y ∷ l) t.3)

pub taken_stays : {A : Type 0} (f : A → Name) (q : A) (k : ℕ) (ys : List A) → spot_from f k (f q) ys ≡ None → ys ≡ insert_by f q ys
unfolding spot_from insert_by spot_step insert_step
taken_stays f q k [] h = absurd (let z : ◌≡◌ {A = ℕ} 0 1 = cc in omega arith)
taken_stays {A} f q k (y ∷ ys) h = go (order_of (f q) (f y)) h (taken_stays f q (suc k) ys)
  where
    go : (o : Ordering) → spot_step o k (spot_from f (suc k) (f q) ys) ≡ None → (spot_from f (suc k) (f q) ys ≡ None → ys ≡ insert_by f q ys) → y ∷ ys ≡ insert_step o q y ys (insert_by f q ys)
    go Less h ih = absurd (let z : ◌≡◌ {A = ℕ} 0 1 = cc in omega arith)
    go Equal h ih = refl
    go Greater h ih = ap (λ (l : List A). y ∷ l) (ih h)

inserted_front : (p : List ℕ) (n i q : ℕ) → i ≤ n → n < length p → take (suc n) (inserted p n i q) ≡ take i (take n p) ++ q ∷ drop i (take n p)
inserted_front p n i q h l =
    let e : n ≡ i + (n - i) = omega arith in
    let d : drop i (take n p) ≡ part p i (n - i) = ap (λ (m : ℕ). drop i (take m p)) e ∙ drop_take p i (n - i) (omega arith) in
    rw (take-take i n p h, d, ← append_assoc (take i p) (q ∷ part p i (n - i)) (drop (suc n) p))
    (take_at (take i p ++ q ∷ part p i (n - i)) (drop (suc n) p) (suc n) (simp (length-append, length-take, length-drop) (omega arith)))

module _ (f : ℕ → Name) (p : List ℕ) (n : ℕ) (q : ℕ) (x : Name) (x_is : x ≡ f q) (s : Option ℕ) (s_is : s ≡ spot_from f 0 x (take n p)) where
  spot_of_q : spot_from f 0 (f q) (take n p) ≡ s
  spot_of_q = rw (← x_is) (sym s_is)

  pub insert_taken : s ≡ None → take n p ≡ insert_by f q (take n p)
  insert_taken h = taken_stays f q 0 (take n p) (spot_of_q ∙ h)

  module _ (i : ℕ) (h : s ≡ Some i) (l : length p ≡ 512) (b : n < 512) where
    pub insert_below : i ≤ n
    insert_below =
        let t : (j : ℕ) × (i ≡ 0 + j) × (j ≤ length (take n p)) × (insert_by f q (take n p) ≡ take j (take n p) ++ q ∷ drop j (take n p)) = spot_inserts f q 0 (take n p) i (spot_of_q ∙ h) in
        let a : i ≡ 0 + t.0 = t.1 in
        let c : t.0 ≤ length (take n p) = t.2 in
        let m : length (take n p) ≡ n = length-take-le n p (omega arith) in
        omega arith

    put_at : put_in p n i q ≡ inserted p n i q
    unfolding put_in
    put_at = rw (eq-eqb (length p) 512 l, lt-leb 512 n b, le-ltb n i insert_below) refl

    pub insert_free : (u : List ℕ) → u ≡ put_in p n i q → take (n + 1) u ≡ insert_by f q (take n p)
    insert_free u w =
        let e : u ≡ inserted p n i q = w ∙ put_at in
        let t : (j : ℕ) × (i ≡ 0 + j) × (j ≤ length (take n p)) × (insert_by f q (take n p) ≡ take j (take n p) ++ q ∷ drop j (take n p)) = spot_inserts f q 0 (take n p) i (spot_of_q ∙ h) in
        let a : i ≡ t.0 = (let z : i ≡ 0 + t.0 = t.1 in omega arith) in
        rw (add-one n, e) (inserted_front p n i q insert_below (omega arith) ∙ (ap (λ (j : ℕ). take j (take n p) ++ q ∷ drop j (take n p)) a ∙ sym t.3))
