-- Lists in byte order of names: one more put in, and the search by halving. Assumes nothing.
use Rattle.std.specs.Prelude.{Option, Some, None, Result, Ok, Err}
use Rattle.std.specs.Ordering.{ordering_index}
use Rattle.std.specs.Result.{result_err}
use Rattle.std.specs.List.Sorted.{IsSearchInRange, IsPartitionPoint, IsBinarySearchResult}
use Rattle.std.specs.declared.cmp.Ordering.{Ordering}
use Rattle.std.specs.declared.cmp.Ordering.TheVariants.{Less, Equal, Greater}
use mathlib.Core.Path.{◌≡◌, refl, sym, ap, ◌∙◌, subst}
use Prim.Native.Nat.{ℕ, zero, suc, ◌+◌, ◌-◌, ◌/◌, ◌≤◌, ◌<◌}
use native.Mathlib.Omega.{arith}
use native.Mathlib.Nat.{add-zero, zero-add, sub-zero}
use native.Mathlib.Numerals.{add-one}
use mathlib.Core.List.{List, [], ◌∷◌, ◌++◌}
use lib.ListN.{length, take, drop, get_or, length-take, length-drop}
use lib.Seq.{drop-cons, take-add, drop-drop}
use Rattle.layers.specs.Bytes.{part}
use Rattle.layers.specs.Names.{Name, order_of}
use Rattle.layers.specs.Order.{insert_step, insert_by, spot_step, spot_from}
use Rattle.layers.specs.Sorted.{Below, Sorted}
use Rattle.layers.proofs.OrderLaws.{before_trans, after_before, before_after, same_one, same_self}

-- ---- lists

module _ {A : Type 0} (f : A → Name) where
  below_down : (x y : Name) (ys : List A) → order_of x y ≡ Less → Below f y ys → Below f x ys
  below_down x y [] h b = tt
  below_down x y (z ∷ ys) h b = (before_trans x y (f z) h b.0, below_down x y ys h b.1)

  below_insert : (x : Name) (q : A) (ys : List A) → order_of x (f q) ≡ Less → Below f x ys → Below f x (insert_by f q ys)
  unfolding insert_by insert_step
  below_insert x q [] h b = (h, tt)
  below_insert x q (y ∷ ys) h b = go (order_of (f q) (f y)) (below_insert x q ys h b.1)
    where
      go : (o : Ordering) → Below f x (insert_by f q ys) → Below f x (insert_step o q y ys (insert_by f q ys))
      go Less ih = (h, b)
      go Equal ih = b
      go Greater ih = (b.0, ih)

  pub insert_sorted : (q : A) (ys : List A) → Sorted f ys → Sorted f (insert_by f q ys)
  unfolding insert_by insert_step
  insert_sorted q [] s = (tt, tt)
  insert_sorted q (y ∷ ys) s = go (order_of (f q) (f y)) refl (insert_sorted q ys s.1)
    where
      go : (o : Ordering) → order_of (f q) (f y) ≡ o → Sorted f (insert_by f q ys) → Sorted f (insert_step o q y ys (insert_by f q ys))
      go Less e ih = ((e, below_down (f q) (f y) ys e s.0), s)
      go Equal e ih = s
      go Greater e ih = (below_insert (f y) q ys (after_before (f q) (f y) e) s.0, ih)

  -- every item comes before the name
  abbrev Under : Name → List A → Type 0
  Under x [] = Unit {0}
  Under x (y ∷ ys) = (order_of (f y) x ≡ Less) × Under x ys

  under_up : (x y : Name) (ws : List A) → order_of x y ≡ Less → Under x ws → Under y ws
  under_up x y [] h u = tt
  under_up x y (a ∷ ws) h u = (before_trans (f a) x y u.0 h, under_up x y ws h u.1)

  below_at : (x : Name) (ws : List A) (y : A) (bs : List A) → Below f x (ws ++ y ∷ bs) → order_of x (f y) ≡ Less
  below_at x [] y bs b = b.0
  below_at x (a ∷ ws) y bs b = below_at x ws y bs b.1

  below_left : (x : Name) (ws bs : List A) → Below f x (ws ++ bs) → Below f x ws
  below_left x [] bs b = tt
  below_left x (a ∷ ws) bs b = (b.0, below_left x ws bs b.1)

  sorted_under : (ws : List A) (y : A) (bs : List A) → Sorted f (ws ++ y ∷ bs) → Under (f y) ws
  sorted_under [] y bs s = tt
  sorted_under (a ∷ ws) y bs s = (below_at (f a) ws y bs s.0, sorted_under ws y bs s.1)

  sorted_left : (ws bs : List A) → Sorted f (ws ++ bs) → Sorted f ws
  sorted_left [] bs s = tt
  sorted_left (a ∷ ws) bs s = (below_left (f a) ws bs s.0, sorted_left ws bs s.1)

  sorted_right : (ws : List A) (y : A) (bs : List A) → Sorted f (ws ++ y ∷ bs) → Sorted f bs
  sorted_right [] y bs s = s.1
  sorted_right (a ∷ ws) y bs s = sorted_right ws y bs s.1

  module _ (x : Name) (y : A) (bs : List A) where
    -- what stands after an item that comes after the name is not looked at
    cut : (k : ℕ) (ws : List A) → order_of x (f y) ≡ Less → spot_from f k x (ws ++ y ∷ bs) ≡ spot_from f k x ws
    unfolding spot_from spot_step
    cut k [] h = rw h refl
    cut k (a ∷ ws) h = ap (spot_step (order_of x (f a)) k) (cut (suc k) ws h)

    -- what comes before the name is walked over
    skip : (k : ℕ) (ws : List A) → Under x ws → spot_from f k x (ws ++ y ∷ bs) ≡ spot_from f (k + length ws) x (y ∷ bs)
    unfolding spot_from spot_step
    skip k [] u = rw (add-zero k) refl
    skip k (a ∷ ws) u = let e : suc k + length ws ≡ k + suc (length ws) = omega arith in rw (before_after (f a) x u.0, ← e) (skip (suc k) ws u.1)

    after : (k : ℕ) (ws : List A) → Sorted f (ws ++ y ∷ bs) → order_of x (f y) ≡ Greater → spot_from f k x (ws ++ y ∷ bs) ≡ spot_from f (suc (k + length ws)) x bs
    unfolding spot_from spot_step
    after k ws s h = skip k ws (under_up (f y) x ws (after_before x (f y) h) (sorted_under ws y bs s)) ∙ rw h refl

    same : (k : ℕ) (ws : List A) → Sorted f (ws ++ y ∷ bs) → order_of x (f y) ≡ Equal → spot_from f k x (ws ++ y ∷ bs) ≡ None
    unfolding spot_from spot_step
    same k ws s h = skip k ws (subst (λ (n : Name). Under n ws) (sym (same_one x (f y) h)) (sorted_under ws y bs s)) ∙ rw h refl

-- ---- what `binary_search_by` answers
module _ {A : Type 0} (f : A → Name) (x : Name) where
  below_each : (d : A) (y : Name) (ys : List A) (j : ℕ) → Below f y ys → j < length ys → order_of y (f (get_or ys j d)) ≡ Less
  below_each d y [] j b h = absurd (omega arith)
  below_each d y (z ∷ ys) zero b h = b.0
  below_each d y (z ∷ ys) (suc j) b h = below_each d y ys j b.1 (omega arith)

  -- of two names the earlier compares no later with the third
  index_up : (a b : Name) → order_of a b ≡ Less → ordering_index (order_of a x) ≤ ordering_index (order_of b x)
  index_up a b h = go (order_of b x) refl
    where
      most : (o : Ordering) → ordering_index o ≤ 2
      most Less = omega arith
      most Equal = omega arith
      most Greater = omega arith

      go : (o : Ordering) → order_of b x ≡ o → ordering_index (order_of a x) ≤ ordering_index o
      go Less e = rw (before_trans a b x h e) (omega arith)
      go Equal e = rw (rw (same_one b x e) at h) (omega arith)
      go Greater e = most (order_of a x)

  rises : (d : A) (ys : List A) → Sorted f ys → (i j : ℕ) → i ≤ j → j < length ys → ordering_index (order_of (f (get_or ys i d)) x) ≤ ordering_index (order_of (f (get_or ys j d)) x)
  rises d [] s i j l h = absurd (omega arith)
  rises d (y ∷ ys) s zero zero l h = omega arith
  rises d (y ∷ ys) s zero (suc j) l h = index_up (f y) (f (get_or ys j d)) (below_each d (f y) ys j s.0 (omega arith))
  rises d (y ∷ ys) s (suc i) zero l h = absurd (omega arith)
  rises d (y ∷ ys) s (suc i) (suc j) l h = rises d ys s.1 i j (omega arith) (omega arith)

  met : (d : A) (ys : List A) (k i : ℕ) → Sorted f ys → i < length ys → order_of (f (get_or ys i d)) x ≡ Equal → spot_from f k x ys ≡ None
  unfolding spot_from spot_step
  met d [] k i s h e = absurd (omega arith)
  met d (y ∷ ys) k zero s h e = rw (same_one (f y) x e, same_self x) refl
  met d (y ∷ ys) k (suc i) s h e =
      let b : order_of (f y) x ≡ Less = rw (same_one (f (get_or ys i d)) x e) at (below_each d (f y) ys i s.0 (omega arith)) in
      rw (before_after (f y) x b) (met d ys (suc k) i s.1 (omega arith) e)

  between : (d : A) (ys : List A) (k i : ℕ) → i ≤ length ys → ((j : ℕ) → j < i → order_of (f (get_or ys j d)) x ≡ Less) → (i < length ys → order_of (f (get_or ys i d)) x ≡ Greater) → spot_from f k x ys ≡ Some (k + i)
  unfolding spot_from spot_step
  between d [] k zero h l g = rw (add-zero k) refl
  between d [] k (suc i) h l g = absurd (omega arith)
  between d (y ∷ ys) k zero h l g = rw (after_before (f y) x (g (omega arith)), add-zero k) refl
  between d (y ∷ ys) k (suc i) h l g =
      let e : suc k + i ≡ k + suc i = omega arith in
      rw (before_after (f y) x (l 0 (omega arith)), ← e) (between d ys (suc k) i (omega arith) (λ j m. l (suc j) (omega arith)) (λ m. g (omega arith)))

  pub searched_spot : (d : A) (ys : List A) (r : Result ℕ ℕ) → Sorted f ys → IsSearchInRange r (length ys) → IsBinarySearchResult (λ y. order_of (f y) x) ys r → result_err r ≡ spot_from f 0 x ys
  searched_spot d ys (Ok i) s l h = sym (met d ys 0 i s l (h d))
  searched_spot d ys (Err i) s l h =
      let w : IsPartitionPoint (λ y. order_of (f y) x ≡ Less) (λ y. order_of (f y) x ≡ Greater) ys i = h (λ a b c m n. rises c ys s a b m n) in
      sym (between d ys 0 i l (λ j m. w.0 j d (omega arith) m) (λ m. w.1 i d (omega arith) m) ∙ ap Some (zero-add i))

-- ---- the search by halving

split_part : (p : List ℕ) (lo mid hi : ℕ) → lo ≤ mid → mid < hi → hi ≤ length p → part p lo (hi - lo) ≡ part p lo (mid - lo) ++ get_or p mid 0 ∷ part p (mid + 1) (hi - (mid + 1))
split_part p lo mid hi a b c =
    let e : hi - lo ≡ (mid - lo) + suc (hi - suc mid) = omega arith in
    let d : lo + (mid - lo) ≡ mid = omega arith in
    rw (e, take-add (mid - lo) (suc (hi - suc mid)) (drop lo p), drop-drop (mid - lo) lo p, d, drop-cons p mid 0 (omega arith), add-one mid) refl

-- what is left between `lo` and `hi` answers as the whole does
pub record Halved (f : ℕ → Name) (p : List ℕ) (x : Name) (s : Option ℕ) (lo hi : ℕ) : Type 0 where
  pub sorted : Sorted f (part p lo (hi - lo))
  pub answers : spot_from f lo x (part p lo (hi - lo)) ≡ s

pub halved_start : (f : ℕ → Name) (p : List ℕ) (x : Name) (n : ℕ) → Sorted f (take n p) → Halved f p x (spot_from f 0 x (take n p)) 0 n
halved_start f p x n s = record { sorted = rw (sub-zero n) s; answers = rw (sub-zero n) refl }

pub halved_end : (f : ℕ → Name) (p : List ℕ) (x : Name) (s : Option ℕ) (lo hi : ℕ) → Halved f p x s lo hi → hi ≤ lo → Some lo ≡ s
unfolding spot_from
halved_end f p x s lo hi h l = let e : hi - lo ≡ 0 = omega arith in sym (rw e refl) ∙ h.answers

module _ (f : ℕ → Name) (p : List ℕ) (x : Name) (s : Option ℕ) (lo hi mid : ℕ) (h : Halved f p x s lo hi) (b : hi ≤ length p) (lt : lo < hi) (mid_is : mid ≡ lo + (hi - lo) / 2) (y : Name) (y_is : y ≡ f (get_or p mid 0)) (o : Ordering) (o_is : o ≡ order_of x y) where
  abbrev ls : List ℕ
  ls = part p lo (mid - lo)

  abbrev rs : List ℕ
  rs = part p (mid + 1) (hi - (mid + 1))

  cut_here : part p lo (hi - lo) ≡ ls ++ get_or p mid 0 ∷ rs
  cut_here = split_part p lo mid hi (omega arith) (omega arith) (omega arith)

  order_here : (k : Ordering) → o ≡ k → order_of x (f (get_or p mid 0)) ≡ k
  order_here k e = rw (← y_is, ← o_is) e

  ordered : Sorted f (ls ++ get_or p mid 0 ∷ rs)
  ordered = subst (λ (l : List ℕ). Sorted f l) cut_here h.sorted

  answer : spot_from f lo x (ls ++ get_or p mid 0 ∷ rs) ≡ s
  answer = rw (← cut_here) h.answers

  pub halved_before : o ≡ Less → Halved f p x s lo mid
  halved_before e = record { sorted = sorted_left f ls (get_or p mid 0 ∷ rs) ordered; answers = sym (cut f x (get_or p mid 0) rs lo ls (order_here Less e)) ∙ answer }

  pub halved_same : o ≡ Equal → None ≡ s
  halved_same e = sym (same f x (get_or p mid 0) rs lo ls ordered (order_here Equal e)) ∙ answer

  pub halved_after : o ≡ Greater → Halved f p x s (mid + 1) hi
  halved_after e =
      let m : length ls ≡ mid - lo = simp (length-take, length-drop) (omega arith) in
      let k : suc (lo + length ls) ≡ mid + 1 = omega arith in
      record { sorted = sorted_right f ls (get_or p mid 0) rs ordered; answers = sym (after f x (get_or p mid 0) rs lo ls ordered (order_here Greater e) ∙ ap (λ (i : ℕ). spot_from f i x rs) k) ∙ answer }
