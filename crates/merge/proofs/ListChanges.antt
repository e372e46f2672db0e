-- A list with one item put in, taken out or changed: the order, the first that passes a test, and those that do. Assumes nothing.
use Rattle.std.specs.Prelude.{Option, Some, None, is_some}
use Rattle.std.specs.declared.cmp.Ordering.{Ordering}
use Rattle.std.specs.declared.cmp.Ordering.TheVariants.{Less, Equal, Greater}
use mathlib.Core.Path.{◌≡◌, refl, sym, ap, ◌∙◌, subst}
use Prim.Native.Nat.{ℕ, zero, suc, ◌+◌, ◌≤◌, ◌<◌}
use native.Mathlib.Omega.{arith}
use native.Mathlib.Nat.{add-zero, add-suc, suc-add}
use mathlib.Core.Bool.{Bool, true, false, cond}
use mathlib.Core.List.{List, [], ◌∷◌}
use lib.Dec.{ltb}
use lib.ListN.{length, take, get_or, set}
use borrow.Author.Tests.{lt-ltb, le-ltb, ltb-true, ltb-false}
use Rattle.layers.specs.Names.{Name, order_of}
use Rattle.layers.specs.Search.{first_from}
use Rattle.layers.specs.Order.{insert_by, insert_step}
use Rattle.layers.specs.Sorted.{Below, Sorted}
use Rattle.layers.proofs.OrderLaws.{before_trans, same_one, same_self}
use Rattle.layers.proofs.PieceMoves.{insert_at, remove_at}
use Rattle.merge.specs.State.{those}

-- ---- one put in where one was taken out

pub put_back : {A : Type 0} (d : A) (k : ℕ) (xs : List A) → k < length xs → insert_at k (get_or xs k d) (remove_at k xs) ≡ xs
put_back d k [] h = absurd (omega arith)
put_back d zero (x ∷ xs) h = refl
put_back {A} d (suc k) (x ∷ xs) h = ap (λ (l : List A). x ∷ l) (put_back d k xs (omega arith))

pub length_insert : {A : Type 0} (k : ℕ) (a : A) (xs : List A) → length (insert_at k a xs) ≡ suc (length xs)
length_insert zero a xs = refl
length_insert (suc k) a [] = refl
length_insert (suc k) a (x ∷ xs) = ap suc (length_insert k a xs)

pub length_remove : {A : Type 0} (k : ℕ) (xs : List A) → k < length xs → suc (length (remove_at k xs)) ≡ length xs
length_remove k [] h = absurd (omega arith)
length_remove zero (x ∷ xs) h = refl
length_remove (suc k) (x ∷ xs) h = ap suc (length_remove k xs (omega arith))

-- the place of an item after one was put in at `m`
unfoldable pub shifted : ℕ → ℕ → ℕ
shifted m j = cond (ltb j m) j (suc j)

shifted_suc : (m j : ℕ) → shifted (suc m) (suc j) ≡ suc (shifted m j)
unfolding shifted
shifted_suc m j = go (ltb j m) refl
  where
    go : (b : Bool) → ltb j m ≡ b → cond (ltb (suc j) (suc m)) (suc j) (suc (suc j)) ≡ suc (cond b j (suc j))
    go true e = rw (lt-ltb (suc j) (suc m) (let h : j < m = ltb-true j m e in omega arith)) refl
    go false e = rw (le-ltb (suc j) (suc m) (let h : m ≤ j = ltb-false j m e in omega arith)) refl

pub at_inserted : {A : Type 0} (d : A) (m : ℕ) (a : A) (xs : List A) → m ≤ length xs → get_or (insert_at m a xs) m d ≡ a
at_inserted d zero a xs h = refl
at_inserted d (suc m) a [] h = absurd (omega arith)
at_inserted d (suc m) a (x ∷ xs) h = at_inserted d m a xs (omega arith)

pub at_shifted : {A : Type 0} (d : A) (m : ℕ) (a : A) (xs : List A) (j : ℕ) → m ≤ length xs → get_or (insert_at m a xs) (shifted m j) d ≡ get_or xs j d
unfolding shifted
at_shifted d zero a xs j h = rw (le-ltb j 0 (omega arith)) refl
at_shifted d (suc m) a [] j h = absurd (omega arith)
at_shifted d (suc m) a (x ∷ xs) zero h = rw (lt-ltb 0 (suc m) (omega arith)) refl
at_shifted d (suc m) a (x ∷ xs) (suc j) h = ap (λ (i : ℕ). get_or (x ∷ insert_at m a xs) i d) (shifted_suc m j) ∙ at_shifted d m a xs j (omega arith)

unfoldable pub found_shifted : ℕ → Option ℕ → Option ℕ
found_shifted m (Some j) = Some (shifted m j)
found_shifted m None = None

pub is_found_shifted : (m : ℕ) (f : Option ℕ) → is_some (found_shifted m f) ≡ is_some f
unfolding found_shifted
is_found_shifted m (Some j) = refl
is_found_shifted m None = refl

-- ---- the first that passes a test

module _ {A : Type 0} (p : A → Bool) where
  -- the test is passed by the changed item as it was by the old one
  pub first_set_same : (d : A) (s : ℕ) (xs : List A) (k : ℕ) (a : A) → p a ≡ p (get_or xs k d) → first_from p s (set xs k a) ≡ first_from p s xs
  unfolding first_from
  first_set_same d s [] k a e = refl
  first_set_same d s (x ∷ xs) zero a e = rw e refl
  first_set_same d s (x ∷ xs) (suc k) a e = ap (λ (r : Option ℕ). cond (p x) (Some s) r) (first_set_same d (suc s) xs k a e)

  first_later : (m s : ℕ) (xs : List A) → m ≤ s → first_from p (suc s) xs ≡ found_shifted m (first_from p s xs)
  unfolding first_from found_shifted shifted
  first_later m s [] h = refl
  first_later m s (x ∷ xs) h = go (p x) (first_later m (suc s) xs (omega arith))
    where
      go : (b : Bool) → first_from p (suc (suc s)) xs ≡ found_shifted m (first_from p (suc s) xs) → cond b (Some (suc s)) (first_from p (suc (suc s)) xs) ≡ found_shifted m (cond b (Some s) (first_from p (suc s) xs))
      go true ih = rw (le-ltb s m h) refl
      go false ih = ih

  -- one put in that does not pass
  pub first_insert_other : (s m : ℕ) (a : A) (xs : List A) → p a ≡ false → m ≤ length xs → first_from p s (insert_at m a xs) ≡ found_shifted (s + m) (first_from p s xs)
  unfolding first_from found_shifted shifted
  first_insert_other s zero a xs e h = rw e (first_later (s + 0) s xs (omega arith))
  first_insert_other s (suc m) a [] e h = absurd (omega arith)
  first_insert_other s (suc m) a (x ∷ xs) e h = go (p x) (first_insert_other (suc s) m a xs e (omega arith))
    where
      go : (b : Bool) → first_from p (suc s) (insert_at m a xs) ≡ found_shifted (suc s + m) (first_from p (suc s) xs)
          → cond b (Some s) (first_from p (suc s) (insert_at m a xs)) ≡ found_shifted (s + suc m) (cond b (Some s) (first_from p (suc s) xs))
      go true ih = rw (lt-ltb s (s + suc m) (omega arith)) refl
      go false ih = ih ∙ ap (λ (i : ℕ). found_shifted i (first_from p (suc s) xs)) (suc-add s m ∙ sym (add-suc s m))

  -- one put in that passes, where none did
  pub first_insert_new : (s m : ℕ) (a : A) (xs : List A) → p a ≡ true → m ≤ length xs → first_from p s xs ≡ None → first_from p s (insert_at m a xs) ≡ Some (s + m)
  unfolding first_from
  first_insert_new s zero a xs e h n = rw (e, add-zero s) refl
  first_insert_new s (suc m) a [] e h n = absurd (omega arith)
  first_insert_new s (suc m) a (x ∷ xs) e h n = go (p x) n (first_insert_new (suc s) m a xs e (omega arith))
    where
      go : (b : Bool) → cond b (Some s) (first_from p (suc s) xs) ≡ None → (first_from p (suc s) xs ≡ None → first_from p (suc s) (insert_at m a xs) ≡ Some (suc s + m)) → cond b (Some s) (first_from p (suc s) (insert_at m a xs)) ≡ Some (s + suc m)
      go true n ih = absurd (let z : ◌≡◌ {A = ℕ} 0 1 = cc in omega arith)
      go false n ih = ih n ∙ ap Some (suc-add s m ∙ sym (add-suc s m))

  pub found_insert : (s m : ℕ) (a : A) (xs : List A) → p a ≡ true → is_some (first_from p s (insert_at m a xs)) ≡ true
  unfolding first_from
  found_insert s zero a xs e = rw e refl
  found_insert s (suc m) a [] e = rw e refl
  found_insert s (suc m) a (x ∷ xs) e = go (p x) (found_insert (suc s) m a xs e)
    where
      go : (b : Bool) → is_some (first_from p (suc s) (insert_at m a xs)) ≡ true → is_some (cond b (Some s) (first_from p (suc s) (insert_at m a xs))) ≡ true
      go true ih = refl
      go false ih = ih

  -- one taken out that does not pass: what was found is what is found now, one place down where it stood after it
  pub first_remove_other : (d : A) (s k : ℕ) (xs : List A) → k < length xs → p (get_or xs k d) ≡ false → first_from p s xs ≡ found_shifted (s + k) (first_from p s (remove_at k xs))
  first_remove_other d s k xs h e =
      ap (first_from p s) (sym (put_back d k xs h)) ∙ first_insert_other s k (get_or xs k d) (remove_at k xs) e (let l : suc (length (remove_at k xs)) ≡ length xs = length_remove k xs h in omega arith)

  -- ---- those that pass

  pub those_set_other : (d : A) (xs : List A) (k : ℕ) (a : A) → p a ≡ false → p (get_or xs k d) ≡ false → those p (set xs k a) ≡ those p xs
  unfolding those
  those_set_other d [] k a n m = refl
  those_set_other d (x ∷ xs) zero a n m = rw (n, m) refl
  those_set_other d (x ∷ xs) (suc k) a n m = ap (λ (r : List A). cond (p x) (x ∷ r) r) (those_set_other d xs k a n m)

  -- a changed item stays where it was among those
  pub those_set_same : (d : A) (xs : List A) (k : ℕ) (a : A) → k < length xs → p a ≡ true → p (get_or xs k d) ≡ true → those p (set xs k a) ≡ set (those p xs) (length (those p (take k xs))) a
  unfolding those
  those_set_same d [] k a l n m = absurd (omega arith)
  those_set_same d (x ∷ xs) zero a l n m = rw (n, m) refl
  those_set_same d (x ∷ xs) (suc k) a l n m = go (p x) (those_set_same d xs k a (omega arith) n m)
    where
      go : (b : Bool) → those p (set xs k a) ≡ set (those p xs) (length (those p (take k xs))) a
          → cond b (x ∷ those p (set xs k a)) (those p (set xs k a)) ≡ set (cond b (x ∷ those p xs) (those p xs)) (length (cond b (x ∷ those p (take k xs)) (those p (take k xs)))) a
      go true ih = ap (λ (r : List A). x ∷ r) ih
      go false ih = ih

  pub those_insert_other : (k : ℕ) (a : A) (xs : List A) → p a ≡ false → those p (insert_at k a xs) ≡ those p xs
  unfolding those
  those_insert_other zero a xs h = rw h refl
  those_insert_other (suc k) a [] h = rw h refl
  those_insert_other (suc k) a (x ∷ xs) h = ap (λ (r : List A). cond (p x) (x ∷ r) r) (those_insert_other k a xs h)

  pub those_insert_at : (k : ℕ) (a : A) (xs : List A) → p a ≡ true → those p (insert_at k a xs) ≡ insert_at (length (those p (take k xs))) a (those p xs)
  unfolding those
  those_insert_at zero a xs h = rw h refl
  those_insert_at (suc k) a [] h = rw h refl
  those_insert_at (suc k) a (x ∷ xs) h = go (p x) (those_insert_at k a xs h)
    where
      go : (b : Bool) → those p (insert_at k a xs) ≡ insert_at (length (those p (take k xs))) a (those p xs)
          → cond b (x ∷ those p (insert_at k a xs)) (those p (insert_at k a xs)) ≡ insert_at (length (cond b (x ∷ those p (take k xs)) (those p (take k xs)))) a (cond b (x ∷ those p xs) (those p xs))
      go true ih = ap (λ (r : List A). x ∷ r) ih
      go false ih = ih

  pub those_remove_other : (d : A) (k : ℕ) (xs : List A) → p (get_or xs k d) ≡ false → those p (remove_at k xs) ≡ those p xs
  unfolding those
  those_remove_other d zero [] h = refl
  those_remove_other d (suc k) [] h = refl
  those_remove_other d zero (x ∷ xs) h = rw h refl
  those_remove_other d (suc k) (x ∷ xs) h = ap (λ (r : List A). cond (p x) (x ∷ r) r) (those_remove_other d k xs h)

  pub those_remove_at : (d : A) (k : ℕ) (xs : List A) → k < length xs → p (get_or xs k d) ≡ true → those p (remove_at k xs) ≡ remove_at (length (those p (take k xs))) (those p xs)
  unfolding those
  those_remove_at d k [] l h = absurd (omega arith)
  those_remove_at d zero (x ∷ xs) l h = rw h refl
  those_remove_at d (suc k) (x ∷ xs) l h = go (p x) (those_remove_at d k xs (omega arith) h)
    where
      go : (b : Bool) → those p (remove_at k xs) ≡ remove_at (length (those p (take k xs))) (those p xs)
          → cond b (x ∷ those p (remove_at k xs)) (those p (remove_at k xs)) ≡ remove_at (length (cond b (x ∷ those p (take k xs)) (those p (take k xs)))) (cond b (x ∷ those p xs) (those p xs))
      go true ih = ap (λ (r : List A). x ∷ r) ih
      go false ih = ih

  -- one fewer pass
  pub count_those_removed : (d : A) (k : ℕ) (xs : List A) → k < length xs → p (get_or xs k d) ≡ true → suc (length (those p (remove_at k xs))) ≡ length (those p xs)
  unfolding those
  count_those_removed d k [] l h = absurd (omega arith)
  count_those_removed d zero (x ∷ xs) l h = rw h refl
  count_those_removed d (suc k) (x ∷ xs) l h = go (p x) (count_those_removed d k xs (omega arith) h)
    where
      go : (b : Bool) → suc (length (those p (remove_at k xs))) ≡ length (those p xs) → suc (length (cond b (x ∷ those p (remove_at k xs)) (those p (remove_at k xs)))) ≡ length (cond b (x ∷ those p xs) (those p xs))
      go true ih = ap suc ih
      go false ih = ih

  -- none is found exactly where none passes
  pub those_missing : (s : ℕ) (xs : List A) → first_from p s xs ≡ None → those p xs ≡ []
  unfolding those first_from
  those_missing s [] h = refl
  those_missing s (x ∷ xs) h = go (p x) h (those_missing (suc s) xs)
    where
      go : (b : Bool) → cond b (Some s) (first_from p (suc s) xs) ≡ None → (first_from p (suc s) xs ≡ None → those p xs ≡ []) → cond b (x ∷ those p xs) (those p xs) ≡ []
      go true e ih = absurd (let z : ◌≡◌ {A = ℕ} 0 1 = cc in omega arith)
      go false e ih = ih e

  pub missing_those : (s : ℕ) (xs : List A) → length (those p xs) ≡ 0 → first_from p s xs ≡ None
  unfolding those first_from
  missing_those s [] h = refl
  missing_those s (x ∷ xs) h = go (p x) h (missing_those (suc s) xs)
    where
      go : (b : Bool) → length (cond b (x ∷ those p xs) (those p xs)) ≡ 0 → (length (those p xs) ≡ 0 → first_from p (suc s) xs ≡ None) → cond b (Some s) (first_from p (suc s) xs) ≡ None
      go true e ih = absurd (omega arith)
      go false e ih = ih e

  -- the only one that passes, taken out
  pub first_remove_only : (d : A) (s k : ℕ) (xs : List A) → k < length xs → p (get_or xs k d) ≡ true → length (those p xs) ≤ 1 → first_from p s (remove_at k xs) ≡ None
  first_remove_only d s k xs l h o =
      let c : suc (length (those p (remove_at k xs))) ≡ length (those p xs) = count_those_removed d k xs l h in
      missing_those s (remove_at k xs) (omega arith)

-- ---- lists in order

module _ {A : Type 0} (f : A → Name) where
  below_remove : (x : Name) (k : ℕ) (ys : List A) → Below f x ys → Below f x (remove_at k ys)
  below_remove x zero [] b = tt
  below_remove x (suc k) [] b = tt
  below_remove x zero (y ∷ ys) b = b.1
  below_remove x (suc k) (y ∷ ys) b = (b.0, below_remove x k ys b.1)

  pub remove_sorted : (k : ℕ) (ys : List A) → Sorted f ys → Sorted f (remove_at k ys)
  remove_sorted zero [] s = tt
  remove_sorted (suc k) [] s = tt
  remove_sorted zero (y ∷ ys) s = s.1
  remove_sorted (suc k) (y ∷ ys) s = (below_remove (f y) k ys s.0, remove_sorted k ys s.1)

  below_set : (d : A) (x : Name) (k : ℕ) (a : A) (ys : List A) → f a ≡ f (get_or ys k d) → Below f x ys → Below f x (set ys k a)
  below_set d x k a [] e b = tt
  below_set d x zero a (y ∷ ys) e b = (ap (order_of x) e ∙ b.0, b.1)
  below_set d x (suc k) a (y ∷ ys) e b = (b.0, below_set d x k a ys e b.1)

  pub set_sorted : (d : A) (k : ℕ) (a : A) (ys : List A) → f a ≡ f (get_or ys k d) → Sorted f ys → Sorted f (set ys k a)
  set_sorted d k a [] e s = tt
  set_sorted d zero a (y ∷ ys) e s = (subst (λ (x : Name). Below f x ys) (sym e) s.0, s.1)
  set_sorted d (suc k) a (y ∷ ys) e s = (below_set d (f y) k a ys e s.0, set_sorted d k a ys e s.1)

  -- those that pass a test are in order
  below_those : (p : A → Bool) (x : Name) (ys : List A) → Below f x ys → Below f x (those p ys)
  unfolding those
  below_those p x [] b = tt
  below_those p x (y ∷ ys) b = go (p y) (below_those p x ys b.1)
    where
      go : (c : Bool) → Below f x (those p ys) → Below f x (cond c (y ∷ those p ys) (those p ys))
      go true ih = (b.0, ih)
      go false ih = ih

  pub those_sorted : (p : A → Bool) (ys : List A) → Sorted f ys → Sorted f (those p ys)
  unfolding those
  those_sorted p [] s = tt
  those_sorted p (y ∷ ys) s = go (p y) (those_sorted p ys s.1)
    where
      go : (c : Bool) → Sorted f (those p ys) → Sorted f (cond c (y ∷ those p ys) (those p ys))
      go true ih = (below_those p (f y) ys s.0, ih)
      go false ih = ih

  insert_front : (q : A) (ys : List A) → Below f (f q) ys → insert_by f q ys ≡ q ∷ ys
  unfolding insert_by insert_step
  insert_front q [] b = refl
  insert_front q (y ∷ ys) b = rw b.0 refl

  pub below_down : (x y : Name) (ys : List A) → order_of x y ≡ Less → Below f y ys → Below f x ys
  below_down x y [] h b = tt
  below_down x y (z ∷ ys) h b = (before_trans x y (f z) h b.0, below_down x y ys h b.1)

  -- a test that goes by the name: one more put in among those
  pub those_insert : (p : A → Bool) → ((a b : A) → f a ≡ f b → p a ≡ p b) → (q : A) (ys : List A) → Sorted f ys → p q ≡ true → those p (insert_by f q ys) ≡ insert_by f q (those p ys)
  unfolding those insert_by insert_step
  those_insert p named q [] s e = rw e refl
  those_insert p named q (y ∷ ys) s e = go (order_of (f q) (f y)) refl (those_insert p named q ys s.1 e)
    where
      later : (c : Bool) → order_of (f q) (f y) ≡ Greater → those p (insert_by f q ys) ≡ insert_by f q (those p ys) → cond c (y ∷ those p (insert_by f q ys)) (those p (insert_by f q ys)) ≡ insert_by f q (cond c (y ∷ those p ys) (those p ys))
      later true o ih = rw o (ap (λ (r : List A). y ∷ r) ih)
      later false o ih = ih

      go : (o : Ordering) → order_of (f q) (f y) ≡ o → those p (insert_by f q ys) ≡ insert_by f q (those p ys) → those p (insert_step o q y ys (insert_by f q ys)) ≡ insert_by f q (those p (y ∷ ys))
      go Less o ih =
          rw e
          (sym (insert_front q (those p (y ∷ ys)) (below_those p (f q) (y ∷ ys) (o, below_down (f q) (f y) ys o s.0))))
      go Equal o ih =
          let t : p y ≡ true = named y q (sym (same_one (f q) (f y) o)) ∙ e in
          rw (t, o) refl
      go Greater o ih = later (p y) o ih

  pub those_insert_none : (p : A → Bool) (q : A) (ys : List A) → p q ≡ false → those p (insert_by f q ys) ≡ those p ys
  unfolding those insert_by insert_step
  those_insert_none p q [] e = rw e refl
  those_insert_none p q (y ∷ ys) e = go (order_of (f q) (f y)) (those_insert_none p q ys e)
    where
      go : (o : Ordering) → those p (insert_by f q ys) ≡ those p ys → those p (insert_step o q y ys (insert_by f q ys)) ≡ those p (y ∷ ys)
      go Less ih = rw e refl
      go Equal ih = refl
      go Greater ih = ap (λ (r : List A). cond (p y) (y ∷ r) r) ih

  -- a name stands once: one item at most passes a test for it
  pub below_none : (p : A → Bool) (x : Name) → ((a : A) → p a ≡ true → f a ≡ x) → (ys : List A) → Below f x ys → those p ys ≡ []
  unfolding those
  below_none p x named [] b = refl
  below_none p x named (y ∷ ys) b = go (p y) refl (below_none p x named ys b.1)
    where
      go : (c : Bool) → p y ≡ c → those p ys ≡ [] → cond c (y ∷ those p ys) (those p ys) ≡ []
      go true e ih = absurd (let o : Equal ≡ Less = sym (same_self x) ∙ (ap (order_of x) (sym (named y e)) ∙ b.0) in let z : ◌≡◌ {A = ℕ} 0 1 = cc in omega arith)
      go false e ih = ih

  pub those_one : (p : A → Bool) (x : Name) → ((a : A) → p a ≡ true → f a ≡ x) → (ys : List A) → Sorted f ys → length (those p ys) ≤ 1
  unfolding those
  those_one p x named [] s = omega arith
  those_one p x named (y ∷ ys) s = go (p y) refl (those_one p x named ys s.1)
    where
      go : (c : Bool) → p y ≡ c → length (those p ys) ≤ 1 → length (cond c (y ∷ those p ys) (those p ys)) ≤ 1
      go true e ih = let z : those p ys ≡ [] = below_none p x named ys (subst (λ (n : Name). Below f n ys) (named y e) s.0) in let w : length (those p ys) ≡ 0 = ap length z in omega arith
      go false e ih = ih
