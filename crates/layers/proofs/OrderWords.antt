-- Names put in order by numbers of several bytes, the highest byte first. Assumes nothing.
use mathlib.Core.Path.{◌≡◌, refl, sym, ap, ap₂, ◌∙◌}
use Rattle.std.specs.declared.cmp.Ordering.{Ordering}
use Rattle.std.specs.declared.cmp.Ordering.TheVariants.{Less, Greater}
use Prim.Native.Nat.{ℕ, suc, ◌+◌, ◌*◌, ◌-◌, ◌^◌, ◌≤◌, ◌<◌}
use native.Mathlib.Omega.{arith}
use native.Mathlib.Nat.{pow-suc}
use mathlib.Core.Bool.{cond}
use mathlib.Core.List.{List, [], ◌∷◌, ◌++◌}
use lib.Dec.{ltb}
use lib.ListN.{length, take, drop, length-take, length-drop, take-append-drop}
use lib.Seq.{take-take, drop-drop, take_all}
use borrow.Author.Tests.{lt-ltb, le-ltb, ne_eqb}
use Rattle.layers.specs.Bytes.{part, be_of, AllBytes}
use Rattle.std.specs.Ordering.{nat_cmp}
use Rattle.std.specs.Cmp.Lexicographic.{slice_cmp}
use Rattle.layers.specs.Names.{Name, order_of}
use Rattle.layers.proofs.Pieces.{le_row}
use Rattle.layers.proofs.Determined.{bytes_drop, bytes_take}
use Rattle.layers.proofs.OrderLaws.{three, before_lt, order_eq, after_gt, order_as}

be_bound : (bs : List ℕ) → AllBytes bs → be_of bs < 256 ^ length bs
unfolding be_of AllBytes
be_bound [] h = omega arith
be_bound (b ∷ bs) h =
    let small : b < 256 = h 0 in
    let rest : be_of bs < 256 ^ length bs = be_bound bs (λ i. h (suc i)) in
    let row : 256 ^ length bs * b + 256 ^ length bs ≤ 256 ^ length bs * 256 = le_row (256 ^ length bs) b 256 small in
    rw (pow-suc 256 (length bs)) (omega arith)

-- as many bytes on both sides are in the order of their numbers, and where these are equal the rest decides
abbrev decided : ℕ → ℕ → Ordering → Ordering
decided x y o = cond (ltb x y) Less (cond (ltb y x) Greater o)

module _ (x y : ℕ) (o z : Ordering) where
  decided_less : x < y → z ≡ Less → z ≡ decided x y o
  decided_less h e = rw (lt-ltb x y h) e

  decided_same : x ≡ y → z ≡ o → z ≡ decided x y o
  decided_same h e = rw (le-ltb x y (omega arith), le-ltb y x (omega arith)) e

  decided_more : y < x → z ≡ Greater → z ≡ decided x y o
  decided_more h e = rw (le-ltb x y (omega arith), lt-ltb y x h) e

-- the same upper part leaves the order to the lower
below : (h x y : ℕ) (o : Ordering) → decided x y o ≡ decided (h + x) (h + y) o
below h x y o =
    three x y
    (λ l. decided_less (h + x) (h + y) o (decided x y o) (omega arith) (sym (decided_less x y o Less l refl)))
    (λ e. decided_same (h + x) (h + y) o (decided x y o) (omega arith) (sym (decided_same x y o o e refl)))
    (λ g. decided_more (h + x) (h + y) o (decided x y o) (omega arith) (sym (decided_more x y o Greater g refl)))

be_order : (xs ys r s : Name) → length xs ≡ length ys → AllBytes xs → AllBytes ys → order_of (xs ++ r) (ys ++ s) ≡ decided (be_of xs) (be_of ys) (order_of r s)
unfolding be_of AllBytes
be_order [] [] r s l h k = decided_same 0 0 (order_of r s) (order_of r s) refl refl
be_order [] (y ∷ ys) r s l h k = absurd (omega arith)
be_order (x ∷ xs) [] r s l h k = absurd (omega arith)
be_order (x ∷ xs) (y ∷ ys) r s l h k =
    let n : length xs ≡ length ys = omega arith in
    let b : be_of xs < 256 ^ length ys = rw (← n) (be_bound xs (λ i. h (suc i))) in
    let d : be_of ys < 256 ^ length ys = be_bound ys (λ i. k (suc i)) in
    rw n
    (three x y
    (λ u.
    let row : 256 ^ length ys * x + 256 ^ length ys ≤ 256 ^ length ys * y = le_row (256 ^ length ys) x y u in
    decided_less (256 ^ length ys * x + be_of xs) (256 ^ length ys * y + be_of ys) (order_of r s) (order_of (x ∷ (xs ++ r)) (y ∷ (ys ++ s))) (omega arith) (before_lt x y (xs ++ r) (ys ++ s) u))
    (λ e.
    order_eq x y (xs ++ r) (ys ++ s) e
    ∙ (be_order xs ys r s n (λ i. h (suc i)) (λ i. k (suc i))
    ∙ (below (256 ^ length ys * x) (be_of xs) (be_of ys) (order_of r s)
    ∙ ap (λ (v : ℕ). decided (256 ^ length ys * x + be_of xs) (256 ^ length ys * v + be_of ys) (order_of r s)) e)))
    (λ g.
    let row : 256 ^ length ys * y + 256 ^ length ys ≤ 256 ^ length ys * x = le_row (256 ^ length ys) y x g in
    decided_more (256 ^ length ys * x + be_of xs) (256 ^ length ys * y + be_of ys) (order_of r s) (order_of (x ∷ (xs ++ r)) (y ∷ (ys ++ s))) (omega arith) (after_gt x y (xs ++ r) (ys ++ s) g)))

-- ---- one number of `w` bytes of a walk
module _ (w : ℕ) (a b : Name) (i x y : ℕ) (known : AllBytes a) (known_too : AllBytes b) (l : i + w ≤ length a) (m : i + w ≤ length b) (p : x ≡ be_of (part a i w)) (q : y ≡ be_of (part b i w)) where
  word_step : order_of (drop i a) (drop i b) ≡ decided x y (order_of (drop (i + w) a) (drop (i + w) b))
  word_step =
      ap₂ order_of (split a) (split b)
      ∙ (be_order (part a i w) (part b i w) (drop (i + w) a) (drop (i + w) b) (long a l ∙ sym (long b m)) (bytes_take (drop i a) w (bytes_drop a i known)) (bytes_take (drop i b) w (bytes_drop b i known_too))
      ∙ ap₂ (λ (u v : ℕ). decided u v (order_of (drop (i + w) a) (drop (i + w) b))) (sym p) (sym q))
    where
      split : (c : Name) → drop i c ≡ part c i w ++ drop (i + w) c
      split c = sym (take-append-drop w (drop i c)) ∙ ap (λ (r : Name). take w (drop i c) ++ r) (drop-drop w i c)

      long : (c : Name) → i + w ≤ length c → length (part c i w) ≡ w
      long c h = simp (length-take, length-drop) (omega arith)

  pub word_differs : (o : Ordering) → (x ≡ y → ⊥) → o ≡ nat_cmp x y → order_of (drop i a) (drop i b) ≡ order_of a b → o ≡ order_of a b
  word_differs o h c e =
      c
      ∙ (three x y
      (λ l. rw (lt-ltb x y l) refl)
      (λ s. absurd (h s))
      (λ g. rw (le-ltb x y (omega arith), lt-ltb y x g, ne_eqb x y h) refl)
      ∙ (sym word_step ∙ e))

  pub word_on : x ≡ y → order_of (drop i a) (drop i b) ≡ order_of a b → order_of (drop (i + w) a) (drop (i + w) b) ≡ order_of a b
  word_on h e = decided_same x y (order_of (drop (i + w) a) (drop (i + w) b)) (order_of (drop (i + w) a) (drop (i + w) b)) h refl ∙ (sym word_step ∙ e)

-- the same of numbers that slices start with
module _ (w : ℕ) (a b : Name) (i x y : ℕ) (known : AllBytes a) (known_too : AllBytes b) (l : i + w ≤ length a) (m : i + w ≤ length b) (p : x ≡ be_of (take w (take (length a - i) (drop i a)))) (q : y ≡ be_of (take w (take (length b - i) (drop i b)))) where
  start_step : order_of (drop i a) (drop i b) ≡ decided x y (order_of (drop (i + w) a) (drop (i + w) b))
  start_step =
      word_step w a b i x y known known_too l m
      (p ∙ ap be_of (take-take w (length a - i) (drop i a) (omega arith)))
      (q ∙ ap be_of (take-take w (length b - i) (drop i b) (omega arith)))

  pub word_before : x < y → order_of (drop i a) (drop i b) ≡ order_of a b → Less ≡ order_of a b
  word_before h e = decided_less x y (order_of (drop (i + w) a) (drop (i + w) b)) Less h refl ∙ (sym start_step ∙ e)

  pub word_after : y < x → order_of (drop i a) (drop i b) ≡ order_of a b → Greater ≡ order_of a b
  word_after h e = decided_more x y (order_of (drop (i + w) a) (drop (i + w) b)) Greater h refl ∙ (sym start_step ∙ e)

-- what is left of both, compared
pub rest_order : (a b : Name) (k : ℕ) (o : Ordering) → k ≤ length a → k ≤ length b → o ≡ slice_cmp nat_cmp (take (length a - k) (drop k a)) (take (length b - k) (drop k b)) → order_of (drop k a) (drop k b) ≡ order_of a b → o ≡ order_of a b
rest_order a b k o l m c e =
    c
    ∙ (ap₂ (slice_cmp nat_cmp) (take_all (length a - k) (drop k a) (simp length-drop (omega arith))) (take_all (length b - k) (drop k b) (simp length-drop (omega arith)))
    ∙ (order_as (drop k a) (drop k b) ∙ e))
