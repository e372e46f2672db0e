-- What a chain over the places of a table gives: the first that passes, and how many do. Assumes nothing.
use Rattle.std.specs.Prelude.{Option, Some}
use Rattle.std.specs.List.{range_with_len, filter, find, list_all}
use Rattle.std.specs.Option.{option_map}
use Rattle.std.proofs.lemmas.Iterator.Adapters.{option_map_id}
use mathlib.Core.Path.{◌≡◌, refl, sym, subst, ap, ◌∙◌}
use Prim.Native.Nat.{ℕ, zero, suc, ◌+◌, ◌-◌, ◌≤◌}
use native.Mathlib.Omega.{arith}
use native.Mathlib.Numerals.{add-one}
use native.Mathlib.Nat.{add-zero, add-suc}
use mathlib.Core.Bool.{Bool, true, false, not, cond}
use mathlib.Core.List.{List, [], ◌∷◌}
use lib.Dec.{eqb, leb}
use borrow.Author.Tests.{eq-eqb, ne_eqb, leb-true, leb-false}
use lib.ListN.{length, take, drop, get_or, length-take, drop_of_length-le}
use lib.Seq.{drop-cons}
use Rattle.std.specs.declared.ops.Range.{Range}
use Rattle.std.specs.declared.iter.Rev.{Rev}
use Rattle.std.specs.Iterator.Adapters.{rev_source, rev_steps}
use Rattle.std.proofs.iter.runs.Sources.{nat_range_steps_back}
use Rattle.std.proofs.lemmas.Iterator.{YieldsList}
use Rattle.std.proofs.lemmas.Iterator.Consumers.{YieldsList-from_shown}
use Rattle.layers.specs.Search.{first_from, one, count_if}
use Rattle.layers.specs.Rules.{every}
use Rattle.layers.proofs.NameLaws.{and_if}

-- the numbers from `a` on, the highest first
abbrev pub down : ℕ → ℕ → List ℕ
down a zero = []
down a (suc n) = (a + n) ∷ down a n

pub down_listed : {s : Rev (Range ℕ)} (a n : ℕ) → rev_source s ≡ record { start = a; end = a + n } → YieldsList (rev_steps nat_range_steps_back) (λ x. x) s (down a n)
down_listed {s} a n e =
    let z : (rev_source s).end - (rev_source s).start ≡ n = rw e (omega arith) in
    let l : down (rev_source s).start ((rev_source s).end - (rev_source s).start) ≡ down a n = rw (z, e) refl in
    subst (λ (l : List ℕ). YieldsList (rev_steps nat_range_steps_back) (λ x. x) s l) l
    (YieldsList-from_shown (rev_steps nat_range_steps_back) (λ x. x) shown (λ s t h. rw h.1.0 refl) (λ s x t h. next s x t h) s)
  where
    shown : Rev (Range ℕ) → List ℕ
    shown s = down (rev_source s).start ((rev_source s).end - (rev_source s).start)

    next : (s : Rev (Range ℕ)) (x : ℕ) (t : Rev (Range ℕ)) → rev_steps nat_range_steps_back s (Some x) t → shown s ≡ x ∷ shown t
    next s x t h =
        let m : (rev_source s).end - (rev_source s).start ≡ suc ((rev_source t).end - (rev_source t).start) = omega (arith, h.0, h.1.0, h.1.2) in
        let y : (rev_source s).start + ((rev_source t).end - (rev_source t).start) ≡ x = omega (arith, h.0, h.1.0, h.1.1, h.1.2) in
        rw (m, y) (ap (λ (a : ℕ). x ∷ down a ((rev_source t).end - (rev_source t).start)) (sym h.0))

module _ {A : Type 0} (p : A → Bool) (d : A) (xs : List A) where
  pub first_in : (n k : ℕ) → k + n ≡ length xs → find (λ j. p (get_or xs j d)) (range_with_len k n) ≡ first_from p k (drop k xs)
  unfolding first_from
  first_in zero k e = rw (drop_of_length-le xs {i = k} (omega arith)) refl
  first_in (suc n) k e = rw (drop-cons xs k d (omega arith)) (ap (λ (o : Option ℕ). cond (p (get_or xs k d)) (Some k) o) (first_in n (k + 1) (omega arith) ∙ ap (λ (z : ℕ). first_from p z (drop z xs)) (add-one k)))

  pub first_at : (n k : ℕ) → k + n ≡ length xs → (r : Option ℕ) → option_map (λ x. x) r ≡ find (λ j. p (get_or xs j d)) (range_with_len k n) → r ≡ first_from p k (drop k xs)
  first_at n k e r h = sym (option_map_id r) ∙ (h ∙ first_in n k e)

  passing_step : (b : Bool) (k : ℕ) (l : List ℕ) (m : ℕ) → length l ≡ m → length (cond b (k ∷ l) l) ≡ one b + m
  unfolding one
  passing_step true k l m e = omega (arith, e)
  passing_step false k l m e = omega (arith, e)

  pub passing_in : (n k : ℕ) → k + n ≡ length xs → length (filter (λ j. p (get_or xs j d)) (range_with_len k n)) ≡ count_if p (drop k xs)
  unfolding count_if
  passing_in zero k e = rw (drop_of_length-le xs {i = k} (omega arith)) refl
  passing_in (suc n) k e = rw (drop-cons xs k d (omega arith)) (passing_step (p (get_or xs k d)) k (filter (λ j. p (get_or xs j d)) (range_with_len (k + 1) n)) _ (passing_in n (k + 1) (omega arith) ∙ ap (λ (z : ℕ). count_if p (drop z xs)) (add-one k)))

  pub passing_down : (n k : ℕ) → k + n ≤ length xs → length (filter (λ j. p (get_or xs j d)) (down k n)) + count_if p (drop (k + n) xs) ≡ count_if p (drop k xs)
  unfolding count_if
  passing_down zero k e = rw (add-zero k) (omega arith)
  passing_down (suc n) k e =
      let s : count_if p (drop (k + n) xs) ≡ one (p (get_or xs (k + n) d)) + count_if p (drop (suc (k + n)) xs) = rw (drop-cons xs (k + n) d (omega arith)) refl in
      let r : length (filter (λ j. p (get_or xs j d)) (down k (suc n))) ≡ one (p (get_or xs (k + n) d)) + length (filter (λ j. p (get_or xs j d)) (down k n)) =
      passing_step (p (get_or xs (k + n) d)) (k + n) (filter (λ j. p (get_or xs j d)) (down k n)) _ refl in
      let i : length (filter (λ j. p (get_or xs j d)) (down k n)) + count_if p (drop (k + n) xs) ≡ count_if p (drop k xs) = passing_down n k (omega arith) in
      rw (add-suc k n) (omega (arith, s, r, i))

  pub passing_all : (n k : ℕ) → k + n ≡ length xs → length (filter (λ j. p (get_or xs j d)) (down k n)) ≡ count_if p (drop k xs)
  unfolding count_if
  passing_all n k e =
      let z : count_if p (drop (k + n) xs) ≡ 0 = rw (drop_of_length-le xs {i = k + n} (omega arith)) refl in
      omega (arith, z, passing_down n k (omega arith))

-- a test of every place, of which those from `k + n` on pass
pub every_in : {A : Type 0} (p : ℕ → A → Bool) (d : A) (xs : List A) (n k : ℕ) → k + n ≤ length xs → every p (k + n) (drop (k + n) xs) ≡ true → list_all (λ j. p j (get_or xs j d)) (range_with_len k n) ≡ every p k (drop k xs)
unfolding every
every_in p d xs zero k e h = sym (rw (add-zero k) at h)
every_in p d xs (suc n) k e h =
    let z : k + suc n ≡ k + 1 + n = omega arith in
    rw (drop-cons xs k d (omega arith))
    (and_if (p k (get_or xs k d)) (list_all (λ j. p j (get_or xs j d)) (range_with_len (k + 1) n))
    ∙ ap (λ (t : Bool). cond (p k (get_or xs k d)) t false) (every_in p d xs n (k + 1) (omega arith) (rw z at h) ∙ ap (λ (i : ℕ). every p i (drop i xs)) (add-one k)))

pub either : {A : Type 0} (p : A → Bool) (xs : List A) → count_if p xs + count_if (λ x. not (p x)) xs ≡ length xs
unfolding count_if one
either p [] = refl
either p (x ∷ xs) = go (p x) (either p xs)
  where
    go : (b : Bool) → count_if p xs + count_if (λ x. not (p x)) xs ≡ length xs → one b + count_if p xs + (one (not b) + count_if (λ x. not (p x)) xs) ≡ suc (length xs)
    go true e = omega arith
    go false e = omega arith

-- at most `n` of what passes were taken, which is `n` where so many pass; `u` do not
pub taken : (n u : ℕ) (l : List ℕ) (r : ℕ) → r ≡ length (take n l) → length l + u ≡ 128 → eqb r n ≡ leb (u + n) 128
taken n u l r e h = go (leb (u + n) 128) refl
  where
    go : (b : Bool) → leb (u + n) 128 ≡ b → eqb r n ≡ b
    go true t = eq-eqb r n (omega (arith, e, length-take n l, leb-true (u + n) 128 t))
    go false t = ne_eqb r n (λ q. omega (arith, q, e, length-take n l, leb-false (u + n) 128 t))
