-- Names compared by numbers of several bytes, which says what comparing their bytes says. Assumes nothing.
use mathlib.Core.Path.{◌≡◌, refl, sym, ap, ap₂, ◌∙◌}
use Prim.Native.Nat.{ℕ, zero, suc, ◌+◌, ◌*◌, ◌-◌, ◌≤◌}
use native.Mathlib.Omega.{arith}
use mathlib.Core.Bool.{Bool, true, false, ◌&&◌}
use mathlib.Core.List.{List, [], ◌∷◌, ◌++◌}
use native.Mathlib.Nat.{add-zero, zero-add}
use Rattle.std.specs.List.{list_all, range_with_len}
use Rattle.std.specs.Int.{div_ceil}
use lib.Dec.{eqb}
use lib.ListN.{length, take, drop, get_or, take-append-drop, length-drop}
use lib.Seq.{take-add, take-take, take_all}
use mir.Val.{Fits}
use mir.Syntax.{w8}
use borrow.Author.Tests.{eq-eqb, eqb-true, eqb-false}
use Rattle.layers.specs.Bytes.{part, le_of, le_bytes, number_at, AllBytes}
use Rattle.layers.specs.Names.{Name, same_name}
use Rattle.layers.proofs.Numbers.{number_in}
use Rattle.layers.proofs.Determined.{again}
use Rattle.layers.proofs.NameLaws.{same_true, same_refl}
use Rattle.layers.proofs.EveryLaws.{no_true}

-- what the checker knows of lent bytes
pub lent_bytes : (t : List ℕ) → ((i : ℕ) → Fits w8 (get_or t i 0)) → AllBytes t
unfolding AllBytes
lent_bytes t h i = (h i).fits

module _ (w : ℕ) (a b : Name) (i x y : ℕ) (p : x ≡ number_at w a i) (q : y ≡ number_at w b i) where
  pub word_not : (x ≡ y → ⊥) → false ≡ same_name a b
  word_not h = go (same_name a b) refl
    where
      go : (t : Bool) → same_name a b ≡ t → false ≡ t
      go true e = absurd (h (p ∙ (ap (λ (l : Name). number_at w l i) (same_true a b e) ∙ sym q)))
      go false e = refl

  -- bytes that make one number are the same bytes
  module _ (known : AllBytes a) (known_too : AllBytes b) (l : i + w ≤ length a) (m : i + w ≤ length b) (e : x ≡ y) where
    word_same : part a i w ≡ part b i w
    word_same =
        let n : le_of (part a i w) ≡ le_of (part b i w) = sym (number_in w a i l) ∙ (sym p ∙ (e ∙ (q ∙ number_in w b i m))) in
        sym (again a known i w l) ∙ (ap (le_bytes w) n ∙ again b known_too i w m)

    word_add : take i a ≡ take i b → take (i + w) a ≡ take (i + w) b
    word_add h = take-add i w a ∙ (ap₂ ◌++◌ h word_same ∙ sym (take-add i w b))

-- the last number ends where the names end
module _ (w : ℕ) (a b : Name) (i x y : ℕ) (p : x ≡ number_at w a (length a - w)) (q : y ≡ number_at w b (length a - w)) where
  pub words_end : x ≡ y → AllBytes a → AllBytes b → w ≤ length a → length a ≡ length b → length a - w ≤ i → take i a ≡ take i b → true ≡ same_name a b
  words_end e known known_too s l j h = sym (same_refl a) ∙ ap (same_name a) (sym (all a refl) ∙ (ap₂ ◌++◌ front back ∙ all b (sym l)))
    where
      all : (c : Name) → length c ≡ length a → take (length a - w) c ++ part c (length a - w) w ≡ c
      all c m = ap (λ (r : Name). take (length a - w) c ++ r) (take_all w (drop (length a - w) c) (simp length-drop (omega arith))) ∙ take-append-drop (length a - w) c

      front : take (length a - w) a ≡ take (length a - w) b
      front = sym (take-take (length a - w) i a j) ∙ (ap (take (length a - w)) h ∙ take-take (length a - w) i b j)

      back : part a (length a - w) w ≡ part b (length a - w) w
      back = word_same w a b (length a - w) x y p q known known_too (omega arith) (omega arith) e

-- ---- all numbers of 8 bytes but the last

-- whether the numbers at each of these places of 8 bytes are equal
abbrev pub alike : Name → Name → List ℕ → Bool
alike a b ks = list_all (λ k. eqb (number_at 8 a (8 * k)) (number_at 8 b (8 * k))) ks

self_alike : (a : Name) (ks : List ℕ) → alike a a ks ≡ true
self_alike a [] = refl
self_alike a (k ∷ ks) = rw (eq-eqb (number_at 8 a (8 * k)) (number_at 8 a (8 * k)) refl) (self_alike a ks)

both_true : (p q : Bool) → (p && q) ≡ true → (p ≡ true) × (q ≡ true)
both_true true q h = (refl, h)
both_true false q h = no_true h

alike_front : (a b : Name) → AllBytes a → AllBytes b → length a ≡ length b → (n k : ℕ) → 8 * (k + n) ≤ length a → alike a b (range_with_len k n) ≡ true → take (8 * k) a ≡ take (8 * k) b → take (8 * (k + n)) a ≡ take (8 * (k + n)) b
alike_front a b known known_too l zero k m h e = rw (add-zero k) e
alike_front a b known known_too l (suc n) k m h e =
    let t : (eqb (number_at 8 a (8 * k)) (number_at 8 b (8 * k)) ≡ true) × (alike a b (range_with_len (k + 1) n) ≡ true) = both_true _ _ h in
    let w : 8 * k + 8 ≡ 8 * (k + 1) = omega arith in
    let z : k + 1 + n ≡ k + suc n = omega arith in
    rw z at (alike_front a b known known_too l n (k + 1) (omega arith) t.1
    (rw w at (word_add 8 a b (8 * k) _ _ refl refl known known_too (omega arith) (omega arith) (eqb-true _ _ t.0) e)))

pub words_alike : (a b : Name) (n x y : ℕ) (r : Bool) → AllBytes a → AllBytes b → length a ≡ length b → 8 ≤ length a → n ≡ div_ceil (length a - 8) 8
    → x ≡ number_at 8 a (length a - 8) → y ≡ number_at 8 b (length a - 8) → x ≡ y → r ≡ alike a b (range_with_len 0 n) → r ≡ same_name a b
words_alike a b n x y r known known_too l s d p q e h = go (same_name a b) refl r refl
  where
    go : (t : Bool) → same_name a b ≡ t → (u : Bool) → r ≡ u → u ≡ t
    go true c u w = sym w ∙ (h ∙ (ap (λ (z : Name). alike a z (range_with_len 0 n)) (sym (same_true a b c)) ∙ self_alike a (range_with_len 0 n)))
    go false c false w = refl
    go false c true w =
        let f : take (8 * n) a ≡ take (8 * n) b = rw (zero-add n) at (alike_front a b known known_too l n 0 (omega (arith, d)) (sym h ∙ w) refl) in
        words_end 8 a b (8 * n) x y p q e known known_too s l (omega (arith, d)) f ∙ c

-- two numbers, of which `x` and `y` were found equal, `u` and `v` start the names
module _ (w : ℕ) (a b : Name) (x y u v : ℕ) (p : x ≡ number_at w a (length a - w)) (q : y ≡ number_at w b (length a - w)) (r : u ≡ number_at w a 0) (s : v ≡ number_at w b 0) where
  pub halves_end : x ≡ y → AllBytes a → AllBytes b → w ≤ length a → length a ≤ w + w → length a ≡ length b → eqb u v ≡ same_name a b
  halves_end e k k' l m n = go (eqb u v) refl
    where
      go : (t : Bool) → eqb u v ≡ t → t ≡ same_name a b
      go true h =
          words_end w a b w x y p q e k k' l n (omega arith) (word_same w a b 0 u v r s k k' (omega arith) (omega arith) (eqb-true u v h))
      go false h = word_not w a b 0 u v r s (eqb-false u v h)
