-- A free place is zeros, told by numbers of several bytes. Assumes nothing.
use mathlib.Core.Path.{◌≡◌, refl, sym, ap, ap₂, ◌∙◌}
use Prim.Native.Nat.{ℕ, zero, suc, ◌+◌, ◌*◌, ◌-◌, ◌≤◌, ◌<◌}
use native.Mathlib.Omega.{arith}
use mathlib.Core.Bool.{Bool, true, false, cond}
use mathlib.Core.List.{List, [], ◌∷◌, ◌++◌}
use lib.Dec.{eqb}
use lib.ListN.{length, take, drop, get_or, replicate, take-append-drop, length-take, length-drop}
use lib.Seq.{drop-cons, drop-drop, take_all}
use borrow.Author.Tests.{eq-eqb, ne_eqb, eqb-true, eqb-false}
use Rattle.layers.specs.Bytes.{part, le_of}
use Rattle.layers.specs.Names.{same_name}
use Rattle.layers.specs.Items.{record_of, entry_of, records_of, entries_of, record_at, entry_at, free_record, free_entry}
use Rattle.layers.specs.Rules.{all_zero, free_record_test, free_entry_test, entry_test, ends_test, record_test, count_test, once_named_test, named_test, reach_test}
use Rattle.layers.specs.Search.{naming}
use Rattle.layers.specs.RulesTally.{entry_holds, record_holds}
use Rattle.layers.specs.declared.items.Record.{Record}
use Rattle.layers.specs.declared.items.Entry.{Entry}
use Rattle.layers.proofs.ItemLaws.{entry_is, record_is, entry_past, record_past}

scaled : (b n : ℕ) → b ≡ 0 → eqb (b + 256 * n) 0 ≡ eqb n 0
scaled b zero h = eq-eqb (b + 256 * 0) 0 (omega arith) ∙ sym (eq-eqb 0 0 refl)
scaled b (suc n) h = ne_eqb (b + 256 * suc n) 0 (λ e. omega arith) ∙ sym (ne_eqb (suc n) 0 (λ e. omega arith))

-- a number is 0 exactly where its bytes are
zero_number : (bs : List ℕ) → eqb (le_of bs) 0 ≡ all_zero bs
unfolding le_of all_zero
zero_number [] = eq-eqb 0 0 refl
zero_number (b ∷ bs) = go (eqb b 0) refl (zero_number bs)
  where
    go : (t : Bool) → eqb b 0 ≡ t → eqb (le_of bs) 0 ≡ all_zero bs → eqb (b + 256 * le_of bs) 0 ≡ cond t (all_zero bs) false
    go true e ih = scaled b (le_of bs) (eqb-true b 0 e) ∙ ih
    go false e ih = ne_eqb (b + 256 * le_of bs) 0 (λ h. eqb-false b 0 e (omega arith))

pub zeros_append : (xs ys : List ℕ) → all_zero (xs ++ ys) ≡ cond (all_zero xs) (all_zero ys) false
unfolding all_zero
zeros_append [] ys = refl
zeros_append (x ∷ xs) ys = go (eqb x 0) (zeros_append xs ys)
  where
    go : (t : Bool) → all_zero (xs ++ ys) ≡ cond (all_zero xs) (all_zero ys) false → cond t (all_zero (xs ++ ys)) false ≡ cond (cond t (all_zero xs) false) (all_zero ys) false
    go true ih = ih
    go false ih = refl

-- ---- what follows place `k` of some bytes is zeros
module _ (b : List ℕ) (k : ℕ) (q : Bool) where
  by_number : (n : ℕ) → all_zero (drop (k + n) b) ≡ q → all_zero (drop k b) ≡ cond (eqb (le_of (part b k n)) 0) q false
  by_number n h =
      ap all_zero (sym (take-append-drop n (drop k b)))
      ∙ (zeros_append (take n (drop k b)) (drop n (drop k b))
      ∙ ap₂ (λ (s t : Bool). cond s t false) (sym (zero_number (take n (drop k b)))) (ap all_zero (drop-drop n k b) ∙ h))

  by_byte : k < length b → all_zero (drop (suc k) b) ≡ q → all_zero (drop k b) ≡ cond (eqb (get_or b k 0) 0) q false
  unfolding all_zero
  by_byte l h = rw (drop-cons b k 0 l) (ap (λ (t : Bool). cond (eqb (get_or b k 0) 0) t false) h)

last_number : (b : List ℕ) (k n : ℕ) → length b ≤ k + n → all_zero (drop k b) ≡ eqb (le_of (part b k n)) 0
last_number b k n l = sym (zero_number (part b k n) ∙ ap all_zero (take_all n (drop k b) (simp length-drop (omega arith))))

-- ---- a free record
zero_record : (b : List ℕ) → length b ≡ 32 → get_or b 0 0 ≡ 0 → all_zero b ≡ free_record_test (record_of b)
unfolding free_record_test record_of
zero_record b l z =
    by_byte b 0 _ (omega arith) refl
    ∙ (ap (λ (t : Bool). cond t (all_zero (drop 1 b)) false) (eq-eqb (get_or b 0 0) 0 z)
    ∙ by_byte b 1 _ (omega arith)
    (by_byte b 2 _ (omega arith)
    (by_byte b 3 _ (omega arith)
    (by_number b 4 _ 2 (by_number b 6 _ 2 (by_number b 8 _ 8 (by_number b 16 _ 8 (last_number b 24 8 (omega arith)))))))))

-- ---- a free entry
zero_name : (x : List ℕ) → all_zero x ≡ same_name x (replicate (length x) 0)
unfolding all_zero same_name
zero_name [] = refl
zero_name (x ∷ xs) = ap (λ (t : Bool). cond (eqb x 0) t false) (zero_name xs)

zero_entry : (b : List ℕ) → length b ≡ 32 → get_or b 0 0 ≡ 0 → all_zero b ≡ free_entry_test (entry_of b)
unfolding free_entry_test entry_of
zero_entry b l z =
    let n : length (part b 4 28) ≡ 28 = simp (length-take, length-drop) (omega arith) in
    let name : all_zero (drop 4 b) ≡ same_name (part b 4 28) (replicate 28 0) =
    ap all_zero (sym (take_all 28 (drop 4 b) (simp length-drop (omega arith)))) ∙ (zero_name (part b 4 28) ∙ ap (λ (k : ℕ). same_name (part b 4 28) (replicate k 0)) n) in
    by_byte b 0 _ (omega arith) refl
    ∙ (ap (λ (t : Bool). cond t (all_zero (drop 1 b)) false) (eq-eqb (get_or b 0 0) 0 z)
    ∙ by_byte b 1 _ (omega arith) (by_byte b 2 _ (omega arith) (by_byte b 3 _ (omega arith) name)))

-- ---- what the rules ask of a free place is that it is zeros

cond_self : (t : Bool) → cond t true false ≡ t
cond_self true = refl
cond_self false = refl

-- a field that a callee answered
pub told : (r a b : ℕ) → r ≡ a → r ≡ b → a ≡ b
told r a b p q = sym p ∙ q

module _ (rs : List Record) (j : ℕ) (e : Entry) (b : Bool) (p : ℕ) where
  pub free_entry_holds : p ≡ e.parent → p ≡ 0 → b ≡ free_entry_test e → b ≡ entry_holds rs j e
  unfolding entry_holds entry_test ends_test
  free_entry_holds q z h = h ∙ sym (rw (eq-eqb e.parent 0 (sym q ∙ z)) (cond_self (free_entry_test e)))

module _ (es : List Entry) (i : ℕ) (r : Record) (b : Bool) (n : ℕ) where
  pub free_record_holds : n ≡ r.number → n ≡ 0 → b ≡ free_record_test r → b ≡ record_holds es i r
  unfolding record_holds record_test free_record_test count_test once_named_test named_test reach_test
  free_record_holds q z h =
      h ∙ (go (eqb r.kind 0) refl ∙ ap (λ (t : Bool). cond t (cond (count_test (naming i es) i r) (reach_test es i r) false) false) (sym test))
    where
      none : eqb r.number 0 ≡ true
      none = eq-eqb r.number 0 (sym q ∙ z)

      test : record_test i r ≡ free_record_test r
      test = rw none refl

      go : (k : Bool) → eqb r.kind 0 ≡ k → free_record_test r ≡ cond (free_record_test r) (cond (count_test (naming i es) i r) (reach_test es i r) false) false
      go true k =
          let other : eqb r.kind 4 ≡ false = ne_eqb r.kind 4 (λ f. absurd (let g : r.kind ≡ 0 = eqb-true r.kind 0 k in omega arith)) in
          rw (other, none) (sym (cond_self (free_record_test r)))
      go false k = rw k refl

-- ---- where a free place lies

first_of_entry : (b : List ℕ) → (entry_of b).parent ≡ get_or b 0 0
unfolding entry_of
first_of_entry b = refl

first_of_record : (b : List ℕ) → (record_of b).number ≡ get_or b 0 0
unfolding record_of
first_of_record b = refl

module _ (t : List ℕ) (b : Bool) where
  pub entry_zeros : (j : ℕ) → j ≤ 127 → length t ≡ 8192 → (entry_at (entries_of t) j).parent ≡ 0 → b ≡ all_zero (part t (4096 + 32 * j) (4096 + 32 * j + 32 - (4096 + 32 * j))) → b ≡ free_entry_test (entry_at (entries_of t) j)
  entry_zeros j h l z e =
      let w : 4096 + 32 * j + 32 - (4096 + 32 * j) ≡ 32 = omega arith in
      let i : entry_at (entries_of t) j ≡ entry_of (part t (4096 + 32 * j) 32) = entry_is t j (omega arith) in
      rw w at e
      ∙ (zero_entry (part t (4096 + 32 * j) 32) (simp (length-take, length-drop) (omega arith)) (sym (ap (λ (g : Entry). g.parent) i ∙ first_of_entry (part t (4096 + 32 * j) 32)) ∙ z)
      ∙ ap free_entry_test (sym i))

  pub record_zeros : (i : ℕ) → (i ≡ 0 → ⊥) → i ≤ 128 → length t ≡ 8192 → (record_at (records_of t) i).number ≡ 0 → b ≡ all_zero (part t (32 * (i - 1)) (32 * (i - 1) + 32 - 32 * (i - 1))) → b ≡ free_record_test (record_at (records_of t) i)
  record_zeros i n h l z e =
      let w : 32 * (i - 1) + 32 - 32 * (i - 1) ≡ 32 = omega arith in
      let s : record_at (records_of t) i ≡ record_of (part t (32 * (i - 1)) 32) = record_is t i n h in
      rw w at e
      ∙ (zero_record (part t (32 * (i - 1)) 32) (simp (length-take, length-drop) (omega arith)) (sym (ap (λ (r : Record). r.number) s ∙ first_of_record (part t (32 * (i - 1)) 32)) ∙ z)
      ∙ ap free_record_test (sym s))

pub entry_none : (t : List ℕ) (j : ℕ) → 127 < j → true ≡ free_entry_test (entry_at (entries_of t) j)
unfolding free_entry_test same_name
entry_none t j h = rw (← entry_past t j free_entry refl h) refl

pub record_none : (t : List ℕ) (i : ℕ) → 128 < i → true ≡ free_record_test (record_at (records_of t) i)
unfolding free_record_test
record_none t i h = rw (← record_past t i free_record refl h) refl

pub record_nought : (t : List ℕ) (i : ℕ) → i ≡ 0 → true ≡ free_record_test (record_at (records_of t) i)
unfolding free_record_test
record_nought t i h = rw h refl
