-- The first place that passes a test, and how many do, walked place by place. Assumes nothing.
use Rattle.std.specs.Prelude.{Some, None}
use mathlib.Core.Path.{◌≡◌, refl, sym, ap, ◌∙◌}
use Prim.Native.Nat.{ℕ, zero, suc, ◌+◌, ◌*◌, ◌-◌, ◌≤◌, ◌<◌, min}
use native.Mathlib.Omega.{arith}
use native.Mathlib.Nat.{add-zero, add-suc, suc-add}
use native.Mathlib.Numerals.{add-one}
use Rattle.layers.proofs.Runs.{drop_take}
use mathlib.Core.Bool.{Bool, true, false, cond}
use borrow.Author.Tests.{leb-true, leb-false}
use mathlib.Core.List.{List, [], ◌∷◌}
use lib.Dec.{leb}
use lib.ListN.{length, take, drop, get_or, drop_of_length-le, length-take, length-drop}
use lib.Seq.{drop-cons, get_or-take, get_or-drop, take-take, drop-drop, take_all}
use Rattle.layers.specs.Bytes.{part}
use Rattle.layers.specs.Items.{record_of, entry_of, records_of, entries_of, record_at, entry_at, free_record, free_entry}
use Rattle.layers.specs.Search.{first_from, name_of}
use Rattle.layers.specs.declared.items.Record.{Record}
use Rattle.layers.specs.declared.items.Entry.{Entry}
use Rattle.layers.proofs.ItemLaws.{entry_is, entry_past, record_is, record_past, length_records}

-- `ys` from place `s` on is what is searched, and `xs` from `i` on what is left of it at place `k`
module _ {A : Type 0} (p : A → Bool) (xs ys : List A) (d : A) (s k i : ℕ) where
  pub first_step_lem : i < length xs → first_from p k (drop i xs) ≡ cond (p (get_or xs i d)) (Some k) (first_from p (suc k) (drop (suc i) xs))
  unfolding first_from
  first_step_lem h = rw (drop-cons xs i d h) refl

  pub first_next : (r : Bool) → r ≡ p (get_or xs i d) → r ≡ false → (n : ℕ) → length xs ≡ n → i < n → first_from p k (drop i xs) ≡ first_from p s ys → first_from p (k + 1) (drop (i + 1) xs) ≡ first_from p s ys
  first_next r q f n l h e = rw (add-one k, add-one i) (sym (first_step_lem (omega arith) ∙ ap (λ t. cond t (Some k) (first_from p (suc k) (drop (suc i) xs))) (sym q ∙ f)) ∙ e)

  pub first_here : (r : Bool) → r ≡ p (get_or xs i d) → r ≡ true → (n : ℕ) → length xs ≡ n → i < n → first_from p k (drop i xs) ≡ first_from p s ys → Some k ≡ first_from p s ys
  first_here r q f n l h e = sym (first_step_lem (omega arith) ∙ ap (λ t. cond t (Some k) (first_from p (suc k) (drop (suc i) xs))) (sym q ∙ f)) ∙ e

  pub first_none : (n : ℕ) → length xs ≡ n → n ≤ i → first_from p k (drop i xs) ≡ first_from p s ys → None ≡ first_from p s ys
  unfolding first_from
  first_none n l h e = sym (rw (drop_of_length-le xs {i = i} (omega arith)) refl) ∙ e

-- where an item passes, the first that does is found, and it passes
module _ {A : Type 0} (p : A → Bool) (d : A) where
  pub first_found : (s : ℕ) (xs : List A) (j : ℕ) → j < length xs → p (get_or xs j d) ≡ true → (k : ℕ) × (first_from p s xs ≡ Some (s + k)) × (p (get_or xs k d) ≡ true)
  unfolding first_from
  first_found s [] j l h = absurd (omega arith)
  first_found s (x ∷ xs) j l h = go (p x) refl j l h (first_found (suc s) xs)
    where
      go : (b : Bool) → p x ≡ b → (j : ℕ) → j < length (x ∷ xs) → p (get_or (x ∷ xs) j d) ≡ true
          → ((j : ℕ) → j < length xs → p (get_or xs j d) ≡ true → (k : ℕ) × (first_from p (suc s) xs ≡ Some (suc s + k)) × (p (get_or xs k d) ≡ true))
          → (k : ℕ) × (cond b (Some s) (first_from p (suc s) xs) ≡ Some (s + k)) × (p (get_or (x ∷ xs) k d) ≡ true)
      go true e j l h ih = (0, rw (add-zero s) refl, e)
      go false e zero l h ih = absurd (let z : ◌≡◌ {A = ℕ} 0 1 = cc in omega arith)
      go false e (suc j) l h ih =
          let t : (k : ℕ) × (first_from p (suc s) xs ≡ Some (suc s + k)) × (p (get_or xs k d) ≡ true) = ih j (omega arith) h in
          (suc t.0, t.1 ∙ ap Some (suc-add s t.0 ∙ sym (add-suc s t.0)), t.2)

  -- and what is found passes
  pub found_passes : (s : ℕ) (xs : List A) (m : ℕ) → first_from p s xs ≡ Some m → (k : ℕ) × (m ≡ s + k) × (p (get_or xs k d) ≡ true)
  unfolding first_from
  found_passes s [] m h = absurd (let z : ◌≡◌ {A = ℕ} 0 1 = cc in omega arith)
  found_passes s (x ∷ xs) m h = go (p x) refl h (found_passes (suc s) xs m)
    where
      go : (b : Bool) → p x ≡ b → cond b (Some s) (first_from p (suc s) xs) ≡ Some m → (first_from p (suc s) xs ≡ Some m → (k : ℕ) × (m ≡ suc s + k) × (p (get_or xs k d) ≡ true)) → (k : ℕ) × (m ≡ s + k) × (p (get_or (x ∷ xs) k d) ≡ true)
      go true e h ih = let z : s ≡ m = cc in (0, omega arith, e)
      go false e h ih =
          let t : (k : ℕ) × (m ≡ suc s + k) × (p (get_or xs k d) ≡ true) = ih h in
          (suc t.0, t.1 ∙ (suc-add s t.0 ∙ sym (add-suc s t.0)), t.2)

pub ruleset first_walk = (first_next, first_here, first_none)

-- ---- an entry's fields, where they lie in the table
module _ (t : List ℕ) (j : ℕ) where
  -- a field that is one byte
  entry_byte : (f : Entry → ℕ) (k : ℕ) → k < 32 → ((b : List ℕ) → f (entry_of b) ≡ get_or b k 0) → j ≤ 127 → get_or t (4096 + 32 * j + k) 0 ≡ f (entry_at (entries_of t) j)
  entry_byte f k l e h =
      sym (ap f (entry_is t j (omega arith)) ∙ (e (part t (4096 + 32 * j) 32) ∙ (get_or-take 32 (drop (4096 + 32 * j) t) k 0 l ∙ get_or-drop (4096 + 32 * j) t k 0)))

  pub parent_is : j ≤ 127 → get_or t (4096 + 32 * j) 0 ≡ (entry_at (entries_of t) j).parent
  parent_is h = ap (λ (k : ℕ). get_or t k 0) (sym (add-zero (4096 + 32 * j))) ∙ entry_byte (λ e. e.parent) 0 (omega arith) (λ b. unfold entry_of in refl) h

  pub child_is : j ≤ 127 → get_or t (4096 + 32 * j + 1) 0 ≡ (entry_at (entries_of t) j).child
  child_is h = entry_byte (λ e. e.child) 1 (omega arith) (λ b. unfold entry_of in refl) h

  pub length_is : j ≤ 127 → get_or t (4096 + 32 * j + 2) 0 ≡ (entry_at (entries_of t) j).length
  length_is h = entry_byte (λ e. e.length) 2 (omega arith) (λ b. unfold entry_of in refl) h

  name_is : j ≤ 127 → length t ≡ 8192 → (entry_at (entries_of t) j).name ≡ part t (4096 + 32 * j + 4) 28
  unfolding entry_of
  name_is h n =
      rw (entry_is t j (omega arith))
      (ap (λ (l : List ℕ). take 28 l) (drop_take (drop (4096 + 32 * j) t) 4 28 (simp length-drop (omega arith)))
      ∙ (take-take 28 28 (drop 4 (drop (4096 + 32 * j) t)) (omega arith) ∙ ap (λ (l : List ℕ). take 28 l) (drop-drop 4 (4096 + 32 * j) t)))

  pub no_name : (x : List ℕ) → 127 < j → x ≡ take (0 - 0) (drop 0 t) → x ≡ name_of (entry_at (entries_of t) j)
  no_name x h e = e ∙ ap name_of (entry_past t j free_entry refl h)

  -- a name's length byte above 28 gives the whole 28
  pub long_name : (n b : ℕ) (x : List ℕ) → j ≤ 127 → length t ≡ 8192 → b ≡ (entry_at (entries_of t) j).length → n ≡ b → 28 < n
      → x ≡ part t (4096 + 32 * j + 4) (4096 + 32 * j + 4 + 28 - (4096 + 32 * j + 4)) → x ≡ name_of (entry_at (entries_of t) j)
  long_name n b x h l p q g e =
      let w : 4096 + 32 * j + 4 + 28 - (4096 + 32 * j + 4) ≡ 28 = omega arith in
      rw w at e
      ∙ sym
      (rw (name_is h l, ← p)
      (take_all b (part t (4096 + 32 * j + 4) 28) (simp (length-take, length-drop) (omega arith))))

  pub short_name : (n b : ℕ) (x : List ℕ) → j ≤ 127 → length t ≡ 8192 → b ≡ (entry_at (entries_of t) j).length → n ≡ b → n ≤ 28
      → x ≡ part t (4096 + 32 * j + 4) (4096 + 32 * j + 4 + n - (4096 + 32 * j + 4)) → x ≡ name_of (entry_at (entries_of t) j)
  short_name n b x h l p q g e =
      let w : 4096 + 32 * j + 4 + n - (4096 + 32 * j + 4) ≡ b = omega arith in
      rw w at e ∙ sym (rw (name_is h l, ← p) (take-take b 28 (drop (4096 + 32 * j + 4) t) (omega arith)))

  pub least_name : (n b : ℕ) (x : List ℕ) → j ≤ 127 → length t ≡ 8192 → b ≡ (entry_at (entries_of t) j).length → n ≡ min b 28
      → x ≡ part t (4096 + 32 * j + 4) (4096 + 32 * j + 4 + n - (4096 + 32 * j + 4)) → x ≡ name_of (entry_at (entries_of t) j)
  least_name n b x h l p q e = go (leb b 28) refl
    where
      go : (c : Bool) → leb b 28 ≡ c → x ≡ name_of (entry_at (entries_of t) j)
      go true w = let s : b ≤ 28 = leb-true b 28 w in let k : n ≡ b = omega arith in short_name b b x h l p refl s (rw k at e)
      go false w = let s : 28 < b = leb-false b 28 w in let k : n ≡ 28 = omega arith in long_name b b x h l p refl s (rw k at e)

-- ---- a record's first bytes, where they lie in the table
module _ (t : List ℕ) (i : ℕ) where
  record_byte : (f : Record → ℕ) (k : ℕ) → k < 32 → ((b : List ℕ) → f (record_of b) ≡ get_or b k 0) → (i ≡ 0 → ⊥) → i ≤ 128 → get_or t (32 * (i - 1) + k) 0 ≡ f (record_at (records_of t) i)
  record_byte f k l e z h =
      sym (ap f (record_is t i z h) ∙ (e (part t (32 * (i - 1)) 32) ∙ (get_or-take 32 (drop (32 * (i - 1)) t) k 0 l ∙ get_or-drop (32 * (i - 1)) t k 0)))

  pub number_is : (i ≡ 0 → ⊥) → i ≤ 128 → get_or t (32 * (i - 1)) 0 ≡ (record_at (records_of t) i).number
  number_is z h = ap (λ (k : ℕ). get_or t k 0) (sym (add-zero (32 * (i - 1)))) ∙ record_byte (λ r. r.number) 0 (omega arith) (λ b. unfold record_of in refl) z h

  pub kind_is : (i ≡ 0 → ⊥) → i ≤ 128 → get_or t (32 * (i - 1) + 1) 0 ≡ (record_at (records_of t) i).kind
  kind_is z h = record_byte (λ r. r.kind) 1 (omega arith) (λ b. unfold record_of in refl) z h

-- ---- a field outside the table

pub entry_out : (f : Entry → ℕ) → f free_entry ≡ 0 → (t : List ℕ) (j : ℕ) → 127 < j → 0 ≡ f (entry_at (entries_of t) j)
entry_out f z t j h = sym z ∙ ap f (entry_past t j free_entry refl h)

pub record_out : (f : Record → ℕ) → f free_record ≡ 0 → (t : List ℕ) (i : ℕ) → 128 < i → 0 ≡ f (record_at (records_of t) i)
record_out f z t i h = sym z ∙ ap f (record_past t i free_record refl h)

-- record 0, free, stands before the table's
pub length_from_zero : (t : List ℕ) → length (free_record ∷ records_of t) ≡ 129
length_from_zero t = ap suc (length_records t)
