-- The stack of a name whose topmost place is known. Assumes nothing.
use Rattle.std.specs.Prelude.{Option, Some, None, min}
use mathlib.Core.Path.{◌≡◌, refl, sym, ap, ◌∙◌}
use Prim.Native.Nat.{ℕ, suc, ◌+◌, ◌*◌, ◌/◌, ◌%◌, ◌≤◌, ◌<◌}
use native.Mathlib.Omega.{arith}
use native.Mathlib.Nat.{add-zero, add-suc, zero-add, mod-lt}
use native.Mathlib.Numerals.{add-one}
use mathlib.Core.Bool.{Bool, true, false, cond}
use mathlib.Core.List.{List, [], ◌∷◌}
use lib.Dec.{eqb}
use lib.ListN.{length, take, drop, get_or, length-take}
use lib.Seq.{drop-cons, get_or-take}
use borrow.Author.Tests.{eq-eqb, ne_eqb, eqb-true}
use Rattle.layers.specs.Names.{Name, same_name}
use Rattle.layers.specs.Items.{entries_of, entry_at, free_entry}
use Rattle.layers.specs.Search.{name_of, names, first_from, search_of}
use Rattle.layers.specs.declared.items.Entry.{Entry}
use Rattle.layers.proofs.NameLaws.{same_refl}
use Rattle.layers.proofs.ItemLaws.{length_entries}
use Rattle.layers.proofs.ChangeLaws.{first_passes, first_below}
use Rattle.layers.proofs.Places.{first_found}
use Rattle.merge.specs.declared.stacks.Pair.{Pair}
use Rattle.merge.specs.declared.stacks.Stack.{Stack}
use Rattle.merge.specs.Tables.{table_of, place_name}
use Rattle.merge.specs.Classes.{child_at, named, seen_of}
use Rattle.merge.specs.Scan.{in_directory, is_walked, ends_scan, scanned}
use Rattle.merge.specs.Stacks.{seen_then, collect}
use Rattle.merge.specs.Pushes.{no_stack}
use Rattle.merge.specs.Tops.{or_else, top_place, holds_place, Above}
use Rattle.merge.proofs.ClassLaws.{walked_long}
use Rattle.merge.proofs.StackLaws.{Left, stack_start}
use Rattle.merge.proofs.TopPlaces.{outside}

-- ---- an entry that is known

pub named_known : (es : List Entry) (d : ℕ) (x : Name) (j r : ℕ) → search_of es d x ≡ Some j → r ≡ (entry_at es j).child → r ≡ named es d x
unfolding child_at
named_known es d x j r k e = e ∙ rw k refl

-- ---- where the walk starts

pub above_none : (u l : List ℕ) (s : List Pair) (x : Name) → Above u l s x 0
above_none u l s x = record { same = refl }

pub above_start : (u l : List ℕ) (s : List Pair) (z : Pair) (len : ℕ) (x : Name) (o : Stack) (b : ℕ) → o ≡ no_stack → length s ≡ 4 → Above u l (take len s) x b → Left u l s z len x o b
above_start u l s z len x o b h g a = rw a.same (stack_start u l s z len x o h g)

pub none_within : (o : Stack) (b : ℕ) → o ≡ no_stack → o.length ≤ b
none_within o b h = let e : o.length ≡ 0 = rw h refl in omega arith

-- ---- the directory of a place

-- a search that starts elsewhere
unfoldable plus : ℕ → Option ℕ → Option ℕ
plus a (Some k) = Some (a + k)
plus a None = None

first_plus : {A : Type 0} (p : A → Bool) (a k : ℕ) (xs : List A) → first_from p (a + k) xs ≡ plus a (first_from p k xs)
unfolding first_from plus
first_plus p a k [] = refl
first_plus p a k (x ∷ xs) = go (p x) (first_plus p a (suc k) xs)
  where
    go : (b : Bool) → first_from p (a + suc k) xs ≡ plus a (first_from p (suc k) xs) → cond b (Some (a + k)) (first_from p (suc (a + k)) xs) ≡ plus a (cond b (Some k) (first_from p (suc k) xs))
    go true ih = refl
    go false ih = ap (λ (n : ℕ). first_from p n xs) (sym (add-suc a k)) ∙ ih

inside : (d : ℕ) (x : Name) (e : Entry) → in_directory d e ≡ true → name_of e ≡ x → names d x e ≡ true
unfolding names in_directory
inside d x e i h = go (eqb e.parent 0) (eqb e.parent d) i (rw h (same_refl x))
  where
    go : (a b : Bool) → cond a false b ≡ true → same_name (name_of e) x ≡ true → cond a false (cond b (same_name (name_of e) x) false) ≡ true
    go true b z w = absurd (let o : ◌≡◌ {A = ℕ} 0 1 = cc in omega arith)
    go false true z w = w
    go false false z w = absurd (let o : ◌≡◌ {A = ℕ} 0 1 = cc in omega arith)

module _ (u l : List ℕ) (x : Name) (q : ℕ) (a : Pair) (r : List Pair) where
  abbrev t : List ℕ
  t = table_of u l a.layer

  abbrev es : List Entry
  es = entries_of (table_of u l a.layer)

  top_is : top_place u l x (scanned u l (a ∷ r)) ≡ cond (is_walked t a.number) (or_else (plus (128 * a.layer) (search_of es a.number x)) (top_place u l x (cond (ends_scan t a.number) [] (scanned u l r)))) None
  unfolding scanned top_place
  top_is = go (is_walked t a.number)
    where
      go : (b : Bool) → top_place u l x (cond b (a ∷ cond (ends_scan t a.number) [] (scanned u l r)) []) ≡ cond b (or_else (plus (128 * a.layer) (search_of es a.number x)) (top_place u l x (cond (ends_scan t a.number) [] (scanned u l r)))) None
      go true = ap (λ (f : Option ℕ). or_else f (top_place u l x (cond (ends_scan t a.number) [] (scanned u l r)))) (ap (λ (n : ℕ). first_from (names a.number x) n es) (sym (add-zero (128 * a.layer))) ∙ first_plus (names a.number x) (128 * a.layer) 0 es)
      go false = refl

  -- a directory that the scan walks and that has the name holds its topmost place
  found_holds : is_walked t a.number ≡ true → (k : ℕ) → search_of es a.number x ≡ Some k → 128 * a.layer + k ≡ q → holds_place u l a.layer a.number q ≡ true
  unfolding holds_place
  found_holds w k e h =
      let b : k < 0 + length es = first_below (names a.number x) free_entry 0 es k e in
      let c : k < 128 = omega (arith, length_entries t) in
      let i : a.layer ≡ q / 128 = omega arith in
      let j : q % 128 ≡ k = omega arith in
      let n : names a.number x (entry_at es k) ≡ true = first_passes (names a.number x) free_entry 0 es k (e ∙ ap Some (sym (zero-add k))) in
      rw (eq-eqb a.layer (q / 128) i, walked_long t a.number (is_walked t a.number) refl w, j) (stands (in_directory a.number (entry_at es k)) refl n)
    where
      stands : (b : Bool) → in_directory a.number (entry_at es k) ≡ b → names a.number x (entry_at es k) ≡ true → b ≡ true
      stands true z n = refl
      stands false z n = absurd (let y : true ≡ false = sym n ∙ outside a.number x (entry_at es k) z in let o : ◌≡◌ {A = ℕ} 0 1 = cc in omega arith)

  module _ (h : top_place u l x (scanned u l (a ∷ r)) ≡ Some q) where
    walked : is_walked t a.number ≡ true
    walked = go (is_walked t a.number) (sym top_is ∙ h)
      where
        go : (b : Bool) → cond b (or_else (plus (128 * a.layer) (search_of es a.number x)) (top_place u l x (cond (ends_scan t a.number) [] (scanned u l r)))) None ≡ Some q → b ≡ true
        go true e = refl
        go false e = absurd (let o : ◌≡◌ {A = ℕ} 0 1 = cc in omega arith)

    top_here : or_else (plus (128 * a.layer) (search_of es a.number x)) (top_place u l x (cond (ends_scan t a.number) [] (scanned u l r))) ≡ Some q
    top_here = sym (top_is ∙ rw walked refl) ∙ h

    module _ (n : holds_place u l a.layer a.number q ≡ false) where
      -- so one that does not hold it has no such name
      not_there : search_of es a.number x ≡ None
      unfolding or_else plus
      not_there = go (search_of es a.number x) refl top_here
        where
          go : (f : Option ℕ) → search_of es a.number x ≡ f → or_else (plus (128 * a.layer) f) (top_place u l x (cond (ends_scan t a.number) [] (scanned u l r))) ≡ Some q → f ≡ None
          go (Some k) e g = absurd (let m : 128 * a.layer + k ≡ q = cc in let y : true ≡ false = sym (found_holds walked k e m) ∙ n in let o : ◌≡◌ {A = ℕ} 0 1 = cc in omega arith)
          go None e g = refl

      goes_on : ends_scan t a.number ≡ false
      unfolding or_else plus top_place
      goes_on = go (ends_scan t a.number) (rw not_there at top_here)
        where
          go : (b : Bool) → top_place u l x (cond b [] (scanned u l r)) ≡ Some q → b ≡ false
          go true e = absurd (let o : ◌≡◌ {A = ℕ} 0 1 = cc in omega arith)
          go false e = refl

      skip_top : top_place u l x (scanned u l r) ≡ Some q
      unfolding or_else plus
      skip_top = rw (not_there, goes_on) at top_here

      skip_same : collect u l x (scanned u l (a ∷ r)) ≡ collect u l x (scanned u l r)
      unfolding scanned collect seen_of seen_then child_at
      skip_same = rw (walked, goes_on, not_there) refl

    holds_layer : holds_place u l a.layer a.number q ≡ true → a.layer ≡ q / 128
    unfolding holds_place
    holds_layer y = go (eqb a.layer (q / 128)) refl y
      where
        go : (b : Bool) → eqb a.layer (q / 128) ≡ b → cond b (cond (eqb (length t) 8192) (in_directory a.number (entry_at es (q % 128))) false) false ≡ true → a.layer ≡ q / 128
        go true e y = eqb-true a.layer (q / 128) e
        go false e y = absurd (let o : ◌≡◌ {A = ℕ} 0 1 = cc in omega arith)

    holds_entry : holds_place u l a.layer a.number q ≡ true → in_directory a.number (entry_at es (q % 128)) ≡ true
    unfolding holds_place
    holds_entry y = go (eqb a.layer (q / 128)) (eqb (length t) 8192) (in_directory a.number (entry_at es (q % 128))) y
      where
        go : (b c d : Bool) → cond b (cond c d false) false ≡ true → d ≡ true
        go true true d y = y
        go true false d y = absurd (let o : ◌≡◌ {A = ℕ} 0 1 = cc in omega arith)
        go false c d y = absurd (let o : ◌≡◌ {A = ℕ} 0 1 = cc in omega arith)

    -- and in the one that holds it the entry is that of the place
    own_entry : holds_place u l a.layer a.number q ≡ true → x ≡ place_name u l q → search_of es a.number x ≡ Some (q % 128)
    unfolding or_else plus
    own_entry y e =
        let i : a.layer ≡ q / 128 = holds_layer y in
        let j : q % 128 < length es = rw (length_entries t) (mod-lt q (omega arith)) in
        let g : name_of (entry_at es (q % 128)) ≡ x = ap (λ (k : ℕ). name_of (entry_at (entries_of (table_of u l k)) (q % 128))) i ∙ sym e in
        let n : names a.number x (entry_at es (q % 128)) ≡ true = inside a.number x (entry_at es (q % 128)) (holds_entry y) g in
        let f : (k : ℕ) × (search_of es a.number x ≡ Some (0 + k)) × (names a.number x (entry_at es k) ≡ true) = first_found (names a.number x) free_entry 0 es (q % 128) j n in
        let b : 0 + f.0 < 0 + length es = first_below (names a.number x) free_entry 0 es (0 + f.0) f.1 in
        let c : length es ≡ 128 = length_entries t in
        let m : 128 * a.layer + (0 + f.0) ≡ q = placed (search_of es a.number x) (0 + f.0) f.1 top_here in
        let k : 0 + f.0 ≡ q % 128 = omega arith in
        f.1 ∙ ap Some k
      where
        placed : (g : Option ℕ) (k : ℕ) → g ≡ Some k → or_else (plus (128 * a.layer) g) (top_place u l x (cond (ends_scan t a.number) [] (scanned u l r))) ≡ Some q → 128 * a.layer + k ≡ q
        placed g k e h = let w : Some (128 * a.layer + k) ≡ Some q = sym (rw e refl) ∙ h in cc

-- ---- as the code walks

module _ (u l : List ℕ) (k d q : ℕ) where
  pub other_layer : (k ≡ q / 128 → ⊥) → false ≡ holds_place u l k d q
  unfolding holds_place
  other_layer h = rw (ne_eqb k (q / 128) h) refl

  module _ (e : k ≡ q / 128) (w : ℕ) (w_is : w ≡ k) where
    pub no_layer_lem : table_of u l w ≡ [] → false ≡ holds_place u l k d q
    unfolding holds_place
    no_layer_lem h = let z : length (table_of u l k) ≡ 8192 → ⊥ = λ z. let y : length (table_of u l k) ≡ 0 = rw (← w_is, h) refl in omega arith in rw (eq-eqb k (q / 128) e, ne_eqb (length (table_of u l k)) 8192 z) refl

    pub holds_is : (r : Bool) (t : List ℕ) (j : ℕ) → t ≡ table_of u l w → length (table_of u l w) ≡ 8192 → j ≡ q % 128 → r ≡ in_directory d (entry_at (entries_of t) j) → r ≡ holds_place u l k d q
    unfolding holds_place
    holds_is r t j t_is h j_is g = rw (eq-eqb k (q / 128) e, ← w_is, h, ← t_is, ← j_is) g

pub ruleset holds_place_lem = (other_layer, no_layer_lem, holds_is)

module _ (u l : List ℕ) (s : List Pair) (len : ℕ) (x : Name) (q : ℕ) where
  -- from place `i` of the stack on `q` is still the topmost place, and no directory before has the name
  pub record Passing (i : ℕ) : Type 0 where
    pub top : top_place u l x (scanned u l (drop i (take len s))) ≡ Some q
    pub above : Above u l (take len s) x i

  pub passing_start : top_place u l x (scanned u l (take len s)) ≡ Some q → Passing 0
  passing_start h = record { top = h; above = above_none u l (take len s) x }

  module _ (z : Pair) (i m : ℕ) (p : Passing i) (g : length s ≡ 4) (m_is : m ≡ min len 4) (e : i < m) (r : Bool) (r_is : r ≡ holds_place u l (get_or s i z).layer (get_or s i z).number q) where
    front : drop i (take len s) ≡ get_or s i z ∷ drop (i + 1) (take len s)
    front = rw (drop-cons (take len s) i z (simp length-take (omega (arith, m_is))), get_or-take len s i z (omega (arith, m_is)), add-one i) refl

    top_front : top_place u l x (scanned u l (get_or s i z ∷ drop (i + 1) (take len s))) ≡ Some q
    top_front = rw (← front) p.top

    pub passing_next : r ≡ false → Passing (i + 1)
    passing_next y =
        record {
          top = skip_top u l x q (get_or s i z) (drop (i + 1) (take len s)) top_front (sym r_is ∙ y);
          above = record { same = sym (ap (λ (w : List Pair). collect u l x (scanned u l w)) front ∙ skip_same u l x q (get_or s i z) (drop (i + 1) (take len s)) top_front (sym r_is ∙ y)) ∙ p.above.same };
        }

    pub passing_above : r ≡ true → Above u l (take len s) x i
    passing_above y = p.above

    pub passing_known : r ≡ true → x ≡ place_name u l q → (j : ℕ) → j ≡ q % 128 → search_of (entries_of (table_of u l (get_or s i z).layer)) (get_or s i z).number x ≡ Some j
    passing_known y w j j_is = rw j_is (own_entry u l x q (get_or s i z) (drop (i + 1) (take len s)) top_front (sym r_is ∙ y) w)
