-- The scan, walked turn by turn. Assumes nothing.
use Rattle.std.specs.Prelude.{Option, Some, None, min}
use mathlib.Core.Path.{◌≡◌, refl, sym, ap, ◌∙◌, subst}
use Prim.Native.Nat.{ℕ, suc, ◌+◌, ◌*◌, ◌-◌, ◌≤◌, ◌<◌}
use native.Mathlib.Omega.{arith}
use native.Mathlib.Numerals.{add-one}
use mathlib.Core.Bool.{Bool, true, false, cond}
use mathlib.Core.List.{List, [], ◌∷◌, ◌++◌, append_assoc}
use lib.Dec.{eqb}
use lib.ListN.{length, take, drop, get_or, length-append, length-take, length-drop, drop_of_length-le}
use lib.Seq.{drop-cons, get_or-take, drop-drop, drop_at}
use borrow.Author.Tests.{eq-eqb, ne_eqb, lt-leb, le-ltb}
use Rattle.layers.specs.Bytes.{part}
use Rattle.layers.specs.Names.{Name}
use Rattle.layers.specs.Items.{entries_of, entry_at, free_entry}
use Rattle.layers.specs.Order.{insert_by, put_in, spot_from}
use Rattle.layers.specs.Sorted.{Sorted}
use Rattle.layers.specs.declared.items.Entry.{Entry}
use Rattle.layers.proofs.ItemLaws.{length_entries}
use Rattle.layers.proofs.SortLaws.{insert_sorted}
use Rattle.layers.proofs.PlaceLaws.{insert_taken, insert_free, insert_below, length_put_in}
use Rattle.merge.specs.Tables.{table_of, place_name}
use Rattle.merge.specs.Scan.{is_walked, ends_scan, scanned, in_directory}
use Rattle.merge.specs.Places.{add_place, add_places, places_of, merged_places, Filled}
use Rattle.merge.specs.declared.stacks.Pair.{Pair}

pub in_directory_is : (p d : ℕ) (e : Entry) → p ≡ e.parent → (p ≡ 0 → ⊥) → eqb p d ≡ in_directory d e
unfolding in_directory
in_directory_is p d e h n = rw (← h, ne_eqb p 0 n) refl

pub in_none : (p d : ℕ) (e : Entry) → p ≡ e.parent → p ≡ 0 → false ≡ in_directory d e
unfolding in_directory
in_none p d e h n = rw (← h, n) refl

-- ---- a place put in

rest_put_in : (p : List ℕ) (n i q : ℕ) → length p ≡ 512 → n < 512 → i ≤ n → drop (n + 1) (put_in p n i q) ≡ drop (n + 1) p
unfolding put_in
rest_put_in p n i q l h m =
    rw (eq-eqb (length p) 512 l, lt-leb 512 n h, le-ltb n i m, add-one n, ← append_assoc (take i p) (q ∷ part p i (n - i)) (drop (suc n) p))
    (drop_at (take i p ++ q ∷ part p i (n - i)) (drop (suc n) p) (suc n) (simp (length-append, length-take, length-drop) (omega arith)))

module _ (f : ℕ → Name) (p : List ℕ) (n q : ℕ) (x : Name) (x_is : x ≡ f q) (s : Option ℕ) (s_is : s ≡ spot_from f 0 x (take n p)) (l : length p ≡ 512) (b : n < 512) where
  pub filled_taken : s ≡ None → Filled p n (insert_by f q (take n p)) p
  filled_taken h = record { first = insert_taken f p n q x x_is s s_is h; rest = refl; long = l }

  pub filled_free : (i : ℕ) → s ≡ Some i → (v : List ℕ) → v ≡ put_in p n i q → Filled p (n + 1) (insert_by f q (take n p)) v
  filled_free i h v e =
      record {
        first = insert_free f p n q x x_is s s_is i h l b v e;
        rest = rw e (rest_put_in p n i q l b (insert_below f p n q x x_is s s_is i h l b));
        long = rw e (length_put_in p n i q l);
      }

module _ (f : ℕ → Name) (d q : ℕ) (e : Entry) (p : List ℕ) (n : ℕ) (b : Bool) (b_is : b ≡ in_directory d e) where
  pub filled_out : b ≡ false → length p ≡ 512 → Filled p n (add_place f d q e (take n p)) p
  unfolding add_place
  filled_out h l = record { first = rw (← b_is, h) refl; rest = refl; long = l }

  pub filled_in : b ≡ true → (r : ℕ) (v : List ℕ) → Filled p r (insert_by f q (take n p)) v → Filled p r (add_place f d q e (take n p)) v
  unfolding add_place
  filled_in h r v w = record { first = rw (← b_is, h) w.first; rest = w.rest; long = w.long }

-- ---- the walk

-- the places before `n` are in order, those from there on as they were, and what is left from place `i` of the stack on makes of them the merged places
pub record Scanned (u l : List ℕ) (s : List Pair) (len : ℕ) (p₀ p : List ℕ) (n i : ℕ) : Type 0 where
  pub long : length p ≡ 512
  pub rest : drop n p ≡ drop n p₀
  pub sorted : Sorted (place_name u l) (take n p)
  pub left : places_of u l (scanned u l (drop i (take len s))) (take n p) ≡ merged_places u l (take len s)

-- the same inside the layer `k` at place `i`, of whose table the entries from `j` on are still to come; `p₁` are the places when it was entered
pub record InLayer (u l : List ℕ) (s : List Pair) (len : ℕ) (p₁ : List ℕ) (k d : ℕ) (t p : List ℕ) (n i j : ℕ) : Type 0 where
  pub long : length p ≡ 512
  pub rest : drop n p ≡ drop n p₁
  pub sorted : Sorted (place_name u l) (take n p)
  pub left :
      places_of u l (cond (ends_scan t d) [] (scanned u l (drop (i + 1) (take len s)))) (add_places (place_name u l) d (128 * k + j) (drop j (entries_of t)) (take n p))
      ≡ merged_places u l (take len s)

added_sorted : (f : ℕ → Name) (d q : ℕ) (e : Entry) (ps ps' : List ℕ) → ps' ≡ add_place f d q e ps → Sorted f ps → Sorted f ps'
unfolding add_place
added_sorted f d q e ps ps' h s = subst (λ (l : List ℕ). Sorted f l) (sym h) (go (in_directory d e))
  where
    go : (b : Bool) → Sorted f (cond b (insert_by f q ps) ps)
    go true = insert_sorted f q ps s
    go false = s

-- two lists that agree from `n` on agree from any later place on
later_rest : (p p₀ : List ℕ) (n r : ℕ) → n ≤ r → drop n p ≡ drop n p₀ → drop r p ≡ drop r p₀
later_rest p p₀ n r h e =
    let m : n + (r - n) ≡ r = omega arith in
    rw (← m, ← drop-drop (r - n) n p, ← drop-drop (r - n) n p₀) (ap (λ (t : List ℕ). drop (r - n) t) e)

module _ (u l : List ℕ) (s : List Pair) (len : ℕ) (p₀ p : List ℕ) (n i : ℕ) where
  pub scan_start : length p ≡ 512 → Scanned u l s len p p 0 0
  unfolding merged_places
  scan_start h = record { long = h; rest = refl; sorted = tt; left = refl }

  module _ (o : Scanned u l s len p₀ p n i) (g : length s ≡ 4) where
    none : length (take len s) ≤ i → Filled p₀ n (merged_places u l (take len s)) p
    unfolding places_of scanned
    none e = record { first = sym (rw (drop_of_length-le (take len s) {i = i} e) refl) ∙ o.left; rest = o.rest; long = o.long }

    module _ (m : ℕ) (m_is : m ≡ min len 4) where
      pub scan_end : m ≤ i → Filled p₀ n (merged_places u l (take len s)) p
      scan_end e = none (simp length-take (omega (arith, m_is)))

      module _ (e : i < m) (z : Pair) where
        step : scanned u l (drop i (take len s)) ≡ cond (is_walked (table_of u l (get_or s i z).layer) (get_or s i z).number) (get_or s i z ∷ cond (ends_scan (table_of u l (get_or s i z).layer) (get_or s i z).number) [] (scanned u l (drop (i + 1) (take len s)))) []
        unfolding scanned
        step = rw (drop-cons (take len s) i z (simp length-take (omega (arith, m_is))), get_or-take len s i z (omega (arith, m_is)), add-one i) refl

        pub scan_stop : is_walked (table_of u l (get_or s i z).layer) (get_or s i z).number ≡ false → Filled p₀ n (merged_places u l (take len s)) p
        unfolding places_of
        scan_stop q = record { first = sym (rw (step, q) refl) ∙ o.left; rest = o.rest; long = o.long }

        pub scan_enter : (t : List ℕ) → t ≡ table_of u l (get_or s i z).layer → is_walked (table_of u l (get_or s i z).layer) (get_or s i z).number ≡ true → InLayer u l s len p (get_or s i z).layer (get_or s i z).number t p n i 0
        unfolding places_of
        scan_enter t t_is q =
            let a : 128 * (get_or s i z).layer + 0 ≡ 128 * (get_or s i z).layer = omega arith in
            record { long = o.long; rest = refl; sorted = o.sorted; left = rw (a, t_is) (sym (rw (step, q) refl) ∙ o.left) }

module _ (u l : List ℕ) (s : List Pair) (len : ℕ) (p₁ : List ℕ) (k d : ℕ) (t p : List ℕ) (n i j : ℕ) (o : InLayer u l s len p₁ k d t p n i j) where
  module _ (j_is : 128 ≤ j) (r : Bool) (r_is : r ≡ ends_scan t d) (p₀ : List ℕ) (n₁ : ℕ) (grown : n₁ ≤ n) (before : drop n₁ p₁ ≡ drop n₁ p₀) where
    none_left : places_of u l (cond r [] (scanned u l (drop (i + 1) (take len s)))) (take n p) ≡ merged_places u l (take len s)
    unfolding add_places
    none_left = rw r_is (sym (rw (drop_of_length-le (entries_of t) {i = j} (rw (length_entries t) (omega arith))) refl) ∙ o.left)

    pub scan_ends : r ≡ true → Filled p₀ n (merged_places u l (take len s)) p
    unfolding places_of
    scan_ends q = record { first = sym (rw q refl) ∙ none_left; rest = o.rest ∙ later_rest p₁ p₀ n₁ n grown before; long = o.long }

    pub scan_next : r ≡ false → Scanned u l s len p₀ p n (i + 1)
    scan_next q = record { long = o.long; rest = o.rest ∙ later_rest p₁ p₀ n₁ n grown before; sorted = o.sorted; left = sym (rw q refl) ∙ none_left }

  -- one entry more
  module _ (r q : ℕ) (p' : List ℕ) (w : Filled p r (add_place (place_name u l) d q (entry_at (entries_of t) j) (take n p)) p') (q_is : q ≡ 128 * k + j) (m : n ≤ r) (h : j < 128) where
    added : add_places (place_name u l) d (128 * k + j) (drop j (entries_of t)) (take n p) ≡ add_places (place_name u l) d (128 * k + (j + 1)) (drop (j + 1) (entries_of t)) (take r p')
    unfolding add_places
    added =
        let a : 128 * k + (j + 1) ≡ suc (128 * k + j) = omega arith in
        rw (w.first, a, add-one j, q_is, drop-cons (entries_of t) j free_entry (rw (length_entries t) (omega arith))) refl

    pub entry_next : InLayer u l s len p₁ k d t p' r i (j + 1)
    entry_next =
        record {
          long = w.long;
          rest = w.rest ∙ later_rest p p₁ n r m o.rest;
          sorted = added_sorted (place_name u l) d q (entry_at (entries_of t) j) (take n p) (take r p') w.first o.sorted;
          left = ap (places_of u l (cond (ends_scan t d) [] (scanned u l (drop (i + 1) (take len s))))) (sym added) ∙ o.left;
        }
