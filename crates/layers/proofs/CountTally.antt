-- How many entries name each record, and the first one's parent, collected from the last entry on. Assumes nothing.
use mathlib.Core.Path.{◌≡◌, refl, sym, ap, ◌∙◌}
use Prim.Native.Nat.{ℕ, zero, suc, ◌+◌, ◌-◌, ◌≤◌, ◌<◌}
use native.Mathlib.Omega.{arith}
use native.Mathlib.Nat.{zero-add}
use native.Mathlib.Numerals.{add-one}
use native.Mathlib.Decide.{ℕ_discrete}
use mathlib.Core.Bool.{false, cond}
use mathlib.Core.List.{List, [], ◌∷◌}
use lib.Dec.{eqb}
use lib.ListN.{length, drop, get_or, set, replicate, length-set, length-drop, length-replicate}
use lib.Seq.{drop-cons, get_or-drop, get_or-set_same, get_or-set_other}
use borrow.Author.Tests.{eq-eqb, ne_eqb}
use Rattle.layers.specs.Items.{entry_at, free_entry}
use Rattle.layers.specs.Search.{one, count_if, names_record, naming}
use Rattle.layers.specs.Rules.{parent_of}
use Rattle.layers.specs.RulesTally.{Counted, Parented, FreeFrom}
use Rattle.layers.proofs.CountLaws.{count_below, none_count}
use Rattle.layers.specs.declared.items.Entry.{Entry}

-- the entry at place `j`, read as `p` and `c`
module _ (es : List Entry) (a : List ℕ) (j n : ℕ) (l : length es ≡ n) (h : j < n) (p : ℕ) (p_is : p ≡ (entry_at es j).parent) where
  naming_step : (r : ℕ) → naming r (drop j es) ≡ one (names_record r (entry_at es j)) + naming r (drop (j + 1) es)
  unfolding count_if
  naming_step r = rw (add-one j, drop-cons es j free_entry (omega arith)) refl

  parent_step : (r : ℕ) → parent_of (drop j es) r ≡ cond (names_record r (entry_at es j)) (entry_at es j).parent (parent_of (drop (j + 1) es) r)
  unfolding parent_of
  parent_step r = rw (add-one j, drop-cons es j free_entry (omega arith)) refl

  -- a free place names nothing
  module _ (z : p ≡ 0) where
    none_here : (r : ℕ) → names_record r (entry_at es j) ≡ false
    unfolding names_record
    none_here r = rw (eq-eqb (entry_at es j).parent 0 (sym p_is ∙ z)) refl

    pub counted_free : Counted (drop (j + 1) es) a → Counted (drop j es) a
    unfolding one
    counted_free g = record { sized = g.sized; counts = λ r b. g.counts r b ∙ sym (naming_step r ∙ rw (none_here r) (zero-add (naming r (drop (j + 1) es)))) }

    pub parented_free : Parented (drop (j + 1) es) a → Parented (drop j es) a
    parented_free g = record { sized = g.sized; parents = λ r b. g.parents r b ∙ sym (parent_step r ∙ rw (none_here r) refl) }

  module _ (z : p ≡ 0 → ⊥) (c : ℕ) (c_is : c ≡ (entry_at es j).child) (w : ℕ) (w_is : w ≡ c) where
    names_here : (r : ℕ) → names_record r (entry_at es j) ≡ eqb w r
    unfolding names_record
    names_here r = rw (ne_eqb (entry_at es j).parent 0 (λ e. z (p_is ∙ e))) (ap (λ (k : ℕ). eqb k r) (sym (w_is ∙ c_is)))

    pub counted_used : Counted (drop (j + 1) es) a → Counted (drop j es) (set a w (get_or a w 0 + 1))
    unfolding one
    counted_used g = record { sized = simp length-set g.sized; counts = λ r b. go r b (ℕ_discrete w r) }
      where
        go : (r : ℕ) → r < 256 → Dec (w ≡ r) → get_or (set a w (get_or a w 0 + 1)) r 0 ≡ naming r (drop j es)
        go r b (yes e) =
            let k : length a ≡ 256 = g.sized in
            let m : get_or a r 0 ≡ naming r (drop (j + 1) es) = g.counts r b in
            rw (naming_step r, names_here r, eq-eqb w r e, e) (get_or-set_same a r (get_or a r 0 + 1) 0 (omega arith) ∙ omega arith)
        go r b (no e) = rw (naming_step r, names_here r, ne_eqb w r e) (get_or-set_other a w r (get_or a w 0 + 1) 0 (λ q. e (sym q)) ∙ (g.counts r b ∙ sym (zero-add (naming r (drop (j + 1) es)))))

    pub parented_used : Parented (drop (j + 1) es) a → Parented (drop j es) (set a w p)
    parented_used g = record { sized = simp length-set g.sized; parents = λ r b. go r b (ℕ_discrete w r) }
      where
        go : (r : ℕ) → r < 256 → Dec (w ≡ r) → get_or (set a w p) r 0 ≡ parent_of (drop j es) r
        go r b (yes e) =
            let k : length a ≡ 256 = g.sized in
            rw (parent_step r, names_here r, eq-eqb w r e, e) (get_or-set_same a r p 0 (omega arith) ∙ p_is)
        go r b (no e) = rw (parent_step r, names_here r, ne_eqb w r e) (get_or-set_other a w r p 0 (λ q. e (sym q)) ∙ g.parents r b)

-- a count fits its byte
pub counted_room : (es : List Entry) (a : List ℕ) (j w : ℕ) → length es ≡ 128 → j < 128 → w < 256 → Counted (drop (j + 1) es) a → get_or a w 0 + 1 < 256
counted_room es a j w l h b g =
    let m : get_or a w 0 ≡ naming w (drop (j + 1) es) = g.counts w b in
    let k : naming w (drop (j + 1) es) ≤ length (drop (j + 1) es) = count_below (names_record w) (drop (j + 1) es) in
    let s : length (drop (j + 1) es) ≡ 128 - (j + 1) = simp (length-drop, l) in
    omega arith

-- ---- the start and each turn of the walk

free_names_none : (r : ℕ) → names_record r free_entry ≡ false
unfolding names_record
free_names_none r = refl

no_parent : (es : List Entry) (r : ℕ) → ((j : ℕ) → names_record r (entry_at es j) ≡ false) → parent_of es r ≡ 0
unfolding parent_of
no_parent [] r h = refl
no_parent (e ∷ es) r h = rw (h 0) (no_parent es r (λ j. h (suc j)))

zeros_at : (n r : ℕ) → ◌≡◌ {A = ℕ} (get_or (replicate n 0) r 0) 0
zeros_at zero r = refl
zeros_at (suc n) zero = refl
zeros_at (suc n) (suc r) = zeros_at n r

module _ (es : List Entry) (a : List ℕ) where
  -- the places from `n` on are free
  module _ (n : ℕ) (g : FreeFrom free_entry es n) where
    none_left : (r j : ℕ) → names_record r (entry_at (drop n es) j) ≡ false
    none_left r j = ap (names_record r) (get_or-drop n es j free_entry ∙ g.rest (n + j) (omega arith)) ∙ free_names_none r

    pub counted_start : a ≡ replicate 256 0 → Counted (drop n es) a
    counted_start e =
        rw e
        (record { sized = length-replicate {A = ℕ} 256 0; counts = λ r _. zeros_at 256 r ∙ sym (none_count (names_record r) free_entry (free_names_none r) (drop n es) (none_left r)) })

    pub parented_start : a ≡ replicate 256 0 → Parented (drop n es) a
    parented_start e = rw e (record { sized = length-replicate {A = ℕ} 256 0; parents = λ r _. zeros_at 256 r ∙ sym (no_parent (drop n es) r (none_left r)) })

  module _ (j : ℕ) where
    pub counted_before : 0 < j → Counted (drop j es) a → Counted (drop (j - 1 + 1) es) a
    counted_before h g = let e : j - 1 + 1 ≡ j = omega arith in rw e g

    pub parented_before : 0 < j → Parented (drop j es) a → Parented (drop (j - 1 + 1) es) a
    parented_before h g = let e : j - 1 + 1 ≡ j = omega arith in rw e g

    pub counted_all : j ≤ 0 → Counted (drop j es) a → Counted es a
    counted_all h g = let e : j ≡ 0 = omega arith in rw e at g

    pub parented_all : j ≤ 0 → Parented (drop j es) a → Parented es a
    parented_all h g = let e : j ≡ 0 = omega arith in rw e at g
