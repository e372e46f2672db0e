-- "no two entries share parent and name" is that each is found where it stands. Assumes nothing.
use Rattle.std.specs.Prelude.{Option, Some, None}
use mathlib.Core.Path.{◌≡◌, refl, sym, ap, ap₂, ◌∙◌}
use Prim.Native.Nat.{ℕ, ◌+◌, ◌<◌}
use native.Mathlib.Nat.{zero-add}
use native.Mathlib.Decide.{ℕ_discrete}
use mathlib.Core.Bool.{Bool, true, false, cond}
use mathlib.Core.List.{List}
use lib.Dec.{eqb, ltb}
use lib.ListN.{length, get_or-eq_default}
use borrow.Author.Tests.{eq-eqb, ne_eqb, eqb-true, ltb-true, ltb-false}
use Rattle.layers.specs.Items.{entry_at, free_entry}
use Rattle.layers.specs.Names.{Name}
use Rattle.layers.specs.Search.{names, name_of, search_of}
use Rattle.layers.specs.Rules.{Exactly, Used, is_place, NamesAreDistinct, once_test, distinct_test}
use Rattle.layers.proofs.Places.{first_found}
use Rattle.layers.proofs.EveryLaws.{no_true, again, never, split, both, eqb_exactly, every_exactly}
use Rattle.layers.proofs.RuleLaws.{same_exactly}
use Rattle.layers.specs.declared.items.Entry.{Entry}

pub names_exactly : (d : ℕ) (x : Name) (e : Entry) → Exactly (names d x e) ((e.parent ≡ 0 → ⊥) × ((e.parent ≡ d) × (name_of e ≡ x)))
unfolding names
names_exactly d x e =
    split e.parent 0 (λ z. never (λ h. h.0 z))
    (λ n. again (both (eqb_exactly e.parent d) (λ _. same_exactly (name_of e) x)) (λ h. (n, h)) (λ h. h.1))

module _ (es : List Entry) where
  pub once_sound : (j : ℕ) → Used es j → once_test es j (entry_at es j) ≡ true → search_of es (entry_at es j).parent (name_of (entry_at es j)) ≡ Some j
  unfolding once_test is_place
  once_sound j u h = go (search_of es (entry_at es j).parent (name_of (entry_at es j))) (rw (ne_eqb (entry_at es j).parent 0 u) at h)
    where
      go : (f : Option ℕ) → is_place j f ≡ true → f ≡ Some j
      go (Some k) h = ap Some (eqb-true k j h)
      go None h = no_true h

  pub used_inside : (j : ℕ) → Used es j → j < length es
  used_inside j u = go (ltb j (length es)) refl
    where
      go : (b : Bool) → ltb j (length es) ≡ b → j < length es
      go true e = ltb-true j (length es) e
      go false e = absurd (u (ap (λ (x : Entry). x.parent) (get_or-eq_default es free_entry {n = j} (ltb-false j (length es) e))))

  once_whole : NamesAreDistinct es → (j : ℕ) → once_test es j (entry_at es j) ≡ true
  unfolding once_test is_place
  once_whole g j = go (ℕ_discrete (entry_at es j).parent 0)
    where
      go : Dec ((entry_at es j).parent ≡ 0) → cond (eqb (entry_at es j).parent 0) true (is_place j (search_of es (entry_at es j).parent (name_of (entry_at es j)))) ≡ true
      go (yes z) = rw (eq-eqb (entry_at es j).parent 0 z) refl
      go (no z) =
          let t : (k : ℕ) × (search_of es (entry_at es j).parent (name_of (entry_at es j)) ≡ Some (0 + k)) × (names (entry_at es j).parent (name_of (entry_at es j)) (entry_at es k) ≡ true) =
          first_found (names (entry_at es j).parent (name_of (entry_at es j))) free_entry 0 es j (used_inside j z) ((names_exactly (entry_at es j).parent (name_of (entry_at es j)) (entry_at es j)).whole (z, (refl, refl))) in
          let n : ((entry_at es t.0).parent ≡ 0 → ⊥) × (((entry_at es t.0).parent ≡ (entry_at es j).parent) × (name_of (entry_at es t.0) ≡ name_of (entry_at es j))) =
          (names_exactly (entry_at es j).parent (name_of (entry_at es j)) (entry_at es t.0)).sound t.2 in
          rw (ne_eqb (entry_at es j).parent 0 z, t.1) (eq-eqb (0 + t.0) j (zero-add t.0 ∙ g t.0 j n.0 z n.1.0 n.1.1))

  pub distinct_exactly : Exactly (distinct_test es) (NamesAreDistinct es)
  distinct_exactly = again (every_exactly (once_test es) free_entry (λ _. unfold once_test in refl) es) two once_whole
    where
      two : ((i : ℕ) → once_test es i (entry_at es i) ≡ true) → NamesAreDistinct es
      two h i j u w p n =
          let a : search_of es (entry_at es i).parent (name_of (entry_at es i)) ≡ Some i = once_sound i u (h i) in
          let b : search_of es (entry_at es j).parent (name_of (entry_at es j)) ≡ Some j = once_sound j w (h j) in
          let c : Some i ≡ Some j = sym a ∙ (ap₂ (search_of es) p n ∙ b) in
          cc
