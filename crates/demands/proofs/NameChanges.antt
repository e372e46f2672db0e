-- A change at one directory and name of a table leaves what every other directory and name has. Assumes nothing.
use Rattle.std.specs.Prelude.{Option, Some, None}
use mathlib.Core.Path.{◌≡◌, refl, sym, ap, ◌∙◌}
use mathlib.Core.Logic.{◌≢◌}
use Prim.Native.Nat.{ℕ, ◌<◌}
use native.Mathlib.Omega.{arith}
use native.Mathlib.Nat.{zero-add}
use mathlib.Core.Bool.{Bool, true, false, cond}
use mathlib.Core.List.{List}
use lib.Dec.{eqb}
use lib.ListN.{length}
use lib.Seq.{get_or-set_same, get_or-set_other}
use borrow.Author.Tests.{eqb-true}
use Rattle.layers.specs.Names.{Name, same_name}
use Rattle.layers.specs.Items.{entries_of, records_of, entry_at, record_at, free_entry, with_entry}
use Rattle.layers.specs.Search.{name_of, names, is_free, search_of, free_entry_place}
use Rattle.layers.specs.Change.{entry_placed, entry_added, entries_left}
use Rattle.layers.specs.declared.items.Entry.{Entry}
use Rattle.layers.proofs.NameLaws.{same_true}
use Rattle.layers.proofs.ChangeLaws.{first_passes, search_other, search_new, free_place_free, free_place_below, left_search}
use Rattle.merge.specs.Classes.{class_of, class_at, child_at, named, seen_of}

-- another directory or another name
abbrev pub Elsewhere : ℕ → Name → ℕ → Name → Type 0
Elsewhere d x c y = c ≡ d → y ≡ x → ⊥

true_false : {A : Type 0} → true ≡ false → A
true_false e = absurd (let z : ◌≡◌ {A = ℕ} 0 1 = cc in omega arith)

-- an entry names one name of one directory
pub names_parts : (d : ℕ) (x : Name) (e : Entry) → names d x e ≡ true → (e.parent ≡ d) × (name_of e ≡ x)
unfolding names
names_parts d x e = go (eqb e.parent 0) (eqb e.parent d) refl (same_name (name_of e) x) refl
  where
    go : (a b : Bool) → eqb e.parent d ≡ b → (c : Bool) → same_name (name_of e) x ≡ c → cond a false (cond b c false) ≡ true → (e.parent ≡ d) × (name_of e ≡ x)
    go true b p c q h = true_false (sym h)
    go false true p true q h = (eqb-true e.parent d p, same_true (name_of e) x q)
    go false true p false q h = true_false (sym h)
    go false false p c q h = true_false (sym h)

pub names_elsewhere : (d : ℕ) (x : Name) (e : Entry) → names d x e ≡ true → (c : ℕ) (y : Name) → Elsewhere d x c y → names c y e ≡ false
names_elsewhere d x e h c y n = go (names c y e) refl
  where
    go : (b : Bool) → names c y e ≡ b → b ≡ false
    go true p =
        let i : (e.parent ≡ d) × (name_of e ≡ x) = names_parts d x e h in
        let j : (e.parent ≡ c) × (name_of e ≡ y) = names_parts c y e p in
        absurd (n (sym j.0 ∙ i.0) (sym j.1 ∙ i.1))
    go false p = refl

free_names : (c : ℕ) (y : Name) (e : Entry) → is_free e ≡ true → names c y e ≡ false
unfolding names is_free
free_names c y e h = rw h refl

-- ---- one entry changed

module _ (es : List Entry) (k : ℕ) (e : Entry) (d : ℕ) (x : Name) where
  pub named_other : names d x e ≡ false → names d x (entry_at es k) ≡ false → named (with_entry es k e) d x ≡ named es d x
  unfolding child_at
  named_other n m = rw (search_other es k e d x n m) (go (search_of es d x) refl)
    where
      go : (f : Option ℕ) → search_of es d x ≡ f → child_at (with_entry es k e) f ≡ child_at es f
      go (Some j) q =
          let here : names d x (entry_at es j) ≡ true = first_passes (names d x) free_entry 0 es j (q ∙ ap Some (sym (zero-add j))) in
          ap (λ g. g.child) (get_or-set_other es k j e free_entry (λ z. true_false (sym here ∙ (ap (λ (i : ℕ). names d x (entry_at es i)) z ∙ m))))
      go None q = refl

  pub named_new : names d x e ≡ true → k < length es → search_of es d x ≡ None → named (with_entry es k e) d x ≡ e.child
  unfolding child_at
  named_new h l m = rw (search_new es k e d x h l m) (ap (λ g. g.child) (get_or-set_same es k e free_entry l))

-- ---- an entry added

module _ (es : List Entry) (e : Entry) (d : ℕ) (x : Name) (h : names d x e ≡ true) where
  pub added_named_other : (c : ℕ) (y : Name) → Elsewhere d x c y → named (entry_added es e) c y ≡ named es c y
  unfolding entry_placed
  added_named_other c y n = go (free_entry_place es) refl
    where
      go : (f : Option ℕ) → free_entry_place es ≡ f → named (entry_placed es f e) c y ≡ named es c y
      go (Some k) q = named_other es k e c y (names_elsewhere d x e h c y n) (free_names c y (entry_at es k) (free_place_free es k q))
      go None q = refl

  pub added_named : (k : ℕ) → free_entry_place es ≡ Some k → search_of es d x ≡ None → named (entry_added es e) d x ≡ e.child
  unfolding entry_placed
  added_named k q m = rw q (named_new es k e d x h (free_place_below es k q) m)

-- ---- an entry taken away

module _ (es : List Entry) (j : ℕ) (d : ℕ) (x : Name) where
  pub left_named_other : names d x (entry_at es j) ≡ true → (c : ℕ) (y : Name) → Elsewhere d x c y → named (entries_left es j) c y ≡ named es c y
  left_named_other h c y n = named_other es j free_entry c y (free_names c y free_entry (unfold is_free in refl)) (names_elsewhere d x (entry_at es j) h c y n)

  -- the name is gone, where no other entry has it
  pub left_named : ((i : ℕ) → i ≢ j → names d x (entry_at es i) ≡ false) → named (entries_left es j) d x ≡ 0
  unfolding child_at
  left_named only = rw (left_search es j d x only) refl

-- ---- what a layer has under a name

-- the table `u` is `t` but for the name `x` in the directory `d`: every other entry is found as before, and names the same record
pub record ChangedAt (t u : List ℕ) (d : ℕ) (x : Name) : Type 0 where
  pub others : (c : ℕ) (y : Name) → Elsewhere d x c y → named (entries_of u) c y ≡ named (entries_of t) c y
  pub stay : (c : ℕ) (y : Name) → Elsewhere d x c y → record_at (records_of u) (named (entries_of t) c y) ≡ record_at (records_of t) (named (entries_of t) c y)

pub class_agree : (t u : List ℕ) (d n : ℕ) → record_at (records_of u) n ≡ record_at (records_of t) n → class_at u d n ≡ class_at t d n
unfolding class_at
class_agree t u d n e = ap class_of e

pub seen_agree : (t u : List ℕ) (d : ℕ) (x : Name) → named (entries_of u) d x ≡ named (entries_of t) d x → class_at u d (named (entries_of t) d x) ≡ class_at t d (named (entries_of t) d x) → seen_of u d x ≡ seen_of t d x
unfolding seen_of
seen_agree t u d x e h = rw (e, h) refl

-- what every other directory and name has stays
pub seen_elsewhere : (t u : List ℕ) (d : ℕ) (x : Name) → ChangedAt t u d x → (c : ℕ) (y : Name) → Elsewhere d x c y → seen_of u c y ≡ seen_of t c y
seen_elsewhere t u d x h c y n = seen_agree t u c y (h.others c y n) (class_agree t u c (named (entries_of t) c y) (h.stay c y n))
