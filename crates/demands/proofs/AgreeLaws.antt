-- Where two sets of layers agree below a stack, and what a made directory in front of it leaves. Assumes nothing.
use Rattle.std.specs.Prelude.{None, Some}
use mathlib.Core.Path.{◌≡◌, refl, sym, ap, ◌∙◌}
use mathlib.Core.Logic.{◌≢◌}
use Prim.Native.Nat.{ℕ, suc}
use mathlib.Core.Bool.{Bool, true, false, cond}
use mathlib.Core.List.{List, [], ◌∷◌, map}
use lib.Dec.{eqb}
use borrow.Author.Tests.{ne_eqb}
use native.Mathlib.Omega.{arith}
use Rattle.layers.specs.Names.{Name, same_name}
use Rattle.layers.specs.Items.{entries_of, entry_at, free_entry}
use Rattle.layers.specs.Search.{name_of, names, search_of}
use Rattle.layers.specs.declared.items.Entry.{Entry}
use Rattle.layers.proofs.ChangeLaws.{first_missing}
use Rattle.merge.specs.Tables.{table_of}
use Rattle.merge.specs.Classes.{child_at, named, seen_of}
use Rattle.merge.specs.Scan.{is_walked, ends_scan, scanned, in_directory, add_name, add_names, names_of, merged_names}
use Rattle.merge.specs.Stacks.{pair, seen_then, collect, reals_of, merge, marks, stack_of, whiteout_of}
use Rattle.merge.specs.declared.stacks.Pair.{Pair}
use Rattle.merge.specs.declared.stacks.Class.{Class}
use Rattle.merge.proofs.MergeLaws.{Each}

-- ---- from the real records to the stack and its mark

module _ (u v l : List ℕ) (s q : List Pair) (x : Name) (e : reals_of u l s x ≡ reals_of v l q x) where
  pub stack_of_reals : stack_of u l s x ≡ stack_of v l q x
  unfolding stack_of
  stack_of_reals = ap (λ rs. map (λ r. r.place) (merge (λ r. r.class) rs)) e

  pub whiteout_of_reals : whiteout_of u l s x ≡ whiteout_of v l q x
  unfolding whiteout_of
  whiteout_of_reals = ap (λ rs. marks (λ r. r.class) rs) e

-- ---- a record in front

module _ (u l : List ℕ) (a : Pair) (s : List Pair) (walked : is_walked (table_of u l a.layer) a.number ≡ true) where
  pub scanned_plain : ends_scan (table_of u l a.layer) a.number ≡ false → scanned u l (a ∷ s) ≡ a ∷ scanned u l s
  unfolding scanned
  scanned_plain e = rw (walked, e) refl

  pub scanned_opaque : ends_scan (table_of u l a.layer) a.number ≡ true → scanned u l (a ∷ s) ≡ a ∷ []
  unfolding scanned
  scanned_opaque e = rw (walked, e) refl

  module _ (x : Name) where
    -- a name that the first directory does not have
    pub reals_front : ends_scan (table_of u l a.layer) a.number ≡ false → seen_of (table_of u l a.layer) a.number x ≡ None → reals_of u l (a ∷ s) x ≡ reals_of u l s x
    unfolding collect seen_then
    reals_front e h = rw (scanned_plain e, h) refl

    -- a name that it has
    pub reals_there : ends_scan (table_of u l a.layer) a.number ≡ false → (c : Class) (n : ℕ) → seen_of (table_of u l a.layer) a.number x ≡ Some (c, n)
        → reals_of u l (a ∷ s) x ≡ record { place = pair a.layer n; class = c } ∷ reals_of u l s x
    unfolding collect seen_then
    reals_there e c n h = rw (scanned_plain e, h) refl

    pub reals_alone : ends_scan (table_of u l a.layer) a.number ≡ true → (c : Class) (n : ℕ) → seen_of (table_of u l a.layer) a.number x ≡ Some (c, n)
        → reals_of u l (a ∷ s) x ≡ record { place = pair a.layer n; class = c } ∷ []
    unfolding collect seen_then
    reals_alone e c n h = rw (scanned_opaque e, h) refl

-- ---- layers that agree

-- the record `a` is scanned alike in the layers of `u` and of `v`
pub record SameScan (u v l : List ℕ) (a : Pair) : Type 0 where
  pub walked : is_walked (table_of u l a.layer) a.number ≡ is_walked (table_of v l a.layer) a.number
  pub ends : ends_scan (table_of u l a.layer) a.number ≡ ends_scan (table_of v l a.layer) a.number

-- and has the same under the name `x`
pub record SameName (u v l : List ℕ) (x : Name) (a : Pair) : Type 0 where
  pub scan : SameScan u v l a
  pub seen : seen_of (table_of u l a.layer) a.number x ≡ seen_of (table_of v l a.layer) a.number x

-- a change of the upper layer leaves the lower ones
pub lower_table : (u v l : List ℕ) (k : ℕ) → k ≢ 0 → table_of u l k ≡ table_of v l k
unfolding table_of
lower_table u v l k h = rw (ne_eqb k 0 h) refl

pub lower_same : (u v l : List ℕ) (x : Name) (a : Pair) → a.layer ≢ 0 → SameName u v l x a
lower_same u v l x a h =
    let e : table_of u l a.layer ≡ table_of v l a.layer = lower_table u v l a.layer h in
    record { scan = record { walked = rw e refl; ends = rw e refl }; seen = rw e refl }

module _ (u v l : List ℕ) where
  pub scanned_agree : (s : List Pair) → Each (SameScan u v l) s → scanned u l s ≡ scanned v l s
  unfolding scanned
  scanned_agree [] h = refl
  scanned_agree (a ∷ s) h = rw (h.0.walked, h.0.ends, scanned_agree s h.1) refl

  pub collect_agree : (x : Name) (s : List Pair) → Each (λ a. seen_of (table_of u l a.layer) a.number x ≡ seen_of (table_of v l a.layer) a.number x) s → collect u l x s ≡ collect v l x s
  unfolding collect
  collect_agree x [] h = refl
  collect_agree x (a ∷ s) h = rw (h.0, collect_agree x s h.1) refl

  -- below a stack whose records are alike, a name has the same real records
  pub reals_agree : (x : Name) (s : List Pair) → Each (SameName u v l x) s → reals_of u l s x ≡ reals_of v l s x
  unfolding scanned collect
  reals_agree x [] h = refl
  reals_agree x (a ∷ s) h = go (is_walked (table_of v l a.layer) a.number) (ends_scan (table_of v l a.layer) a.number) (reals_agree x s h.1) h.0.scan.walked h.0.scan.ends
    where
      go : (b c : Bool) → reals_of u l s x ≡ reals_of v l s x → is_walked (table_of u l a.layer) a.number ≡ b → ends_scan (table_of u l a.layer) a.number ≡ c
          → collect u l x (cond (is_walked (table_of u l a.layer) a.number) (a ∷ cond (ends_scan (table_of u l a.layer) a.number) [] (scanned u l s)) [])
          ≡ collect v l x (cond b (a ∷ cond c [] (scanned v l s)) [])
      go true true ih p q = rw (p, q, h.0.seen) refl
      go true false ih p q = rw (p, q, h.0.seen, ih) refl
      go false c ih p q = rw p refl

  -- a made directory, plain and without the name, in front of a stack keeps what the name has
  pub made_front : (x : Name) (a : Pair) (s : List Pair) → is_walked (table_of v l a.layer) a.number ≡ true → ends_scan (table_of v l a.layer) a.number ≡ false
      → seen_of (table_of v l a.layer) a.number x ≡ None → Each (SameName u v l x) s → reals_of v l (a ∷ s) x ≡ reals_of u l s x
  made_front x a s w e n h = reals_front v l a s w x e n ∙ sym (reals_agree x s h)

  module _ (x : Name) (a : Pair) (s : List Pair) (w : is_walked (table_of v l a.layer) a.number ≡ true) (e : ends_scan (table_of v l a.layer) a.number ≡ false)
      (n : seen_of (table_of v l a.layer) a.number x ≡ None) (h : Each (SameName u v l x) s) where
    pub stack_front : stack_of v l (a ∷ s) x ≡ stack_of u l s x
    stack_front = stack_of_reals v u l (a ∷ s) s x (made_front x a s w e n h)

    pub whiteout_front : whiteout_of v l (a ∷ s) x ≡ whiteout_of u l s x
    whiteout_front = whiteout_of_reals v u l (a ∷ s) s x (made_front x a s w e n h)

  -- and a name below alike records keeps its stack
  pub stack_agree : (x : Name) (s : List Pair) → Each (SameName u v l x) s → stack_of u l s x ≡ stack_of v l s x
  stack_agree x s h = stack_of_reals u v l s s x (reals_agree x s h)

  pub whiteout_agree : (x : Name) (s : List Pair) → Each (SameName u v l x) s → whiteout_of u l s x ≡ whiteout_of v l s x
  whiteout_agree x s h = whiteout_of_reals u v l s s x (reals_agree x s h)

-- ---- an empty directory

-- no entry stands in the directory `d`
abbrev pub EmptyDirectory : List Entry → ℕ → Type 0
EmptyDirectory es d = (j : ℕ) → in_directory d (entry_at es j) ≡ false

names_out : (d : ℕ) (x : Name) (e : Entry) → in_directory d e ≡ false → names d x e ≡ false
unfolding names in_directory
names_out d x e = go (eqb e.parent 0) (eqb e.parent d)
  where
    go : (a b : Bool) → cond a false b ≡ false → cond a false (cond b (same_name (name_of e) x) false) ≡ false
    go true b h = refl
    go false true h = absurd (let z : ◌≡◌ {A = ℕ} 0 1 = cc in omega arith)
    go false false h = refl

pub empty_search : (es : List Entry) (d : ℕ) → EmptyDirectory es d → (x : Name) → search_of es d x ≡ None
empty_search es d h x = first_missing (names d x) free_entry 0 es (λ i _. names_out d x (entry_at es i) (h i))

pub empty_named : (es : List Entry) (d : ℕ) → EmptyDirectory es d → (x : Name) → named es d x ≡ 0
unfolding child_at
empty_named es d h x = rw (empty_search es d h x) refl

-- it has nothing under any name
pub empty_seen : (t : List ℕ) (d : ℕ) → EmptyDirectory (entries_of t) d → (x : Name) → seen_of t d x ≡ None
unfolding seen_of
empty_seen t d h x = rw (empty_named (entries_of t) d h x) refl

empty_adds : (d : ℕ) (es : List Entry) → EmptyDirectory es d → (xs : List Name) → add_names d es xs ≡ xs
unfolding add_names add_name
empty_adds d [] h xs = refl
empty_adds d (e ∷ es) h xs = rw (h 0) (empty_adds d es (λ j. h (suc j)) xs)

-- and adds no name
pub names_front : (u l : List ℕ) (a : Pair) (s : List Pair) → is_walked (table_of u l a.layer) a.number ≡ true → ends_scan (table_of u l a.layer) a.number ≡ false
    → EmptyDirectory (entries_of (table_of u l a.layer)) a.number → merged_names u l (a ∷ s) ≡ merged_names u l s
unfolding merged_names names_of
names_front u l a s w e h =
    ap (λ (q : List Pair). names_of u l q []) (scanned_plain u l a s w e) ∙ ap (names_of u l (scanned u l s)) (empty_adds a.number (entries_of (table_of u l a.layer)) h [])
