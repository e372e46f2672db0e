-- A name's stack by what its topmost record is, and the scan of a merged stack. Assumes nothing.
use Rattle.std.specs.Prelude.{Option, None, Some}
use mathlib.Core.Path.{◌≡◌, refl, sym, ap, ◌∙◌}
use Prim.Native.Nat.{ℕ, suc}
use native.Mathlib.Omega.{arith}
use mathlib.Core.Bool.{Bool, true, false, cond}
use mathlib.Core.List.{List, [], ◌∷◌, map}
use lib.Dec.{eqb}
use borrow.Author.Tests.{ne_eqb}
use lib.ListN.{length}
use Rattle.layers.specs.Names.{Name}
use Rattle.layers.specs.Items.{entries_of}
use Rattle.merge.specs.Tables.{table_of}
use Rattle.merge.specs.Classes.{class_at, named, seen_of}
use Rattle.merge.specs.Scan.{is_walked, ends_scan, scanned, names_of, merged_names}
use Rattle.merge.specs.Stacks.{pair, Real, seen_then, collect, reals_of, later_step, later, first_step, merge, is_mark, marks, stack_of, whiteout_of, merge_errno, stack_from}
use Rattle.merge.specs.Pushes.{ends_merge}
use Rattle.merge.specs.declared.stacks.Pair.{Pair}
use Rattle.merge.specs.declared.stacks.Class.{Class}
use Rattle.merge.specs.declared.stacks.Class.TheVariants.{Whiteout, Other, Plain, Opaque}
use Rattle.merge.proofs.ClassLaws.{walked_long, walked_class, plain_walked, opaque_walked}
use Rattle.merge.proofs.MergeLaws.{Each, DirectoryFirst, no_record_lem, plain_first, opaque_first, merge_front, merge_later, marks_directory, errno_merge}
use Rattle.demands.proofs.AgreeLaws.{reals_there}

abbrev places : List Real → List Pair
places rs = map (λ r. r.place) rs

abbrev classes : Real → Class
classes r = r.class

-- ---- the topmost directory has the name

module _ (u l : List ℕ) (a : Pair) (s : List Pair) (walked : is_walked (table_of u l a.layer) a.number ≡ true) (x : Name) (c : Class) (n : ℕ) (there : seen_of (table_of u l a.layer) a.number x ≡ Some (c, n)) where
  abbrev top : Real
  top = record { place = pair a.layer n; class = c }

  abbrev under : List Real
  under = collect u l x (cond (ends_scan (table_of u l a.layer) a.number) [] (scanned u l s))

  reals_top : reals_of u l (a ∷ s) x ≡ top ∷ under
  unfolding scanned collect seen_then
  reals_top = rw (walked, there) refl

  -- a whiteout, a non-directory and an opaque directory stand alone
  pub stack_alone : ends_merge c ≡ true → stack_of u l (a ∷ s) x ≡ pair a.layer n ∷ []
  unfolding stack_of merge first_step
  stack_alone e = rw reals_top (go c e)
    where
      go : (c : Class) → ends_merge c ≡ true → places (first_step c top (later classes under)) ≡ pair a.layer n ∷ []
      go Whiteout e = refl
      go Other e = refl
      go Plain e = absurd (let z : ◌≡◌ {A = ℕ} 0 1 = cc in omega arith)
      go Opaque e = refl

  -- a plain directory stands on what a directory has below it
  pub stack_made : c ≡ Plain → ends_scan (table_of u l a.layer) a.number ≡ false → DirectoryFirst classes (reals_of u l s x) → stack_of u l (a ∷ s) x ≡ pair a.layer n ∷ stack_of u l s x
  unfolding stack_of
  stack_made p e d = rw (reals_there u l a s walked x e c n there) (ap places (merge_front classes top (reals_of u l s x) p d))

  pub whiteout_top : whiteout_of u l (a ∷ s) x ≡ is_mark c
  unfolding whiteout_of marks
  whiteout_top = rw reals_top refl

-- ---- real records are of the class that their layer's table gives

pub record Classed (u l : List ℕ) (r : Real) : Type 0 where
  pub long : length (table_of u l r.place.layer) ≡ 8192
  pub directory : ℕ
  pub agrees : r.class ≡ class_at (table_of u l r.place.layer) directory r.place.number

seen_class : (t : List ℕ) (d : ℕ) (x : Name) (c : Class) (n : ℕ) → seen_of t d x ≡ Some (c, n) → c ≡ class_at t d n
unfolding seen_of
seen_class t d x c n = go (eqb (named (entries_of t) d x) 0)
  where
    go : (b : Bool) → cond {A = Option (Class × ℕ)} b None (Some (class_at t d (named (entries_of t) d x), named (entries_of t) d x)) ≡ Some (c, n) → c ≡ class_at t d n
    go true h = absurd (let z : ◌≡◌ {A = ℕ} 0 1 = cc in omega arith)
    go false h = let z : ◌≡◌ {A = Class × ℕ} (class_at t d (named (entries_of t) d x), named (entries_of t) d x) (c, n) = cc in sym (ap (λ (p : Class × ℕ). p.0) z) ∙ ap (class_at t d) (ap (λ (p : Class × ℕ). p.1) z)

module _ (u l : List ℕ) where
  seen_classed : (x : Name) (a : Pair) (rs : List Real) → is_walked (table_of u l a.layer) a.number ≡ true → Each (Classed u l) rs → Each (Classed u l) (seen_then a.layer (seen_of (table_of u l a.layer) a.number x) rs)
  unfolding seen_then
  seen_classed x a rs w h = go (seen_of (table_of u l a.layer) a.number x) refl
    where
      go : (f : Option (Class × ℕ)) → seen_of (table_of u l a.layer) a.number x ≡ f → Each (Classed u l) (seen_then a.layer f rs)
      go None e = h
      go (Some (c, n)) e = (record { long = walked_long (table_of u l a.layer) a.number true (sym w) refl; directory = a.number; agrees = seen_class (table_of u l a.layer) a.number x c n e }, h)

  pub reals_classed : (s : List Pair) (x : Name) → Each (Classed u l) (reals_of u l s x)
  unfolding scanned collect
  reals_classed [] x = tt
  reals_classed (a ∷ s) x = go (is_walked (table_of u l a.layer) a.number) refl (ends_scan (table_of u l a.layer) a.number) (reals_classed s x)
    where
      go : (b : Bool) → is_walked (table_of u l a.layer) a.number ≡ b → (c : Bool) → Each (Classed u l) (reals_of u l s x) → Each (Classed u l) (collect u l x (cond b (a ∷ cond c [] (scanned u l s)) []))
      go true w true ih = seen_classed x a [] w tt
      go true w false ih = seen_classed x a (reals_of u l s x) w ih
      go false w c ih = tt

  -- ---- the scan of a merged stack

  -- the topmost record is a directory
  unfoldable pub top_walked : List Pair → Bool
  top_walked [] = false
  top_walked (a ∷ s) = is_walked (table_of u l a.layer) a.number

  walked_first : (r : Real) (rs : List Real) → Classed u l r → is_walked (table_of u l r.place.layer) r.place.number ≡ true → DirectoryFirst classes (r ∷ rs)
  walked_first r rs k w =
      go (ends_scan (table_of u l r.place.layer) r.place.number) (k.agrees ∙ walked_class (table_of u l r.place.layer) k.directory r.place.number w)
    where
      go : (b : Bool) → r.class ≡ cond b Opaque Plain → DirectoryFirst classes (r ∷ rs)
      go true e = opaque_first e
      go false e = plain_first e

  directory_first_of : (rs : List Real) → Each (Classed u l) rs → top_walked (places (merge classes rs)) ≡ true → DirectoryFirst classes rs
  unfolding merge first_step top_walked
  directory_first_of [] h w = no_record_lem
  directory_first_of (r ∷ rs) h w = walked_first r rs h.0 (go r.class w)
    where
      go : (c : Class) → top_walked (places (first_step c r (later classes rs))) ≡ true → is_walked (table_of u l r.place.layer) r.place.number ≡ true
      go Whiteout w = w
      go Other w = w
      go Plain w = w
      go Opaque w = w

  -- a name whose topmost record is a directory
  pub directory_first : (s : List Pair) (x : Name) → top_walked (stack_of u l s x) ≡ true → DirectoryFirst classes (reals_of u l s x)
  unfolding stack_of
  directory_first s x w = directory_first_of (reals_of u l s x) (reals_classed s x) w

  -- is marked no whiteout
  pub directory_live : (s : List Pair) (x : Name) → top_walked (stack_of u l s x) ≡ true → whiteout_of u l s x ≡ false
  unfolding whiteout_of
  directory_live s x w = marks_directory classes (reals_of u l s x) (directory_first s x w)

  scanned_later : (rs : List Real) → Each (Classed u l) rs → scanned u l (places (later classes rs)) ≡ places (later classes rs)
  unfolding scanned later later_step
  scanned_later [] h = refl
  scanned_later (r ∷ rs) h = go r.class h.0.agrees (scanned_later rs h.1)
    where
      go : (c : Class) → c ≡ class_at (table_of u l r.place.layer) h.0.directory r.place.number → scanned u l (places (later classes rs)) ≡ places (later classes rs)
          → scanned u l (places (later_step c r (later classes rs))) ≡ places (later_step c r (later classes rs))
      go Whiteout e ih = refl
      go Other e ih = refl
      go Plain e ih = let w : (is_walked (table_of u l r.place.layer) r.place.number ≡ true) × (ends_scan (table_of u l r.place.layer) r.place.number ≡ false) = plain_walked (table_of u l r.place.layer) h.0.directory r.place.number h.0.long (sym e) in
          rw (w.0, w.1, ih) refl
      go Opaque e ih = let w : (is_walked (table_of u l r.place.layer) r.place.number ≡ true) × (ends_scan (table_of u l r.place.layer) r.place.number ≡ true) = opaque_walked (table_of u l r.place.layer) h.0.directory r.place.number h.0.long (sym e) in
          rw (w.0, w.1) refl

  -- a merged directory's stack is scanned whole
  pub scanned_whole : (s : List Pair) (x : Name) → top_walked (stack_of u l s x) ≡ true → scanned u l (stack_of u l s x) ≡ stack_of u l s x
  unfolding stack_of
  scanned_whole s x w = rw (merge_later classes (reals_of u l s x) (directory_first s x w)) (scanned_later (reals_of u l s x) (reals_classed s x))

  -- and below anything else the scan walks nothing
  pub scanned_none : (s : List Pair) → top_walked s ≡ false → scanned u l s ≡ []
  unfolding scanned top_walked
  scanned_none [] w = refl
  scanned_none (a ∷ s) w = rw w refl

  pub names_none : (s : List Pair) → top_walked s ≡ false → merged_names u l s ≡ []
  unfolding merged_names names_of
  names_none s w = rw (scanned_none s w) refl

  pub stack_none : (s : List Pair) (x : Name) → top_walked s ≡ false → stack_of u l s x ≡ []
  unfolding stack_of merge collect
  stack_none s x w = rw (scanned_none s w) refl

-- ---- "none at all is 22"

errno_map : {A B : Type 0} (f : A → B) (xs : List A) → merge_errno (map f xs) ≡ merge_errno xs
unfolding merge_errno
errno_map f [] = refl
errno_map f (x ∷ xs) = refl

-- the stack is empty exactly where there is no real record
pub errno_stack : (u l : List ℕ) (s : List Pair) (x : Name) → merge_errno (stack_of u l s x) ≡ merge_errno (reals_of u l s x)
unfolding stack_of
errno_stack u l s x = errno_map (λ r. r.place) (merge classes (reals_of u l s x)) ∙ errno_merge classes (reals_of u l s x)

-- and the code's stack says so by its length
pub errno_length : (ps : List Pair) (w : Bool) → cond (eqb (stack_from ps w).length 0) 22 0 ≡ merge_errno ps
unfolding merge_errno stack_from
errno_length [] w = refl
errno_length (p ∷ ps) w = rw (ne_eqb (suc (length ps)) 0 (λ z. omega arith)) refl
