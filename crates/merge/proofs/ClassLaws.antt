-- What a record is to the merge, and what a layer has under a name, as the code reads them. Assumes nothing.
use Rattle.std.specs.Prelude.{Option, Some, None}
use mathlib.Core.Path.{◌≡◌, refl, sym, ◌∙◌}
use Prim.Native.Nat.{ℕ}
use native.Mathlib.Omega.{arith}
use mathlib.Core.Bool.{Bool, true, false, cond}
use mathlib.Core.List.{List, []}
use lib.Dec.{eqb}
use lib.ListN.{length}
use borrow.Author.Tests.{eqb-true, eq-eqb, ne_eqb}
use Rattle.layers.specs.Names.{Name}
use Rattle.layers.specs.Items.{entries_of, records_of, entry_at, record_at}
use Rattle.layers.specs.Search.{search_of}
use Rattle.layers.specs.declared.items.Record.{Record}
use Rattle.merge.specs.Classes.{is_whiteout, is_directory, is_opaque, class_of, class_at, child_at, named, seen_of}
use Rattle.merge.specs.Scan.{is_walked, ends_scan}
use Rattle.merge.specs.declared.stacks.Class.{Class}
use Rattle.merge.specs.declared.stacks.Class.TheVariants.{Whiteout, Other, Plain, Opaque}

-- ---- a directory that the scan walks

module _ (t : List ℕ) (d w : ℕ) (e : w ≡ d) where
  pub ends_is : (m : Record) → m ≡ record_at (records_of t) w → eqb m.opaque 1 ≡ ends_scan t d
  unfolding ends_scan
  ends_is m h = rw (h, e) refl

  pub walked_is : (k : ℕ) → length t ≡ 8192 → k ≡ (record_at (records_of t) w).kind → eqb k 4 ≡ is_walked t d
  unfolding is_walked
  walked_is k l h = rw (h, e, l) refl

pub not_walked : (t : List ℕ) (d : ℕ) → (length t ≡ 8192 → ⊥) → false ≡ is_walked t d
unfolding is_walked
not_walked t d h = rw (ne_eqb (length t) 8192 h) refl

-- no bytes have no directory
pub unwalked : (b : List ℕ) (d : ℕ) → b ≡ [] → is_walked b d ≡ false
unwalked b d h = sym (not_walked b d (λ e. let z : length b ≡ 0 = rw h refl in omega arith))

module _ (t b : List ℕ) (d : ℕ) (t_is : t ≡ b) (r : Bool) (r_is : r ≡ is_walked t d) where
  pub walked_told : r ≡ true → (t ≡ b) × (is_walked b d ≡ true)
  walked_told h = (t_is, rw (← t_is) (sym r_is ∙ h))

  pub unwalked_told : r ≡ false → is_walked b d ≡ false
  unwalked_told h = rw (← t_is) (sym r_is ∙ h)

-- the directory of a table that a scan walks
pub walked_here : (b t : List ℕ) (d : ℕ) → t ≡ b → is_walked b d ≡ true → true ≡ is_walked t d
walked_here b t d h g = rw h (sym g)

module _ (t : List ℕ) (d : ℕ) (r : Bool) (r_is : r ≡ is_walked t d) where
  pub walked_long : r ≡ true → length t ≡ 8192
  unfolding is_walked
  walked_long h = go (eqb (length t) 8192) refl (sym r_is ∙ h)
    where
      go : (b : Bool) → eqb (length t) 8192 ≡ b → cond b (is_directory (record_at (records_of t) d)) false ≡ true → length t ≡ 8192
      go true e g = eqb-true (length t) 8192 e
      go false e g = absurd (let z : ◌≡◌ {A = ℕ} 0 1 = cc in omega arith)

-- ---- a record's class

pub whiteout_is : (r : Record) → r.kind ≡ 2 → eqb r.device 0 ≡ is_whiteout r
unfolding is_whiteout
whiteout_is r h = rw h refl

pub class_is : (c : Class) (t : List ℕ) (d n w : ℕ) (m : Record) → w ≡ n → m ≡ record_at (records_of t) w → c ≡ class_of m → c ≡ class_at t d n
unfolding class_at
class_is c t d n w m e h q = q ∙ rw (h, e) refl

-- ---- the record that a directory names

module _ (t : List ℕ) (d : ℕ) (x : Name) where
  module _ (f : Option ℕ) (p : f ≡ search_of (entries_of t) d x) where
    pub named_none : f ≡ None → 0 ≡ named (entries_of t) d x
    unfolding child_at
    named_none q = rw (← p, q) refl

    pub named_at : (k r : ℕ) → f ≡ Some k → r ≡ (entry_at (entries_of t) k).child → r ≡ named (entries_of t) d x
    unfolding child_at
    named_at k r q h = h ∙ rw (← p, q) refl

  module _ (n : ℕ) (n_is : n ≡ named (entries_of t) d x) where
    pub seen_none : n ≡ 0 → None ≡ seen_of t d x
    unfolding seen_of
    seen_none h = rw (← n_is, h) refl

    pub seen_there : (n ≡ 0 → ⊥) → (c : Class) → c ≡ class_at t d n → Some (c, n) ≡ seen_of t d x
    unfolding seen_of
    seen_there h c q = rw (← n_is, ne_eqb n 0 h, q) refl

-- ---- a class and the scan: a directory is walked, and an opaque one ends the scan

module _ (t : List ℕ) (d n : ℕ) where
  abbrev r : Record
  r = record_at (records_of t) n

  class_cases : (k : Class) → class_at t d n ≡ k → (b : Bool) → is_directory r ≡ b → (c : Bool) → is_opaque r ≡ c → (a : Bool) → is_whiteout r ≡ a → cond a Whiteout (cond b (cond c Opaque Plain) Other) ≡ k
  unfolding class_at class_of
  class_cases k h b p c q a o = rw (← p, ← q, ← o) h

  whiteout_no_directory : is_whiteout r ≡ true → is_directory r ≡ false
  unfolding is_whiteout
  whiteout_no_directory = go (eqb r.kind 2) refl
    where
      go : (b : Bool) → eqb r.kind 2 ≡ b → cond b (eqb r.device 0) false ≡ true → is_directory r ≡ false
      go true e h = rw (eqb-true r.kind 2 e) refl
      go false e h = absurd (let z : ◌≡◌ {A = ℕ} 0 1 = cc in omega arith)

  pub plain_directory : class_at t d n ≡ Plain → (is_directory r ≡ true) × (is_opaque r ≡ false)
  plain_directory h = go (is_directory r) refl (is_opaque r) refl (is_whiteout r) refl (class_cases Plain h)
    where
      go : (b : Bool) → is_directory r ≡ b → (c : Bool) → is_opaque r ≡ c → (a : Bool) → is_whiteout r ≡ a
          → ((b : Bool) → is_directory r ≡ b → (c : Bool) → is_opaque r ≡ c → (a : Bool) → is_whiteout r ≡ a → cond a Whiteout (cond b (cond c Opaque Plain) Other) ≡ Plain)
          → (b ≡ true) × (c ≡ false)
      go b p c q true o f = absurd (let w : Whiteout ≡ Plain = f b p c q true o in let z : ◌≡◌ {A = ℕ} 0 1 = cc in omega arith)
      go true p true q false o f = absurd (let w : Opaque ≡ Plain = f true p true q false o in let z : ◌≡◌ {A = ℕ} 0 1 = cc in omega arith)
      go true p false q false o f = (refl, refl)
      go false p c q false o f = absurd (let w : Other ≡ Plain = f false p c q false o in let z : ◌≡◌ {A = ℕ} 0 1 = cc in omega arith)

  pub opaque_directory : class_at t d n ≡ Opaque → (is_directory r ≡ true) × (is_opaque r ≡ true)
  opaque_directory h = go (is_directory r) refl (is_opaque r) refl (is_whiteout r) refl (class_cases Opaque h)
    where
      go : (b : Bool) → is_directory r ≡ b → (c : Bool) → is_opaque r ≡ c → (a : Bool) → is_whiteout r ≡ a
          → ((b : Bool) → is_directory r ≡ b → (c : Bool) → is_opaque r ≡ c → (a : Bool) → is_whiteout r ≡ a → cond a Whiteout (cond b (cond c Opaque Plain) Other) ≡ Opaque)
          → (b ≡ true) × (c ≡ true)
      go b p c q true o f = absurd (let w : Whiteout ≡ Opaque = f b p c q true o in let z : ◌≡◌ {A = ℕ} 0 1 = cc in omega arith)
      go true p true q false o f = (refl, refl)
      go true p false q false o f = absurd (let w : Plain ≡ Opaque = f true p false q false o in let z : ◌≡◌ {A = ℕ} 0 1 = cc in omega arith)
      go false p c q false o f = absurd (let w : Other ≡ Opaque = f false p c q false o in let z : ◌≡◌ {A = ℕ} 0 1 = cc in omega arith)

  -- a directory's class, from the record
  pub directory_class : is_directory r ≡ true → class_at t d n ≡ cond (is_opaque r) Opaque Plain
  unfolding class_at class_of
  directory_class h = go (is_whiteout r) refl
    where
      go : (a : Bool) → is_whiteout r ≡ a → cond a Whiteout (cond (is_directory r) (cond (is_opaque r) Opaque Plain) Other) ≡ cond (is_opaque r) Opaque Plain
      go true e = absurd (let w : false ≡ true = sym (whiteout_no_directory e) ∙ h in let z : ◌≡◌ {A = ℕ} 0 1 = cc in omega arith)
      go false e = rw h refl

  pub directory_walked : length t ≡ 8192 → is_walked t n ≡ is_directory r
  unfolding is_walked
  directory_walked l = rw (eq-eqb (length t) 8192 l) refl

  pub opaque_ends : ends_scan t n ≡ is_opaque r
  unfolding ends_scan
  opaque_ends = refl

  pub plain_walked : length t ≡ 8192 → class_at t d n ≡ Plain → (is_walked t n ≡ true) × (ends_scan t n ≡ false)
  plain_walked l h = (directory_walked l ∙ (plain_directory h).0, opaque_ends ∙ (plain_directory h).1)

  pub opaque_walked : length t ≡ 8192 → class_at t d n ≡ Opaque → (is_walked t n ≡ true) × (ends_scan t n ≡ true)
  opaque_walked l h = (directory_walked l ∙ (opaque_directory h).0, opaque_ends ∙ (opaque_directory h).1)

  -- what is walked is a directory
  pub walked_class : is_walked t n ≡ true → class_at t d n ≡ cond (ends_scan t n) Opaque Plain
  walked_class h = go (eqb (length t) 8192) refl
    where
      go : (b : Bool) → eqb (length t) 8192 ≡ b → class_at t d n ≡ cond (ends_scan t n) Opaque Plain
      go true e = rw opaque_ends (directory_class (sym (directory_walked (eqb-true (length t) 8192 e)) ∙ h))
      go false e = absurd (let w : false ≡ true = not_walked t n (λ q. let k : true ≡ false = sym (eq-eqb (length t) 8192 q) ∙ e in let z : ◌≡◌ {A = ℕ} 0 1 = cc in omega arith) ∙ h in let z : ◌≡◌ {A = ℕ} 0 1 = cc in omega arith)
