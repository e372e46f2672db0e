-- A name is among the merged names exactly where its stack is not empty. Assumes nothing.
use Rattle.std.specs.Prelude.{Option, Some, None}
use Rattle.std.specs.declared.cmp.Ordering.{Ordering}
use Rattle.std.specs.declared.cmp.Ordering.TheVariants.{Less, Equal, Greater}
use mathlib.Core.Path.{◌≡◌, refl, sym, ap, ap₂, ◌∙◌}
use mathlib.Core.Logic.{◌≢◌}
use Prim.Native.Nat.{ℕ, zero, suc, ◌<◌}
use native.Mathlib.Omega.{arith}
use native.Mathlib.Nat.{zero-add}
use mathlib.Core.Bool.{Bool, true, false, cond}
use mathlib.Core.List.{List, [], ◌∷◌, map}
use lib.Dec.{eqb}
use lib.ListN.{length, get_or}
use native.Mathlib.Decide.{ℕ_discrete}
use borrow.Author.Tests.{eq-eqb, ne_eqb}
use Rattle.layers.specs.Names.{Name, same_name, order_of}
use Rattle.layers.specs.Items.{entries_of, entry_at, free_entry}
use Rattle.layers.specs.Search.{name_of, names, first_from, search_of}
use Rattle.layers.specs.Order.{insert_step, insert_by}
use Rattle.layers.specs.declared.items.Entry.{Entry}
use Rattle.layers.proofs.NameLaws.{same_true, same_refl}
use Rattle.layers.proofs.OrderLaws.{same_one}
use Rattle.layers.proofs.ChangeLaws.{first_passes}
use Rattle.merge.specs.Tables.{table_of}
use Rattle.merge.specs.Classes.{class_at, child_at, seen_of}
use Rattle.merge.specs.Scan.{in_directory, scanned, add_name, add_names, names_of, merged_names}
use Rattle.merge.specs.Stacks.{Real, seen_then, collect, reals_of, later, first_step, merge, stack_of}
use Rattle.merge.specs.declared.stacks.Pair.{Pair}
use Rattle.merge.specs.declared.stacks.Class.{Class}
use Rattle.merge.specs.declared.stacks.Class.TheVariants.{Whiteout, Other, Plain, Opaque}
use Rattle.merge.proofs.TableLaws.{no_parent}

abbrev pub or : Bool → Bool → Bool
or a b = cond a true b

or_swap : (a b c : Bool) → or a (or b c) ≡ or b (or a c)
or_swap true true c = refl
or_swap true false c = refl
or_swap false b c = refl

or_assoc : (a b c : Bool) → or (or a b) c ≡ or a (or b c)
or_assoc true b c = refl
or_assoc false b c = refl

or_twice : (a c : Bool) → or a c ≡ or a (or a c)
or_twice true c = refl
or_twice false c = refl

abbrev pub any : {A : Type 0} → (A → Bool) → List A → Bool
any f [] = false
any f (x ∷ xs) = or (f x) (any f xs)

-- the name is in the list
abbrev pub has : Name → List Name → Bool
has x ys = any (λ y. same_name y x) ys

abbrev itself : Name → Name
itself x = x

pub has_insert : (x y : Name) (ys : List Name) → has x (insert_by itself y ys) ≡ or (same_name y x) (has x ys)
unfolding insert_by insert_step
has_insert x y [] = refl
has_insert x y (z ∷ zs) = go (order_of y z) refl (has_insert x y zs)
  where
    go : (o : Ordering) → order_of y z ≡ o → has x (insert_by itself y zs) ≡ or (same_name y x) (has x zs) → has x (insert_step o y z zs (insert_by itself y zs)) ≡ or (same_name y x) (or (same_name z x) (has x zs))
    go Less e ih = refl
    go Equal e ih = rw (same_one y z e) (or_twice (same_name z x) (has x zs))
    go Greater e ih = ap (or (same_name z x)) ih ∙ or_swap (same_name z x) (same_name y x) (has x zs)

has_add : (x : Name) (d : ℕ) (e : Entry) (ys : List Name) → has x (add_name d e ys) ≡ or (names d x e) (has x ys)
unfolding add_name in_directory names
has_add x d e ys = go (eqb e.parent 0) (eqb e.parent d)
  where
    go : (a b : Bool) → has x (cond (cond a false b) (insert_by itself (name_of e) ys) ys) ≡ or (cond a false (cond b (same_name (name_of e) x) false)) (has x ys)
    go true b = refl
    go false true = has_insert x (name_of e) ys
    go false false = refl

has_adds : (x : Name) (d : ℕ) (es : List Entry) (ys : List Name) → has x (add_names d es ys) ≡ or (any (names d x) es) (has x ys)
unfolding add_names
has_adds x d [] ys = refl
has_adds x d (e ∷ es) ys = has_adds x d es (add_name d e ys) ∙ (ap (or (any (names d x) es)) (has_add x d e ys) ∙ (or_swap (any (names d x) es) (names d x e) (has x ys) ∙ sym (or_assoc (names d x e) (any (names d x) es) (has x ys))))

-- the directory `a` has an entry of the name
abbrev pub named_in : List ℕ → List ℕ → Name → Pair → Bool
named_in u l x a = any (names a.number x) (entries_of (table_of u l a.layer))

has_names : (u l : List ℕ) (x : Name) (s : List Pair) (ys : List Name) → has x (names_of u l s ys) ≡ or (any (named_in u l x) s) (has x ys)
unfolding names_of
has_names u l x [] ys = refl
has_names u l x (a ∷ s) ys =
    has_names u l x s (add_names a.number (entries_of (table_of u l a.layer)) ys)
    ∙ (ap (or (any (named_in u l x) s)) (has_adds x a.number (entries_of (table_of u l a.layer)) ys)
    ∙ (or_swap (any (named_in u l x) s) (named_in u l x a) (has x ys) ∙ sym (or_assoc (named_in u l x a) (any (named_in u l x) s) (has x ys))))

or_false : (a : Bool) → or a false ≡ a
or_false true = refl
or_false false = refl

pub has_merged : (u l : List ℕ) (s : List Pair) (x : Name) → has x (merged_names u l s) ≡ any (named_in u l x) (scanned u l s)
unfolding merged_names
has_merged u l s x = has_names u l x (scanned u l s) [] ∙ or_false (any (named_in u l x) (scanned u l s))

-- ---- the stack's side

abbrev pub some : {A : Type 0} → List A → Bool
some [] = false
some (x ∷ xs) = true

some_map : {A B : Type 0} (f : A → B) (xs : List A) → some (map f xs) ≡ some xs
some_map f [] = refl
some_map f (x ∷ xs) = refl

-- a merge of some records keeps some
some_merge : {A : Type 0} (c : A → Class) (rs : List A) → some (merge c rs) ≡ some rs
unfolding merge first_step
some_merge c [] = refl
some_merge {A} c (r ∷ rs) = go (c r)
  where
    go : (k : Class) → some (first_step k r (later c rs)) ≡ true
    go Whiteout = refl
    go Other = refl
    go Plain = refl
    go Opaque = refl

abbrev is_seen : Option (Class × ℕ) → Bool
is_seen None = false
is_seen (Some (c, n)) = true

abbrev is_at : Option ℕ → Bool
is_at (Some k) = true
is_at None = false

any_first : {A : Type 0} (p : A → Bool) (k : ℕ) (xs : List A) → is_at (first_from p k xs) ≡ any p xs
unfolding first_from
any_first p k [] = refl
any_first p k (x ∷ xs) = go (p x) (any_first p (suc k) xs)
  where
    go : (b : Bool) → is_at (first_from p (suc k) xs) ≡ any p xs → is_at (cond b (Some k) (first_from p (suc k) xs)) ≡ or b (any p xs)
    go true ih = refl
    go false ih = ih

-- "children exist": no entry names record 0
abbrev pub ChildrenExist : List Entry → Type 0
ChildrenExist es = (j : ℕ) → (entry_at es j).parent ≢ 0 → (entry_at es j).child ≢ 0

-- a layer that is not there has no entry
pub children_exist : (u l : List ℕ) → ((k : ℕ) → length (table_of u l k) ≡ 8192 → ChildrenExist (entries_of (table_of u l k))) → (k : ℕ) → ChildrenExist (entries_of (table_of u l k))
children_exist u l h k = go (ℕ_discrete (length (table_of u l k)) 8192)
  where
    go : Dec (length (table_of u l k) ≡ 8192) → ChildrenExist (entries_of (table_of u l k))
    go (yes e) = h k e
    go (no e) = λ j p. absurd (p (no_parent u l k (table_of u l k) refl e j))

pub names_used : (d : ℕ) (x : Name) (e : Entry) → names d x e ≡ true → e.parent ≢ 0
unfolding names
names_used d x e h z = absurd (let w : false ≡ true = sym (rw (eq-eqb e.parent 0 z) refl) ∙ h in let o : ◌≡◌ {A = ℕ} 0 1 = cc in omega arith)

seen_named : (t : List ℕ) (d : ℕ) (x : Name) → ChildrenExist (entries_of t) → is_seen (seen_of t d x) ≡ any (names d x) (entries_of t)
unfolding seen_of child_at
seen_named t d x h = go (search_of (entries_of t) d x) refl ∙ any_first (names d x) 0 (entries_of t)
  where
    go : (f : Option ℕ) → search_of (entries_of t) d x ≡ f → is_seen (cond (eqb (child_at (entries_of t) f) 0) None (Some (class_at t d (child_at (entries_of t) f), child_at (entries_of t) f))) ≡ is_at f
    go (Some k) e = rw (ne_eqb (entry_at (entries_of t) k).child 0 (h k (names_used d x (entry_at (entries_of t) k) (first_passes (names d x) free_entry 0 (entries_of t) k (e ∙ ap Some (sym (zero-add k))))))) refl
    go None e = refl

some_seen : (k : ℕ) (f : Option (Class × ℕ)) (rs : List Real) → some (seen_then k f rs) ≡ or (is_seen f) (some rs)
unfolding seen_then
some_seen k None rs = refl
some_seen k (Some (c, n)) rs = refl

some_collect : (u l : List ℕ) (x : Name) → ((k : ℕ) → ChildrenExist (entries_of (table_of u l k))) → (s : List Pair) → some (collect u l x s) ≡ any (named_in u l x) s
unfolding collect
some_collect u l x h [] = refl
some_collect u l x h (a ∷ s) =
    some_seen a.layer (seen_of (table_of u l a.layer) a.number x) (collect u l x s)
    ∙ ap₂ or (seen_named (table_of u l a.layer) a.number x (h a.layer)) (some_collect u l x h s)

-- a stack is empty exactly where there is no real record
pub some_stack : (u l : List ℕ) (s : List Pair) (x : Name) → some (stack_of u l s x) ≡ some (reals_of u l s x)
unfolding stack_of
some_stack u l s x = some_map (λ r. r.place) (merge (λ r. r.class) (reals_of u l s x)) ∙ some_merge (λ r. r.class) (reals_of u l s x)

-- a name is merged exactly where its stack is not empty
pub has_stack : (u l : List ℕ) → ((k : ℕ) → ChildrenExist (entries_of (table_of u l k))) → (s : List Pair) (x : Name) → has x (merged_names u l s) ≡ some (stack_of u l s x)
has_stack u l h s x = has_merged u l s x ∙ sym (some_stack u l s x ∙ some_collect u l x h (scanned u l s))

-- ---- names by place

pub has_at : (x : Name) (ys : List Name) → has x ys ≡ true → (i : ℕ) × (i < length ys) × (get_or ys i [] ≡ x)
has_at x [] h = absurd (let z : ◌≡◌ {A = ℕ} 0 1 = cc in omega arith)
has_at x (y ∷ ys) h = go (same_name y x) refl h (has_at x ys)
  where
    go : (b : Bool) → same_name y x ≡ b → or b (has x ys) ≡ true → (has x ys ≡ true → (i : ℕ) × (i < length ys) × (get_or ys i [] ≡ x)) → (i : ℕ) × (i < length (y ∷ ys)) × (get_or (y ∷ ys) i [] ≡ x)
    go true e h ih = (0, omega arith, same_true y x e)
    go false e h ih =
        let t : (i : ℕ) × (i < length ys) × (get_or ys i [] ≡ x) = ih h in
        (suc t.0, (let l : t.0 < length ys = t.1 in omega arith), t.2)

pub at_has : (ys : List Name) (i : ℕ) → i < length ys → has (get_or ys i []) ys ≡ true
at_has [] i h = absurd (omega arith)
at_has (y ∷ ys) zero h = rw (same_refl y) refl
at_has (y ∷ ys) (suc i) h = go (same_name y (get_or ys i [])) (at_has ys i (omega arith))
  where
    go : (b : Bool) → has (get_or ys i []) ys ≡ true → or b (has (get_or ys i []) ys) ≡ true
    go true ih = refl
    go false ih = ih
