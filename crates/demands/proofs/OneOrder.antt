-- Two lists in byte order that have the same names are one list. Assumes nothing.
use mathlib.Core.Path.{◌≡◌, refl, sym, ap, ap₂, ◌∙◌, subst}
use Rattle.std.specs.declared.cmp.Ordering.{Ordering}
use Rattle.std.specs.declared.cmp.Ordering.TheVariants.{Less, Equal, Greater}
use Prim.Native.Nat.{ℕ}
use native.Mathlib.Omega.{arith}
use mathlib.Core.Bool.{Bool, true, false}
use mathlib.Core.List.{List, [], ◌∷◌, map}
use Rattle.layers.specs.Names.{Name, same_name, order_of}
use Rattle.layers.specs.Items.{entries_of}
use Rattle.layers.specs.Sorted.{Below, Sorted}
use Rattle.layers.proofs.NameLaws.{same_true, same_refl}
use Rattle.layers.proofs.OrderLaws.{before_trans, after_before, same_one, same_self}
use Rattle.merge.specs.Tables.{table_of}
use Rattle.merge.specs.Scan.{merged_names}
use Rattle.merge.specs.Stacks.{stack_of}
use Rattle.merge.specs.declared.stacks.Pair.{Pair}
use Rattle.merge.proofs.NamedLaws.{or, has, some, ChildrenExist, has_stack}
use Rattle.merge.proofs.NamesOfPlaces.{merged_sorted}

abbrev itself : Name → Name
itself x = x

-- the names of items in order are in order
pub sorted_map : {A : Type 0} (f : A → Name) (xs : List A) → Sorted f xs → Sorted itself (map f xs)
sorted_map f [] s = tt
sorted_map {A} f (x ∷ xs) s = (below xs s.0, sorted_map f xs s.1)
  where
    below : (ys : List A) → Below f (f x) ys → Below itself (f x) (map f ys)
    below [] b = tt
    below (y ∷ ys) b = (b.0, below ys b.1)

true_false : {A : Type 0} → true ≡ false → A
true_false e = absurd (let z : ◌≡◌ {A = ℕ} 0 1 = cc in omega arith)

before_same : {A : Type 0} (x y : Name) → order_of x y ≡ Less → x ≡ y → A
before_same x y h e =
    let w : Equal ≡ Less = sym (same_self x) ∙ (ap (order_of x) e ∙ h) in
    absurd (let z : ◌≡◌ {A = ℕ} 0 1 = cc in omega arith)

-- a name before all others is not among them
below_none : (x : Name) (ys : List Name) → Below itself x ys → has x ys ≡ false
below_none x [] b = refl
below_none x (y ∷ ys) b = go (same_name y x) refl (below_none x ys b.1)
  where
    go : (t : Bool) → same_name y x ≡ t → has x ys ≡ false → or t (has x ys) ≡ false
    go true e ih = before_same x y b.0 (sym (same_true y x e))
    go false e ih = ih

below_first : (x y : Name) (ys : List Name) → order_of x y ≡ Less → Below itself y ys → Below itself x (y ∷ ys)
below_first x y ys h b = (h, go ys b)
  where
    go : (zs : List Name) → Below itself y zs → Below itself x zs
    go [] b = tt
    go (z ∷ zs) b = (before_trans x y z h b.0, go zs b.1)

has_first : (x : Name) (xs : List Name) → has x (x ∷ xs) ≡ true
has_first x xs = rw (same_refl x) refl

-- the same first name, and so the same rest
rest_alike : (x : Name) (xs ys : List Name) → Below itself x xs → Below itself x ys → ((z : Name) → has z (x ∷ xs) ≡ has z (x ∷ ys)) → (z : Name) → has z xs ≡ has z ys
rest_alike x xs ys b c h z = go (same_name x z) refl (h z)
  where
    go : (t : Bool) → same_name x z ≡ t → or t (has z xs) ≡ or t (has z ys) → has z xs ≡ has z ys
    go true e q = let w : x ≡ z = same_true x z e in ap (λ (n : Name). has n xs) (sym w) ∙ (below_none x xs b ∙ (sym (below_none x ys c) ∙ ap (λ (n : Name). has n ys) w))
    go false e q = q

pub sorted_one : (xs ys : List Name) → Sorted itself xs → Sorted itself ys → ((z : Name) → has z xs ≡ has z ys) → xs ≡ ys
sorted_one [] [] s r h = refl
sorted_one [] (y ∷ ys) s r h = true_false (sym (has_first y ys) ∙ sym (h y))
sorted_one (x ∷ xs) [] s r h = true_false (sym (has_first x xs) ∙ h x)
sorted_one (x ∷ xs) (y ∷ ys) s r h = go (order_of x y) refl (λ c k. sorted_one xs ys s.1 r.1 k)
  where
    go : (o : Ordering) → order_of x y ≡ o → (x ≡ y → ((z : Name) → has z xs ≡ has z ys) → xs ≡ ys) → x ∷ xs ≡ y ∷ ys
    go Less e ih = true_false (sym (has_first x xs) ∙ (h x ∙ below_none x (y ∷ ys) (below_first x y ys e r.0)))
    go Equal e ih =
        let w : x ≡ y = same_one x y e in
        let b : Below itself y xs = subst (λ (n : Name). Below itself n xs) w s.0 in
        ap₂ ◌∷◌ w (ih w (rest_alike y xs ys b r.0 (subst (λ (n : Name). (z : Name) → has z (n ∷ xs) ≡ has z (y ∷ ys)) w h)))
    go Greater e ih = true_false (sym (has_first y ys) ∙ (sym (h y) ∙ below_none y (x ∷ xs) (below_first y x xs (after_before x y e) s.0)))

-- a list in order that has exactly the names with a stack is the merged names
pub names_are : (u l : List ℕ) → ((k : ℕ) → ChildrenExist (entries_of (table_of u l k))) → (s : List Pair) (xs : List Name) → Sorted itself xs → ((x : Name) → has x xs ≡ some (stack_of u l s x)) → xs ≡ merged_names u l s
names_are u l c s xs o h = sorted_one xs (merged_names u l s) o (merged_sorted u l s) (λ x. h x ∙ sym (has_stack u l c s x))

-- layers in which every name has its stack alike have the same merged names
pub names_agree : (u v l : List ℕ) → ((k : ℕ) → ChildrenExist (entries_of (table_of u l k))) → ((k : ℕ) → ChildrenExist (entries_of (table_of v l k))) → (s q : List Pair)
    → ((x : Name) → stack_of u l s x ≡ stack_of v l q x) → merged_names u l s ≡ merged_names v l q
names_agree u v l c d s q h = names_are v l d q (merged_names u l s) (merged_sorted u l s) (λ x. has_stack u l c s x ∙ ap some (h x))
