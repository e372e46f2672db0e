-- A place that the scan collects is the topmost of its name. Assumes nothing.
use Rattle.std.specs.Prelude.{Option, Some, None}
use Rattle.std.specs.declared.cmp.Ordering.{Ordering}
use Rattle.std.specs.declared.cmp.Ordering.TheVariants.{Less, Equal, Greater}
use mathlib.Core.Path.{◌≡◌, refl, sym, ap, ◌∙◌, subst}
use Prim.Native.Nat.{ℕ, zero, suc, ◌+◌, ◌*◌, ◌<◌}
use native.Mathlib.Omega.{arith}
use native.Mathlib.Nat.{add-zero, add-suc, suc-add}
use mathlib.Core.Bool.{Bool, true, false, cond}
use mathlib.Core.List.{List, [], ◌∷◌, map}
use lib.Dec.{eqb}
use lib.ListN.{length, get_or}
use Rattle.layers.specs.Names.{Name, same_name, order_of}
use Rattle.layers.specs.Items.{entries_of, entry_at}
use Rattle.layers.specs.Search.{name_of, names, first_from}
use Rattle.layers.specs.Order.{insert_step, insert_by}
use Rattle.layers.specs.Sorted.{Below, Sorted}
use Rattle.layers.specs.declared.items.Entry.{Entry}
use Rattle.layers.proofs.NameLaws.{same_true, same_refl}
use Rattle.layers.proofs.OrderLaws.{before_trans, same_self}
use Rattle.layers.proofs.SortLaws.{insert_sorted}
use Rattle.layers.proofs.ItemLaws.{length_entries}
use Rattle.merge.specs.State.{those}
use Rattle.merge.specs.Tables.{table_of, place_name}
use Rattle.merge.specs.Scan.{in_directory, scanned}
use Rattle.merge.specs.Places.{add_place, add_places, places_of, merged_places}
use Rattle.merge.specs.Tops.{or_else, top_place}
use Rattle.merge.specs.declared.stacks.Pair.{Pair}
use Rattle.merge.proofs.NamedLaws.{or, has, has_insert}
use Rattle.merge.proofs.NamesOfPlaces.{map_insert, place_is}

-- ---- of every item

abbrev pub All : (ℕ → Type 0) → List ℕ → Type 0
All P [] = Unit {0}
All P (q ∷ qs) = P q × All P qs

module _ (P : ℕ → Type 0) where
  pub all_at : (qs : List ℕ) → All P qs → (j : ℕ) → j < length qs → P (get_or qs j 0)
  all_at [] a j h = absurd (omega arith)
  all_at (q ∷ qs) a zero h = a.0
  all_at (q ∷ qs) a (suc j) h = all_at qs a.1 j (omega arith)

  pub all_those : (t : ℕ → Bool) (qs : List ℕ) → All P qs → All P (those t qs)
  unfolding those
  all_those t [] a = tt
  all_those t (q ∷ qs) a = go (t q) (all_those t qs a.1)
    where
      go : (b : Bool) → All P (those t qs) → All P (cond b (q ∷ those t qs) (those t qs))
      go true ih = (a.0, ih)
      go false ih = ih

  all_from : (Q : ℕ → Type 0) → ((q : ℕ) → Q q → P q) → (qs : List ℕ) → All Q qs → All P qs
  all_from Q h [] a = tt
  all_from Q h (q ∷ qs) a = (h q a.0, all_from Q h qs a.1)

-- ---- one more put in: it is new, or nothing changes

clash : {X : Type 0} → true ≡ false → X
clash e = absurd (let z : ◌≡◌ {A = ℕ} 0 1 = cc in omega arith)

other_name : (x y : Name) (o : Ordering) → order_of x y ≡ o → (Equal ≡ o → ⊥) → same_name y x ≡ false
other_name x y o e h = go (same_name y x) refl
  where
    go : (b : Bool) → same_name y x ≡ b → b ≡ false
    go true q = absurd (h (sym (ap (order_of x) (same_true y x q) ∙ same_self x) ∙ e))
    go false q = refl

module _ (f : ℕ → Name) where
  below_lower : (x y : Name) (ys : List ℕ) → order_of x y ≡ Less → Below f y ys → Below f x ys
  below_lower x y [] h b = tt
  below_lower x y (z ∷ ys) h b = (before_trans x y (f z) h b.0, below_lower x y ys h b.1)

  below_none : (x : Name) (ys : List ℕ) → Below f x ys → has x (map f ys) ≡ false
  below_none x [] b = refl
  below_none x (y ∷ ys) b = rw (other_name x (f y) Less b.0 (λ e. absurd (let z : ◌≡◌ {A = ℕ} 0 1 = cc in omega arith))) (below_none x ys b.1)

  all_insert : (P : ℕ → Type 0) (q : ℕ) (ps : List ℕ) → Sorted f ps → All P ps → (has (f q) (map f ps) ≡ false → P q) → All P (insert_by f q ps)
  unfolding insert_by insert_step
  all_insert P q [] s a h = (h refl, tt)
  all_insert P q (y ∷ ys) s a h = go (order_of (f q) (f y)) refl (all_insert P q ys s.1 a.1)
    where
      go : (o : Ordering) → order_of (f q) (f y) ≡ o → ((has (f q) (map f ys) ≡ false → P q) → All P (insert_by f q ys)) → All P (insert_step o q y ys (insert_by f q ys))
      go Less e ih = (h (below_none (f q) (y ∷ ys) (e, below_lower (f q) (f y) ys e s.0)), a)
      go Equal e ih = a
      go Greater e ih = (a.0, ih (λ g. h (rw (other_name (f q) (f y) Greater e (λ z. absurd (let w : ◌≡◌ {A = ℕ} 0 1 = cc in omega arith))) g)))

-- ---- one place, or else another

or_else_none : (f : Option ℕ) → or_else f None ≡ f
unfolding or_else
or_else_none (Some k) = refl
or_else_none None = refl

or_else_assoc : (f g h : Option ℕ) → or_else (or_else f g) h ≡ or_else f (or_else g h)
unfolding or_else
or_else_assoc (Some k) g h = refl
or_else_assoc None g h = refl

or_else_cond : (f : Option ℕ) (b : Bool) (q : ℕ) (g : Option ℕ) → or_else (or_else f (cond b (Some q) None)) g ≡ or_else f (cond b (Some q) g)
unfolding or_else
or_else_cond (Some k) b q g = refl
or_else_cond None true q g = refl
or_else_cond None false q g = refl

-- an entry that stands elsewhere names nothing here
pub outside : (d : ℕ) (x : Name) (e : Entry) → in_directory d e ≡ false → names d x e ≡ false
unfolding names in_directory
outside d x e i = go (eqb e.parent 0) (eqb e.parent d) i
  where
    go : (a b : Bool) → cond a false b ≡ false → cond a false (cond b (same_name (name_of e) x) false) ≡ false
    go true b z = refl
    go false true z = clash z
    go false false z = refl

-- ---- the places so far, `top` telling where a name stands topmost

module _ (f : ℕ → Name) where
  record Tops (top : Name → Option ℕ) (ps : List ℕ) : Type 0 where
    sorted : Sorted f ps
    each : All (λ q. top (f q) ≡ Some q) ps
    none : (x : Name) → has x (map f ps) ≡ false → top x ≡ None

  tops_same : (t v : Name → Option ℕ) → ((x : Name) → t x ≡ v x) → (ps : List ℕ) → Tops t ps → Tops v ps
  tops_same t v h ps a =
      record { sorted = a.sorted; each = all_from (λ q. v (f q) ≡ Some q) (λ q. t (f q) ≡ Some q) (λ q e. sym (h (f q)) ∙ e) ps a.each; none = λ x e. sym (h x) ∙ a.none x e }

  or_parts : (a b : Bool) → or a b ≡ false → (a ≡ false) × (b ≡ false)
  or_parts true b h = clash h
  or_parts false b h = (refl, h)

  -- the entry's own place, for its name
  abbrev own : ℕ → ℕ → Entry → Name → Option ℕ
  own d q e x = cond (names d x e) (Some q) None

  insert_tops : (top : Name → Option ℕ) (d q : ℕ) (e : Entry) (ps : List ℕ) → f q ≡ name_of e → in_directory d e ≡ true → Tops top ps → Tops (λ x. or_else (top x) (own d q e x)) (insert_by f q ps)
  unfolding or_else names in_directory
  insert_tops top d q e ps h i a =
      record {
        sorted = insert_sorted f q ps a.sorted;
        each = all_insert f (λ p. or_else (top (f p)) (own d q e (f p)) ≡ Some p) q ps a.sorted (all_from (λ p. or_else (top (f p)) (own d q e (f p)) ≡ Some p) (λ p. top (f p) ≡ Some p) (λ p z. rw z refl) ps a.each) (λ z. rw (a.none (f q) z, names_is (f q), h, same_refl (name_of e)) refl);
        none = λ x z. let w : (same_name (f q) x ≡ false) × (has x (map f ps) ≡ false) = or_parts (same_name (f q) x) (has x (map f ps)) (sym (ap (has x) (map_insert f q ps) ∙ has_insert x (f q) (map f ps)) ∙ z) in rw (a.none x w.1, names_is x, ← h, w.0) refl;
      }
    where
      names_is : (x : Name) → names d x e ≡ same_name (name_of e) x
      names_is x = go (eqb e.parent 0) (eqb e.parent d) i
        where
          go : (a b : Bool) → cond a false b ≡ true → cond a false (cond b (same_name (name_of e) x) false) ≡ same_name (name_of e) x
          go true b z = clash (sym z)
          go false true z = refl
          go false false z = clash (sym z)

  add_tops : (top : Name → Option ℕ) (d q : ℕ) (e : Entry) (ps : List ℕ) → f q ≡ name_of e → Tops top ps → Tops (λ x. or_else (top x) (own d q e x)) (add_place f d q e ps)
  unfolding add_place
  add_tops top d q e ps h a = go (in_directory d e) refl
    where
      go : (b : Bool) → in_directory d e ≡ b → Tops (λ x. or_else (top x) (own d q e x)) (cond b (insert_by f q ps) ps)
      go true i = insert_tops top d q e ps h i a
      go false i = tops_same top (λ x. or_else (top x) (own d q e x)) (λ x. sym (rw (outside d x e i) (or_else_none (top x)))) ps a

  adds_tops : (top : Name → Option ℕ) (d q : ℕ) (es : List Entry) (ps : List ℕ) → ((j : ℕ) → j < length es → f (q + j) ≡ name_of (entry_at es j)) → Tops top ps
      → Tops (λ x. or_else (top x) (first_from (names d x) q es)) (add_places f d q es ps)
  unfolding add_places first_from
  adds_tops top d q [] ps h a = tops_same top (λ x. or_else (top x) None) (λ x. sym (or_else_none (top x))) ps a
  adds_tops top d q (e ∷ es) ps h a =
      tops_same (λ x. or_else (or_else (top x) (own d q e x)) (first_from (names d x) (suc q) es)) (λ x. or_else (top x) (cond (names d x e) (Some q) (first_from (names d x) (suc q) es)))
      (λ x. or_else_cond (top x) (names d x e) q (first_from (names d x) (suc q) es)) (add_places f d (suc q) es (add_place f d q e ps))
      (adds_tops (λ x. or_else (top x) (own d q e x)) d (suc q) es (add_place f d q e ps) (λ j l. subst (λ (m : ℕ). f m ≡ name_of (entry_at es j)) (add-suc q j ∙ sym (suc-add q j)) (h (suc j) (omega arith)))
      (add_tops top d q e ps (subst (λ (m : ℕ). f m ≡ name_of e) (add-zero q) (h 0 (omega arith))) a))

-- ---- those of all directories walked

places_tops : (u l : List ℕ) (top : Name → Option ℕ) (s : List Pair) (ps : List ℕ) → Tops (place_name u l) top ps → Tops (place_name u l) (λ x. or_else (top x) (top_place u l x s)) (places_of u l s ps)
unfolding places_of top_place
places_tops u l top [] ps a = tops_same (place_name u l) top (λ x. or_else (top x) None) (λ x. sym (or_else_none (top x))) ps a
places_tops u l top (a ∷ s) ps t =
    tops_same (place_name u l) (λ x. or_else (or_else (top x) (first x)) (top_place u l x s)) (λ x. or_else (top x) (or_else (first x) (top_place u l x s))) (λ x. or_else_assoc (top x) (first x) (top_place u l x s)) (places_of u l s after)
    (places_tops u l (λ x. or_else (top x) (first x)) s after
    (adds_tops (place_name u l) top a.number (128 * a.layer) (entries_of (table_of u l a.layer)) ps (λ j h. place_is u l a.layer j (let n : length (entries_of (table_of u l a.layer)) ≡ 128 = length_entries (table_of u l a.layer) in omega arith)) t))
  where
    first : Name → Option ℕ
    first x = first_from (names a.number x) (128 * a.layer) (entries_of (table_of u l a.layer))

    after : List ℕ
    after = add_places (place_name u l) a.number (128 * a.layer) (entries_of (table_of u l a.layer)) ps

pub merged_tops : (u l : List ℕ) (s : List Pair) → All (λ q. top_place u l (place_name u l q) (scanned u l s) ≡ Some q) (merged_places u l s)
unfolding merged_places or_else
merged_tops u l s = (places_tops u l (λ x. None) (scanned u l s) [] (record { sorted = tt; each = tt; none = λ x h. refl })).each
