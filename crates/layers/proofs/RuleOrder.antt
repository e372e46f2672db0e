-- The pass that keeps entry places in the order of parent and name decides whether names are distinct. Assumes nothing.
use Rattle.std.specs.Prelude.{Option, Some, None}
use Rattle.std.specs.declared.cmp.Ordering.{Ordering}
use Rattle.std.specs.declared.cmp.Ordering.TheVariants.{Less, Equal, Greater}
use mathlib.Core.Path.{◌≡◌, refl, sym, ap, ap₂, ◌∙◌, subst}
use mathlib.Core.Logic.{◌⊎◌, inl, inr}
use Prim.Native.Nat.{ℕ, suc, ◌+◌, ◌≤◌, ◌<◌}
use native.Mathlib.Omega.{arith}
use native.Mathlib.Decide.{ℕ_discrete}
use mathlib.Core.Bool.{Bool, true, false}
use mathlib.Core.List.{List, [], ◌∷◌}
use lib.Dec.{ltb}
use lib.ListN.{length, take}
use borrow.Author.Tests.{ltb-true, ltb-false}
use Rattle.layers.specs.Names.{Name, order_of}
use Rattle.layers.specs.Items.{entry_at, free_entry}
use Rattle.layers.specs.Search.{name_of}
use Rattle.layers.specs.Order.{insert_step, insert_by, spot_step, spot_from, put_in}
use Rattle.layers.specs.Sorted.{Below, Sorted}
use Rattle.layers.specs.Rules.{Used, NamesAreDistinct, distinct_test}
use Rattle.layers.specs.RulesTally.{FreeFrom}
use Rattle.layers.specs.RulesOrder.{place_key, is_open, put_spot, PutPlace}
use Rattle.layers.proofs.EveryLaws.{no_true}
use Rattle.layers.proofs.RuleDistinct.{distinct_exactly}
use Rattle.layers.proofs.OrderLaws.{before_lt, after_gt, order_eq, same_one, same_self}
use Rattle.layers.proofs.SortLaws.{insert_sorted}
use Rattle.layers.proofs.PlaceLaws.{insert_free, length_put_in}
use Rattle.layers.specs.declared.items.Entry.{Entry}

-- ---- two places compared, parent before name
module _ (es : List Entry) (a b x y : ℕ) (x_is : x ≡ (entry_at es a).parent) (y_is : y ≡ (entry_at es b).parent) where
  pub key_before : x < y → Less ≡ order_of (place_key es a) (place_key es b)
  unfolding place_key
  key_before h = sym (before_lt (entry_at es a).parent (entry_at es b).parent (name_of (entry_at es a)) (name_of (entry_at es b)) (omega arith))

  pub key_after : y < x → Greater ≡ order_of (place_key es a) (place_key es b)
  unfolding place_key
  key_after h = sym (after_gt (entry_at es a).parent (entry_at es b).parent (name_of (entry_at es a)) (name_of (entry_at es b)) (omega arith))

  pub key_name : y ≤ x → x ≤ y → (o : Ordering) (m n : Name) → o ≡ order_of m n → m ≡ name_of (entry_at es a) → n ≡ name_of (entry_at es b) → o ≡ order_of (place_key es a) (place_key es b)
  unfolding place_key
  key_name h l o m n e p q =
      e ∙ (ap₂ order_of p q ∙ sym (order_eq (entry_at es a).parent (entry_at es b).parent (name_of (entry_at es a)) (name_of (entry_at es b)) (omega arith)))

-- ---- which items stand in a list

abbrev Has : ℕ → List ℕ → Type 0
Has i [] = ⊥
Has i (q ∷ ps) = (i ≡ q) ⊎ Has i ps

abbrev Each : (ℕ → Type 0) → List ℕ → Type 0
Each P [] = Unit {0}
Each P (q ∷ ps) = P q × Each P ps

each_map : {P Q : ℕ → Type 0} → ((q : ℕ) → P q → Q q) → (ps : List ℕ) → Each P ps → Each Q ps
each_map f [] h = tt
each_map f (q ∷ ps) h = (f q h.0, each_map f ps h.1)

module _ (f : ℕ → Name) (j : ℕ) where
  has_insert : (i : ℕ) (ps : List ℕ) → Has i ps → Has i (insert_by f j ps)
  unfolding insert_by insert_step
  has_insert i [] h = absurd h
  has_insert i (q ∷ ps) h = go (order_of (f j) (f q)) h (has_insert i ps)
    where
      go : (o : Ordering) → Has i (q ∷ ps) → (Has i ps → Has i (insert_by f j ps)) → Has i (insert_step o j q ps (insert_by f j ps))
      go Less h ih = inr h
      go Equal h ih = h
      go Greater (inl e) ih = inl e
      go Greater (inr t) ih = inr (ih t)

  has_new : (k m : ℕ) (ps : List ℕ) → spot_from f k (f j) ps ≡ Some m → Has j (insert_by f j ps)
  unfolding insert_by insert_step spot_from spot_step
  has_new k m [] h = inl refl
  has_new k m (q ∷ ps) h = go (order_of (f j) (f q)) h (has_new (suc k) m ps)
    where
      go : (o : Ordering) → spot_step o k (spot_from f (suc k) (f j) ps) ≡ Some m → (spot_from f (suc k) (f j) ps ≡ Some m → Has j (insert_by f j ps)) → Has j (insert_step o j q ps (insert_by f j ps))
      go Less h ih = inl refl
      go Equal h ih = absurd (let z : ◌≡◌ {A = ℕ} 0 1 = cc in omega arith)
      go Greater h ih = inr (ih h)

  each_insert : (P : ℕ → Type 0) (ps : List ℕ) → P j → Each P ps → Each P (insert_by f j ps)
  unfolding insert_by insert_step
  each_insert P [] p h = (p, tt)
  each_insert P (q ∷ ps) p h = go (order_of (f j) (f q)) (each_insert P ps p h.1)
    where
      go : (o : Ordering) → Each P (insert_by f j ps) → Each P (insert_step o j q ps (insert_by f j ps))
      go Less ih = (p, h)
      go Equal ih = h
      go Greater ih = (h.0, ih)

  -- a spot that is taken is an item's with that name
  taken_by : {P : ℕ → Type 0} (k : ℕ) (ps : List ℕ) → spot_from f k (f j) ps ≡ None → Each P ps → (q : ℕ) × P q × (f j ≡ f q)
  unfolding spot_from spot_step
  taken_by k [] h e = absurd (let z : ◌≡◌ {A = ℕ} 0 1 = cc in omega arith)
  taken_by {P} k (q ∷ ps) h e = go (order_of (f j) (f q)) refl h (λ t. taken_by (suc k) ps t e.1)
    where
      go : (o : Ordering) → order_of (f j) (f q) ≡ o → spot_step o k (spot_from f (suc k) (f j) ps) ≡ None → (spot_from f (suc k) (f j) ps ≡ None → (q : ℕ) × P q × (f j ≡ f q)) → (q : ℕ) × P q × (f j ≡ f q)
      go Less w h ih = absurd (let z : ◌≡◌ {A = ℕ} 0 1 = cc in omega arith)
      go Equal w h ih = (q, e.0, same_one (f j) (f q) w)
      go Greater w h ih = ih h

-- in a list in order, a name stands once
module _ (f : ℕ → Name) where
  below_other : (x : Name) (i : ℕ) (ps : List ℕ) → Below f x ps → Has i ps → x ≡ f i → ⊥
  below_other x i [] b h e = h
  below_other x i (q ∷ ps) b (inl z) e = (let w : Less ≡ Equal = sym b.0 ∙ (ap (order_of x) (ap f (sym z) ∙ sym e) ∙ same_self x) in let o : ◌≡◌ {A = ℕ} 0 1 = cc in omega arith)
  below_other x i (q ∷ ps) b (inr t) e = below_other x i ps b.1 t e

  sorted_once : (i j : ℕ) (ps : List ℕ) → Sorted f ps → Has i ps → Has j ps → f i ≡ f j → i ≡ j
  sorted_once i j [] s a b e = absurd a
  sorted_once i j (q ∷ ps) s (inl a) (inl b) e = a ∙ sym b
  sorted_once i j (q ∷ ps) s (inl a) (inr b) e = absurd (below_other (f q) j ps s.0 b (ap f (sym a) ∙ e))
  sorted_once i j (q ∷ ps) s (inr a) (inl b) e = absurd (below_other (f q) i ps s.0 a (ap f (sym b) ∙ sym e))
  sorted_once i j (q ∷ ps) s (inr a) (inr b) e = sorted_once i j ps s.1 a b e

-- ---- the pass: the used places below `j` stand in order in `ps`
pub record Ordered (es : List Entry) (j : ℕ) (ps : List ℕ) : Type 0 where
  pub in_order : Sorted (place_key es) ps
  pub these : Each (λ q. Used es q × (q < j)) ps
  pub all : (i : ℕ) → i < j → Used es i → Has i ps

key_same : (es : List Entry) (i j : ℕ) → place_key es i ≡ place_key es j → ((entry_at es i).parent ≡ (entry_at es j).parent) × (name_of (entry_at es i) ≡ name_of (entry_at es j))
unfolding place_key
key_same es i j e = (cc, cc)

pub ordered_start : (es : List Entry) (p : List ℕ) → Ordered es 0 (take 0 p)
ordered_start es p = record { in_order = tt; these = tt; all = λ i h. absurd (omega arith) }

module _ (es : List Entry) (p : List ℕ) (j n : ℕ) (g : Ordered es j (take n p)) where
  pub ordered_free : (x : ℕ) → x ≡ (entry_at es j).parent → x ≡ 0 → Ordered es (j + 1) (take n p)
  ordered_free x e z = record { in_order = g.in_order; these = each_map (λ q h. (h.0, up q h.1)) (take n p) g.these; all = λ i h u. go i h u (ℕ_discrete i j) }
    where
      up : (q : ℕ) → q < j → q < j + 1
      up q h = omega arith

      go : (i : ℕ) → i < j + 1 → Used es i → Dec (i ≡ j) → Has i (take n p)
      go i h u (yes w) = absurd (u (ap (λ (k : ℕ). (entry_at es k).parent) w ∙ (sym e ∙ z)))
      go i h u (no w) = g.all i (let l : (i ≡ j → ⊥) = w in omega arith) u

  abbrev spot : Option ℕ
  spot = spot_from (place_key es) 0 (place_key es j) (take n p)

  module _ (x : ℕ) (x_is : x ≡ (entry_at es j).parent) (x_used : x ≡ 0 → ⊥) (r : Bool) (r_is : r ≡ is_open spot) where
    used_j : Used es j
    used_j e = x_used (x_is ∙ e)

    pub taken_twice : r ≡ false → false ≡ distinct_test es
    unfolding is_open
    taken_twice h = go spot refl (sym r_is ∙ h)
      where
        twice : spot ≡ None → NamesAreDistinct es → ⊥
        twice s d =
            let t : (q : ℕ) × (Used es q × (q < j)) × (place_key es j ≡ place_key es q) = taken_by (place_key es) j 0 (take n p) s g.these in
            let k : ((entry_at es j).parent ≡ (entry_at es t.0).parent) × (name_of (entry_at es j) ≡ name_of (entry_at es t.0)) = key_same es j t.0 t.2 in
            let e : j ≡ t.0 = d j t.0 used_j t.1.0 k.0 k.1 in
            let l : t.0 < j = t.1.1 in
            omega arith

        not_distinct : (b : Bool) → distinct_test es ≡ b → (NamesAreDistinct es → ⊥) → false ≡ b
        not_distinct true e w = absurd (w ((distinct_exactly es).sound e))
        not_distinct false e w = refl

        go : (s : Option ℕ) → spot ≡ s → is_open s ≡ false → false ≡ distinct_test es
        go (Some i) e h = no_true (sym h)
        go None e h = not_distinct (distinct_test es) refl (twice e)

    pub ordered_next : r ≡ true → n ≤ j → j < 128 → length p ≡ 512 → (u : List ℕ) → u ≡ put_spot spot p n j → Ordered es (j + 1) (take (n + 1) u)
    unfolding is_open put_spot
    ordered_next h a b l u u-is = go spot refl (sym r_is ∙ h) u-is
      where
        up : (q : ℕ) → q < j → q < j + 1
        up q h = omega arith

        go : (s : Option ℕ) → spot ≡ s → is_open s ≡ true → u ≡ put_spot s p n j → Ordered es (j + 1) (take (n + 1) u)
        go None e h w = no_true h
        go (Some i) e h w =
            subst (Ordered es (j + 1)) (sym (insert_free (place_key es) p n j (place_key es j) refl (Some i) (sym e) i refl l (omega arith) u w))
            (record {
              in_order = insert_sorted (place_key es) j (take n p) g.in_order;
              these = each_insert (place_key es) j (λ q. Used es q × (q < j + 1)) (take n p) (used_j, (let k : j < j + 1 = omega arith in k)) (each_map (λ q h. (h.0, up q h.1)) (take n p) g.these);
              all = λ q h v. at_q q h v (ℕ_discrete q j);
            })
          where
            at_q : (q : ℕ) → q < j + 1 → Used es q → Dec (q ≡ j) → Has q (insert_by (place_key es) j (take n p))
            at_q q h v (yes z) = subst (λ (k : ℕ). Has k (insert_by (place_key es) j (take n p))) (sym z) (has_new (place_key es) j 0 i (take n p) e)
            at_q q h v (no z) = has_insert (place_key es) j q (take n p) (g.all q (let w : (q ≡ j → ⊥) = z in omega arith) v)

  pub ordered_end : (m : ℕ) → FreeFrom free_entry es m → m ≤ j → true ≡ distinct_test es
  unfolding place_key
  ordered_end m f h = sym ((distinct_exactly es).whole two)
    where
      inside : (i : ℕ) → Used es i → i < j
      inside i u = go (ltb i j) refl
        where
          go : (b : Bool) → ltb i j ≡ b → i < j
          go true b = ltb-true i j b
          go false b = absurd (u (ap (λ (e : Entry). e.parent) (f.rest i (let k : j ≤ i = ltb-false i j b in omega arith))))

      two : NamesAreDistinct es
      two i k u v a b = sorted_once (place_key es) i k (take n p) g.in_order (g.all i (inside i u) u) (g.all k (inside k v) v) (ap₂ ◌∷◌ a b)

pub length_put_spot : (s : Option ℕ) (p u : List ℕ) (n q : ℕ) → length p ≡ 512 → u ≡ put_spot s p n q → length u ≡ 512
unfolding put_spot
length_put_spot (Some i) p u n q l e = rw e (length_put_in p n i q l)
length_put_spot None p u n q l e = rw e l

-- a place compared on its way through a callee
pub order_at : (es : List Entry) (x : Name) (w q : ℕ) (o : Ordering) → o ≡ order_of (place_key es w) x → w ≡ q → o ≡ order_of (place_key es q) x
order_at es x w q o h e = h ∙ ap (λ (k : ℕ). order_of (place_key es k) x) e

-- ---- as the code puts a place in
module _ (es : List Entry) (p : List ℕ) (n j : ℕ) (s : Option ℕ) (s_is : s ≡ spot_from (place_key es) 0 (place_key es j) (take n p)) where
  pub put_taken : s ≡ None → PutPlace es p n j false p
  unfolding is_open put_spot
  put_taken h = record { answer = ap is_open (sym h ∙ s_is); places = ap (λ (k : Option ℕ). put_spot k p n j) (sym h ∙ s_is) }

  pub put_free : (i : ℕ) → s ≡ Some i → (u : List ℕ) → u ≡ put_in p n i j → PutPlace es p n j true u
  unfolding is_open put_spot
  put_free i h u e = record { answer = ap is_open (sym h ∙ s_is); places = e ∙ ap (λ (k : Option ℕ). put_spot k p n j) (sym h ∙ s_is) }
