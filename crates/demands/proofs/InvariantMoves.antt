-- Nodes by number, one added, gone or changed alike: why the tree of the nodes stays coherent. Assumes nothing.
use mathlib.Core.Path.{◌≡◌, refl, sym, ap, ap₂, ◌∙◌, subst}
use mathlib.Core.Logic.{◌≢◌}
use Prim.Native.Nat.{ℕ, zero, suc, ◌≤◌, ◌<◌}
use native.Mathlib.Omega.{arith}
use native.Mathlib.Decide.{ℕ_discrete}
use mathlib.Core.Bool.{Bool, true, false, cond}
use mathlib.Core.List.{List, [], ◌∷◌, ◌++◌}
use lib.Dec.{eqb}
use borrow.Author.Tests.{eq-eqb, ne_eqb}
use Rattle.layers.specs.Names.{Name, same_name}
use Rattle.layers.specs.Search.{one}
use Rattle.layers.proofs.NameLaws.{same_true, same_refl}
use Rattle.merge.specs.declared.stacks.Pair.{Pair}
use Rattle.merge.specs.declared.node.Node.{Node}
use Rattle.merge.specs.Nodes.{node_name, key_of}
use Rattle.merge.specs.Stacks.{stack_of, whiteout_of}
use Rattle.merge.specs.Fresh.{root_stack, fresh_from, fresh}
use Rattle.merge.specs.Load.{stack_list, is_loaded}
use Rattle.demands.specs.Invariant.{Resident, NonRoot, Coherent, Complete, path_in}
use Rattle.merge.proofs.FreshLaws.{fresh_append}

pub name_dec : (x y : Name) → Dec (x ≡ y)
name_dec x y = go (same_name x y) refl
  where
    go : (b : Bool) → same_name x y ≡ b → Dec (x ≡ y)
    go true e = yes (same_true x y e)
    go false e = no (λ q. let z : true ≡ false = sym (same_refl x) ∙ (ap (same_name x) q ∙ e) in let o : ◌≡◌ {A = ℕ} 0 1 = cc in omega arith)

-- ---- nodes that are alike but for the count and the loaded mark

pub record Alike (a b : Node) : Type 0 where
  pub number_same : a.number ≡ b.number
  pub key_same : key_of a ≡ key_of b
  pub stack_same : stack_list a ≡ stack_list b
  pub white_same : a.white ≡ b.white

pub alike_refl : (a : Node) → Alike a a
alike_refl a = record { number_same = refl; key_same = refl; stack_same = refl; white_same = refl }

pub key_parent : (a b : Node) → key_of a ≡ key_of b → a.parent ≡ b.parent
key_parent a b e = cc

pub key_name : (a b : Node) → key_of a ≡ key_of b → node_name a ≡ node_name b
key_name a b e = cc

module _ (u l : List ℕ) (f h : ℕ → Node) (alike : (x : ℕ) → Alike (h x) (f x)) where
  alike_old : (x : ℕ) → Resident h x → Resident f x
  alike_old x r = (r.0, sym (alike x).number_same ∙ r.1)

  alike_new : (x : ℕ) → Resident f x → Resident h x
  alike_new x r = (r.0, (alike x).number_same ∙ r.1)

  same_parent : (x : ℕ) → (h x).parent ≡ (f x).parent
  same_parent x = key_parent (h x) (f x) (alike x).key_same

  same_name_lem : (x : ℕ) → node_name (h x) ≡ node_name (f x)
  same_name_lem x = key_name (h x) (f x) (alike x).key_same

  above_same : (x : ℕ) → stack_list (h (h x).parent) ≡ stack_list (f (f x).parent)
  above_same x = ap (λ (p : ℕ). stack_list (h p)) (same_parent x) ∙ (alike (f x).parent).stack_same

  pub alike_keeps : Coherent u l f → Coherent u l h
  alike_keeps c =
      record {
        root_there = alike_new 1 c.root_there;
        root_key = (alike 1).key_same ∙ c.root_key;
        root_stack = (alike 1).stack_same ∙ c.root_stack;
        root_white = (alike 1).white_same ∙ c.root_white;
        parent_there = λ x r. subst (Resident h) (sym (same_parent x)) (alike_new (f x).parent (c.parent_there x (alike_old x r.0, r.1)));
        parent_less = λ x r. subst (λ (p : ℕ). p < x) (sym (same_parent x)) (c.parent_less x (alike_old x r.0, r.1));
        stack_is = λ x r. (alike x).stack_same ∙ (c.stack_is x (alike_old x r.0, r.1) ∙ ap₂ (stack_of u l) (sym (above_same x)) (sym (same_name_lem x)));
        stack_some = λ x r e. c.stack_some x (alike_old x r.0, r.1) (sym (alike x).stack_same ∙ e);
        white_is = λ x r. (alike x).white_same ∙ (c.white_is x (alike_old x r.0, r.1) ∙ ap₂ (λ (s : List Pair) (n : Name). one (whiteout_of u l s n)) (sym (above_same x)) (sym (same_name_lem x)));
      }

  pub alike_complete : (x : ℕ) → (is_loaded (h x) ≡ true → is_loaded (f x) ≡ true) → Complete u l f x → Complete u l h x
  alike_complete x m c r e y w =
      let t : (k : ℕ) × Resident f k × (key_of (f k) ≡ x ∷ y) = c (alike_old x r) (m e) y (λ z. w (ap (λ (s : List Pair). stack_of u l s y) (alike x).stack_same ∙ z)) in
      (t.0, alike_new t.0 t.1, (alike t.0).key_same ∙ t.2)

-- ---- a new node, of number `m`, the name `x` of `p`; the layers may differ from before at that name
module _ (u v l : List ℕ) (f h : ℕ → Node) (c : Coherent u l f) (m p : ℕ) (x : Name)
    (roots : root_stack v l ≡ root_stack u l)
    (stacks : (q : ℕ) → Resident f q → (y : Name) → (q ≡ p → y ≡ x → ⊥) → stack_of v l (stack_list (f q)) y ≡ stack_of u l (stack_list (f q)) y)
    (marks : (q : ℕ) → Resident f q → (y : Name) → (q ≡ p → y ≡ x → ⊥) → whiteout_of v l (stack_list (f q)) y ≡ whiteout_of u l (stack_list (f q)) y)
    (there : Resident f p) (later : p < m) (other : m ≢ 1) (unknown : Resident f m → ⊥)
    (none : (k : ℕ) → NonRoot f k → key_of (f k) ≢ p ∷ x)
    (same : (k : ℕ) → k ≢ m → h k ≡ f k)
    (number : (h m).number ≡ m) (key : key_of (h m) ≡ p ∷ x)
  where
    not_new : (k : ℕ) → Resident f k → k ≢ m
    not_new k r e = unknown (subst (Resident f) e r)

    add_new_lem : (k : ℕ) → Resident f k → Resident h k
    add_new_lem k r = (r.0, ap (λ (n : Node). n.number) (same k (not_new k r)) ∙ r.1)

    add_old : (k : ℕ) → k ≢ m → Resident h k → Resident f k
    add_old k e r = (r.0, sym (ap (λ (n : Node). n.number) (same k e)) ∙ r.1)

    pub added_there : Resident h m
    added_there = ((λ z. omega arith), number)

    at_parent : h p ≡ f p
    at_parent = same p (not_new p there)

    parent_is : (h m).parent ≡ p
    parent_is = cc

    name_is : node_name (h m) ≡ x
    name_is = cc

    away : (k : ℕ) → NonRoot f k → (f k).parent ≡ p → node_name (f k) ≡ x → ⊥
    away k r a b = none k r (ap₂ ◌∷◌ a b)

    module _ (stack : stack_list (h m) ≡ stack_of v l (stack_list (f p)) x) (some : stack_list (h m) ≢ []) (white : (h m).white ≡ one (whiteout_of v l (stack_list (f p)) x)) where
      abbrev About : ℕ → Type 0
      About k = Resident h (h k).parent × ((h k).parent < k) × (stack_list (h k) ≡ stack_of v l (stack_list (h (h k).parent)) (node_name (h k))) × (stack_list (h k) ≢ []) × ((h k).white ≡ one (whiteout_of v l (stack_list (h (h k).parent)) (node_name (h k))))

      about : (k : ℕ) → NonRoot h k → About k
      about k r = go (ℕ_discrete k m)
        where
          go : Dec (k ≡ m) → About k
          go (yes e) = subst About (sym e) (rw parent_is (add_new_lem p there), rw parent_is later, rw (parent_is, name_is, at_parent) stack, some, rw (parent_is, name_is, at_parent) white)
          go (no e) =
              let o : NonRoot f k = (add_old k e r.0, r.1) in
              let q : Resident f (f k).parent = c.parent_there k o in
              rw (same k e) (
                add_new_lem (f k).parent q,
                c.parent_less k o,
                rw (same (f k).parent (not_new (f k).parent q), stacks (f k).parent q (node_name (f k)) (away k o)) (c.stack_is k o),
                c.stack_some k o,
                rw (same (f k).parent (not_new (f k).parent q), marks (f k).parent q (node_name (f k)) (away k o)) (c.white_is k o),
              )

      one_same : h 1 ≡ f 1
      one_same = same 1 (λ e. other (sym e))

      pub add_keeps : Coherent v l h
      add_keeps =
          record {
            root_there = add_new_lem 1 c.root_there;
            root_key = ap key_of one_same ∙ c.root_key;
            root_stack = ap stack_list one_same ∙ (c.root_stack ∙ sym roots);
            root_white = ap (λ (n : Node). n.white) one_same ∙ c.root_white;
            parent_there = λ k r. (about k r).0;
            parent_less = λ k r. (about k r).1;
            stack_is = λ k r. (about k r).2;
            stack_some = λ k r. (about k r).3;
            white_is = λ k r. (about k r).4;
          }

    pub add_complete : is_loaded (h m) ≡ false → (k : ℕ) → Complete u l f k → Complete v l h k
    add_complete fresh k g r e y w = go (ℕ_discrete k m)
      where
        old : k ≢ m → (k ≡ p → y ≡ x → ⊥) → (i : ℕ) × Resident h i × (key_of (h i) ≡ k ∷ y)
        old n a =
            let o : Resident f k = add_old k n r in
            let t : (i : ℕ) × Resident f i × (key_of (f i) ≡ k ∷ y) = g o (sym (ap is_loaded (same k n)) ∙ e) y (λ z. w (ap (λ (b : Node). stack_of v l (stack_list b) y) (same k n) ∙ (stacks k o y a ∙ z))) in
            (t.0, add_new_lem t.0 t.1, ap key_of (same t.0 (not_new t.0 t.1)) ∙ t.2)

        by : k ≢ m → Dec (k ≡ p) → Dec (y ≡ x) → (i : ℕ) × Resident h i × (key_of (h i) ≡ k ∷ y)
        by n (yes a) (yes b) = (m, added_there, key ∙ ap₂ ◌∷◌ (sym a) (sym b))
        by n (yes a) (no b) = old n (λ _ z. b z)
        by n (no a) _ = old n (λ z _. a z)

        go : Dec (k ≡ m) → (i : ℕ) × Resident h i × (key_of (h i) ≡ k ∷ y)
        go (yes q) = absurd (let z : false ≡ true = sym fresh ∙ (ap (λ (i : ℕ). is_loaded (h i)) (sym q) ∙ e) in let o : ◌≡◌ {A = ℕ} 0 1 = cc in omega arith)
        go (no q) = by q (ℕ_discrete k p) (name_dec y x)

-- ---- a node gone, of number `m`, which no node has for its parent
module _ (u l : List ℕ) (f h : ℕ → Node) (m : ℕ) (kids : (k : ℕ) → NonRoot f k → (f k).parent ≢ m) (gone : Resident h m → ⊥) (same : (k : ℕ) → k ≢ m → h k ≡ f k) where
  drop_old : (k : ℕ) → Resident h k → (k ≢ m) × Resident f k
  drop_old k r =
      let e : k ≢ m = λ e. gone (subst (Resident h) e r) in
      (e, (r.0, sym (ap (λ (n : Node). n.number) (same k e)) ∙ r.1))

  drop_new : (k : ℕ) → k ≢ m → Resident f k → Resident h k
  drop_new k e r = (r.0, ap (λ (n : Node). n.number) (same k e) ∙ r.1)

  module _ (other : m ≢ 1) (c : Coherent u l f) where
    one_stays : h 1 ≡ f 1
    one_stays = same 1 (λ e. other (sym e))

    abbrev AboutLeft : ℕ → Type 0
    AboutLeft k = Resident h (h k).parent × ((h k).parent < k) × (stack_list (h k) ≡ stack_of u l (stack_list (h (h k).parent)) (node_name (h k))) × (stack_list (h k) ≢ []) × ((h k).white ≡ one (whiteout_of u l (stack_list (h (h k).parent)) (node_name (h k))))

    about_left : (k : ℕ) → NonRoot h k → AboutLeft k
    about_left k r =
        let d : (k ≢ m) × Resident f k = drop_old k r.0 in
        let o : NonRoot f k = (d.1, r.1) in
        let q : (f k).parent ≢ m = kids k o in
        rw (same k d.0) (
          drop_new (f k).parent q (c.parent_there k o),
          c.parent_less k o,
          rw (same (f k).parent q) (c.stack_is k o),
          c.stack_some k o,
          rw (same (f k).parent q) (c.white_is k o),
        )

    pub drop_keeps : Coherent u l h
    drop_keeps =
        record {
          root_there = drop_new 1 (λ e. other (sym e)) c.root_there;
          root_key = ap key_of one_stays ∙ c.root_key;
          root_stack = ap stack_list one_stays ∙ c.root_stack;
          root_white = ap (λ (n : Node). n.white) one_stays ∙ c.root_white;
          parent_there = λ k r. (about_left k r).0;
          parent_less = λ k r. (about_left k r).1;
          stack_is = λ k r. (about_left k r).2;
          stack_some = λ k r. (about_left k r).3;
          white_is = λ k r. (about_left k r).4;
        }

  -- every directory but its parent is as complete as it was
  pub drop_complete : (k : ℕ) → (f m).parent ≢ k → Complete u l f k → Complete u l h k
  drop_complete k a g r e y w =
      let d : (k ≢ m) × Resident f k = drop_old k r in
      let t : (i : ℕ) × Resident f i × (key_of (f i) ≡ k ∷ y) = g d.1 (sym (ap is_loaded (same k d.0)) ∙ e) y (λ z. w (ap (λ (b : Node). stack_of u l (stack_list b) y) (same k d.0) ∙ z)) in
      let n : t.0 ≢ m = λ z. a (ap (λ (i : ℕ). (f i).parent) (sym z) ∙ (let q : key_of (f t.0) ≡ k ∷ y = t.2 in cc)) in
      (t.0, drop_new t.0 n t.1, ap key_of (same t.0 n) ∙ t.2)

-- ---- the node of number `k` becomes `a`, and the layers change from `u` to `v` at its name

pub record Step (u v l : List ℕ) (f : ℕ → Node) (k : ℕ) (a : Node) : Type 0 where
  pub roots : root_stack v l ≡ root_stack u l
  -- every other name below every other node keeps its stack and its mark
  pub stacks : (q : ℕ) → Resident f q → q ≢ k → (y : Name) → key_of (f k) ≢ q ∷ y → stack_of v l (stack_list (f q)) y ≡ stack_of u l (stack_list (f q)) y
  pub marks : (q : ℕ) → Resident f q → q ≢ k → (y : Name) → key_of (f k) ≢ q ∷ y → whiteout_of v l (stack_list (f q)) y ≡ whiteout_of u l (stack_list (f q)) y
  -- and so does every name below the node itself
  pub below_stacks : (y : Name) → stack_of v l (stack_list a) y ≡ stack_of u l (stack_list (f k)) y
  pub below_marks : (y : Name) → whiteout_of v l (stack_list a) y ≡ whiteout_of u l (stack_list (f k)) y
  pub number_same : a.number ≡ k
  pub key_same : key_of a ≡ key_of (f k)
  pub mark_same : is_loaded a ≡ true → is_loaded (f k) ≡ true
  -- the node has the new stack and mark of its name
  pub stack_new : stack_list a ≡ stack_of v l (stack_list (f (f k).parent)) (node_name (f k))
  pub stack_some : stack_list a ≢ []
  pub white_new : a.white ≡ one (whiteout_of v l (stack_list (f (f k).parent)) (node_name (f k)))

module _ (u v l : List ℕ) (f h : ℕ → Node) (c : Coherent u l f) (k : ℕ) (here : NonRoot f k) (step : Step u v l f k (h k)) (same : (i : ℕ) → i ≢ k → h i ≡ f i) (unique : (i : ℕ) → NonRoot f i → key_of (f i) ≡ key_of (f k) → i ≡ k) where
  step_numbers : (i : ℕ) → i ≢ k → (h i).number ≡ (f i).number
  step_numbers i e = ap (λ (n : Node). n.number) (same i e)

  step_old : (i : ℕ) → Resident h i → Resident f i
  step_old i r = go (ℕ_discrete i k)
    where
      go : Dec (i ≡ k) → Resident f i
      go (yes e) = subst (Resident f) (sym e) here.0
      go (no e) = (r.0, sym (step_numbers i e) ∙ r.1)

  step_new : (i : ℕ) → Resident f i → Resident h i
  step_new i r = go (ℕ_discrete i k)
    where
      go : Dec (i ≡ k) → Resident h i
      go (yes e) = subst (Resident h) (sym e) (here.0.0, step.number_same)
      go (no e) = (r.0, step_numbers i e ∙ r.1)

  step_keys : (i : ℕ) → key_of (h i) ≡ key_of (f i)
  step_keys i = go (ℕ_discrete i k)
    where
      go : Dec (i ≡ k) → key_of (h i) ≡ key_of (f i)
      go (yes e) = subst (λ (m : ℕ). key_of (h m) ≡ key_of (f m)) (sym e) step.key_same
      go (no e) = ap key_of (same i e)

  -- what a resident node's names have
  step_stacks : (q : ℕ) → Resident f q → (y : Name) → key_of (f k) ≢ q ∷ y → (stack_of v l (stack_list (h q)) y ≡ stack_of u l (stack_list (f q)) y) × (whiteout_of v l (stack_list (h q)) y ≡ whiteout_of u l (stack_list (f q)) y)
  step_stacks q r y a = go (ℕ_discrete q k)
    where
      go : Dec (q ≡ k) → (stack_of v l (stack_list (h q)) y ≡ stack_of u l (stack_list (f q)) y) × (whiteout_of v l (stack_list (h q)) y ≡ whiteout_of u l (stack_list (f q)) y)
      go (yes e) = rw e (step.below_stacks y, step.below_marks y)
      go (no e) = rw (same q e) (step.stacks q r e y a, step.marks q r e y a)

  abbrev AboutStep : ℕ → Type 0
  AboutStep i = (stack_list (h i) ≡ stack_of v l (stack_list (h (h i).parent)) (node_name (h i))) × (stack_list (h i) ≢ []) × ((h i).white ≡ one (whiteout_of v l (stack_list (h (h i).parent)) (node_name (h i))))

  step_parent : (i : ℕ) → (h i).parent ≡ (f i).parent
  step_parent i = key_parent (h i) (f i) (step_keys i)

  step_name : (i : ℕ) → node_name (h i) ≡ node_name (f i)
  step_name i = key_name (h i) (f i) (step_keys i)

  about_step : (i : ℕ) → NonRoot f i → AboutStep i
  about_step i r = go (ℕ_discrete i k)
    where
      above : (f k).parent ≢ k
      above e = let z : (f k).parent < k = c.parent_less k here in omega arith

      go : Dec (i ≡ k) → AboutStep i
      go (yes e) =
          subst AboutStep (sym e)
          (rw (step_parent k, step_name k, same (f k).parent above) (step.stack_new, step.stack_some, step.white_new))
      go (no e) =
          let t : (stack_of v l (stack_list (h (f i).parent)) (node_name (f i)) ≡ stack_of u l (stack_list (f (f i).parent)) (node_name (f i))) × (whiteout_of v l (stack_list (h (f i).parent)) (node_name (f i)) ≡ whiteout_of u l (stack_list (f (f i).parent)) (node_name (f i))) =
          step_stacks (f i).parent (c.parent_there i r) (node_name (f i)) (λ z. e (unique i r (sym z))) in
          rw (same i e) (c.stack_is i r ∙ sym t.0, c.stack_some i r, c.white_is i r ∙ ap one (sym t.1))

  one_same_step : h 1 ≡ f 1
  one_same_step = same 1 (λ e. here.1 (sym e))

  pub step_keeps : Coherent v l h
  step_keeps =
      record {
        root_there = step_new 1 c.root_there;
        root_key = ap key_of one_same_step ∙ c.root_key;
        root_stack = ap stack_list one_same_step ∙ (c.root_stack ∙ sym step.roots);
        root_white = ap (λ (n : Node). n.white) one_same_step ∙ c.root_white;
        parent_there = λ i r. subst (Resident h) (sym (step_parent i)) (step_new (f i).parent (c.parent_there i (step_old i r.0, r.1)));
        parent_less = λ i r. subst (λ (p : ℕ). p < i) (sym (step_parent i)) (c.parent_less i (step_old i r.0, r.1));
        stack_is = λ i r. (about_step i (step_old i r.0, r.1)).0;
        stack_some = λ i r. (about_step i (step_old i r.0, r.1)).1;
        white_is = λ i r. (about_step i (step_old i r.0, r.1)).2;
      }

  pub step_complete : (i : ℕ) → Complete u l f i → Complete v l h i
  step_complete i g r e y w = go (name_dec (key_of (f k)) (i ∷ y))
    where
      loaded : is_loaded (f i) ≡ true
      loaded = by (ℕ_discrete i k)
        where
          by : Dec (i ≡ k) → is_loaded (f i) ≡ true
          by (yes q) = ap (λ (m : ℕ). is_loaded (f m)) q ∙ step.mark_same (ap (λ (m : ℕ). is_loaded (h m)) (sym q) ∙ e)
          by (no q) = sym (ap is_loaded (same i q)) ∙ e

      go : Dec (key_of (f k) ≡ i ∷ y) → (m : ℕ) × Resident h m × (key_of (h m) ≡ i ∷ y)
      go (yes q) = (k, step_new k here.0, step.key_same ∙ q)
      go (no q) =
          let t : (m : ℕ) × Resident f m × (key_of (f m) ≡ i ∷ y) = g (step_old i r) loaded y (λ z. w ((step_stacks i (step_old i r) y q).0 ∙ z)) in
          (t.0, step_new t.0 t.1, step_keys t.0 ∙ t.2)

-- ---- each stack is the merge afresh down the node's path
module _ (u l : List ℕ) (f : ℕ → Node) (c : Coherent u l f) where
  pub stack_fresh : (k x : ℕ) → x ≤ k → Resident f x → stack_list (f x) ≡ fresh u l (path_in f k x)
  unfolding path_in fresh
  stack_fresh zero x b r = absurd (r.0 (omega arith))
  stack_fresh (suc k) x b r = go (ℕ_discrete x 1) (stack_fresh k (f x).parent)
    where
      go : Dec (x ≡ 1) → ((f x).parent ≤ k → Resident f (f x).parent → stack_list (f (f x).parent) ≡ fresh_from u l (root_stack u l) (path_in f k (f x).parent))
          → stack_list (f x) ≡ fresh_from u l (root_stack u l) (cond (eqb x 1) [] (path_in f k (f x).parent ++ (node_name (f x) ∷ [])))
      go (yes e) ih = rw (eq-eqb x 1 e) (unfold fresh_from in (ap (λ (i : ℕ). stack_list (f i)) e ∙ c.root_stack))
      go (no e) ih =
          let a : (f x).parent < x = c.parent_less x (r, e) in
          rw (ne_eqb x 1 e)
          (c.stack_is x (r, e)
          ∙ (ap (λ (s : List Pair). stack_of u l s (node_name (f x))) (ih (omega arith) (c.parent_there x (r, e))) ∙ sym (fresh_append u l (root_stack u l) (path_in f k (f x).parent) (node_name (f x)))))
