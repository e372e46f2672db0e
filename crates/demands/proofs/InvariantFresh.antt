-- The nodes and the merge afresh: each node's path, its stack, its mark and its names. Assumes nothing.
use mathlib.Core.Path.{◌≡◌, refl, sym, ap, ap₂, ◌∙◌}
use mathlib.Core.Logic.{◌≢◌}
use Prim.Native.Nat.{ℕ, zero, suc, ◌≤◌, ◌<◌}
use native.Mathlib.Omega.{arith}
use native.Mathlib.Decide.{ℕ_discrete}
use mathlib.Core.Bool.{true}
use mathlib.Core.List.{List, [], ◌∷◌, ◌++◌, map}
use lib.ListN.{length}
use borrow.Author.Tests.{ne_eqb}
use Rattle.layers.specs.Names.{Name}
use Rattle.layers.specs.Items.{entries_of}
use Rattle.layers.specs.Search.{one}
use Rattle.merge.specs.declared.stacks.Pair.{Pair}
use Rattle.merge.specs.declared.node.Node.{Node}
use Rattle.merge.specs.Nodes.{node_name, nodes_of}
use Rattle.merge.specs.State.{children_of}
use Rattle.merge.specs.Tables.{table_of}
use Rattle.merge.specs.Scan.{merged_names}
use Rattle.merge.specs.Stacks.{whiteout_of}
use Rattle.merge.specs.Fresh.{fresh}
use Rattle.merge.specs.Load.{stack_list, is_loaded}
use Rattle.demands.specs.Invariant.{node_by, Resident, NonRoot, Coherent, Good, path_in, path_of}
use Rattle.merge.proofs.NamedLaws.{ChildrenExist}
use Rattle.demands.proofs.InvariantMoves.{stack_fresh}
use Rattle.demands.proofs.InvariantNodes.{one_node}
use Rattle.demands.proofs.InvariantNames.{loaded_names}

-- ---- paths

module _ (u l : List ℕ) (f : ℕ → Node) (c : Coherent u l f) where
  path_up : (k x : ℕ) → x ≢ 1 → path_in f (suc k) x ≡ path_in f k (f x).parent ++ (node_name (f x) ∷ [])
  unfolding path_in
  path_up k x e = rw (ne_eqb x 1 e) refl

  path_one : (k : ℕ) → path_in f k 1 ≡ []
  unfolding path_in
  path_one zero = refl
  path_one (suc k) = refl

  -- as many steps as the number suffice
  pub path_steps : (a b x : ℕ) → x ≤ a → x ≤ b → Resident f x → path_in f a x ≡ path_in f b x
  path_steps zero b x p q r = absurd (r.0 (omega arith))
  path_steps (suc a) zero x p q r = absurd (r.0 (omega arith))
  path_steps (suc a) (suc b) x p q r = go (ℕ_discrete x 1) (path_steps a b (f x).parent)
    where
      go : Dec (x ≡ 1) → ((f x).parent ≤ a → (f x).parent ≤ b → Resident f (f x).parent → path_in f a (f x).parent ≡ path_in f b (f x).parent) → path_in f (suc a) x ≡ path_in f (suc b) x
      go (yes e) ih = rw e (path_one (suc a) ∙ sym (path_one (suc b)))
      go (no e) ih =
          let h : (f x).parent < x = c.parent_less x (r, e) in
          path_up a x e ∙ (ap (λ (y : List Name). y ++ (node_name (f x) ∷ [])) (ih (omega arith) (omega arith) (c.parent_there x (r, e))) ∙ sym (path_up b x e))

  -- a child's path is its parent's and its name
  pub path_down : (x : ℕ) → NonRoot f x → path_in f x x ≡ path_in f (f x).parent (f x).parent ++ (node_name (f x) ∷ [])
  path_down zero r = absurd (r.0.0 refl)
  path_down (suc x) r =
      let h : (f (suc x)).parent < suc x = c.parent_less (suc x) r in
      path_up x (suc x) r.1
      ∙ ap (λ (y : List Name). y ++ (node_name (f (suc x)) ∷ [])) (path_steps x (f (suc x)).parent (f (suc x)).parent (omega arith) (omega arith) (c.parent_there (suc x) r))

  -- the stack and the mark are those of the path
  pub own_fresh : (x : ℕ) → Resident f x → stack_list (f x) ≡ fresh u l (path_in f x x)
  own_fresh x r = stack_fresh u l f c x x (omega arith) r

  pub mark_fresh : (x : ℕ) → NonRoot f x → (f x).white ≡ one (whiteout_of u l (fresh u l (path_in f (f x).parent (f x).parent)) (node_name (f x)))
  mark_fresh x r = c.white_is x r ∙ ap (λ (s : List Pair). one (whiteout_of u l s (node_name (f x)))) (own_fresh (f x).parent (c.parent_there x r))

-- ---- a path has one node

snoc_some : {A : Type 0} (xs : List A) (a : A) → [] ≢ xs ++ (a ∷ [])
snoc_some [] a e = absurd (let z : 0 ≡ 1 = ap length e in omega arith)
snoc_some (x ∷ xs) a e = absurd (let z : 0 ≡ suc (length (xs ++ (a ∷ []))) = ap length e in omega arith)

snoc_parts : {A : Type 0} (xs ys : List A) (a b : A) → xs ++ (a ∷ []) ≡ ys ++ (b ∷ []) → (xs ≡ ys) × (a ≡ b)
snoc_parts [] [] a b e = (refl, cc)
snoc_parts {A} [] (y ∷ ys) a b e = absurd (let t : [] ≡ ys ++ (b ∷ []) = cc in snoc_some ys b t)
snoc_parts {A} (x ∷ xs) [] a b e = absurd (let t : [] ≡ xs ++ (a ∷ []) = cc in snoc_some xs a t)
snoc_parts {A} (x ∷ xs) (y ∷ ys) a b e =
    let p : x ≡ y = cc in
    let t : (xs ≡ ys) × (a ≡ b) = snoc_parts xs ys a b cc in
    (ap₂ ◌∷◌ p t.0, t.1)

module _ (u l s : List ℕ) (g : Good u l s) where
  abbrev f : ℕ → Node
  f = node_by (nodes_of s)

  pub root_path : path_of (nodes_of s) 1 ≡ []
  root_path = path_one u l f g.nodes.coherent 1

  pub child_path : (x : ℕ) → NonRoot f x → path_of (nodes_of s) x ≡ path_of (nodes_of s) (f x).parent ++ (node_name (f x) ∷ [])
  child_path = path_down u l f g.nodes.coherent

  path_below : (b i k : ℕ) → i < b → Resident f i → Resident f k → path_of (nodes_of s) i ≡ path_of (nodes_of s) k → i ≡ k
  path_below zero i k h p q e = absurd (omega arith)
  path_below (suc b) i k h p q e = go (ℕ_discrete i 1) (ℕ_discrete k 1) (path_below b (f i).parent (f k).parent)
    where
      go : Dec (i ≡ 1) → Dec (k ≡ 1) → ((f i).parent < b → Resident f (f i).parent → Resident f (f k).parent → path_of (nodes_of s) (f i).parent ≡ path_of (nodes_of s) (f k).parent → (f i).parent ≡ (f k).parent) → i ≡ k
      go (yes a) (yes c) ih = a ∙ sym c
      go (yes a) (no c) ih = absurd (snoc_some (path_of (nodes_of s) (f k).parent) (node_name (f k)) (sym root_path ∙ (ap (path_of (nodes_of s)) (sym a) ∙ (e ∙ child_path k (q, c)))))
      go (no a) (yes c) ih = absurd (snoc_some (path_of (nodes_of s) (f i).parent) (node_name (f i)) (sym root_path ∙ (ap (path_of (nodes_of s)) (sym c) ∙ (sym e ∙ child_path i (p, a)))))
      go (no a) (no c) ih =
          let t : (path_of (nodes_of s) (f i).parent ≡ path_of (nodes_of s) (f k).parent) × (node_name (f i) ≡ node_name (f k)) =
          snoc_parts (path_of (nodes_of s) (f i).parent) (path_of (nodes_of s) (f k).parent) (node_name (f i)) (node_name (f k)) (sym (child_path i (p, a)) ∙ (e ∙ child_path k (q, c))) in
          let less : (f i).parent < i = g.nodes.coherent.parent_less i (p, a) in
          one_node (nodes_of s) g.nodes.sorted i k p q (ap₂ ◌∷◌ (ih (omega arith) (g.nodes.coherent.parent_there i (p, a)) (g.nodes.coherent.parent_there k (q, c)) t.0) t.1)

  pub path_once : (i k : ℕ) → Resident f i → Resident f k → path_of (nodes_of s) i ≡ path_of (nodes_of s) k → i ≡ k
  path_once i k = path_below (suc i) i k (omega arith)

  -- a loaded directory's nodes have the names of the merge afresh, in byte order
  pub names_fresh : ((k : ℕ) → ChildrenExist (entries_of (table_of u l k))) → (x : ℕ) → Resident f x → is_loaded (f x) ≡ true → map node_name (children_of (nodes_of s) x) ≡ merged_names u l (fresh u l (path_of (nodes_of s) x))
  names_fresh exist x r h = loaded_names u l s g x r h exist ∙ ap (merged_names u l) (own_fresh u l f g.nodes.coherent x r)
