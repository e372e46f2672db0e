-- A loaded directory's nodes have exactly the merged names, in byte order. Assumes nothing.
use Rattle.std.specs.Prelude.{Option, Some, None, is_some}
use Rattle.std.specs.declared.cmp.Ordering.TheVariants.{Less}
use mathlib.Core.Path.{◌≡◌, refl, sym, ap, ap₂, ◌∙◌}
use mathlib.Core.Logic.{◌≢◌}
use Prim.Native.Nat.{ℕ, suc}
use native.Mathlib.Omega.{arith}
use mathlib.Core.Bool.{Bool, true, false, cond}
use mathlib.Core.List.{List, [], ◌∷◌, map}
use lib.Dec.{eqb}
use borrow.Author.Tests.{le-ltb, eqb-true}
use Rattle.layers.specs.Names.{Name, same_name, order_of}
use Rattle.layers.specs.Items.{entries_of}
use Rattle.layers.specs.Search.{first_from}
use Rattle.layers.specs.Sorted.{Below, Sorted}
use Rattle.merge.specs.declared.stacks.Pair.{Pair}
use Rattle.merge.specs.declared.node.Node.{Node}
use Rattle.merge.specs.Nodes.{node_name, key_of, nodes_of}
use Rattle.merge.specs.State.{is_child, has_parent, those, find_child, children_of}
use Rattle.merge.specs.Tables.{table_of}
use Rattle.merge.specs.Scan.{merged_names}
use Rattle.merge.specs.Stacks.{stack_of}
use Rattle.merge.specs.Load.{stack_list, is_loaded}
use Rattle.demands.specs.Invariant.{node_by, Resident, Good}
use Rattle.merge.proofs.MergeLaws.{Each}
use Rattle.merge.proofs.NamedLaws.{has, some, ChildrenExist}
use Rattle.demands.proofs.OneOrder.{sorted_map, names_are}
use Rattle.merge.proofs.ListChanges.{those_sorted}
use Rattle.demands.proofs.InvariantNodes.{child_there, there_child}

-- ---- children in order of their names

those_parent : (p : ℕ) (ns : List Node) → Each (λ n. n.parent ≡ p) (children_of ns p)
unfolding those has_parent
those_parent p [] = tt
those_parent p (n ∷ ns) = go (eqb n.parent p) refl (those_parent p ns)
  where
    go : (b : Bool) → eqb n.parent p ≡ b → Each (λ m. m.parent ≡ p) (children_of ns p) → Each (λ m. m.parent ≡ p) (cond b (n ∷ children_of ns p) (children_of ns p))
    go true e ih = (eqb-true n.parent p e, ih)
    go false e ih = ih

order_below : (p q : ℕ) (x y : Name) → p ≡ q → order_of (p ∷ x) (q ∷ y) ≡ Less → order_of x y ≡ Less
unfolding order_of
order_below p q x y e h = sym (rw (le-ltb p q (omega arith), le-ltb q p (omega arith)) refl) ∙ h

below_names : (p : ℕ) (n : Node) (ms : List Node) → n.parent ≡ p → Each (λ m. m.parent ≡ p) ms → Below key_of (key_of n) ms → Below node_name (node_name n) ms
below_names p n [] e a b = tt
below_names p n (m ∷ ms) e a b = (order_below n.parent m.parent (node_name n) (node_name m) (e ∙ sym a.0) b.0, below_names p n ms e a.1 b.1)

sorted_names : (p : ℕ) (ms : List Node) → Each (λ m. m.parent ≡ p) ms → Sorted key_of ms → Sorted node_name ms
sorted_names p [] a s = tt
sorted_names p (m ∷ ms) a s = (below_names p m ms a.0 a.1 s.0, sorted_names p ms a.1 s.1)

pub children_sorted : (ns : List Node) (p : ℕ) → Sorted key_of ns → Sorted (λ x. x) (map node_name (children_of ns p))
children_sorted ns p s = sorted_map node_name (children_of ns p) (sorted_names p (children_of ns p) (those_parent p ns) (those_sorted key_of (has_parent p) ns s))

-- a name is among the children's exactly where it is found
pub children_has : (p : ℕ) (y : Name) (k : ℕ) (ns : List Node) → has y (map node_name (children_of ns p)) ≡ is_some (first_from (is_child p y) k ns)
unfolding those has_parent is_child first_from
children_has p y k [] = refl
children_has p y k (n ∷ ns) = go (eqb n.parent p) (same_name (node_name n) y) refl (children_has p y (suc k) ns)
  where
    go : (b c : Bool) → same_name (node_name n) y ≡ c → has y (map node_name (children_of ns p)) ≡ is_some (first_from (is_child p y) (suc k) ns)
        → has y (map node_name (cond b (n ∷ children_of ns p) (children_of ns p))) ≡ is_some (cond (cond b c false) (Some k) (first_from (is_child p y) (suc k) ns))
    go true true e ih = rw e refl
    go true false e ih = rw e ih
    go false c e ih = ih

-- ---- a loaded directory

module _ (u l s : List ℕ) (g : Good u l s) (x : ℕ) (there : Resident (node_by (nodes_of s)) x) (loaded : is_loaded (node_by (nodes_of s) x) ≡ true) where
  abbrev f : ℕ → Node
  f = node_by (nodes_of s)

  -- a child's stack is the merged one, and not empty
  child_some : (y : Name) (i : ℕ) → Resident f i → key_of (f i) ≡ x ∷ y → stack_of u l (stack_list (f x)) y ≢ []
  child_some y i r e z =
      let a : (f i).parent ≡ x = cc in
      let b : node_name (f i) ≡ y = cc in
      let m : i ≢ 1 = λ q. there.0 (sym a ∙ (ap (λ (k : ℕ). (f k).parent) q ∙ (let w : key_of (f 1) ≡ 0 ∷ [] = g.nodes.coherent.root_key in cc))) in
      g.nodes.coherent.stack_some i (r, m) (g.nodes.coherent.stack_is i (r, m) ∙ (ap₂ (λ (k : ℕ) (n : Name). stack_of u l (stack_list (f k)) n) a b ∙ z))

  -- a name has a node exactly where it has a stack
  pub named_some : (y : Name) → is_some (find_child (nodes_of s) x y) ≡ some (stack_of u l (stack_list (f x)) y)
  named_some y = go (find_child (nodes_of s) x y) refl (stack_of u l (stack_list (f x)) y) refl
    where
      go : (h : Option ℕ) → find_child (nodes_of s) x y ≡ h → (t : List Pair) → stack_of u l (stack_list (f x)) y ≡ t → is_some h ≡ some t
      go (Some k) e [] q =
          let c : (i : ℕ) × Resident f i × (key_of (f i) ≡ x ∷ y) = child_there (nodes_of s) x y g.nodes.once g.nodes.none_zero k e in
          absurd (child_some y c.0 c.1 c.2 q)
      go (Some k) e (p ∷ t) q = refl
      go None e [] q = refl
      go None e (p ∷ t) q =
          let c : (i : ℕ) × Resident f i × (key_of (f i) ≡ x ∷ y) = g.complete x there loaded y (λ z. let w : true ≡ false = ap (λ (r : List Pair). some r) (sym q ∙ z) in absurd (let o : ◌≡◌ {A = ℕ} 0 1 = cc in omega arith)) in
          let d : (k : ℕ) × (find_child (nodes_of s) x y ≡ Some k) = there_child (nodes_of s) x y c.0 c.1 c.2 in
          absurd (let w : None ≡ Some d.0 = sym e ∙ d.1 in let o : ◌≡◌ {A = ℕ} 0 1 = cc in omega arith)

  -- its children, in table order, have the merged names
  pub loaded_names : ((k : ℕ) → ChildrenExist (entries_of (table_of u l k))) → map node_name (children_of (nodes_of s) x) ≡ merged_names u l (stack_list (f x))
  loaded_names exist = names_are u l exist (stack_list (f x)) (map node_name (children_of (nodes_of s) x)) (children_sorted (nodes_of s) x g.nodes.sorted) (λ y. children_has x y 0 (nodes_of s) ∙ named_some y)
