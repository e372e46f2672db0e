-- Lists of nodes with one put in at its place, taken out or changed: what each search then finds. Assumes nothing.
use Rattle.std.specs.Prelude.{Some, None, Option, is_some}
use Rattle.std.specs.declared.cmp.Ordering.{Ordering}
use Rattle.std.specs.declared.cmp.Ordering.TheVariants.{Less, Equal, Greater}
use mathlib.Core.Path.{◌≡◌, refl, sym, ap, ap₂, ◌∙◌}
use mathlib.Core.Logic.{◌≢◌}
use Prim.Native.Nat.{ℕ, suc, ◌+◌, ◌≤◌, ◌<◌}
use native.Mathlib.Omega.{arith}
use native.Mathlib.Nat.{zero-add}
use mathlib.Core.Bool.{Bool, true, false, cond}
use mathlib.Core.List.{List, [], ◌∷◌, ◌++◌}
use lib.Dec.{eqb}
use lib.ListN.{length, take, drop, set}
use borrow.Author.Tests.{eq-eqb, ne_eqb, eqb-true}
use Rattle.layers.specs.Names.{Name, same_name, order_of}
use Rattle.layers.specs.Search.{first_from}
use Rattle.layers.specs.Order.{insert_by, spot_from, spot_step}
use Rattle.layers.specs.Sorted.{Sorted}
use Rattle.layers.proofs.NameLaws.{same_true, same_refl}
use Rattle.layers.proofs.OrderLaws.{same_one, same_self}
use Rattle.layers.proofs.PlaceLaws.{spot_inserts}
use Rattle.layers.proofs.PieceMoves.{insert_at, remove_at}
use Rattle.merge.specs.declared.node.Node.{Node}
use Rattle.merge.specs.Nodes.{node_at, no_node, node_name, key_of}
use Rattle.merge.specs.State.{is_number, is_child, has_parent, those, find_number, find_child, child_from, has_children, children_of, place_for}
use Rattle.merge.proofs.ListChanges.{shifted, at_inserted, at_shifted, found_shifted, is_found_shifted, found_insert, missing_those, below_none, below_down, first_set_same, first_insert_other, first_insert_new, first_remove_other, first_remove_only, those_insert, those_insert_none, those_one, those_remove_other}

-- ---- the tests

pub is_number_lem : (x : ℕ) (n : Node) → n.number ≡ x → is_number x n ≡ true
unfolding is_number
is_number_lem x n e = eq-eqb n.number x e

pub other_number : (x : ℕ) (n : Node) → n.number ≢ x → is_number x n ≡ false
unfolding is_number
other_number x n e = ne_eqb n.number x e

pub number_of : (x : ℕ) (n : Node) → is_number x n ≡ true → n.number ≡ x
unfolding is_number
number_of x n e = eqb-true n.number x e

pub is_parent : (p : ℕ) (n : Node) → n.parent ≡ p → has_parent p n ≡ true
unfolding has_parent
is_parent p n e = eq-eqb n.parent p e

pub other_parent : (p : ℕ) (n : Node) → n.parent ≢ p → has_parent p n ≡ false
unfolding has_parent
other_parent p n e = ne_eqb n.parent p e

-- the name `x` in `p` is the node's
pub is_child_lem : (p : ℕ) (x : Name) (n : Node) → key_of n ≡ p ∷ x → is_child p x n ≡ true
unfolding is_child
is_child_lem p x n e =
    let a : n.parent ≡ p = cc in
    let b : node_name n ≡ x = cc in
    rw (eq-eqb n.parent p a) (ap (λ (y : Name). same_name y x) b ∙ same_refl x)

pub child_key : (p : ℕ) (x : Name) (n : Node) → is_child p x n ≡ true → key_of n ≡ p ∷ x
unfolding is_child
child_key p x n e = go (eqb n.parent p) refl e
  where
    go : (b : Bool) → eqb n.parent p ≡ b → cond b (same_name (node_name n) x) false ≡ true → key_of n ≡ p ∷ x
    go true a h = ap₂ ◌∷◌ (eqb-true n.parent p a) (same_true (node_name n) x h)
    go false a h = absurd (let z : ◌≡◌ {A = ℕ} 0 1 = cc in omega arith)

pub other_child : (p : ℕ) (x : Name) (n : Node) → key_of n ≢ p ∷ x → is_child p x n ≡ false
other_child p x n h = go (is_child p x n) refl
  where
    go : (b : Bool) → is_child p x n ≡ b → b ≡ false
    go true e = absurd (h (child_key p x n e))
    go false e = refl

-- the tests go by the key
pub parent_keyed : (p : ℕ) (a b : Node) → key_of a ≡ key_of b → has_parent p a ≡ has_parent p b
unfolding has_parent
parent_keyed p a b e = let z : a.parent ≡ b.parent = cc in ap (λ (q : ℕ). eqb q p) z

pub child_keyed : (p : ℕ) (x : Name) (a b : Node) → key_of a ≡ key_of b → is_child p x a ≡ is_child p x b
unfolding is_child
child_keyed p x a b e =
    let z : a.parent ≡ b.parent = cc in
    let y : node_name a ≡ node_name b = cc in
    ap₂ (λ (q : ℕ) (n : Name). cond (eqb q p) (same_name n x) false) z y

-- ---- a node changed, of the same number, parent and name

module _ (ns : List Node) (k : ℕ) (a : Node) where
  pub number_changed : a.number ≡ (node_at ns k).number → (x : ℕ) → find_number (set ns k a) x ≡ find_number ns x
  unfolding is_number
  number_changed e x = first_set_same (is_number x) no_node 0 ns k a (ap (λ (n : ℕ). eqb n x) e)

  module _ (e : key_of a ≡ key_of (node_at ns k)) where
    pub child_changed : (p : ℕ) (x : Name) → find_child (set ns k a) p x ≡ find_child ns p x
    child_changed p x = first_set_same (is_child p x) no_node 0 ns k a (child_keyed p x a (node_at ns k) e)

    pub has_children_changed : (p : ℕ) → has_children (set ns k a) p ≡ has_children ns p
    has_children_changed p = ap is_some (first_set_same (has_parent p) no_node 0 ns k a (parent_keyed p a (node_at ns k) e))

-- a name stands once among a directory's nodes
pub one_child : (p : ℕ) (x : Name) (ns : List Node) → Sorted key_of ns → length (those (is_child p x) ns) ≤ 1
one_child p x ns s = those_one key_of (is_child p x) (p ∷ x) (child_key p x) ns s

-- ---- a node taken out

module _ (ns : List Node) (k : ℕ) (l : k < length ns) where
  pub number_left : (x : ℕ) → (node_at ns k).number ≢ x → find_number ns x ≡ found_shifted k (find_number (remove_at k ns) x)
  number_left x h = first_remove_other (is_number x) no_node 0 k ns l (other_number x (node_at ns k) h) ∙ ap (λ (i : ℕ). found_shifted i (find_number (remove_at k ns) x)) (zero-add k)

  -- a number that one node had is unknown
  pub number_gone : (x : ℕ) → (node_at ns k).number ≡ x → length (those (is_number x) ns) ≤ 1 → find_number (remove_at k ns) x ≡ None
  number_gone x e o = first_remove_only (is_number x) no_node 0 k ns l (is_number_lem x (node_at ns k) e) o

  pub child_left : (p : ℕ) (x : Name) → key_of (node_at ns k) ≢ p ∷ x → find_child ns p x ≡ found_shifted k (find_child (remove_at k ns) p x)
  child_left p x h = first_remove_other (is_child p x) no_node 0 k ns l (other_child p x (node_at ns k) h) ∙ ap (λ (i : ℕ). found_shifted i (find_child (remove_at k ns) p x)) (zero-add k)

  pub has_children_left : (p : ℕ) → (node_at ns k).parent ≢ p → has_children (remove_at k ns) p ≡ has_children ns p
  has_children_left p h =
      sym (ap is_some (first_remove_other (has_parent p) no_node 0 k ns l (other_parent p (node_at ns k) h)) ∙ is_found_shifted (0 + k) (child_from (remove_at k ns) p 0))

  pub children_left : (p : ℕ) → (node_at ns k).parent ≢ p → children_of (remove_at k ns) p ≡ children_of ns p
  children_left p h = those_remove_other (has_parent p) no_node k ns (other_parent p (node_at ns k) h)

  pub child_gone : (p : ℕ) (x : Name) → key_of (node_at ns k) ≡ p ∷ x → Sorted key_of ns → find_child (remove_at k ns) p x ≡ None
  child_gone p x e s = first_remove_only (is_child p x) no_node 0 k ns l (is_child_lem p x (node_at ns k) e) (one_child p x ns s)

-- ---- a node put in

module _ (ns : List Node) (q : Node) (k : ℕ) (e : place_for ns q.parent (node_name q) ≡ Some k) where
  spot_found : (i : ℕ) × (k ≡ 0 + i) × (i ≤ length ns) × (insert_by key_of q ns ≡ take i ns ++ q ∷ drop i ns)
  spot_found = spot_inserts key_of q 0 ns k e

  pub place_below : k ≤ length ns
  place_below = let a : k ≡ 0 + spot_found.0 = spot_found.1 in let b : spot_found.0 ≤ length ns = spot_found.2 in omega arith

  pub added_is : insert_by key_of q ns ≡ insert_at k q ns
  added_is = let a : k ≡ spot_found.0 = (let z : k ≡ 0 + spot_found.0 = spot_found.1 in omega arith) in spot_found.3 ∙ ap (λ (i : ℕ). insert_at i q ns) (sym a)

  pub node_added : node_at (insert_by key_of q ns) k ≡ q
  node_added = ap (λ (l : List Node). node_at l k) added_is ∙ at_inserted no_node k q ns place_below

  pub node_moved : (j : ℕ) → node_at (insert_by key_of q ns) (shifted k j) ≡ node_at ns j
  node_moved j = ap (λ (l : List Node). node_at l (shifted k j)) added_is ∙ at_shifted no_node k q ns j place_below

  pub number_kept : (x : ℕ) → q.number ≢ x → find_number (insert_by key_of q ns) x ≡ found_shifted k (find_number ns x)
  number_kept x h = ap (λ (l : List Node). find_number l x) added_is ∙ (first_insert_other (is_number x) 0 k q ns (other_number x q h) place_below ∙ ap (λ (i : ℕ). found_shifted i (find_number ns x)) (zero-add k))

  pub number_added : find_number ns q.number ≡ None → find_number (insert_by key_of q ns) q.number ≡ Some k
  number_added h = ap (λ (l : List Node). find_number l q.number) added_is ∙ (first_insert_new (is_number q.number) 0 k q ns (is_number_lem q.number q refl) place_below h ∙ ap Some (zero-add k))

  pub child_kept : (p : ℕ) (x : Name) → key_of q ≢ p ∷ x → find_child (insert_by key_of q ns) p x ≡ found_shifted k (find_child ns p x)
  child_kept p x h = ap (λ (l : List Node). find_child l p x) added_is ∙ (first_insert_other (is_child p x) 0 k q ns (other_child p x q h) place_below ∙ ap (λ (i : ℕ). found_shifted i (find_child ns p x)) (zero-add k))

  pub child_added : find_child ns q.parent (node_name q) ≡ None → find_child (insert_by key_of q ns) q.parent (node_name q) ≡ Some k
  child_added h =
      ap (λ (l : List Node). find_child l q.parent (node_name q)) added_is ∙ (first_insert_new (is_child q.parent (node_name q)) 0 k q ns (is_child_lem q.parent (node_name q) q refl) place_below h ∙ ap Some (zero-add k))

  pub has_children_kept : (p : ℕ) → q.parent ≢ p → has_children (insert_by key_of q ns) p ≡ has_children ns p
  has_children_kept p h =
      ap (λ (l : List Node). has_children l p) added_is ∙ (ap is_some (first_insert_other (has_parent p) 0 k q ns (other_parent p q h) place_below) ∙ is_found_shifted (0 + k) (child_from ns p 0))

  pub has_children_added : has_children (insert_by key_of q ns) q.parent ≡ true
  has_children_added = ap (λ (l : List Node). has_children l q.parent) added_is ∙ found_insert (has_parent q.parent) 0 k q ns (is_parent q.parent q refl)

pub children_kept : (ns : List Node) (q : Node) (p : ℕ) → q.parent ≢ p → children_of (insert_by key_of q ns) p ≡ children_of ns p
children_kept ns q p h = those_insert_none key_of (has_parent p) q ns (other_parent p q h)

pub children_added : (ns : List Node) (q : Node) → Sorted key_of ns → children_of (insert_by key_of q ns) q.parent ≡ insert_by key_of q (children_of ns q.parent)
children_added ns q s = those_insert key_of (has_parent q.parent) (parent_keyed q.parent) q ns s (is_parent q.parent q refl)

-- ---- a name has a place to go exactly where it has no node

taken_found : (p : ℕ) (x : Name) (k s : ℕ) (ns : List Node) → spot_from key_of k (p ∷ x) ns ≡ None → is_some (first_from (is_child p x) s ns) ≡ true
unfolding spot_from spot_step first_from
taken_found p x k s [] h = absurd (let z : ◌≡◌ {A = ℕ} 0 1 = cc in omega arith)
taken_found p x k s (n ∷ ns) h = go (order_of (p ∷ x) (key_of n)) refl h (taken_found p x (suc k) (suc s) ns)
  where
    either : (b : Bool) → is_some (first_from (is_child p x) (suc s) ns) ≡ true → is_some (cond b (Some s) (first_from (is_child p x) (suc s) ns)) ≡ true
    either true ih = refl
    either false ih = ih

    go : (o : Ordering) → order_of (p ∷ x) (key_of n) ≡ o → spot_step o k (spot_from key_of (suc k) (p ∷ x) ns) ≡ None → (spot_from key_of (suc k) (p ∷ x) ns ≡ None → is_some (first_from (is_child p x) (suc s) ns) ≡ true)
        → is_some (cond (is_child p x n) (Some s) (first_from (is_child p x) (suc s) ns)) ≡ true
    go Less e h ih = absurd (let z : ◌≡◌ {A = ℕ} 0 1 = cc in omega arith)
    go Equal e h ih = rw (is_child_lem p x n (sym (same_one (p ∷ x) (key_of n) e))) refl
    go Greater e h ih = either (is_child p x n) (ih h)

pub free_where_missing : (p : ℕ) (x : Name) (ns : List Node) → find_child ns p x ≡ None → (k : ℕ) × (place_for ns p x ≡ Some k)
free_where_missing p x ns h = go (place_for ns p x) refl
  where
    go : (f : Option ℕ) → place_for ns p x ≡ f → (k : ℕ) × (f ≡ Some k)
    go (Some k) e = (k, refl)
    go None e = absurd (let b : is_some {T = ℕ} None ≡ true = ap is_some (sym h) ∙ taken_found p x 0 0 ns e in let z : ◌≡◌ {A = ℕ} 0 1 = cc in omega arith)

free_none : (p : ℕ) (x : Name) (k m : ℕ) (ns : List Node) → Sorted key_of ns → spot_from key_of k (p ∷ x) ns ≡ Some m → those (is_child p x) ns ≡ []
unfolding spot_from spot_step those
free_none p x k m [] s h = refl
free_none p x k m (n ∷ ns) s h = go (order_of (p ∷ x) (key_of n)) refl h (free_none p x (suc k) m ns s.1)
  where
    go : (o : Ordering) → order_of (p ∷ x) (key_of n) ≡ o → spot_step o k (spot_from key_of (suc k) (p ∷ x) ns) ≡ Some m → (spot_from key_of (suc k) (p ∷ x) ns ≡ Some m → those (is_child p x) ns ≡ []) → those (is_child p x) (n ∷ ns) ≡ []
    go Less e h ih = below_none key_of (is_child p x) (p ∷ x) (child_key p x) (n ∷ ns) (e, below_down key_of (p ∷ x) (key_of n) ns e s.0)
    go Equal e h ih = absurd (let z : ◌≡◌ {A = ℕ} 0 1 = cc in omega arith)
    go Greater e h ih =
        rw (other_child p x n (λ a. absurd (let o : Equal ≡ Greater = sym (same_self (p ∷ x)) ∙ (ap (order_of (p ∷ x)) (sym a) ∙ e) in let z : ◌≡◌ {A = ℕ} 0 1 = cc in omega arith))) (ih h)

pub missing_where_free : (p : ℕ) (x : Name) (k : ℕ) (ns : List Node) → Sorted key_of ns → place_for ns p x ≡ Some k → find_child ns p x ≡ None
missing_where_free p x k ns s h = missing_those (is_child p x) 0 ns (ap length (free_none p x 0 k ns s h))
