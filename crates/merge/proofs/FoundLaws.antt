-- What a search of the nodes found, the walk over a directory's children, and what holds of every node. Assumes nothing.
use Rattle.std.specs.Prelude.{Option, Some, None, is_some}
use Rattle.std.specs.declared.cmp.Ordering.{Ordering}
use Rattle.std.specs.declared.cmp.Ordering.TheVariants.{Less, Equal, Greater}
use mathlib.Core.Path.{◌≡◌, refl, sym, ap, ap₂, ◌∙◌}
use Prim.Native.Nat.{ℕ, zero, suc, ◌+◌, ◌-◌, ◌≤◌, ◌<◌}
use native.Mathlib.Omega.{arith}
use native.Mathlib.Nat.{zero-add}
use mathlib.Core.Bool.{Bool, true, false, cond}
use mathlib.Core.List.{List, [], ◌∷◌}
use lib.ListN.{length, drop, get_or, set}
use lib.Seq.{drop-drop, get_or-drop}
use Rattle.layers.specs.Names.{Name, order_of}
use Rattle.layers.specs.Search.{first_from}
use Rattle.layers.specs.Order.{insert_by, insert_step}
use Rattle.layers.proofs.ChangeLaws.{first_below, first_from_lem, first_passes}
use Rattle.layers.proofs.PieceMoves.{remove_at}
use Rattle.merge.specs.declared.node.Node.{Node}
use Rattle.merge.specs.Nodes.{node_at, no_node, key_of, count_of, nodes_of}
use Rattle.merge.specs.State.{is_number, is_child, has_parent, those, find_number, find_child, child_from, has_children, children_of}
use Rattle.merge.proofs.StateLaws.{length_nodes}
use Rattle.merge.proofs.ListChanges.{those_missing, missing_those}
use Rattle.merge.proofs.NodeLists.{number_of, child_key}

-- ---- what was found

module _ (s : List ℕ) (f : Option ℕ) (k : ℕ) (h : f ≡ Some k) where
  pub number_below : (x : ℕ) → f ≡ find_number (nodes_of s) x → k < count_of s
  number_below x q = let l : k < 0 + length (nodes_of s) = first_below (is_number x) no_node 0 (nodes_of s) k (sym q ∙ h) in omega (arith, length_nodes s)

  pub number_found : (x : ℕ) → f ≡ find_number (nodes_of s) x → (node_at (nodes_of s) k).number ≡ x
  number_found x q = number_of x (node_at (nodes_of s) k) (first_passes (is_number x) no_node 0 (nodes_of s) k (sym q ∙ (h ∙ ap Some (sym (zero-add k)))))

  pub child_below : (p : ℕ) (x : Name) → f ≡ find_child (nodes_of s) p x → k < count_of s
  child_below p x q = let l : k < 0 + length (nodes_of s) = first_below (is_child p x) no_node 0 (nodes_of s) k (sym q ∙ h) in omega (arith, length_nodes s)

  pub child_found : (p : ℕ) (x : Name) → f ≡ find_child (nodes_of s) p x → key_of (node_at (nodes_of s) k) ≡ p ∷ x
  child_found p x q = child_key p x (node_at (nodes_of s) k) (first_passes (is_child p x) no_node 0 (nodes_of s) k (sym q ∙ (h ∙ ap Some (sym (zero-add k)))))

-- ---- a directory's children, one after another

first_those : {A : Type 0} (p : A → Bool) (d : A) (j : ℕ) (xs : List A) (k : ℕ) → first_from p j xs ≡ Some (j + k) → those p xs ≡ get_or xs k d ∷ those p (drop (suc k) xs)
unfolding first_from those
first_those p d j [] k h = absurd (let z : ◌≡◌ {A = ℕ} 0 1 = cc in omega arith)
first_those {A} p d j (x ∷ xs) k h = go (p x) k h (first_those p d (suc j) xs)
  where
    go : (b : Bool) (k : ℕ) → cond b (Some j) (first_from p (suc j) xs) ≡ Some (j + k) → ((k : ℕ) → first_from p (suc j) xs ≡ Some (suc j + k) → those p xs ≡ get_or xs k d ∷ those p (drop (suc k) xs))
        → cond b (x ∷ those p xs) (those p xs) ≡ get_or (x ∷ xs) k d ∷ those p (drop k xs)
    go true zero h ih = refl
    go true (suc k) h ih = absurd (let z : j ≡ j + suc k = cc in omega arith)
    go false zero h ih = absurd (let z : suc j ≤ j + 0 = first_from_lem p d (suc j) xs (j + 0) h in omega arith)
    go false (suc k) h ih = let e : j + suc k ≡ suc j + k = omega arith in ih k (h ∙ ap Some e)

module _ (ns : List Node) (p j : ℕ) where
  pub children_end : child_from ns p j ≡ None → those (has_parent p) (drop j ns) ≡ []
  children_end h = those_missing (has_parent p) j (drop j ns) h

  -- the next child, and then those behind it
  pub children_next : (k : ℕ) → child_from ns p j ≡ Some k → those (has_parent p) (drop j ns) ≡ node_at ns k ∷ those (has_parent p) (drop (suc k) ns)
  children_next k h =
      let l : j ≤ k = first_from_lem (has_parent p) no_node j (drop j ns) k h in
      let e : k ≡ j + (k - j) = omega arith in
      let t : those (has_parent p) (drop j ns) ≡ get_or (drop j ns) (k - j) no_node ∷ those (has_parent p) (drop (suc (k - j)) (drop j ns)) = first_those (has_parent p) no_node j (drop j ns) (k - j) (h ∙ ap Some e) in
      let a : get_or (drop j ns) (k - j) no_node ≡ node_at ns k = get_or-drop j ns (k - j) no_node ∙ ap (node_at ns) (sym e) in
      let b : drop (suc (k - j)) (drop j ns) ≡ drop (suc k) ns = drop-drop (suc (k - j)) j ns ∙ ap (λ (i : ℕ). drop i ns) (let z : j + suc (k - j) ≡ suc k = omega arith in z) in
      t ∙ ap₂ (λ (n : Node) (ms : List Node). n ∷ those (has_parent p) ms) a b

-- a directory has children exactly where one is listed
pub children_none : (ns : List Node) (p : ℕ) → has_children ns p ≡ false → children_of ns p ≡ []
children_none ns p h = go (child_from ns p 0) refl
  where
    go : (f : Option ℕ) → child_from ns p 0 ≡ f → children_of ns p ≡ []
    go (Some k) e = absurd (let b : true ≡ false = sym (ap is_some e) ∙ h in let z : ◌≡◌ {A = ℕ} 0 1 = cc in omega arith)
    go None e = those_missing (has_parent p) 0 ns e

pub none_children : (ns : List Node) (p : ℕ) → children_of ns p ≡ [] → has_children ns p ≡ false
none_children ns p h = ap is_some (missing_those (has_parent p) 0 ns (ap length h))

-- ---- what holds of every node

module _ {A : Type 0} (P : A → Type 0) (d : A) where
  abbrev pub Every : List A → Type 0
  Every xs = (i : ℕ) → i < length xs → P (get_or xs i d)

  every_cons : (x : A) (xs : List A) → P x → Every xs → Every (x ∷ xs)
  every_cons x xs h g zero l = h
  every_cons x xs h g (suc i) l = g i (omega arith)

  pub every_set : (xs : List A) (k : ℕ) (a : A) → P a → Every xs → Every (set xs k a)
  every_set [] k a h g = g
  every_set (x ∷ xs) zero a h g = every_cons a xs h (λ i l. g (suc i) (omega arith))
  every_set (x ∷ xs) (suc k) a h g = every_cons x (set xs k a) (g 0 (omega arith)) (every_set xs k a h (λ i l. g (suc i) (omega arith)))

  pub every_remove : (xs : List A) (k : ℕ) → Every xs → Every (remove_at k xs)
  every_remove [] zero g = g
  every_remove [] (suc k) g = g
  every_remove (x ∷ xs) zero g = λ i l. g (suc i) (omega arith)
  every_remove (x ∷ xs) (suc k) g = every_cons x (remove_at k xs) (g 0 (omega arith)) (every_remove xs k (λ i l. g (suc i) (omega arith)))

  pub every_insert : (f : A → Name) (q : A) (xs : List A) → P q → Every xs → Every (insert_by f q xs)
  unfolding insert_by insert_step
  every_insert f q [] h g = every_cons q [] h g
  every_insert f q (x ∷ xs) h g = go (order_of (f q) (f x)) (every_insert f q xs h (λ i l. g (suc i) (omega arith)))
    where
      go : (o : Ordering) → Every (insert_by f q xs) → Every (insert_step o q x xs (insert_by f q xs))
      go Less ih = every_cons q (x ∷ xs) h g
      go Equal ih = g
      go Greater ih = every_cons x (insert_by f q xs) (g 0 (omega arith)) ih
