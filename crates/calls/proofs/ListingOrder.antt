-- Where the nodes stand in their order, a listing's children stand in byte order of names, each name once. Assumes nothing.
use mathlib.Core.Path.{◌≡◌, refl, sym, ◌∙◌}
use Prim.Native.Nat.{ℕ}
use mathlib.Core.Bool.{Bool, true, false, cond}
use mathlib.Core.List.{List, [], ◌∷◌, map}
use borrow.Author.Tests.{eqb-true}
use Rattle.layers.specs.Names.{Name}
use Rattle.layers.specs.Sorted.{Below, Sorted}
use Rattle.layers.proofs.OrderLaws.{order_eq}
use Rattle.merge.specs.Nodes.{node_name, key_of}
use Rattle.merge.specs.State.{those, children_of, has_parent}
use Rattle.merge.specs.declared.node.Node.{Node}
use Rattle.merge.proofs.MergeLaws.{Each}
use Rattle.merge.proofs.ListChanges.{those_sorted}
use Rattle.calls.specs.Dirents.{Dirent}
use Rattle.calls.specs.Parents.{is_live, live_children}
use Rattle.calls.specs.Listing.{dirent_of, child_dirents}
use Rattle.calls.proofs.PageBounds.{each_those}

each_passes : {A : Type 0} (p : A → Bool) (xs : List A) → Each (λ x. p x ≡ true) (those p xs)
unfolding those
each_passes p [] = tt
each_passes p (x ∷ xs) = go (p x) refl (each_passes p xs)
  where
    go : (b : Bool) → p x ≡ b → Each (λ y. p y ≡ true) (those p xs) → Each (λ y. p y ≡ true) (cond b (x ∷ those p xs) (those p xs))
    go true e ih = (e, ih)
    go false e ih = ih

-- nodes of one parent are in order by their names alone
module _ (p : ℕ) where
  parent_is : (n : Node) → has_parent p n ≡ true → p ≡ n.parent
  unfolding has_parent
  parent_is n h = sym (eqb-true n.parent p h)

  names_below : (x : Name) (ns : List Node) → Each (λ n. has_parent p n ≡ true) ns → Below key_of (p ∷ x) ns → Below node_name x ns
  names_below x [] e b = tt
  names_below x (n ∷ ns) e b = (sym (order_eq p n.parent x (node_name n) (parent_is n e.0)) ∙ b.0, names_below x ns e.1 b.1)

  names_sorted : (ns : List Node) → Each (λ n. has_parent p n ≡ true) ns → Sorted key_of ns → Sorted node_name ns
  names_sorted [] e s = tt
  names_sorted (n ∷ ns) e s = (names_below (node_name n) ns e.1 (rw (parent_is n e.0) s.0), names_sorted ns e.1 s.1)

module _ (u l : List ℕ) where
  abbrev entry : Node → Dirent
  entry n = dirent_of u l (node_name n) n

  entries_below : (x : Name) (ns : List Node) → Below node_name x ns → Below (λ d. d.name) x (map entry ns)
  unfolding dirent_of
  entries_below x [] b = tt
  entries_below x (n ∷ ns) b = (b.0, entries_below x ns b.1)

  entries_sorted : (ns : List Node) → Sorted node_name ns → Sorted (λ d. d.name) (map entry ns)
  unfolding dirent_of
  entries_sorted [] s = tt
  entries_sorted (n ∷ ns) s = (entries_below (node_name n) ns s.0, entries_sorted ns s.1)

  -- "then live children in byte order"
  pub children_in_order : (x : ℕ) (ns : List Node) → Sorted key_of ns → Sorted (λ d. d.name) (child_dirents u l x ns)
  unfolding child_dirents
  children_in_order x ns s =
      entries_sorted (live_children ns x)
      (names_sorted x (live_children ns x) (each_those (λ n. has_parent x n ≡ true) is_live (children_of ns x) (each_passes (has_parent x) ns))
      (those_sorted key_of is_live (children_of ns x) (those_sorted key_of (has_parent x) ns s)))
