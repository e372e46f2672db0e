-- The invariant kept where the layers change at one name: its node changed, or put in. Assumes nothing.
use Rattle.std.specs.Prelude.{Some, None}
use mathlib.Core.Path.{◌≡◌, refl, sym, ap, ◌∙◌}
use mathlib.Core.Logic.{◌≢◌}
use Prim.Native.Nat.{ℕ, ◌+◌, ◌≤◌, ◌<◌}
use native.Mathlib.Omega.{arith}
use native.Mathlib.Decide.{ℕ_discrete}
use mathlib.Core.Bool.{false}
use mathlib.Core.List.{List, [], ◌∷◌}
use lib.ListN.{length, set}
use Rattle.layers.specs.Names.{Name}
use Rattle.layers.specs.Search.{one}
use Rattle.layers.specs.Order.{insert_by}
use Rattle.merge.specs.declared.node.Node.{Node}
use Rattle.merge.specs.Nodes.{node_name, key_of, count_of, nodes_of, node_at}
use Rattle.merge.specs.Methods.{with_number, with_loaded}
use Rattle.merge.specs.Heads.{next_of, full}
use Rattle.merge.specs.State.{find_child, place_for}
use Rattle.merge.specs.Changes.{put_bytes, new_bytes}
use Rattle.merge.specs.Stacks.{stack_of, whiteout_of}
use Rattle.merge.specs.Fresh.{root_stack}
use Rattle.merge.specs.Load.{stack_list, is_loaded}
use Rattle.demands.specs.Invariant.{node_by, Resident, Complete, GoodNodes, Good}
use Rattle.merge.specs.Tidy.{Tidy}
use Rattle.merge.proofs.StateLaws.{length_nodes}
use Rattle.merge.proofs.NodeLists.{free_where_missing, child_kept}
use Rattle.merge.proofs.ListChanges.{found_shifted}
use Rattle.merge.proofs.NodesAfter.{nodes_put, next_put}
use Rattle.merge.proofs.PutInLaws.{nodes_new, next_new, count_new, length_new}
use Rattle.merge.proofs.Kept.{Blank, blank_put, blank_new}
use Rattle.demands.proofs.InvariantMoves.{Alike, Step, alike_complete}
use Rattle.demands.proofs.InvariantNodes.{by_set_other, place_by, set_alike, set_step, set_step_complete, new_by, old_there, insert_complete, insert_good, child_there}
use Rattle.demands.proofs.InvariantKept.{loaded_alike, tidy_loaded, tidy_place, put_nodes}

-- ---- the node at place `k` changed

module _ (u v l s : List ℕ) (g : Good u l s) (k : ℕ) (b : k < count_of s) (a : Node) (t : Tidy a) where
  inside : k < length (nodes_of s)
  inside = rw (length_nodes s) b

  pub step_good : (node_at (nodes_of s) k).number ≢ 1 → Step u v l (node_by (nodes_of s)) (node_at (nodes_of s) k).number a → Good v l (put_bytes s k a)
  step_good other step =
      record {
        nodes = rw (nodes_put s k a t.fits, next_put s k a t.fits) (set_step u v l (nodes_of s) (next_of s) g.nodes k inside other a step t);
        complete = rw (nodes_put s k a t.fits) (λ x. set_step_complete u v l (nodes_of s) (next_of s) g.nodes k inside other a step x (g.complete x));
        blank = blank_put s k a t.fits g.blank;
      }

-- ---- a directory marked loaded, where every name that has a stack below it has a node

pub mark_keeps : (u l s : List ℕ) → Good u l s → (k : ℕ) → k < count_of s
    → ((y : Name) → stack_of u l (stack_list (node_at (nodes_of s) k)) y ≢ [] → (i : ℕ) × (find_child (nodes_of s) (node_at (nodes_of s) k).number y ≡ Some i))
    → Good u l (put_bytes s k (with_loaded (node_at (nodes_of s) k) 1))
mark_keeps u l s g k b named =
    record {
      nodes = put_nodes u l s k a t g.nodes alike;
      complete = rw (nodes_put s k a t.fits) whole;
      blank = blank_put s k a t.fits g.blank;
    }
  where
    ns : List Node
    ns = nodes_of s

    n : Node
    n = node_at (nodes_of s) k

    a : Node
    a = with_loaded n 1

    alike : Alike a n
    alike = loaded_alike n 1

    t : Tidy a
    t = tidy_loaded n 1 (omega arith) (tidy_place u l ns (next_of s) g.nodes k)

    each : (x : ℕ) → Alike (node_by (set ns k a) x) (node_by ns x)
    each = set_alike u l ns (next_of s) g.nodes k a alike

    whole : (x : ℕ) → Complete u l (node_by (set ns k a)) x
    whole x = go (ℕ_discrete x n.number)
      where
        go : Dec (x ≡ n.number) → Complete u l (node_by (set ns k a)) x
        go (yes e) = rw e (λ r h y w.
            let at : stack_list (node_by (set ns k a) n.number) ≡ stack_list n = (each n.number).stack_same ∙ ap stack_list (place_by ns g.nodes.once k (rw (length_nodes s) b)) in
            let i : (i : ℕ) × (find_child ns n.number y ≡ Some i) = named y (λ z. w (ap (λ (q : List _). stack_of u l q y) at ∙ z)) in
            let m : (i : ℕ) × Resident (node_by ns) i × (key_of (node_by ns i) ≡ n.number ∷ y) = child_there ns n.number y g.nodes.once g.nodes.none_zero i.0 i.1 in
            (m.0, (m.1.0, (each m.0).number_same ∙ m.1.1), (each m.0).key_same ∙ m.2))
        go (no e) = alike_complete u l (node_by ns) (node_by (set ns k a)) each x (λ h. sym (ap is_loaded (by_set_other ns k a alike.number_same x e)) ∙ h) (g.complete x)

-- ---- a node put in with the next number

pub record New (u v l : List ℕ) (f : ℕ → Node) (n : Node) : Type 0 where
  pub roots : root_stack v l ≡ root_stack u l
  -- every other name below every node keeps its stack and its mark
  pub stacks : (x : ℕ) → Resident f x → (y : Name) → (x ≡ n.parent → y ≡ node_name n → ⊥) → stack_of v l (stack_list (f x)) y ≡ stack_of u l (stack_list (f x)) y
  pub marks : (x : ℕ) → Resident f x → (y : Name) → (x ≡ n.parent → y ≡ node_name n → ⊥) → whiteout_of v l (stack_list (f x)) y ≡ whiteout_of u l (stack_list (f x)) y
  pub parent_there : Resident f n.parent
  pub stack_new : stack_list n ≡ stack_of v l (stack_list (f n.parent)) (node_name n)
  pub stack_some : stack_list n ≢ []
  pub white_new : n.white ≡ one (whiteout_of v l (stack_list (f n.parent)) (node_name n))
  pub not_loaded : is_loaded n ≡ false

module _ (u v l s : List ℕ) (g : GoodNodes u l (nodes_of s) (next_of s)) (n : Node) (t : Tidy n) (new : New u v l (node_by (nodes_of s)) n) (missing : find_child (nodes_of s) n.parent (node_name n) ≡ None) (room : full s ≡ false) (left : next_of s ≤ 4294967295) where
  abbrev made : Node
  made = with_number n (next_of s)

  made_tidy : Tidy made
  unfolding with_number
  made_tidy =
      record {
        fits = record { numbers = record { number_fits = omega arith; parent_fits = t.fits.numbers.parent_fits; count_fits = t.fits.numbers.count_fits }; arrays = record { stack_fits = t.fits.arrays.stack_fits; name_fits = t.fits.arrays.name_fits } };
        white_mark = t.white_mark;
        loaded_mark = t.loaded_mark;
        depth_fits = t.depth_fits;
        length_fits = t.length_fits;
        stack_unused = t.stack_unused;
        name_unused = t.name_unused;
      }

  free : (k : ℕ) × (place_for (nodes_of s) n.parent (node_name n) ≡ Some k)
  free = free_where_missing n.parent (node_name n) (nodes_of s) missing

  pub nodes_after : nodes_of (new_bytes s n) ≡ insert_by key_of made (nodes_of s)
  nodes_after = nodes_new s n made_tidy.fits room left

  pub next_after : next_of (new_bytes s n) ≡ next_of s + 1
  next_after = next_new s n made_tidy.fits room left free.0 free.1

  pub count_after : count_of (new_bytes s n) ≡ count_of s + 1
  count_after = count_new s n made_tidy.fits room left free.0 free.1

  pub length_after : length (new_bytes s n) ≡ length s
  length_after = length_new s n made_tidy.fits room left

  pub new_nodes : GoodNodes v l (nodes_of (new_bytes s n)) (next_of (new_bytes s n))
  new_nodes =
      rw (nodes_after, next_after)
      (unfold with_number in insert_good u v l (nodes_of s) (next_of s) g made new.roots new.stacks new.marks refl left new.parent_there missing new.stack_new new.stack_some new.white_new made_tidy)

  pub new_complete : (x : ℕ) → Complete u l (node_by (nodes_of s)) x → Complete v l (node_by (nodes_of (new_bytes s n))) x
  new_complete =
      rw nodes_after
      (unfold with_number is_loaded in insert_complete u v l (nodes_of s) (next_of s) g made new.roots new.stacks new.marks refl left new.parent_there missing new.not_loaded)

  pub new_blank : Blank s → Blank (new_bytes s n)
  new_blank b = blank_new s n room b made_tidy.fits left

  -- the new number has the node, and every other number what it had
  pub new_node_lem : node_by (nodes_of (new_bytes s n)) (next_of s) ≡ made
  new_node_lem = rw nodes_after (unfold with_number in new_by u v l (nodes_of s) (next_of s) g made new.roots new.stacks new.marks refl left new.parent_there missing)

  pub new_others : (x : ℕ) → Resident (node_by (nodes_of s)) x → node_by (nodes_of (new_bytes s n)) x ≡ node_by (nodes_of s) x
  new_others x r = rw nodes_after (unfold with_number in old_there u v l (nodes_of s) (next_of s) g made new.roots new.stacks new.marks refl left new.parent_there missing x r)

  pub new_there : Resident (node_by (nodes_of (new_bytes s n))) (next_of s)
  new_there = ((λ z. let w : 2 ≤ next_of s = g.next_least in omega arith), (unfold with_number in ap (λ (a : Node). a.number) new_node_lem))

  pub new_key : key_of (node_by (nodes_of (new_bytes s n)) (next_of s)) ≡ key_of n
  unfolding with_number
  new_key = ap key_of new_node_lem

  -- other names have no node where they had none
  pub new_absent : (p : ℕ) (y : Name) → key_of n ≢ p ∷ y → find_child (nodes_of s) p y ≡ None → find_child (nodes_of (new_bytes s n)) p y ≡ None
  unfolding found_shifted with_number
  new_absent p y e m = rw nodes_after (child_kept (nodes_of s) made free.0 free.1 p y e ∙ ap (found_shifted free.0) m)

  pub new_good : Blank s → ((x : ℕ) → Complete u l (node_by (nodes_of s)) x) → Good v l (new_bytes s n)
  new_good b c = record { nodes = new_nodes; complete = λ x. new_complete x (c x); blank = new_blank b }
