-- Forget: from what the code's tests showed to what the definition answers. Assumes nothing.
use Rattle.std.specs.Prelude.{Option, Some, None}
use mathlib.Core.Path.{◌≡◌, refl, sym, ap, ◌∙◌}
use Prim.Native.Nat.{ℕ, ◌≤◌, ◌<◌}
use native.Mathlib.Omega.{arith}
use mathlib.Core.Bool.{Bool, true, false, cond}
use mathlib.Core.List.{List}
use lib.Dec.{eqb, leb}
use borrow.Author.Tests.{eq-eqb, ne_eqb, le-leb, lt-leb}
use lib.ListN.{length, set}
use Rattle.layers.specs.Bytes.{AllBytes}
use Rattle.merge.specs.declared.node.Node.{Node}
use Rattle.merge.specs.Nodes.{nodes_of, node_at, no_node, FitsNode}
use Rattle.merge.specs.Heads.{next_of}
use Rattle.merge.specs.Methods.{with_count, with_loaded, forgotten, fallen}
use Rattle.merge.specs.State.{is_number, find_number, has_children}
use Rattle.merge.specs.Changes.{put_bytes, taken_bytes}
use Rattle.merge.specs.Forget.{unloaded_at, unloaded, forgotten_at, forget_spec}
use Rattle.layers.proofs.PieceMoves.{remove_at}
use Rattle.layers.proofs.ChangeLaws.{first_missing}
use Rattle.merge.proofs.NodeLists.{other_number}
use Rattle.merge.proofs.NodesAfter.{length_put, length_taken, next_put, next_taken, nodes_put, nodes_taken}
use Rattle.merge.proofs.NodeFits.{node_whole, bytes_taken}
use Rattle.merge.proofs.MethodLaws.{whole_loaded, whole_forgotten}
use Rattle.merge.proofs.Kept.{Orderly, orderly_put, orderly_taken}

pub forget_root : (s : List ℕ) (x m : ℕ) → x ≤ 1 → s ≡ forget_spec s x m
unfolding forget_spec
forget_root s x m h = rw (le-leb x 1 h) refl

module _ (s : List ℕ) (x m : ℕ) (l : 1 < x) (f : Option ℕ) (q : f ≡ find_number (nodes_of s) x) where
  forget_is : forget_spec s x m ≡ forgotten_at s x m f
  unfolding forget_spec
  forget_is = rw (lt-leb x 1 l, ← q) refl

  pub forget_unknown : f ≡ None → s ≡ forget_spec s x m
  unfolding forgotten_at
  forget_unknown h = rw (forget_is, h) refl

  module _ (k : ℕ) (h : f ≡ Some k) (a n : Node) (e : a ≡ node_at (nodes_of s) k) (g : n ≡ forgotten a m) where
    count_is : n.count ≡ fallen (node_at (nodes_of s) k).count m
    unfolding with_count
    count_is = rw (g, e) refl

    parent_is : n.parent ≡ (node_at (nodes_of s) k).parent
    unfolding with_count
    parent_is = rw (g, e) refl

    pub forget_falls : (u : List ℕ) → (n.count ≡ 0 → ⊥) → u ≡ put_bytes s k n → u ≡ forget_spec s x m
    unfolding forgotten_at
    forget_falls u z w = w ∙ rw (forget_is, h, ne_eqb (fallen (node_at (nodes_of s) k).count m) 0 (λ o. z (count_is ∙ o)), g, e) refl

    module _ (z : n.count ≡ 0) (b : Bool) (c : b ≡ has_children (nodes_of s) x) (u : List ℕ) where
      pub forget_stays : b ≡ true → u ≡ put_bytes s k n → u ≡ forget_spec s x m
      unfolding forgotten_at
      forget_stays t w = w ∙ rw (forget_is, h, eq-eqb (fallen (node_at (nodes_of s) k).count m) 0 (sym count_is ∙ z), ← c, t, g, e) refl

      pub forget_goes : b ≡ false → (p : ℕ) → p ≡ n.parent → u ≡ unloaded (taken_bytes s k) p → u ≡ forget_spec s x m
      unfolding forgotten_at
      forget_goes t p o w = w ∙ rw (forget_is, h, eq-eqb (fallen (node_at (nodes_of s) k).count m) 0 (sym count_is ∙ z), ← c, t, o, parent_is) refl

pub ruleset forgets = (forget_root, forget_unknown, forget_falls, forget_stays, forget_goes)

-- ---- forget over the nodes alone

unfoldable pub unloaded_nodes : List Node → Option ℕ → List Node
unloaded_nodes ns (Some k) = set ns k (with_loaded (node_at ns k) 0)
unloaded_nodes ns None = ns

unfoldable pub forgotten_nodes : List Node → ℕ → ℕ → Option ℕ → List Node
forgotten_nodes ns x m None = ns
forgotten_nodes ns x m (Some k) =
    cond (eqb (fallen (node_at ns k).count m) 0)
    (cond (has_children ns x) (set ns k (forgotten (node_at ns k) m)) (unloaded_nodes (remove_at k ns) (find_number (remove_at k ns) (node_at ns k).parent)))
    (set ns k (forgotten (node_at ns k) m))

unfoldable pub forget_nodes : List Node → ℕ → ℕ → List Node
forget_nodes ns x m = cond (leb x 1) ns (forgotten_nodes ns x m (find_number ns x))

unloaded_nodes_lem : (s : List ℕ) (f : Option ℕ) → AllBytes s → nodes_of (unloaded_at s f) ≡ unloaded_nodes (nodes_of s) f
unfolding unloaded_at unloaded_nodes
unloaded_nodes_lem s (Some k) h = nodes_put s k (with_loaded (node_at (nodes_of s) k) 0) (whole_loaded (node_at (nodes_of s) k) (node_whole s h k) 0 (omega arith)).fits
unloaded_nodes_lem s None h = refl

pub nodes_forgotten : (s : List ℕ) (x m : ℕ) → AllBytes s → nodes_of (forget_spec s x m) ≡ forget_nodes (nodes_of s) x m
unfolding forget_spec forget_nodes
nodes_forgotten s x m h = first (leb x 1)
  where
    put : (k : ℕ) → nodes_of (put_bytes s k (forgotten (node_at (nodes_of s) k) m)) ≡ set (nodes_of s) k (forgotten (node_at (nodes_of s) k) m)
    put k = nodes_put s k (forgotten (node_at (nodes_of s) k) m) (whole_forgotten (node_at (nodes_of s) k) (node_whole s h k) m).fits

    gone : (k p : ℕ) → nodes_of (unloaded (taken_bytes s k) p) ≡ unloaded_nodes (remove_at k (nodes_of s)) (find_number (remove_at k (nodes_of s)) p)
    gone k p = unloaded_nodes_lem (taken_bytes s k) (find_number (nodes_of (taken_bytes s k)) p) (bytes_taken s h k) ∙ ap (λ (ns : List Node). unloaded_nodes ns (find_number ns p)) (nodes_taken s k)

    third : (k : ℕ) (c b : Bool)
        → nodes_of (cond c (cond b (put_bytes s k (forgotten (node_at (nodes_of s) k) m)) (unloaded (taken_bytes s k) (node_at (nodes_of s) k).parent)) (put_bytes s k (forgotten (node_at (nodes_of s) k) m)))
        ≡ cond c (cond b (set (nodes_of s) k (forgotten (node_at (nodes_of s) k) m)) (unloaded_nodes (remove_at k (nodes_of s)) (find_number (remove_at k (nodes_of s)) (node_at (nodes_of s) k).parent))) (set (nodes_of s) k (forgotten (node_at (nodes_of s) k) m))
    third k true true = put k
    third k true false = gone k (node_at (nodes_of s) k).parent
    third k false b = put k

    second : (f : Option ℕ) → nodes_of (forgotten_at s x m f) ≡ forgotten_nodes (nodes_of s) x m f
    second (Some k) = unfold forgotten_at forgotten_nodes in third k (eqb (fallen (node_at (nodes_of s) k).count m) 0) (has_children (nodes_of s) x)
    second None = unfold forgotten_at forgotten_nodes in refl

    first : (b : Bool) → nodes_of (cond b s (forgotten_at s x m (find_number (nodes_of s) x))) ≡ cond b (nodes_of s) (forgotten_nodes (nodes_of s) x m (find_number (nodes_of s) x))
    first true = refl
    first false = second (find_number (nodes_of s) x)

-- ---- what forget keeps

orderly_unloaded : (s : List ℕ) (f : Option ℕ) → Orderly s → Orderly (unloaded_at s f)
unfolding unloaded_at
orderly_unloaded s (Some k) o =
    orderly_put s k (with_loaded (node_at (nodes_of s) k) 0) (whole_loaded (node_at (nodes_of s) k) (node_whole s o.bytes k) 0 (omega arith)) (unfold with_loaded in refl) o
orderly_unloaded s None o = o

pub orderly_forgotten : (s : List ℕ) (x m : ℕ) → Orderly s → Orderly (forget_spec s x m)
unfolding forget_spec
orderly_forgotten s x m o = first (leb x 1)
  where
    put : (k : ℕ) → Orderly (put_bytes s k (forgotten (node_at (nodes_of s) k) m))
    put k = orderly_put s k (forgotten (node_at (nodes_of s) k) m) (whole_forgotten (node_at (nodes_of s) k) (node_whole s o.bytes k) m) (unfold with_count in refl) o

    third : (k : ℕ) (c b : Bool) → Orderly (cond c (cond b (put_bytes s k (forgotten (node_at (nodes_of s) k) m)) (unloaded (taken_bytes s k) (node_at (nodes_of s) k).parent)) (put_bytes s k (forgotten (node_at (nodes_of s) k) m)))
    third k true true = put k
    third k true false = orderly_unloaded (taken_bytes s k) (find_number (nodes_of (taken_bytes s k)) (node_at (nodes_of s) k).parent) (orderly_taken s k o)
    third k false b = put k

    second : (f : Option ℕ) → Orderly (forgotten_at s x m f)
    second (Some k) = unfold forgotten_at in third k (eqb (fallen (node_at (nodes_of s) k).count m) 0) (has_children (nodes_of s) x)
    second None = unfold forgotten_at in o

    first : (b : Bool) → Orderly (cond b s (forgotten_at s x m (find_number (nodes_of s) x)))
    first true = o
    first false = second (find_number (nodes_of s) x)

-- a number and the memory's length that no change of forget touches
module _ (f : List ℕ → ℕ) (put : (s : List ℕ) (k : ℕ) (n : Node) → FitsNode n → f (put_bytes s k n) ≡ f s) (s : List ℕ) (taken : (k : ℕ) → f (taken_bytes s k) ≡ f s) (b : AllBytes s) where
  unloaded_same : (t : List ℕ) (g : Option ℕ) → AllBytes t → f (unloaded_at t g) ≡ f t
  unfolding unloaded_at
  unloaded_same t (Some k) h = put t k (with_loaded (node_at (nodes_of t) k) 0) (whole_loaded (node_at (nodes_of t) k) (node_whole t h k) 0 (omega arith)).fits
  unloaded_same t None h = refl

  forgotten_same : (x m : ℕ) → f (forget_spec s x m) ≡ f s
  unfolding forget_spec
  forgotten_same x m = first (leb x 1)
    where
      here : (k : ℕ) → f (put_bytes s k (forgotten (node_at (nodes_of s) k) m)) ≡ f s
      here k = put s k (forgotten (node_at (nodes_of s) k) m) (whole_forgotten (node_at (nodes_of s) k) (node_whole s b k) m).fits

      third : (k : ℕ) (c d : Bool) → f (cond c (cond d (put_bytes s k (forgotten (node_at (nodes_of s) k) m)) (unloaded (taken_bytes s k) (node_at (nodes_of s) k).parent)) (put_bytes s k (forgotten (node_at (nodes_of s) k) m))) ≡ f s
      third k true true = here k
      third k true false = unloaded_same (taken_bytes s k) (find_number (nodes_of (taken_bytes s k)) (node_at (nodes_of s) k).parent) (bytes_taken s b k) ∙ taken k
      third k false d = here k

      second : (g : Option ℕ) → f (forgotten_at s x m g) ≡ f s
      second (Some k) = unfold forgotten_at in third k (eqb (fallen (node_at (nodes_of s) k).count m) 0) (has_children (nodes_of s) x)
      second None = unfold forgotten_at in refl

      first : (c : Bool) → f (cond c s (forgotten_at s x m (find_number (nodes_of s) x))) ≡ f s
      first true = refl
      first false = second (find_number (nodes_of s) x)

pub length_forgotten : (s : List ℕ) (x m : ℕ) → AllBytes s → length (forget_spec s x m) ≡ length s
length_forgotten s x m b = forgotten_same length length_put s (length_taken s) b x m

-- forget gives no number back
pub next_forgotten : (s : List ℕ) (x m : ℕ) → AllBytes s → next_of s < 18446744073709551616 → next_of (forget_spec s x m) ≡ next_of s
next_forgotten s x m b l = forgotten_same next_of next_put s (λ k. next_taken s k l) b x m

-- "end at 4294967295": a number past it is unknown, and forgetting it does nothing
pub number_past : (s : List ℕ) (x : ℕ) → AllBytes s → 4294967295 < x → find_number (nodes_of s) x ≡ None
number_past s x b h =
    first_missing (is_number x) no_node 0 (nodes_of s) (λ i l. other_number x (node_at (nodes_of s) i) (λ e. let f : (node_at (nodes_of s) i).number < 4294967296 = (node_whole s b i).fits.numbers.number_fits in omega arith))

pub forget_past : (s : List ℕ) (x m : ℕ) → AllBytes s → 4294967295 < x → forget_spec s x m ≡ s
forget_past s x m b h = sym (forget_unknown s x m (omega arith) None (sym (number_past s x b h)) refl)
