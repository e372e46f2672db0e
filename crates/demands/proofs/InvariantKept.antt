-- The invariant kept: a node's count changed, a node forgotten. Assumes nothing.
use Rattle.std.specs.Prelude.{Option, Some, None}
use mathlib.Core.Path.{◌≡◌, refl, sym, ap, ◌∙◌, subst}
use mathlib.Core.Logic.{◌≢◌}
use Prim.Native.Nat.{ℕ, ◌+◌, ◌*◌, ◌≤◌, ◌<◌}
use native.Mathlib.Omega.{arith}
use native.Mathlib.Decide.{ℕ_discrete}
use mathlib.Core.Bool.{Bool, true, false, cond}
use mathlib.Core.List.{List}
use lib.Dec.{eqb, leb, ltb}
use lib.ListN.{length, drop, get_or, set, get_or-eq_default}
use borrow.Author.Tests.{leb-false, ltb-true, ltb-false}
use Rattle.layers.proofs.PieceMoves.{remove_at}
use Rattle.merge.specs.declared.node.Node.{Node}
use Rattle.merge.specs.Nodes.{no_node, count_of, nodes_of, node_at}
use Rattle.merge.specs.Methods.{with_count, with_loaded, fallen, risen, forgotten, counted}
use Rattle.merge.specs.Heads.{next_of}
use Rattle.merge.specs.State.{find_number, has_children}
use Rattle.merge.specs.Changes.{put_bytes, taken_bytes}
use Rattle.merge.specs.Forget.{unloaded_at, unloaded, forgotten_at, forget_spec}
use Rattle.merge.specs.Fresh.{fresh}
use Rattle.merge.specs.Load.{stack_list, is_loaded}
use Rattle.demands.specs.Invariant.{node_by, Resident, NonRoot, Complete, GoodNodes, Good, path_of}
use Rattle.merge.specs.Tidy.{Tidy}
use Rattle.merge.proofs.StateLaws.{length_nodes}
use Rattle.merge.proofs.NodesAfter.{nodes_put, next_put, nodes_taken, next_taken}
use Rattle.merge.proofs.MethodLaws.{fallen_below, risen_fits}
use Rattle.merge.proofs.Kept.{blank_put, blank_taken}
use Rattle.demands.proofs.InvariantMoves.{Alike, alike_complete}
use Rattle.demands.proofs.InvariantNodes.{found_below, found_number, resident_found, place_by, place_resident, tidy_none, by_set, set_each, set_alike, set_good, set_complete, by_left, remove_good, remove_complete, nodes_fresh}

-- ---- one field changed

module _ (n : Node) (x : ℕ) where
  pub count_alike : Alike (with_count n x) n
  unfolding with_count
  count_alike = record { number_same = refl; key_same = refl; stack_same = refl; white_same = refl }

  pub loaded_alike : Alike (with_loaded n x) n
  unfolding with_loaded
  loaded_alike = record { number_same = refl; key_same = refl; stack_same = refl; white_same = refl }

  pub tidy_count : x < 4294967296 → Tidy n → Tidy (with_count n x)
  unfolding with_count
  tidy_count l t =
      record {
        fits = record { numbers = record { number_fits = t.fits.numbers.number_fits; parent_fits = t.fits.numbers.parent_fits; count_fits = l }; arrays = record { stack_fits = t.fits.arrays.stack_fits; name_fits = t.fits.arrays.name_fits } };
        white_mark = t.white_mark;
        loaded_mark = t.loaded_mark;
        depth_fits = t.depth_fits;
        length_fits = t.length_fits;
        stack_unused = t.stack_unused;
        name_unused = t.name_unused;
      }

  pub tidy_loaded : x ≤ 1 → Tidy n → Tidy (with_loaded n x)
  unfolding with_loaded
  tidy_loaded l t =
      record {
        fits = record { numbers = record { number_fits = t.fits.numbers.number_fits; parent_fits = t.fits.numbers.parent_fits; count_fits = t.fits.numbers.count_fits }; arrays = record { stack_fits = t.fits.arrays.stack_fits; name_fits = t.fits.arrays.name_fits } };
        white_mark = t.white_mark;
        loaded_mark = l;
        depth_fits = t.depth_fits;
        length_fits = t.length_fits;
        stack_unused = t.stack_unused;
        name_unused = t.name_unused;
      }

count_loaded : (n : Node) (x : ℕ) → is_loaded (with_count n x) ≡ is_loaded n
unfolding is_loaded with_count
count_loaded n x = refl

pub unloaded_is : (n : Node) → is_loaded (with_loaded n 0) ≡ false
unfolding is_loaded with_loaded
unloaded_is n = refl

pub marked_is : (n : Node) → is_loaded (with_loaded n 1) ≡ true
unfolding is_loaded with_loaded
marked_is n = refl

-- ---- the node at a place

pub tidy_place : (u l : List ℕ) (ns : List Node) (next : ℕ) → GoodNodes u l ns next → (k : ℕ) → Tidy (node_at ns k)
tidy_place u l ns next g k = go (ltb k (length ns)) refl
  where
    go : (b : Bool) → ltb k (length ns) ≡ b → Tidy (node_at ns k)
    go true e = subst Tidy (place_by ns g.once k (ltb-true k (length ns) e)) (g.tidy (node_at ns k).number)
    go false e = rw (get_or-eq_default ns no_node {n = k} (ltb-false k (length ns) e)) tidy_none

-- ---- a node changed

module _ (u l s : List ℕ) (k : ℕ) (a : Node) (t : Tidy a) where
  pub put_nodes : GoodNodes u l (nodes_of s) (next_of s) → Alike a (node_at (nodes_of s) k) → GoodNodes u l (nodes_of (put_bytes s k a)) (next_of (put_bytes s k a))
  put_nodes g e = rw (nodes_put s k a t.fits, next_put s k a t.fits) (set_good u l (nodes_of s) (next_of s) g k a e t)

  -- alike, and not loaded where it was not
  pub put_keeps : Good u l s → Alike a (node_at (nodes_of s) k) → (is_loaded a ≡ true → is_loaded (node_at (nodes_of s) k) ≡ true) → Good u l (put_bytes s k a)
  put_keeps g e m =
      record {
        nodes = put_nodes g.nodes e;
        complete = rw (nodes_put s k a t.fits) (set_complete u l (nodes_of s) (next_of s) g.nodes k a e m g.complete);
        blank = blank_put s k a t.fits g.blank;
      }

module _ (u l s : List ℕ) (g : Good u l s) (k : ℕ) where
  here_tidy : Tidy (node_at (nodes_of s) k)
  here_tidy = tidy_place u l (nodes_of s) (next_of s) g.nodes k

  -- a count changed
  pub count_keeps : (x : ℕ) → x < 4294967296 → Good u l (put_bytes s k (with_count (node_at (nodes_of s) k) x))
  count_keeps x b =
      put_keeps u l s k (with_count (node_at (nodes_of s) k) x) (tidy_count (node_at (nodes_of s) k) x b here_tidy) g (count_alike (node_at (nodes_of s) k) x)
      (λ e. sym (count_loaded (node_at (nodes_of s) k) x) ∙ e)

  count_below : (node_at (nodes_of s) k).count < 4294967296
  count_below = here_tidy.fits.numbers.count_fits

  pub counted_keeps : Good u l (put_bytes s k (counted (node_at (nodes_of s) k)))
  counted_keeps = count_keeps (risen (node_at (nodes_of s) k).count) (risen_fits (node_at (nodes_of s) k).count count_below)

  pub forgotten_keeps : (m : ℕ) → Good u l (put_bytes s k (forgotten (node_at (nodes_of s) k) m))
  forgotten_keeps m = count_keeps (fallen (node_at (nodes_of s) k).count m) (let b : (node_at (nodes_of s) k).count < 4294967296 = count_below in omega (arith, fallen_below (node_at (nodes_of s) k).count m))

  -- a directory that is then not loaded
  pub unload_keeps : Good u l (put_bytes s k (with_loaded (node_at (nodes_of s) k) 0))
  unload_keeps =
      put_keeps u l s k (with_loaded (node_at (nodes_of s) k) 0) (tidy_loaded (node_at (nodes_of s) k) 0 (omega arith) here_tidy) g (loaded_alike (node_at (nodes_of s) k) 0)
      (λ e. absurd (let z : false ≡ true = sym (unloaded_is (node_at (nodes_of s) k)) ∙ e in let o : ◌≡◌ {A = ℕ} 0 1 = cc in omega arith))

-- ---- forget

-- every directory but `p` is complete, and `p` is then not loaded
module _ (u l t : List ℕ) (g : GoodNodes u l (nodes_of t) (next_of t)) (p : ℕ) (rest : (x : ℕ) → p ≢ x → Complete u l (node_by (nodes_of t)) x) (blank : (i : ℕ) → get_or (drop (12 + 52 * count_of t) t) i 0 ≡ 0) (there : Resident (node_by (nodes_of t)) p) where
  pub unloaded_keeps : Good u l (unloaded t p)
  unfolding unloaded_at
  unloaded_keeps = rw found.1 (record { nodes = put_nodes u l t found.0 marked tidied g alike; complete = rw (nodes_put t found.0 marked tidied.fits) whole; blank = blank_put t found.0 marked tidied.fits blank })
    where
      found : (k : ℕ) × (find_number (nodes_of t) p ≡ Some k)
      found = resident_found (nodes_of t) p there

      marked : Node
      marked = with_loaded (node_at (nodes_of t) found.0) 0

      tidied : Tidy marked
      tidied = tidy_loaded (node_at (nodes_of t) found.0) 0 (omega arith) (tidy_place u l (nodes_of t) (next_of t) g found.0)

      alike : Alike marked (node_at (nodes_of t) found.0)
      alike = loaded_alike (node_at (nodes_of t) found.0) 0

      whole : (x : ℕ) → Complete u l (node_by (set (nodes_of t) found.0 marked)) x
      whole x = go (ℕ_discrete p x)
        where
          false_true : {A : Type 0} → false ≡ true → A
          false_true e = absurd (let o : ◌≡◌ {A = ℕ} 0 1 = cc in omega arith)

          not_marked : is_loaded marked ≡ false
          not_marked = unloaded_is (node_at (nodes_of t) found.0)

          go : Dec (p ≡ x) → Complete u l (node_by (set (nodes_of t) found.0 marked)) x
          go (yes e) = λ r h. false_true (sym not_marked ∙ (sym (ap is_loaded (by_set (nodes_of t) found.0 marked alike.number_same x (ap (find_number (nodes_of t)) (sym e) ∙ found.1))) ∙ h))
          go (no e) =
              alike_complete u l (node_by (nodes_of t)) (node_by (set (nodes_of t) found.0 marked)) (set_alike u l (nodes_of t) (next_of t) g found.0 marked alike) x
              (set_each (nodes_of t) found.0 marked alike.number_same (λ (b d : Node). is_loaded b ≡ true → is_loaded d ≡ true) (λ b q. q) (λ q. false_true (sym not_marked ∙ q)) x) (rest x e)

module _ (u l s : List ℕ) (g : Good u l s) (k : ℕ) (b : k < count_of s) (kids : has_children (nodes_of s) (node_at (nodes_of s) k).number ≡ false) (other : (node_at (nodes_of s) k).number ≢ 1) where
  inside : k < length (nodes_of s)
  inside = rw (length_nodes s) b

  -- a node without children goes, and its parent is not loaded
  pub drop_keeps : Good u l (unloaded (taken_bytes s k) (node_at (nodes_of s) k).parent)
  drop_keeps =
      let ns : List Node = nodes_of s in
      let n : Node = node_at (nodes_of s) k in
      let next : next_of (taken_bytes s k) ≡ next_of s = next_taken s k (let m : next_of s ≤ 4294967296 = g.nodes.next_most in omega arith) in
      let there : NonRoot (node_by (nodes_of s)) (node_at (nodes_of s) k).number = (place_resident (nodes_of s) g.nodes.once k inside g.nodes.none_zero, other) in
      let at : node_by (nodes_of s) (node_at (nodes_of s) k).number ≡ node_at (nodes_of s) k = place_by (nodes_of s) g.nodes.once k inside in
      let up : Resident (node_by (nodes_of s)) (node_at (nodes_of s) k).parent = subst (λ (a : Node). Resident (node_by (nodes_of s)) a.parent) at (g.nodes.coherent.parent_there (node_at (nodes_of s) k).number there) in
      let less : (node_at (nodes_of s) k).parent < (node_at (nodes_of s) k).number = subst (λ (a : Node). a.parent < (node_at (nodes_of s) k).number) at (g.nodes.coherent.parent_less (node_at (nodes_of s) k).number there) in
      let stays : node_by (remove_at k (nodes_of s)) (node_at (nodes_of s) k).parent ≡ node_by (nodes_of s) (node_at (nodes_of s) k).parent = by_left (nodes_of s) k inside (node_at (nodes_of s) k).parent (λ e. omega arith) in
      unloaded_keeps u l (taken_bytes s k) (rw (nodes_taken s k, next) (remove_good u l (nodes_of s) (next_of s) g.nodes k inside kids other)) (node_at (nodes_of s) k).parent
      (rw (nodes_taken s k) (remove_complete u l (nodes_of s) (next_of s) g.nodes k inside kids g.complete))
      (blank_taken s k g.blank)
      (rw (nodes_taken s k) (up.0, ap (λ (a : Node). a.number) stays ∙ up.1))

-- "0, the root and unknown numbers do nothing", and every other forget keeps what holds
pub forget_keeps : (u l s : List ℕ) (x m : ℕ) → Good u l s → Good u l (forget_spec s x m)
unfolding forget_spec
forget_keeps u l s x m g = first (leb x 1) refl
  where
    third : (k : ℕ) → 1 < x → find_number (nodes_of s) x ≡ Some k → (c b : Bool) → has_children (nodes_of s) x ≡ b
        → Good u l (cond c (cond b (put_bytes s k (forgotten (node_at (nodes_of s) k) m)) (unloaded (taken_bytes s k) (node_at (nodes_of s) k).parent)) (put_bytes s k (forgotten (node_at (nodes_of s) k) m)))
    third k h f true true e = forgotten_keeps u l s g k m
    third k h f true false e =
        let n : (node_at (nodes_of s) k).number ≡ x = found_number (nodes_of s) x k f in
        drop_keeps u l s g k (subst (λ (c : ℕ). k < c) (length_nodes s) (found_below (nodes_of s) x k f)) (ap (has_children (nodes_of s)) n ∙ e) (λ z. omega arith)
    third k h f false b e = forgotten_keeps u l s g k m

    second : (f : Option ℕ) → 1 < x → find_number (nodes_of s) x ≡ f → Good u l (forgotten_at s x m f)
    second (Some k) h e = unfold forgotten_at in third k h e (eqb (fallen (node_at (nodes_of s) k).count m) 0) (has_children (nodes_of s) x) refl
    second None h e = unfold forgotten_at in g

    first : (b : Bool) → leb x 1 ≡ b → Good u l (cond b s (forgotten_at s x m (find_number (nodes_of s) x)))
    first true e = g
    first false e = second (find_number (nodes_of s) x) (leb-false x 1 e) refl

-- ---- each resident node's stack is the merge afresh down its path

pub good_fresh : (u l s : List ℕ) → Good u l s → (x : ℕ) → Resident (node_by (nodes_of s)) x → stack_list (node_by (nodes_of s) x) ≡ fresh u l (path_of (nodes_of s) x)
good_fresh u l s g x r = nodes_fresh u l (nodes_of s) (next_of s) g.nodes x r
