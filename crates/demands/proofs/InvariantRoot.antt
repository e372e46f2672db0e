-- The state with the root alone: what holds of it before its load. Assumes nothing.
use Rattle.std.specs.Prelude.{None}
use mathlib.Core.Path.{◌≡◌, refl, sym, ap, ◌∙◌}
use mathlib.Core.Logic.{◌≢◌}
use Prim.Native.Nat.{ℕ, ◌+◌, ◌*◌, ◌-◌, ◌/◌, ◌≤◌, ◌<◌}
use native.Mathlib.Omega.{arith}
use native.Mathlib.Decide.{ℕ_discrete}
use mathlib.Core.Bool.{Bool, true, false, cond}
use mathlib.Core.List.{List, [], ◌∷◌}
use lib.Dec.{ltb}
use lib.ListN.{length, drop, get_or, replicate, length-replicate}
use lib.Seq.{get_or-drop}
use borrow.Author.Tests.{lt-leb}
use Rattle.layers.specs.Search.{first_from}
use Rattle.layers.specs.Order.{insert_by, spot_from}
use Rattle.layers.proofs.Numbers.{length_laid}
use Rattle.layers.proofs.Padded.{get_or_all}
use Rattle.merge.specs.declared.node.Node.{Node}
use Rattle.merge.specs.declared.head.Head.{Head}
use Rattle.merge.specs.Nodes.{no_node, key_of, capacity, count_of, nodes_of, node_at}
use Rattle.merge.specs.Heads.{next_of, head_bytes, with_head, full}
use Rattle.merge.specs.State.{is_number, those, find_number}
use Rattle.merge.specs.Changes.{put_in_bytes}
use Rattle.merge.specs.Stacks.{stack_from}
use Rattle.merge.specs.Fresh.{root_stack}
use Rattle.merge.specs.Load.{stack_list, is_loaded}
use Rattle.demands.specs.Invariant.{node_in, node_by, Resident, NonRoot, Complete, GoodNodes, Good}
use Rattle.merge.specs.Tidy.{Tidy}
use Rattle.merge.specs.Root.{root_node, root_state}
use Rattle.merge.proofs.StateLaws.{length_nodes}
use Rattle.merge.proofs.PushLaws.{from_length, from_four, from_pairs}
use Rattle.merge.proofs.FreshLaws.{length_root}
use Rattle.merge.proofs.NodesAfter.{drop_head, next_head, count_head}
use Rattle.merge.proofs.PutInLaws.{nodes_put_in, next_put_in}
use Rattle.merge.proofs.Kept.{Blank, blank_put_in}
use Rattle.merge.proofs.NodeLists.{is_number_lem, other_number}
use Rattle.demands.proofs.InvariantNodes.{tidy_none}
use Rattle.merge.proofs.NewNodes.{pairs_past}

-- ---- the root

module _ (u l : List ℕ) where
  abbrev root : Node
  root = root_node (stack_from (root_stack u l) false)

  root_number : root.number ≡ 1
  unfolding root_node
  root_number = refl

  pub root_tidy : Tidy root
  unfolding root_node
  root_tidy =
      record {
        fits = record { numbers = record { number_fits = omega arith; parent_fits = omega arith; count_fits = omega arith }; arrays = record { stack_fits = from_four (root_stack u l) false; name_fits = refl } };
        white_mark = omega arith;
        loaded_mark = omega arith;
        depth_fits = rw (from_length (root_stack u l) false) (length_root u l);
        length_fits = omega arith;
        stack_unused = λ i h. pairs_past (root_stack u l) false (length_root u l) i (rw (from_length (root_stack u l) false) at h);
        name_unused = λ i h. get_or_all 28 i 0;
      }

  -- ---- the list of it alone

  only_root : (x : ℕ) → x ≡ 1 → node_by (root ∷ []) x ≡ root
  unfolding first_from node_in
  only_root x e = rw (is_number_lem x root (root_number ∙ sym e)) refl

  no_other : (x : ℕ) → x ≢ 1 → find_number (root ∷ []) x ≡ None
  unfolding first_from
  no_other x e = rw (other_number x root (λ z. e (sym z ∙ root_number))) refl

  none_other : (x : ℕ) → x ≢ 1 → node_by (root ∷ []) x ≡ no_node
  unfolding node_in
  none_other x e = rw (no_other x e) refl

  not_other : (x : ℕ) → NonRoot (node_by (root ∷ [])) x → ⊥
  not_other x r = r.0.0 (sym (sym (ap (λ (n : Node). n.number) (none_other x r.1)) ∙ r.0.1))

  root_nodes : GoodNodes u l (root ∷ []) 2
  root_nodes =
      record {
        coherent =
            record {
              root_there = ((λ z. omega arith), ap (λ (n : Node). n.number) (only_root 1 refl) ∙ root_number);
              root_key = ap key_of (only_root 1 refl) ∙ (unfold root_node in refl);
              root_stack = ap stack_list (only_root 1 refl) ∙ (unfold root_node in from_pairs (root_stack u l) false (length_root u l));
              root_white = ap (λ (n : Node). n.white) (only_root 1 refl) ∙ (unfold root_node in refl);
              parent_there = λ x r. absurd (not_other x r);
              parent_less = λ x r. absurd (not_other x r);
              stack_is = λ x r. absurd (not_other x r);
              stack_some = λ x r. absurd (not_other x r);
              white_is = λ x r. absurd (not_other x r);
            };
        sorted = (tt, tt);
        once = once;
        none_zero = no_other 0 (λ z. omega arith);
        tidy = tidied;
        below_next = below;
        next_least = omega arith;
        next_most = omega arith;
      }
    where
      once : (x : ℕ) → length (those (is_number x) (root ∷ [])) ≤ 1
      once x = unfold those in go (is_number x root)
        where
          go : (b : Bool) → length (cond b (root ∷ []) []) ≤ 1
          go true = omega arith
          go false = omega arith

      tidied : (x : ℕ) → Tidy (node_by (root ∷ []) x)
      tidied x = go (ℕ_discrete x 1)
        where
          go : Dec (x ≡ 1) → Tidy (node_by (root ∷ []) x)
          go (yes e) = rw (only_root x e) root_tidy
          go (no e) = rw (none_other x e) tidy_none

      below : (x : ℕ) → Resident (node_by (root ∷ [])) x → x < 2
      below x r = go (ℕ_discrete x 1)
        where
          go : Dec (x ≡ 1) → x < 2
          go (yes e) = omega arith
          go (no e) = absurd (not_other x (r, e))

  root_complete : (x : ℕ) → Complete u l (node_by (root ∷ [])) x
  root_complete x r h = absurd (go (ℕ_discrete x 1))
    where
      not_loaded : is_loaded root ≡ false
      not_loaded = unfold root_node is_loaded in refl

      go : Dec (x ≡ 1) → ⊥
      go (yes e) = absurd (let z : false ≡ true = sym not_loaded ∙ (sym (ap is_loaded (only_root x e)) ∙ h) in let o : ◌≡◌ {A = ℕ} 0 1 = cc in omega arith)
      go (no e) = not_other x (r, e)

  -- ---- the bytes

  module _ (k : ℕ) (b : 64 ≤ k) where
    abbrev start : Head
    start = record { next = 2; count = 0 }

    abbrev zeros : List ℕ
    zeros = replicate k 0

    abbrev empty : List ℕ
    empty = with_head (replicate k 0) (record { next = 2; count = 0 })

    long : length zeros ≡ k
    long = length-replicate k 0

    empty_long : length empty ≡ k
    empty_long = length_laid zeros 0 (head_bytes start) ∙ long

    empty_count : count_of empty ≡ 0
    empty_count = count_head zeros start (rw long (omega arith)) (omega arith)

    empty_next : next_of empty ≡ 2
    empty_next = next_head zeros start (rw long (omega arith)) (omega arith)

    nil : {A : Type 0} (xs : List A) → length xs ≡ 0 → xs ≡ []
    nil [] h = refl
    nil (x ∷ xs) h = absurd (omega arith)

    empty_nodes : nodes_of empty ≡ []
    empty_nodes = nil (nodes_of empty) (length_nodes empty ∙ empty_count)

    capacity_some : 0 < capacity empty
    unfolding capacity
    capacity_some = rw empty_long (go (ltb 4294967295 ((k - 12) / 52)))
      where
        go : (c : Bool) → 0 < cond c 4294967295 ((k - 12) / 52)
        go true = omega arith
        go false = omega arith

    not_full : full empty ≡ false
    unfolding full
    not_full = lt-leb (capacity empty) (count_of empty) (rw empty_count capacity_some)

    empty_blank : Blank empty
    empty_blank i =
        let e : 12 + 52 * count_of empty ≡ 12 = (let z : count_of empty ≡ 0 = empty_count in omega arith) in
        ap (λ (m : ℕ). get_or (drop m empty) i 0) e ∙ (ap (λ (t : List ℕ). get_or t i 0) (drop_head zeros start (rw long (omega arith))) ∙ (get_or-drop 12 zeros i 0 ∙ get_or_all k (12 + i) 0))

    nodes_are : nodes_of (put_in_bytes empty root) ≡ root ∷ []
    unfolding insert_by
    nodes_are = nodes_put_in empty root root_tidy.fits not_full ∙ rw empty_nodes refl

    next_is : next_of (put_in_bytes empty root) ≡ 2
    unfolding spot_from
    next_is = next_put_in empty root root_tidy.fits not_full 0 (rw empty_nodes refl) (rw empty_next (omega arith)) ∙ empty_next

    -- "Import .. loads the root": before that load
    pub root_good : Good u l (root_state k u l)
    unfolding root_state
    root_good = record { nodes = rw (nodes_are, next_is) root_nodes; complete = rw nodes_are root_complete; blank = blank_put_in empty root not_full empty_blank root_tidy.fits }

    -- the root is at place 0 then
    pub root_first : (node_at (nodes_of (root_state k u l)) 0 ≡ root) × (count_of (root_state k u l) ≡ 1)
    unfolding root_state
    root_first = (rw nodes_are refl, sym (length_nodes (put_in_bytes empty root)) ∙ ap length nodes_are)
