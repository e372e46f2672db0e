-- A change of the upper layer at one name of one directory, with the node of that name: a step that keeps the invariant. Assumes nothing.
use Rattle.std.specs.Prelude.{None}
use mathlib.Core.Path.{◌≡◌, sym, ap, ap₂, ◌∙◌}
use mathlib.Core.Logic.{◌≢◌}
use Prim.Native.Nat.{ℕ}
use mathlib.Core.Bool.{true, false}
use mathlib.Core.List.{List, [], ◌∷◌}
use lib.ListN.{length}
use Rattle.layers.specs.Names.{Name}
use Rattle.layers.specs.Items.{records_of, record_at}
use Rattle.layers.specs.Search.{one}
use Rattle.layers.specs.Rules.{Valid}
use Rattle.merge.specs.declared.node.Node.{Node}
use Rattle.merge.specs.Nodes.{node_name, key_of, nodes_of}
use Rattle.merge.specs.State.{find_child}
use Rattle.merge.specs.Scan.{is_walked}
use Rattle.merge.specs.Stacks.{pair, stack_of, whiteout_of}
use Rattle.merge.specs.Load.{stack_list, is_loaded}
use Rattle.demands.specs.Invariant.{node_by, Resident, Good}
use Rattle.demands.proofs.NameChanges.{ChangedAt}
use Rattle.demands.proofs.InvariantMoves.{Step}
use Rattle.demands.proofs.InvariantNodes.{one_node, child_unknown}
use Rattle.demands.proofs.InvariantChange.{New}
use Rattle.demands.proofs.InvariantShare.{In, share, stack_stays, mark_stays, roots_stay}

module _ (u l s : List ℕ) (g : Good u l s) (v : Valid u) where
  abbrev f : ℕ → Node
  f = node_by (nodes_of s)

  one_key : (i k : ℕ) → Resident f i → Resident f k → key_of (f i) ≡ key_of (f k) → i ≡ k
  one_key = one_node (nodes_of s) g.nodes.sorted

  -- no two resident nodes hold one upper directory
  pub good_share : (n k d : ℕ) → Resident f n → Resident f k → is_walked u d ≡ true → In (pair 0 d) (stack_list (f n)) → In (pair 0 d) (stack_list (f k)) → n ≡ k
  good_share = share u l v f g.nodes.coherent one_key

  -- a child is not the root
  pub child_not_root : (p : ℕ) (x : Name) (k : ℕ) → Resident f p → key_of (f k) ≡ p ∷ x → k ≢ 1
  child_not_root p x k r e q = r.0 (let a : p ∷ x ≡ 0 ∷ [] = sym e ∙ (ap (λ (i : ℕ). key_of (f i)) q ∙ g.nodes.coherent.root_key) in cc)

  -- the upper layer becomes `w`, changed at the name `x` of its directory `d`, which the node `p` holds
  module _ (w : List ℕ) (lw : length w ≡ 8192) (d : ℕ) (x : Name) (change : ChangedAt u w d x) (root_stays : record_at (records_of u) 1 ≡ record_at (records_of w) 1) (p : ℕ) (rp : Resident f p) (walked : is_walked u d ≡ true) (ind : In (pair 0 d) (stack_list (f p))) where
    other_stack : (q : ℕ) → Resident f q → key_of (f q) ≢ p ∷ x → (y : Name) → (q ≡ p → y ≡ x → ⊥) → stack_of w l (stack_list (f q)) y ≡ stack_of u l (stack_list (f q)) y
    other_stack = stack_stays u l v f g.nodes.coherent one_key w lw d x change root_stays p rp walked ind

    other_mark : (q : ℕ) → Resident f q → key_of (f q) ≢ p ∷ x → (y : Name) → (q ≡ p → y ≡ x → ⊥) → whiteout_of w l (stack_list (f q)) y ≡ whiteout_of u l (stack_list (f q)) y
    other_mark = mark_stays u l v f g.nodes.coherent one_key w lw d x change root_stays p rp walked ind

    -- the name has a node, which becomes `a`, with the new stack and every name below it as before
    module _ (k : ℕ) (rk : Resident f k) (key : key_of (f k) ≡ p ∷ x) (a : Node) (number : a.number ≡ k) (key_a : key_of a ≡ p ∷ x) (mark : is_loaded a ≡ true → is_loaded (f k) ≡ true)
        (below : (y : Name) → stack_of w l (stack_list a) y ≡ stack_of u l (stack_list (f k)) y) (below_mark : (y : Name) → whiteout_of w l (stack_list a) y ≡ whiteout_of u l (stack_list (f k)) y)
        (stack : stack_list a ≡ stack_of w l (stack_list (f p)) x) (some : stack_list a ≢ []) (white : a.white ≡ one (whiteout_of w l (stack_list (f p)) x))
      where
        parent_k : (f k).parent ≡ p
        parent_k = cc

        name_k : node_name (f k) ≡ x
        name_k = cc

        pub change_step : Step u w l f k a
        change_step =
            record {
              roots = roots_stay u w l (v.size ∙ sym lw);
              stacks = λ q r e y n. other_stack q r (λ z. e (one_key q k r rk (z ∙ sym key))) y (λ i j. n (key ∙ ap₂ ◌∷◌ (sym i) (sym j)));
              marks = λ q r e y n. other_mark q r (λ z. e (one_key q k r rk (z ∙ sym key))) y (λ i j. n (key ∙ ap₂ ◌∷◌ (sym i) (sym j)));
              below_stacks = below;
              below_marks = below_mark;
              number_same = number;
              key_same = key_a ∙ sym key;
              mark_same = mark;
              stack_new = stack ∙ ap₂ (λ (i : ℕ) (n : Name). stack_of w l (stack_list (f i)) n) (sym parent_k) (sym name_k);
              stack_some = some;
              white_new = white ∙ ap₂ (λ (i : ℕ) (n : Name). one (whiteout_of w l (stack_list (f i)) n)) (sym parent_k) (sym name_k);
            }

    -- the name has no node, and `n` is put in for it
    module _ (n : Node) (key : key_of n ≡ p ∷ x) (missing : find_child (nodes_of s) p x ≡ None) (stack : stack_list n ≡ stack_of w l (stack_list (f p)) x) (some : stack_list n ≢ []) (white : n.white ≡ one (whiteout_of w l (stack_list (f p)) x)) (fresh : is_loaded n ≡ false) where
      parent_n : n.parent ≡ p
      parent_n = cc

      name_n : node_name n ≡ x
      name_n = cc

      pub change_new : New u w l f n
      change_new =
          record {
            roots = roots_stay u w l (v.size ∙ sym lw);
            stacks = λ q r y e. other_stack q r (child_unknown (nodes_of s) p x missing q r) y (λ i j. e (i ∙ sym parent_n) (j ∙ sym name_n));
            marks = λ q r y e. other_mark q r (child_unknown (nodes_of s) p x missing q r) y (λ i j. e (i ∙ sym parent_n) (j ∙ sym name_n));
            parent_there = rw parent_n rp;
            stack_new = stack ∙ ap₂ (λ (i : ℕ) (m : Name). stack_of w l (stack_list (f i)) m) (sym parent_n) (sym name_n);
            stack_some = some;
            white_new = white ∙ ap₂ (λ (i : ℕ) (m : Name). one (whiteout_of w l (stack_list (f i)) m)) (sym parent_n) (sym name_n);
            not_loaded = fresh;
          }
