-- A node made for a merged name: its name, its stack, its fields. Assumes nothing.
use mathlib.Core.Path.{◌≡◌, refl, sym, ap, ◌∙◌}
use Prim.Native.Nat.{ℕ, ◌-◌, ◌≤◌, ◌<◌}
use native.Mathlib.Omega.{arith}
use mathlib.Core.Bool.{Bool, true, false}
use mathlib.Core.List.{List, ◌++◌}
use lib.Dec.{ltb}
use lib.ListN.{length, take, get_or, replicate, length-append, length-take, length-drop, get_or-eq_default}
use lib.Seq.{get_or-take}
use borrow.Author.Tests.{le-ltb, ltb-true, ltb-false}
use Rattle.layers.specs.Names.{Name}
use Rattle.layers.specs.Items.{entry_of, entries_of, entry_at}
use Rattle.layers.specs.Search.{one, name_of}
use Rattle.layers.proofs.Padded.{get_or_all, get_d_past, length_padded, name_back, name_past}
use Rattle.layers.proofs.ItemLaws.{entry_is}
use Rattle.merge.specs.declared.stacks.Pair.{Pair}
use Rattle.merge.specs.declared.node.Node.{Node}
use Rattle.merge.specs.Nodes.{no_pair, node_name}
use Rattle.merge.specs.Stacks.{stack_from}
use Rattle.merge.specs.Load.{new_node, stack_list, is_loaded}
use Rattle.merge.specs.Tidy.{Tidy}
use Rattle.merge.proofs.PushLaws.{from_four, from_pairs, from_length, from_mark}

-- ---- "stack places past the length" are zero
pub pairs_past : (ps : List Pair) (w : Bool) → length ps ≤ 4 → (i : ℕ) → length ps ≤ i → get_or (stack_from ps w).pairs i no_pair ≡ no_pair
unfolding stack_from
pairs_past ps w b i l = go (ltb i 4) refl
  where
    go : (t : Bool) → ltb i 4 ≡ t → get_or (take 4 (ps ++ replicate 4 no_pair)) i no_pair ≡ no_pair
    go true e = get_or-take 4 (ps ++ replicate 4 no_pair) i no_pair (ltb-true i 4 e) ∙ (get_d_past ps (replicate 4 no_pair) i no_pair l ∙ get_or_all 4 (i - length ps) no_pair)
    go false e = get_or-eq_default (take 4 (ps ++ replicate 4 no_pair)) no_pair {n = i} (let z : 4 ≤ i = ltb-false i 4 e in simp (length-take, length-append) (omega arith))

-- ---- the node

one_most : (c : Bool) → one c ≤ 1
unfolding one
one_most true = omega arith
one_most false = omega arith

module _ (p : ℕ) (ps : List Pair) (w : Bool) (x : Name) (h : length x ≤ 28) (b : length ps ≤ 4) where
  abbrev made : Node
  made = new_node p (stack_from ps w) x

  pub new_parent : made.parent ≡ p
  unfolding new_node
  new_parent = refl

  pub new_name : node_name made ≡ x
  unfolding new_node
  new_name = rw (le-ltb 28 (length x) h) (name_back x h)

  pub new_stack : stack_list made ≡ ps
  unfolding new_node
  new_stack = rw (from_length ps w, le-ltb 4 (length ps) b) (ap (λ (k : ℕ). take k (stack_from ps w).pairs) (sym (from_length ps w)) ∙ from_pairs ps w b)

  pub new_white : made.white ≡ one w
  unfolding new_node
  new_white = ap one (from_mark ps w)

  pub new_loaded : is_loaded made ≡ false
  unfolding new_node is_loaded
  new_loaded = refl

  pub new_tidy : p < 4294967296 → Tidy made
  unfolding new_node
  new_tidy g =
      record {
        fits = record { numbers = record { number_fits = omega arith; parent_fits = g; count_fits = omega arith }; arrays = record { stack_fits = from_four ps w; name_fits = length_padded x } };
        white_mark = one_most (stack_from ps w).whiteout;
        loaded_mark = omega arith;
        depth_fits = rw (from_length ps w, le-ltb 4 (length ps) b) b;
        length_fits = rw (le-ltb 28 (length x) h) h;
        stack_unused = λ i l. pairs_past ps w b i (rw (from_length ps w, le-ltb 4 (length ps) b) at l);
        name_unused = λ i l. name_past x h i (rw (le-ltb 28 (length x) h) at l);
      }

-- ---- a merged name has 28 bytes at most

pub entry_name_length : (t : List ℕ) (j : ℕ) → j < 128 → length (name_of (entry_at (entries_of t) j)) ≤ 28
unfolding entry_of
entry_name_length t j h = rw (entry_is t j h) (simp (length-take, length-drop) (omega arith))
