-- What an import leaves: the root alone before its load, and no node where it is refused. Assumes nothing.
use Rattle.std.specs.Prelude.{Some, is_some}
use mathlib.Core.Path.{◌≡◌, refl, ◌∙◌}
use Prim.Native.Nat.{ℕ, zero, suc, ◌+◌, ◌≤◌}
use native.Mathlib.Omega.{arith}
use mathlib.Core.Bool.{Bool, true, false, cond}
use mathlib.Core.List.{List, [], ◌∷◌, ◌++◌}
use lib.Dec.{eqb}
use lib.ListN.{length, take, get_or, replicate, length-replicate}
use Rattle.layers.specs.Bytes.{part, le_of, number_at, AllBytes}
use Rattle.layers.specs.Items.{pieces}
use Rattle.layers.specs.Order.{insert_by, spot_from}
use Rattle.layers.specs.Search.{first_from}
use Rattle.layers.proofs.Numbers.{number_in, length_laid}
use Rattle.merge.specs.Nodes.{pair_bytes, rest_bytes, node_name, capacity, count_of, nodes_of}
use Rattle.merge.specs.Heads.{next_of, with_head, head_bytes, full}
use Rattle.merge.specs.State.{place_for}
use Rattle.merge.specs.Tables.{table_of}
use Rattle.merge.specs.Stacks.{pair, stack_from}
use Rattle.merge.specs.Fresh.{roots_from, root_stack}
use Rattle.merge.specs.declared.stacks.Pair.{Pair}
use Rattle.merge.specs.declared.head.Head.{Head}
use Rattle.merge.proofs.PushLaws.{from_length, from_four}
use Rattle.merge.proofs.FreshLaws.{length_root}
use lib.Seq.{get_or-drop}
use Rattle.merge.proofs.NodesAfter.{drop_head, next_head, count_head, nodes_head}
use Rattle.merge.proofs.PutInLaws.{nodes_put_in, length_put_in, next_put_in}
use Rattle.merge.proofs.NodeFits.{Whole, bytes_none, bytes_cons, bytes_append, bytes_zeros, bytes_head}
use Rattle.merge.proofs.Kept.{Orderly, orderly_put_in}
use Rattle.calls.specs.Parents.{unknown}
use Rattle.merge.specs.Root as root
use Rattle.calls.specs.Import.{blank, root_node, rooted}

-- ---- the blank state

pub length_blank : length blank ≡ 13324
unfolding blank
length_blank = length-replicate {A = ℕ} 13324 0

capacity_of : (s : List ℕ) → length s ≡ 13324 → capacity s ≡ 256
unfolding capacity
capacity_of s h = rw h refl

zero_bytes : le_of (part blank 8 4) ≡ 0
unfolding blank le_of
zero_bytes = refl

count_blank : count_of blank ≡ 0
unfolding count_of
count_blank =
    let n : number_at 4 blank 8 ≡ 0 = number_in 4 blank 8 (omega (arith, length_blank)) ∙ zero_bytes in
    rw (capacity_of blank length_blank, n) refl

pub nodes_blank : nodes_of blank ≡ []
unfolding nodes_of pieces
nodes_blank = rw count_blank refl

-- "A refused import leaves a state in which every number is unknown."
pub blank_unknown : (x : ℕ) → unknown blank x ≡ true
unfolding first_from
blank_unknown x = rw nodes_blank refl

-- ---- the root

pairs_take : (m : ℕ) (ps : List Pair) → AllBytes (pair_bytes ps) → AllBytes (pair_bytes (take m ps))
unfolding pair_bytes AllBytes
pairs_take zero ps h = bytes_none
pairs_take (suc m) [] h = bytes_none
pairs_take (suc m) (p ∷ ps) h = bytes_cons p.layer (p.number ∷ pair_bytes (take m ps)) (h 0) (bytes_cons p.number (pair_bytes (take m ps)) (h 1) (pairs_take m ps (λ i. h (suc (suc i)))))

pairs_append : (ps qs : List Pair) → AllBytes (pair_bytes ps) → AllBytes (pair_bytes qs) → AllBytes (pair_bytes (ps ++ qs))
unfolding pair_bytes AllBytes
pairs_append [] qs h g = g
pairs_append (p ∷ ps) qs h g = bytes_cons p.layer (p.number ∷ pair_bytes (ps ++ qs)) (h 0) (bytes_cons p.number (pair_bytes (ps ++ qs)) (h 1) (pairs_append ps qs (λ i. h (suc (suc i))) g))

roots_bytes : (u l : List ℕ) (k n : ℕ) → k + n ≤ 256 → AllBytes (pair_bytes (roots_from u l k n))
unfolding roots_from pair_bytes
roots_bytes u l k zero h = bytes_none
roots_bytes u l k (suc n) h = go (eqb (length (table_of u l k)) 8192) (roots_bytes u l (suc k) n (omega arith))
  where
    go : (b : Bool) → AllBytes (pair_bytes (roots_from u l (suc k) n)) → AllBytes (pair_bytes (cond b (pair k 1 ∷ roots_from u l (suc k) n) (roots_from u l (suc k) n)))
    go true r = bytes_cons k (1 ∷ pair_bytes (roots_from u l (suc k) n)) (omega arith) (bytes_cons 1 (pair_bytes (roots_from u l (suc k) n)) (omega arith) r)
    go false r = r

root_pairs : (u l : List ℕ) → AllBytes (pair_bytes (stack_from (root_stack u l) false).pairs)
unfolding stack_from root_stack
root_pairs u l = pairs_take 4 (roots_from u l 0 4 ++ replicate 4 (pair 0 0)) (pairs_append (roots_from u l 0 4) (replicate 4 (pair 0 0)) (roots_bytes u l 0 4 (omega arith)) (unfold pair_bytes in bytes_zeros 8))

pub root_whole : (u l : List ℕ) → Whole (root_node u l)
unfolding root.root_node rest_bytes
root_whole u l =
    record {
      fits =
          record {
            numbers = record { number_fits = omega arith; parent_fits = omega arith; count_fits = omega arith };
            arrays = record { stack_fits = from_four (root_stack u l) false; name_fits = refl };
          };
      bytes =
          bytes_cons 0 (0 ∷ (stack_from (root_stack u l) false).length ∷ 0 ∷ (pair_bytes (stack_from (root_stack u l) false).pairs ++ replicate 28 0)) (omega arith)
          (bytes_cons 0 ((stack_from (root_stack u l) false).length ∷ 0 ∷ (pair_bytes (stack_from (root_stack u l) false).pairs ++ replicate 28 0)) (omega arith)
          (bytes_cons (stack_from (root_stack u l) false).length (0 ∷ (pair_bytes (stack_from (root_stack u l) false).pairs ++ replicate 28 0)) (omega (arith, from_length (root_stack u l) false, length_root u l))
          (bytes_cons 0 (pair_bytes (stack_from (root_stack u l) false).pairs ++ replicate 28 0) (omega arith)
          (bytes_append (pair_bytes (stack_from (root_stack u l) false).pairs) (replicate 28 0) (root_pairs u l) (bytes_zeros 28)))));
    }

-- ---- the root alone

abbrev first_head : Head
first_head = record { next = 2; count = 0 }

abbrev empty : List ℕ
empty = with_head blank first_head

length_empty : length empty ≡ 13324
length_empty = length_laid blank 0 (head_bytes first_head) ∙ length_blank

count_empty : count_of empty ≡ 0
count_empty = count_head blank first_head (omega (arith, length_blank)) (omega arith)

nodes_empty : nodes_of empty ≡ []
unfolding pieces
nodes_empty = nodes_head blank first_head (omega (arith, length_blank)) (omega arith)

next_empty : next_of empty ≡ 2
next_empty = next_head blank first_head (omega (arith, length_blank)) (omega arith)

not_full_empty : full empty ≡ false
unfolding full
not_full_empty = rw (capacity_of empty length_empty, count_empty) refl

zero_at : (n i : ℕ) → ◌≡◌ {A = ℕ} (get_or (replicate n 0) i 0) 0
zero_at zero i = refl
zero_at (suc n) zero = refl
zero_at (suc n) (suc i) = zero_at n i

bytes_blank : AllBytes blank
unfolding blank
bytes_blank = bytes_zeros 13324

zeros_blank : (i : ℕ) → get_or blank i 0 ≡ 0
unfolding blank
zeros_blank i = zero_at 13324 i

empty_orderly : Orderly empty
empty_orderly =
    record {
      bytes = bytes_head blank first_head bytes_blank;
      sorted = rw nodes_empty tt;
      blank = rw (count_empty, drop_head blank first_head (omega (arith, length_blank))) (λ (i : ℕ). get_or-drop 12 blank i 0 ∙ zeros_blank (12 + i));
    }

module _ (u l : List ℕ) where
  root_place : place_for (nodes_of empty) (root_node u l).parent (node_name (root_node u l)) ≡ Some 0
  unfolding spot_from
  root_place = rw nodes_empty refl

  -- "The root is 1": it alone has a place
  pub nodes_root : nodes_of (rooted u l blank) ≡ root_node u l ∷ []
  unfolding rooted insert_by
  nodes_root = nodes_put_in empty (root_node u l) (root_whole u l).fits not_full_empty ∙ rw nodes_empty refl

  pub length_rooted : length (rooted u l blank) ≡ 13324
  unfolding rooted
  length_rooted = length_put_in empty (root_node u l) (root_whole u l).fits not_full_empty ∙ length_empty

  pub next_rooted : next_of (rooted u l blank) ≡ 2
  unfolding rooted
  next_rooted = next_put_in empty (root_node u l) (root_whole u l).fits not_full_empty 0 root_place (rw next_empty (omega arith)) ∙ next_empty

  pub rooted_orderly : Orderly (rooted u l blank)
  unfolding rooted
  rooted_orderly = orderly_put_in empty (root_node u l) (root_whole u l) empty_orderly
