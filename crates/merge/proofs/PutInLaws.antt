-- A node put in at its place: the nodes, the count, the next number and the number given. Assumes nothing.
use Rattle.std.specs.Prelude.{Option, Some, None}
use mathlib.Core.Path.{◌≡◌, refl, sym, ap, ◌∙◌}
use Prim.Native.Nat.{ℕ, ◌+◌, ◌≤◌, ◌<◌}
use native.Mathlib.Omega.{arith}
use mathlib.Core.Bool.{Bool, true, false, cond}
use mathlib.Core.List.{List, ◌∷◌, ◌++◌}
use lib.Dec.{ltb}
use lib.ListN.{length, take, drop}
use borrow.Author.Tests.{lt-ltb, le-ltb}
use Rattle.layers.specs.Names.{Name}
use Rattle.layers.specs.Order.{insert_by, spot_from}
use Rattle.layers.proofs.PlaceLaws.{spot_inserts, taken_stays}
use Rattle.layers.proofs.PieceMoves.{insert_at}
use Rattle.merge.specs.declared.node.Node.{Node}
use Rattle.merge.specs.declared.head.Head.{Head}
use Rattle.merge.specs.Nodes.{node_name, key_of, capacity, count_of, nodes_of, FitsNode}
use Rattle.merge.specs.Methods.{with_number, risen}
use Rattle.merge.specs.Heads.{next_of, head_of, more, numbered, following, full}
use Rattle.merge.specs.State.{place_for}
use Rattle.merge.specs.Changes.{spot_for, inserted_at, put_in_bytes, new_spot, given, new_number, new_bytes}
use Rattle.merge.proofs.HeadLaws.{capacity_most}
use Rattle.merge.proofs.StateLaws.{length_nodes}
use Rattle.merge.proofs.ChangeLaws.{spot_below}
use Rattle.merge.proofs.NodesAfter.{not_full, length_inserted, next_inserted, count_inserted, nodes_inserted}

-- one more than the nodes of a state that is not full
pub risen_count : (s : List ℕ) → full s ≡ false → risen (count_of s) ≡ count_of s + 1
unfolding risen
risen_count s e = let h : count_of s < capacity s = not_full s e in rw (lt-ltb (count_of s) 4294967295 (omega (arith, capacity_most s))) refl

-- a node `m` of the key of `n`, put in where `n` belongs
module _ (s : List ℕ) (n m : Node) (h : Head) (f : FitsNode m) (e : full s ≡ false) (a : key_of m ≡ key_of n) (c : h.count ≡ count_of s + 1) where
  spot_is : (p : Option ℕ) → place_for (nodes_of s) n.parent (node_name n) ≡ p → spot_from key_of 0 (key_of m) (nodes_of s) ≡ p
  spot_is p q = ap (λ (x : Name). spot_from key_of 0 x (nodes_of s)) a ∙ q

  spot_count : (k : ℕ) → place_for (nodes_of s) n.parent (node_name n) ≡ Some k → k ≤ count_of s
  spot_count k q = let z : k ≤ 0 + length (nodes_of s) = spot_below key_of (key_of n) 0 (nodes_of s) k q in omega (arith, length_nodes s)

  pub nodes_inserted_at : nodes_of (inserted_at s m h (place_for (nodes_of s) n.parent (node_name n))) ≡ insert_by key_of m (nodes_of s)
  unfolding inserted_at
  nodes_inserted_at = go (place_for (nodes_of s) n.parent (node_name n)) refl
    where
      go : (p : Option ℕ) → place_for (nodes_of s) n.parent (node_name n) ≡ p → nodes_of (inserted_at s m h p) ≡ insert_by key_of m (nodes_of s)
      go (Some k) q =
          let t : (i : ℕ) × (k ≡ 0 + i) × (i ≤ length (nodes_of s)) × (insert_by key_of m (nodes_of s) ≡ take i (nodes_of s) ++ m ∷ drop i (nodes_of s)) = spot_inserts key_of m 0 (nodes_of s) k (spot_is (Some k) q) in
          let i : k ≡ t.0 = (let z : k ≡ 0 + t.0 = t.1 in omega arith) in
          nodes_inserted s k m h f (spot_count k q) (not_full s e) c ∙ (ap (λ (j : ℕ). insert_at j m (nodes_of s)) i ∙ sym t.3)
      go None q = taken_stays key_of m 0 (nodes_of s) (spot_is None q)

  pub length_inserted_at : length (inserted_at s m h (place_for (nodes_of s) n.parent (node_name n))) ≡ length s
  unfolding inserted_at
  length_inserted_at = go (place_for (nodes_of s) n.parent (node_name n)) refl
    where
      go : (p : Option ℕ) → place_for (nodes_of s) n.parent (node_name n) ≡ p → length (inserted_at s m h p) ≡ length s
      go (Some k) q = length_inserted s k m h f (spot_count k q) (not_full s e)
      go None q = refl

  pub count_inserted_at : (k : ℕ) → place_for (nodes_of s) n.parent (node_name n) ≡ Some k → count_of (inserted_at s m h (place_for (nodes_of s) n.parent (node_name n))) ≡ count_of s + 1
  unfolding inserted_at
  count_inserted_at k q = rw q (count_inserted s k m h f (spot_count k q) (not_full s e) c)

  pub next_inserted_at : (k : ℕ) → place_for (nodes_of s) n.parent (node_name n) ≡ Some k → h.next < 18446744073709551616 → next_of (inserted_at s m h (place_for (nodes_of s) n.parent (node_name n))) ≡ h.next
  unfolding inserted_at
  next_inserted_at k q l = rw q (next_inserted s k m h f (spot_count k q) (not_full s e) l)

-- ---- a node put in with its number

pub put_in_full : (s : List ℕ) (n : Node) → full s ≡ true → put_in_bytes s n ≡ s
unfolding spot_for inserted_at
put_in_full s n e = rw e refl

module _ (s : List ℕ) (n : Node) (f : FitsNode n) (e : full s ≡ false) where
  put_in_is : put_in_bytes s n ≡ inserted_at s n (more (head_of s)) (place_for (nodes_of s) n.parent (node_name n))
  unfolding spot_for
  put_in_is = rw e refl

  pub nodes_put_in : nodes_of (put_in_bytes s n) ≡ insert_by key_of n (nodes_of s)
  nodes_put_in = ap nodes_of put_in_is ∙ nodes_inserted_at s n n (more (head_of s)) f e refl (risen_count s e)

  pub length_put_in : length (put_in_bytes s n) ≡ length s
  length_put_in = ap length put_in_is ∙ length_inserted_at s n n (more (head_of s)) f e refl (risen_count s e)

  module _ (k : ℕ) (q : place_for (nodes_of s) n.parent (node_name n) ≡ Some k) where
    pub count_put_in : count_of (put_in_bytes s n) ≡ count_of s + 1
    count_put_in = ap count_of put_in_is ∙ count_inserted_at s n n (more (head_of s)) f e refl (risen_count s e) k q

    pub next_put_in : next_of s < 18446744073709551616 → next_of (put_in_bytes s n) ≡ next_of s
    next_put_in l = ap next_of put_in_is ∙ next_inserted_at s n n (more (head_of s)) f e refl (risen_count s e) k q l

-- ---- a node put in with the next number

pub new_full : (s : List ℕ) (n : Node) → full s ≡ true → (new_bytes s n ≡ s) × (new_number s n ≡ 0)
unfolding new_spot spot_for inserted_at given
new_full s n e = go (ltb 4294967295 (next_of s))
  where
    go : (b : Bool) → (inserted_at s (with_number n (next_of s)) (numbered (more (head_of s))) (cond b None (spot_for s n)) ≡ s) × (given (cond b None (spot_for s n)) (next_of s) ≡ 0)
    go true = (refl, refl)
    go false = (rw e refl, rw e refl)

pub new_none : (s : List ℕ) (n : Node) → 4294967295 < next_of s → (new_bytes s n ≡ s) × (new_number s n ≡ 0)
unfolding new_spot inserted_at given
new_none s n h = (rw (lt-ltb 4294967295 (next_of s) h) refl, rw (lt-ltb 4294967295 (next_of s) h) refl)

module _ (s : List ℕ) (n : Node) (f : FitsNode (with_number n (next_of s))) (e : full s ≡ false) (l : next_of s ≤ 4294967295) where
  abbrev fresh : Node
  fresh = with_number n (next_of s)

  abbrev after : Head
  after = numbered (more (head_of s))

  fresh_key : key_of fresh ≡ key_of n
  unfolding with_number
  fresh_key = refl

  new_spot_is : new_spot s n ≡ place_for (nodes_of s) n.parent (node_name n)
  unfolding new_spot spot_for
  new_spot_is = rw (le-ltb 4294967295 (next_of s) l, e) refl

  new_is : new_bytes s n ≡ inserted_at s fresh after (place_for (nodes_of s) n.parent (node_name n))
  new_is = rw new_spot_is refl

  pub nodes_new : nodes_of (new_bytes s n) ≡ insert_by key_of (with_number n (next_of s)) (nodes_of s)
  nodes_new = ap nodes_of new_is ∙ nodes_inserted_at s n fresh after f e fresh_key (risen_count s e)

  pub length_new : length (new_bytes s n) ≡ length s
  length_new = ap length new_is ∙ length_inserted_at s n fresh after f e fresh_key (risen_count s e)

  module _ (k : ℕ) (q : place_for (nodes_of s) n.parent (node_name n) ≡ Some k) where
    pub number_new : new_number s n ≡ next_of s
    unfolding given
    number_new = rw (new_spot_is, q) refl

    pub count_new : count_of (new_bytes s n) ≡ count_of s + 1
    count_new = ap count_of new_is ∙ count_inserted_at s n fresh after f e fresh_key (risen_count s e) k q

    -- "rise from 2, are never given twice"
    pub next_new : next_of (new_bytes s n) ≡ next_of s + 1
    unfolding following
    next_new =
        let w : after.next ≡ next_of s + 1 = rw (lt-ltb (next_of s) 4294967296 (omega arith)) refl in
        ap next_of new_is ∙ (next_inserted_at s n fresh after f e fresh_key (risen_count s e) k q (rw w (omega arith)) ∙ w)
