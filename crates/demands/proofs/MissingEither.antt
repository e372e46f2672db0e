-- What two paths miss together: a directory that both need is made once. Assumes nothing.
use mathlib.Core.Path.{◌≡◌, refl, sym, ap, ◌∙◌, subst}
use mathlib.Core.Logic.{◌≢◌}
use Prim.Native.Nat.{ℕ, zero, suc, ◌+◌, ◌≤◌, ◌<◌}
use native.Mathlib.Omega.{arith}
use native.Mathlib.Decide.{ℕ_discrete}
use mathlib.Core.Bool.{Bool, true, false, not, cond}
use mathlib.Core.List.{List, [], ◌∷◌}
use lib.Dec.{eqb}
use lib.ListN.{length}
use borrow.Author.Tests.{eqb-true, eq-eqb, ne_eqb}
use Rattle.layers.specs.Search.{one, count_if}
use Rattle.layers.specs.Rules.{Valid}
use Rattle.layers.proofs.EveryLaws.{no_true}
use Rattle.merge.specs.Nodes.{node_name, count_of, nodes_of, node_at}
use Rattle.merge.specs.Load.{stack_list}
use Rattle.merge.specs.Stacks.{stack_of}
use Rattle.merge.specs.declared.node.Node.{Node}
use Rattle.merge.specs.declared.stacks.Pair.{Pair}
use Rattle.merge.proofs.MergeLaws.{Each}
use Rattle.merge.proofs.StateLaws.{length_nodes}
use Rattle.calls.specs.Parents.{top_of}
use Rattle.calls.specs.Upper.{parent_place, in_upper}
use Rattle.calls.specs.Room.{missing_from, missing, is_in, is_outside, missing_either}
use Rattle.demands.specs.Invariant.{node_by, Good}
use Rattle.demands.proofs.InvariantNodes.{place_by, place_resident}
use Rattle.demands.proofs.InvariantShare.{In, here, there, in_nil, Above, stack_above}
use Rattle.demands.proofs.UpperFirst.{Lower, UpperFirst, node_first}
use Rattle.demands.proofs.MadeDirectory.{parent_earlier, parent_inside}
use Rattle.demands.proofs.CopiedFile.{top_first, node_stack, node_some}
use Rattle.demands.proofs.MadePath.{root_upper}

-- ---- two lists of places, one without repetition

abbrev Once : List ℕ → Type 0
Once [] = Unit {0}
Once (b ∷ bs) = (is_in b bs ≡ false) × Once bs

counted_most : (p : ℕ → Bool) (xs : List ℕ) → count_if p xs ≤ length xs
unfolding count_if one
counted_most p [] = omega arith
counted_most p (x ∷ xs) = go (p x) (counted_most p xs)
  where
    go : (c : Bool) → count_if p xs ≤ length xs → one c + count_if p xs ≤ suc (length xs)
    go true h = omega arith
    go false h = omega arith

fewer_outside : (b : ℕ) (bs xs : List ℕ) → count_if (is_outside (b ∷ bs)) xs ≤ count_if (is_outside bs) xs
unfolding count_if one is_outside is_in
fewer_outside b bs [] = omega arith
fewer_outside b bs (x ∷ xs) = go (eqb x b) (is_in x bs) (fewer_outside b bs xs)
  where
    go : (c d : Bool) → count_if (is_outside (b ∷ bs)) xs ≤ count_if (is_outside bs) xs → one (not (cond c true d)) + count_if (is_outside (b ∷ bs)) xs ≤ one (not d) + count_if (is_outside bs) xs
    go true true h = omega arith
    go true false h = omega arith
    go false true h = omega arith
    go false false h = omega arith

one_outside : (b : ℕ) (bs xs : List ℕ) → is_in b bs ≡ false → is_in b xs ≡ true → count_if (is_outside (b ∷ bs)) xs + 1 ≤ count_if (is_outside bs) xs
unfolding count_if one is_outside is_in
one_outside b bs [] n h = no_true h
one_outside b bs (x ∷ xs) n h = go (ℕ_discrete b x) (fewer_outside b bs xs) (one_outside b bs xs n)
  where
    step : (c d : Bool) → count_if (is_outside (b ∷ bs)) xs + 1 ≤ count_if (is_outside bs) xs → one (not (cond c true d)) + count_if (is_outside (b ∷ bs)) xs + 1 ≤ one (not d) + count_if (is_outside bs) xs
    step true true q = omega arith
    step true false q = omega arith
    step false true q = omega arith
    step false false q = omega arith

    go : Dec (b ≡ x) → count_if (is_outside (b ∷ bs)) xs ≤ count_if (is_outside bs) xs → (is_in b xs ≡ true → count_if (is_outside (b ∷ bs)) xs + 1 ≤ count_if (is_outside bs) xs)
        → one (not (cond (eqb x b) true (is_in x bs))) + count_if (is_outside (b ∷ bs)) xs + 1 ≤ one (not (is_in x bs)) + count_if (is_outside bs) xs
    go (yes e) f ih = let z : is_in x bs ≡ false = ap (λ (q : ℕ). is_in q bs) (sym e) ∙ n in rw (eq-eqb x b (sym e), z) (omega arith)
    go (no e) f ih = step (eqb x b) (is_in x bs) (ih (sym (rw (ne_eqb b x e) refl) ∙ h))

either_covers : (xs bs : List ℕ) → Once bs → count_if (is_outside bs) xs + length bs ≤ length xs + count_if (is_outside xs) bs
unfolding count_if one is_outside
either_covers xs [] o = let h : count_if (is_outside []) xs ≤ length xs = counted_most (is_outside []) xs in omega arith
either_covers xs (b ∷ bs) o = go (is_in b xs) refl (either_covers xs bs o.1) (fewer_outside b bs xs) (one_outside b bs xs o.0)
  where
    go : (c : Bool) → is_in b xs ≡ c → count_if (is_outside bs) xs + length bs ≤ length xs + count_if (is_outside xs) bs → count_if (is_outside (b ∷ bs)) xs ≤ count_if (is_outside bs) xs
        → (is_in b xs ≡ true → count_if (is_outside (b ∷ bs)) xs + 1 ≤ count_if (is_outside bs) xs)
        → count_if (is_outside (b ∷ bs)) xs + suc (length bs) ≤ length xs + (one (not c) + count_if (is_outside xs) bs)
    go true e ih f g = let q : count_if (is_outside (b ∷ bs)) xs + 1 ≤ count_if (is_outside bs) xs = g e in omega arith
    go false e ih f g = omega arith

-- ---- the missing from a node up

module _ (t l s : List ℕ) (v : Valid t) (g : Good t l s) where
  low_other : (k : ℕ) → k < count_of s → in_upper (node_at (nodes_of s) k) ≡ false → (node_at (nodes_of s) k).number ≢ 1
  low_other k b e z = no_true (sym e ∙ root_upper t l s g v.size k b z)

  -- their numbers are at most the node's
  missing_number : (m k : ℕ) → k < count_of s → (i : ℕ) → is_in i (missing_from m s k) ≡ true → (node_at (nodes_of s) i).number ≤ (node_at (nodes_of s) k).number
  unfolding missing_from is_in
  missing_number zero k b i h = no_true h
  missing_number (suc m) k b i h = go (in_upper (node_at (nodes_of s) k)) refl (missing_number m (parent_place s k)) h
    where
      go : (c : Bool) → in_upper (node_at (nodes_of s) k) ≡ c → (parent_place s k < count_of s → (i : ℕ) → is_in i (missing_from m s (parent_place s k)) ≡ true → (node_at (nodes_of s) i).number ≤ (node_at (nodes_of s) (parent_place s k)).number)
          → is_in i (cond c [] (k ∷ missing_from m s (parent_place s k))) ≡ true → (node_at (nodes_of s) i).number ≤ (node_at (nodes_of s) k).number
      go true e ih q = no_true q
      go false e ih q = at (eqb i k) refl q
        where
          at : (c : Bool) → eqb i k ≡ c → cond c true (is_in i (missing_from m s (parent_place s k))) ≡ true → (node_at (nodes_of s) i).number ≤ (node_at (nodes_of s) k).number
          at true y r = let z : (node_at (nodes_of s) i).number ≡ (node_at (nodes_of s) k).number = ap (λ (n : ℕ). (node_at (nodes_of s) n).number) (eqb-true i k y) in omega arith
          at false y r =
              let z : (node_at (nodes_of s) (parent_place s k)).number < (node_at (nodes_of s) k).number = parent_earlier t l s g k b (low_other k b e) in
              let x : (node_at (nodes_of s) i).number ≤ (node_at (nodes_of s) (parent_place s k)).number = ih (parent_inside t l s g k b (low_other k b e)) i r in
              omega arith

  missing_once : (m k : ℕ) → k < count_of s → Once (missing_from m s k)
  unfolding missing_from
  missing_once zero k b = tt
  missing_once (suc m) k b = go (in_upper (node_at (nodes_of s) k)) refl (missing_once m (parent_place s k))
    where
      go : (c : Bool) → in_upper (node_at (nodes_of s) k) ≡ c → (parent_place s k < count_of s → Once (missing_from m s (parent_place s k))) → Once (cond c [] (k ∷ missing_from m s (parent_place s k)))
      go true e ih = tt
      go false e ih = (at (is_in k (missing_from m s (parent_place s k))) refl, ih (parent_inside t l s g k b (low_other k b e)))
        where
          at : (c : Bool) → is_in k (missing_from m s (parent_place s k)) ≡ c → c ≡ false
          at true y =
              let z : (node_at (nodes_of s) (parent_place s k)).number < (node_at (nodes_of s) k).number = parent_earlier t l s g k b (low_other k b e) in
              let x : (node_at (nodes_of s) k).number ≤ (node_at (nodes_of s) (parent_place s k)).number = missing_number m (parent_place s k) (parent_inside t l s g k b (low_other k b e)) k y in
              absurd (omega arith)
          at false y = refl

-- ---- a node in the upper layer has its parent there

within_first : (a : Pair) (q : List Pair) (p : Pair) → Each Lower q → In p (a ∷ q) → p.layer ≡ 0 → a.layer ≡ 0
within_first a q p e (here r) z = ap (λ (n : Pair). n.layer) (sym r) ∙ z
within_first a q p e (there i) z = absurd (go q e i)
  where
    go : (q : List Pair) → Each Lower q → In p q → ⊥
    go [] e i = elim i [ ]
    go (x ∷ q) e (here r) = e.0 (ap (λ (n : Pair). n.layer) (sym r) ∙ z)
    go (x ∷ q) e (there i) = go q e.1 i

module _ (t l s : List ℕ) (v : Valid t) (g : Good t l s) (k : ℕ) (b : k < count_of s) (other : (node_at (nodes_of s) k).number ≢ 1) (h : in_upper (node_at (nodes_of s) k) ≡ true) where
  abbrev pn : Node
  pn = node_at (nodes_of s) (parent_place s k)

  abbrev n : Node
  n = node_at (nodes_of s) k

  starts : stack_of t l (stack_list pn) (node_name n) ≡ top_of n ∷ (top_first n (node_some t l s v g k b other)).0
  starts = sym (node_stack t l s v g k b other) ∙ (top_first n (node_some t l s v g k b other)).1

  above : Above t l (node_name n) (stack_list pn) (top_of n)
  above = stack_above t l (node_name n) (stack_list pn) (subst (In (top_of n)) (sym starts) (here refl))

  inside : parent_place s k < length (nodes_of s)
  inside = rw (length_nodes s) (parent_inside t l s g k b other)

  first : UpperFirst (stack_list pn)
  first = subst (λ (m : Node). UpperFirst (stack_list m)) (place_by (nodes_of s) g.nodes.once (parent_place s k) inside) (node_first t l (node_by (nodes_of s)) g.nodes.coherent pn.number (place_resident (nodes_of s) g.nodes.once (parent_place s k) inside g.nodes.none_zero))

  zero_layer : above.at.layer ≡ 0
  unfolding in_upper
  zero_layer = above.layer_is ∙ eqb-true (top_of n).layer 0 h

  upper_parent : in_upper (node_at (nodes_of s) (parent_place s k)) ≡ true
  unfolding in_upper
  upper_parent = go (stack_list pn) refl
    where
      go : (q : List Pair) → stack_list pn ≡ q → eqb (top_of pn).layer 0 ≡ true
      go [] e = absurd (in_nil (subst (In above.at) e above.within))
      go (a ∷ q) e =
          let f : (r : List Pair) × (stack_list pn ≡ top_of pn ∷ r) = top_first pn (λ z. let o : a ∷ q ≡ [] = sym e ∙ z in let y : suc (length q) ≡ 0 = ap length o in omega arith) in
          eq-eqb (top_of pn).layer 0 (within_first (top_of pn) f.0 above.at (subst UpperFirst f.1 first) (subst (In above.at) f.1 above.within) zero_layer)

-- ---- the state `w`, in which the node at place `j` and those above it are in the upper layer, where `s` was

module _ (t l s : List ℕ) (v : Valid t) (g : Good t l s) (y w : List ℕ) (vy : Valid y) (gw : Good y l w) (count_same : count_of w ≡ count_of s) (number_same : (i : ℕ) → (node_at (nodes_of w) i).number ≡ (node_at (nodes_of s) i).number)
    (parent_same : (i : ℕ) → parent_place w i ≡ parent_place s i) (still : (i : ℕ) → in_upper (node_at (nodes_of s) i) ≡ true → in_upper (node_at (nodes_of w) i) ≡ true)
  where
    all_made : (m k : ℕ) → k < count_of s → in_upper (node_at (nodes_of w) k) ≡ true → (i : ℕ) → is_in i (missing_from m s k) ≡ true → in_upper (node_at (nodes_of w) i) ≡ true
    unfolding missing_from is_in
    all_made zero k b h i q = no_true q
    all_made (suc m) k b h i q = go (in_upper (node_at (nodes_of s) k)) refl (all_made m (parent_place s k)) q
      where
        go : (c : Bool) → in_upper (node_at (nodes_of s) k) ≡ c → (parent_place s k < count_of s → in_upper (node_at (nodes_of w) (parent_place s k)) ≡ true → (i : ℕ) → is_in i (missing_from m s (parent_place s k)) ≡ true → in_upper (node_at (nodes_of w) i) ≡ true)
            → is_in i (cond c [] (k ∷ missing_from m s (parent_place s k))) ≡ true → in_upper (node_at (nodes_of w) i) ≡ true
        go true e ih q = no_true q
        go false e ih q = at (eqb i k) refl q
          where
            at : (c : Bool) → eqb i k ≡ c → cond c true (is_in i (missing_from m s (parent_place s k))) ≡ true → in_upper (node_at (nodes_of w) i) ≡ true
            at true z r = ap (λ (n : ℕ). in_upper (node_at (nodes_of w) n)) (eqb-true i k z) ∙ h
            at false z r =
                ih (parent_inside t l s g k b (low_other t l s v g k b e))
                (ap (λ (n : ℕ). in_upper (node_at (nodes_of w) n)) (sym (parent_same k)) ∙ upper_parent y l w vy gw k (rw count_same b) (λ x. low_other t l s v g k b e (sym (number_same k) ∙ x)) h) i r

    module _ (bs : List ℕ) (made : (i : ℕ) → is_in i bs ≡ true → in_upper (node_at (nodes_of w) i) ≡ true) where
      missing_after : (m k : ℕ) → length (missing_from m w k) ≤ count_if (is_outside bs) (missing_from m s k)
      unfolding missing_from count_if one is_outside
      missing_after zero k = omega arith
      missing_after (suc m) k = go (in_upper (node_at (nodes_of w) k)) refl (in_upper (node_at (nodes_of s) k)) refl (is_in k bs) refl (subst (λ (n : ℕ). length (missing_from m w n) ≤ count_if (is_outside bs) (missing_from m s (parent_place s k))) (sym (parent_same k)) (missing_after m (parent_place s k)))
        where
          go : (c : Bool) → in_upper (node_at (nodes_of w) k) ≡ c → (d : Bool) → in_upper (node_at (nodes_of s) k) ≡ d → (e : Bool) → is_in k bs ≡ e → length (missing_from m w (parent_place w k)) ≤ count_if (is_outside bs) (missing_from m s (parent_place s k))
              → length (cond c [] (k ∷ missing_from m w (parent_place w k))) ≤ count_if (is_outside bs) (cond d [] (k ∷ missing_from m s (parent_place s k)))
          go true a d x e z h = omega arith
          go false a true x e z h = no_true (sym a ∙ still k x)
          go false a false x true z h = no_true (sym a ∙ made k z)
          go false a false x false z h = rw z (omega arith)

    -- what is missing above `k` then, and what was above `j`, is no more than both missed
    pub missing_both : (j k : ℕ) → j < count_of s → in_upper (node_at (nodes_of w) j) ≡ true → length (missing w k) + length (missing s j) ≤ missing_either s j k
    unfolding missing_either
    missing_both j k b h =
        let a : length (missing_from 17 w k) ≤ count_if (is_outside (missing_from 17 s j)) (missing_from 17 s k) = missing_after (missing_from 17 s j) (all_made 17 j b h) 17 k in
        let c : count_if (is_outside (missing_from 17 s j)) (missing_from 17 s k) + length (missing_from 17 s j) ≤ length (missing_from 17 s k) + count_if (is_outside (missing_from 17 s k)) (missing_from 17 s j) = either_covers (missing_from 17 s k) (missing_from 17 s j) (missing_once t l s v g 17 j b) in
        omega arith

pub missing_first : (t l s : List ℕ) → Valid t → Good t l s → (j k : ℕ) → j < count_of s → length (missing s j) ≤ missing_either s j k
unfolding missing_either
missing_first t l s v g j k b =
    let c : count_if (is_outside (missing_from 17 s j)) (missing_from 17 s k) + length (missing_from 17 s j) ≤ length (missing_from 17 s k) + count_if (is_outside (missing_from 17 s k)) (missing_from 17 s j) = either_covers (missing_from 17 s k) (missing_from 17 s j) (missing_once t l s v g 17 j b) in
    omega arith
