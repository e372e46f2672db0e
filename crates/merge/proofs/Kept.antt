-- What every change of a state keeps: bytes, the order of the nodes, and zeros behind the last. Assumes nothing.
use Rattle.std.specs.Prelude.{Option, Some, None}
use mathlib.Core.Path.{◌≡◌, refl, sym, ap, ◌∙◌, subst}
use Prim.Native.Nat.{ℕ, zero, suc, ◌+◌, ◌*◌, ◌-◌, ◌≤◌, ◌<◌}
use native.Mathlib.Omega.{arith}
use mathlib.Core.Bool.{Bool, true, false, cond}
use mathlib.Core.List.{List, [], ◌∷◌, ◌++◌, append_assoc}
use lib.Dec.{ltb, leb}
use lib.ListN.{length, take, drop, get_or, replicate, length-append, length-take, length-drop}
use lib.Seq.{drop_at, get_or-drop}
use borrow.Author.Tests.{le-ltb, ltb-true, ltb-false}
use Rattle.layers.specs.Bytes.{part, over, le_of, number_at, AllBytes}
use Rattle.layers.specs.Items.{pieces}
use Rattle.layers.specs.Sorted.{Sorted}
use Rattle.layers.proofs.Numbers.{laid_in}
use Rattle.layers.proofs.Runs.{drop_over_after, length_over, over_next}
use Rattle.layers.proofs.SortLaws.{insert_sorted}
use Rattle.merge.specs.declared.node.Node.{Node}
use Rattle.merge.specs.declared.head.Head.{Head}
use Rattle.merge.specs.Nodes.{node_bytes, node_name, key_of, capacity, count_of, nodes_of, node_at, no_node, FitsNode}
use Rattle.merge.specs.Methods.{with_number}
use Rattle.merge.specs.Heads.{next_of, head_of, head_bytes, with_head, more, fewer, numbered, full}
use Rattle.merge.specs.State.{place_for}
use Rattle.merge.specs.Changes.{put_bytes, inserted_bytes, taken_bytes, spot_for, inserted_at, put_in_bytes, new_spot, new_bytes}
use Rattle.merge.proofs.NodeLaws.{length_node}
use Rattle.merge.proofs.HeadLaws.{length_head, nodes_fit, count_fits, in_memory, capacity_fits}
use Rattle.merge.proofs.StateLaws.{length_nodes}
use Rattle.merge.proofs.ChangeLaws.{spot_below}
use Rattle.merge.proofs.ListChanges.{remove_sorted, set_sorted}
use Rattle.merge.proofs.NodesAfter.{count_head, nodes_head, not_full, count_put, nodes_put, count_inserted, taken_is, not_taken_is, taken_fits, count_taken, nodes_taken}
use Rattle.merge.proofs.PutInLaws.{risen_count, nodes_inserted_at}
use Rattle.merge.proofs.NodeFits.{Whole, bytes_zeros, bytes_head, bytes_put, bytes_inserted, bytes_taken}

-- ---- zeros

abbrev pub Zeros : List ℕ → Type 0
Zeros t = (i : ℕ) → get_or t i 0 ≡ 0

zeros_append : (x y : List ℕ) → Zeros x → Zeros y → Zeros (x ++ y)
zeros_append [] y h g i = g i
zeros_append (a ∷ x) y h g zero = h 0
zeros_append (a ∷ x) y h g (suc i) = zeros_append x y (λ k. h (suc k)) g i

zeros_replicate : (n : ℕ) → Zeros (replicate n 0)
zeros_replicate zero i = refl
zeros_replicate (suc n) zero = refl
zeros_replicate (suc n) (suc i) = zeros_replicate n i

-- what follows zeros that follow `a` on are zeros
zeros_later : (t : List ℕ) (a b : ℕ) → a ≤ b → Zeros (drop a t) → Zeros (drop b t)
zeros_later t a b l h i =
    let e : b + i ≡ a + (b - a + i) = omega arith in
    get_or-drop b t i 0 ∙ (ap (λ (k : ℕ). get_or t k 0) e ∙ (sym (get_or-drop a t (b - a + i) 0) ∙ h (b - a + i)))

-- "and so is what follows the last node"
abbrev pub Blank : List ℕ → Type 0
Blank s = Zeros (drop (12 + 52 * count_of s) s)

drop_past_head : (u : List ℕ) (h : Head) (k : ℕ) → 12 ≤ length u → 12 ≤ k → drop k (with_head u h) ≡ drop k u
drop_past_head u h k l g =
    ap (λ (x : List ℕ). drop k x) (laid_in u 0 (head_bytes h) (rw (length_head h) l)) ∙ drop_over_after u 0 (head_bytes h) (rw (length_head h) l) k (rw (length_head h) g)

-- zeros laid over `t` in front of zeros
zeros_from : (t : List ℕ) (a : ℕ) (z : List ℕ) → a ≤ length t → Zeros z → Zeros (drop (a + length z) t) → Zeros (drop a (over t a z))
zeros_from t a z l g h = rw (append_assoc (take a t) z (drop (a + length z) t), drop_at (take a t) (z ++ drop (a + length z) t) a (simp length-take (omega arith))) (zeros_append z (drop (a + length z) t) g h)

-- ---- a state in order

pub record Orderly (s : List ℕ) : Type 0 where
  pub bytes : AllBytes s
  pub sorted : Sorted key_of (nodes_of s)
  pub blank : Blank s

-- ---- a node changed, of the same parent and name

module _ (s : List ℕ) (j : ℕ) (n : Node) where
  pub blank_put : FitsNode n → Blank s → Blank (put_bytes s j n)
  blank_put f b = subst (λ (c : ℕ). Zeros (drop (12 + 52 * c) (put_bytes s j n))) (sym (count_put s j n f)) (unfold put_bytes in go (ltb j (count_of s)) refl)
    where
      go : (t : Bool) → ltb j (count_of s) ≡ t → Zeros (drop (12 + 52 * count_of s) (cond t (over s (12 + 52 * j) (node_bytes n)) s))
      go true e =
          let h : j < count_of s = ltb-true j (count_of s) e in
          let k : length (node_bytes n) ≡ 52 = length_node n f.arrays in
          rw (drop_over_after s (12 + 52 * j) (node_bytes n) (rw k (omega (arith, in_memory s j h))) (12 + 52 * count_of s) (rw k (omega arith))) b
      go false e = b

  pub orderly_put : Whole n → key_of n ≡ key_of (node_at (nodes_of s) j) → Orderly s → Orderly (put_bytes s j n)
  orderly_put w e o =
      record {
        bytes = bytes_put s o.bytes j n w.bytes;
        sorted = rw (nodes_put s j n w.fits) (set_sorted key_of no_node j n (nodes_of s) e o.sorted);
        blank = blank_put w.fits o.blank;
      }

-- ---- a node put in

module _ (s : List ℕ) (n m : Node) (h : Head) (f : FitsNode m) (e : full s ≡ false) (c : h.count ≡ count_of s + 1) where
  zeros_inserted : (k : ℕ) → k ≤ count_of s → Blank s → Zeros (drop (12 + 52 * (count_of s + 1)) (inserted_bytes s k m h))
  unfolding inserted_bytes
  zeros_inserted k l b =
      let g : count_of s < capacity s = not_full s e in
      let r : 52 * capacity s ≤ length s - 12 = capacity_fits s in
      let q : length (node_bytes m ++ part s (12 + 52 * k) (52 * (count_of s - k))) ≡ 52 + 52 * (count_of s - k) = simp (length-append, length-take, length-drop, length_node m f.arrays) (omega arith) in
      let i : 12 + 52 * k + length (node_bytes m ++ part s (12 + 52 * k) (52 * (count_of s - k))) ≤ length s = omega arith in
      let z : length (over s (12 + 52 * k) (node_bytes m ++ part s (12 + 52 * k) (52 * (count_of s - k)))) ≡ length s = length_over s (12 + 52 * k) (node_bytes m ++ part s (12 + 52 * k) (52 * (count_of s - k))) i in
      rw (
        drop_past_head (over s (12 + 52 * k) (node_bytes m ++ part s (12 + 52 * k) (52 * (count_of s - k)))) h (12 + 52 * (count_of s + 1)) (omega arith) (omega arith),
        drop_over_after s (12 + 52 * k) (node_bytes m ++ part s (12 + 52 * k) (52 * (count_of s - k))) i (12 + 52 * (count_of s + 1)) (omega arith),
      )
      (zeros_later s (12 + 52 * count_of s) (12 + 52 * (count_of s + 1)) (omega arith) b)

  blank_placed : (k : ℕ) → k ≤ count_of s → Blank s → Blank (inserted_bytes s k m h)
  blank_placed k l b = subst (λ (i : ℕ). Zeros (drop (12 + 52 * i) (inserted_bytes s k m h))) (sym (count_inserted s k m h f l (not_full s e) c)) (zeros_inserted k l b)

  pub blank_inserted : Blank s → Blank (inserted_at s m h (place_for (nodes_of s) n.parent (node_name n)))
  blank_inserted b = go (place_for (nodes_of s) n.parent (node_name n)) refl
    where
      go : (f : Option ℕ) → place_for (nodes_of s) n.parent (node_name n) ≡ f → Blank (inserted_at s m h f)
      go (Some k) q = unfold inserted_at in blank_placed k (let z : k ≤ 0 + length (nodes_of s) = spot_below key_of (key_of n) 0 (nodes_of s) k q in omega (arith, length_nodes s)) b
      go None q = unfold inserted_at in b

pub orderly_inserted : (s : List ℕ) (n m : Node) (h : Head) → Whole m → full s ≡ false → key_of m ≡ key_of n → h.count ≡ count_of s + 1 → Orderly s → Orderly (inserted_at s m h (place_for (nodes_of s) n.parent (node_name n)))
orderly_inserted s n m h w e a c o =
    record {
      bytes = bytes_inserted s o.bytes m h (place_for (nodes_of s) n.parent (node_name n)) w.bytes;
      sorted = rw (nodes_inserted_at s n m h w.fits e a c) (insert_sorted key_of m (nodes_of s) o.sorted);
      blank = blank_inserted s n m h w.fits e c o.blank;
    }

module _ (s : List ℕ) (n : Node) (e : full s ≡ false) (b : Blank s) where
  pub blank_put_in : FitsNode n → Blank (put_in_bytes s n)
  unfolding spot_for
  blank_put_in f = rw e (blank_inserted s n n (more (head_of s)) f e (risen_count s e) b)

  pub blank_new : FitsNode (with_number n (next_of s)) → next_of s ≤ 4294967295 → Blank (new_bytes s n)
  unfolding new_spot spot_for
  blank_new f l = rw (le-ltb 4294967295 (next_of s) l, e) (blank_inserted s n (with_number n (next_of s)) (numbered (more (head_of s))) f e (risen_count s e) b)

module _ (s : List ℕ) (n : Node) where
  pub orderly_put_in : Whole n → Orderly s → Orderly (put_in_bytes s n)
  unfolding spot_for
  orderly_put_in w o = go (full s) refl
    where
      go : (b : Bool) → full s ≡ b → Orderly (inserted_at s n (more (head_of s)) (cond b None (place_for (nodes_of s) n.parent (node_name n))))
      go true e = unfold inserted_at in o
      go false e = orderly_inserted s n n (more (head_of s)) w e refl (risen_count s e) o

  pub orderly_new : Whole (with_number n (next_of s)) → Orderly s → Orderly (new_bytes s n)
  unfolding new_spot spot_for
  orderly_new w o = go (ltb 4294967295 (next_of s)) (full s) refl
    where
      go : (t b : Bool) → full s ≡ b → Orderly (inserted_at s (with_number n (next_of s)) (numbered (more (head_of s))) (cond t None (cond b None (place_for (nodes_of s) n.parent (node_name n)))))
      go true b e = unfold inserted_at in o
      go false true e = unfold inserted_at in o
      go false false e = orderly_inserted s n (with_number n (next_of s)) (numbered (more (head_of s))) w e (unfold with_number in refl) (risen_count s e) o

-- ---- a node taken out

module _ (s : List ℕ) (k : ℕ) where
  blank_closed : k < count_of s → Blank s → Zeros (drop (12 + 52 * (count_of s - 1)) (taken_bytes s k))
  blank_closed h b =
      let w : 52 * count_of s ≤ length s - 12 = nodes_fit s in
      let y : List ℕ = part s (12 + 52 * k + 52) (52 * (count_of s - 1 - k)) in
      let m : length (part s (12 + 52 * k + 52) (52 * (count_of s - 1 - k))) ≡ 52 * (count_of s - 1 - k) = simp (length-take, length-drop) (omega arith) in
      let i : 12 + 52 * k + length (part s (12 + 52 * k + 52) (52 * (count_of s - 1 - k))) ≡ 12 + 52 * (count_of s - 1) = omega arith in
      let t : List ℕ = over s (12 + 52 * k) (part s (12 + 52 * k + 52) (52 * (count_of s - 1 - k))) in
      let l : length (over s (12 + 52 * k) (part s (12 + 52 * k + 52) (52 * (count_of s - 1 - k)))) ≡ length s = length_over s (12 + 52 * k) (part s (12 + 52 * k + 52) (52 * (count_of s - 1 - k))) (omega arith) in
      let n : over s (12 + 52 * k) (part s (12 + 52 * k + 52) (52 * (count_of s - 1 - k)) ++ replicate 52 0) ≡ over (over s (12 + 52 * k) (part s (12 + 52 * k + 52) (52 * (count_of s - 1 - k)))) (12 + 52 * (count_of s - 1)) (replicate 52 0) =
      sym (over_next s (12 + 52 * k) (part s (12 + 52 * k + 52) (52 * (count_of s - 1 - k))) (replicate 52 0) (omega arith))
      ∙ ap (λ (j : ℕ). over (over s (12 + 52 * k) (part s (12 + 52 * k + 52) (52 * (count_of s - 1 - k)))) j (replicate 52 0)) i in
      rw (
        taken_is s k h,
        drop_past_head (over s (12 + 52 * k) (part s (12 + 52 * k + 52) (52 * (count_of s - 1 - k)) ++ replicate 52 0)) (fewer (head_of s)) (12 + 52 * (count_of s - 1)) (rw (length_over s (12 + 52 * k) (part s (12 + 52 * k + 52) (52 * (count_of s - 1 - k)) ++ replicate 52 0) (taken_fits s k h)) (omega arith)) (omega arith),
        n,
      )
      (zeros_from (over s (12 + 52 * k) (part s (12 + 52 * k + 52) (52 * (count_of s - 1 - k)))) (12 + 52 * (count_of s - 1)) (replicate 52 0) (omega arith) (zeros_replicate 52)
      (rw (drop_over_after s (12 + 52 * k) (part s (12 + 52 * k + 52) (52 * (count_of s - 1 - k))) (omega arith) (12 + 52 * (count_of s - 1) + 52) (omega arith))
      (zeros_later s (12 + 52 * count_of s) (12 + 52 * (count_of s - 1) + 52) (omega arith) b)))

  pub blank_taken : Blank s → Blank (taken_bytes s k)
  blank_taken b = go (ltb k (count_of s)) refl
    where
      go : (t : Bool) → ltb k (count_of s) ≡ t → Blank (taken_bytes s k)
      go true e =
          let h : k < count_of s = ltb-true k (count_of s) e in
          subst (λ (i : ℕ). Zeros (drop (12 + 52 * i) (taken_bytes s k))) (sym (count_taken s k h)) (blank_closed h b)
      go false e = subst Blank (sym (not_taken_is s k (ltb-false k (count_of s) e))) b

  pub orderly_taken : Orderly s → Orderly (taken_bytes s k)
  orderly_taken o = record { bytes = bytes_taken s o.bytes k; sorted = rw (nodes_taken s k) (remove_sorted key_of k (nodes_of s) o.sorted); blank = blank_taken o.blank }

-- ---- a state cleared, and a head put back

zeros_number : (t : List ℕ) → Zeros t → le_of t ≡ 0
unfolding le_of
zeros_number [] h = refl
zeros_number (x ∷ t) h = let a : x ≡ 0 = h 0 in let b : le_of t ≡ 0 = zeros_number t (λ i. h (suc i)) in omega arith

zeros_take : (t : List ℕ) (n : ℕ) → Zeros t → Zeros (take n t)
zeros_take t zero h i = refl
zeros_take [] (suc n) h i = refl
zeros_take (x ∷ t) (suc n) h zero = h 0
zeros_take (x ∷ t) (suc n) h (suc i) = zeros_take t n (λ k. h (suc k)) i

zeros_at : (t : List ℕ) (w a : ℕ) → Zeros t → number_at w t a ≡ 0
unfolding number_at
zeros_at t w a h = go (leb (a + w) (length t))
  where
    go : (b : Bool) → cond b (le_of (part t a w)) 0 ≡ 0
    go true = zeros_number (part t a w) (zeros_take (drop a t) w (λ i. get_or-drop a t i 0 ∙ h (a + i)))
    go false = refl

module _ (n : ℕ) where
  pub count_cleared : count_of (replicate n 0) ≡ 0
  unfolding count_of
  count_cleared = rw (zeros_at (replicate n 0) 4 8 (zeros_replicate n), le-ltb (capacity (replicate n 0)) 0 (omega arith)) refl

  -- "A state that was never imported is all zeros: it has no node."
  pub nodes_cleared : nodes_of (replicate n 0) ≡ []
  unfolding nodes_of pieces
  nodes_cleared = rw count_cleared refl

  pub orderly_cleared : Orderly (replicate n 0)
  orderly_cleared = record { bytes = bytes_zeros n; sorted = rw nodes_cleared tt; blank = zeros_later (replicate n 0) 0 (12 + 52 * count_of (replicate n 0)) (omega arith) (zeros_replicate n) }

module _ (s : List ℕ) (h : Head) (l : 12 ≤ length s) (c : h.count ≡ count_of s) where
  pub nodes_headed : nodes_of (with_head s h) ≡ nodes_of s
  unfolding nodes_of
  nodes_headed = nodes_head s h l (rw c (count_fits s)) ∙ rw c refl

  pub orderly_headed : Orderly s → Orderly (with_head s h)
  orderly_headed o =
      record {
        bytes = bytes_head s h o.bytes;
        sorted = rw nodes_headed o.sorted;
        blank =
            subst (λ (i : ℕ). Zeros (drop (12 + 52 * i) (with_head s h))) (sym (count_head s h l (rw c (count_fits s)) ∙ c))
            (rw (drop_past_head s h (12 + 52 * count_of s) l (omega arith)) o.blank);
      }
