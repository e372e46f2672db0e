-- The nodes, the count and the next number after a change of the bytes. Assumes nothing.
use mathlib.Core.Path.{◌≡◌, refl, sym, ap, ◌∙◌}
use Prim.Native.Nat.{ℕ, suc, ◌+◌, ◌*◌, ◌-◌, ◌≤◌, ◌<◌}
use native.Mathlib.Omega.{arith}
use native.Mathlib.Nat.{add_assoc}
use native.Mathlib.Numerals.{add-one}
use mathlib.Core.Bool.{Bool, true, false}
use mathlib.Core.List.{List, ◌++◌, map, append_assoc, append-nil}
use lib.Dec.{ltb}
use lib.ListN.{length, take, drop, set, replicate, length-append, length-take, length-drop, length-replicate, drop_of_length-le}
use lib.Seq.{take_at, drop_at, drop-drop, take_all, take-take, set_out}
use borrow.Author.Tests.{lt-ltb, le-ltb, ltb-true, ltb-false, leb-false}
use Rattle.layers.specs.Bytes.{part, over, le_of, le_bytes, number_at}
use Rattle.layers.specs.Items.{pieces}
use Rattle.layers.proofs.Numbers.{le_read, length_le, number_in, laid_in, length_laid}
use Rattle.layers.proofs.Runs.{drop_take, drop_over, drop_over_after, take_over, length_over}
use Rattle.layers.proofs.Pieces.{map_set, pieces_set}
use Rattle.layers.proofs.PieceMoves.{insert_at, remove_at, pieces_insert, pieces_remove, map_insert, map_remove}
use Rattle.merge.specs.declared.node.Node.{Node}
use Rattle.merge.specs.declared.head.Head.{Head}
use Rattle.merge.specs.Nodes.{node_of, node_bytes, capacity, count_of, nodes_of, FitsNode}
use Rattle.merge.specs.Methods.{fallen}
use Rattle.merge.specs.Heads.{next_of, head_of, head_bytes, with_head, fewer, full}
use Rattle.merge.specs.Changes.{put_bytes, inserted_bytes, taken_bytes}
use Rattle.merge.proofs.NodeLaws.{node_read, length_node}
use Rattle.merge.proofs.HeadLaws.{length_head, capacity_same, capacity_fits, capacity_most, count_fits, nodes_fit, in_memory}
use Rattle.merge.proofs.StateLaws.{length_nodes}

-- ---- the head put back

module _ (u : List ℕ) (h : Head) (l : 12 ≤ length u) where
  head_over : with_head u h ≡ over u 0 (head_bytes h)
  head_over = laid_in u 0 (head_bytes h) (rw (length_head h) l)

  head_front : over u 0 (head_bytes h) ≡ le_bytes 8 h.next ++ (le_bytes 4 h.count ++ drop (0 + length (head_bytes h)) u)
  unfolding head_bytes
  head_front = append_assoc (le_bytes 8 h.next) (le_bytes 4 h.count) (drop (0 + length (head_bytes h)) u)

  pub drop_head : drop 12 (with_head u h) ≡ drop 12 u
  drop_head = rw head_over (drop_over_after u 0 (head_bytes h) (rw (length_head h) l) 12 (rw (length_head h) (omega arith)))

  pub next_head : h.next < 18446744073709551616 → next_of (with_head u h) ≡ h.next
  next_head w =
      number_in 8 (with_head u h) 0 (rw (length_laid u 0 (head_bytes h)) (omega arith))
      ∙ (ap le_of (ap (λ (x : List ℕ). take 8 x) (head_over ∙ head_front) ∙ take_at (le_bytes 8 h.next) (le_bytes 4 h.count ++ drop (0 + length (head_bytes h)) u) 8 (length_le 8 h.next))
      ∙ le_read 8 h.next w)

  module _ (w : h.count ≤ capacity u) where
    pub count_head : count_of (with_head u h) ≡ h.count
    unfolding count_of
    count_head =
        let m : capacity (with_head u h) ≡ capacity u = capacity_same (with_head u h) u (length_laid u 0 (head_bytes h)) in
        let r : number_at 4 (with_head u h) 8 ≡ h.count =
        number_in 4 (with_head u h) 8 (rw (length_laid u 0 (head_bytes h)) (omega arith))
        ∙ (ap le_of
        (ap (λ (x : List ℕ). part x 8 4) (head_over ∙ head_front)
        ∙ (ap (λ (x : List ℕ). take 4 x) (drop_at (le_bytes 8 h.next) (le_bytes 4 h.count ++ drop (0 + length (head_bytes h)) u) 8 (length_le 8 h.next))
        ∙ take_at (le_bytes 4 h.count) (drop (0 + length (head_bytes h)) u) 4 (length_le 4 h.count)))
        ∙ le_read 4 h.count (omega (arith, capacity_most u))) in
        rw (m, r, le-ltb (capacity u) h.count w) refl

    -- the nodes are those that the new count says
    pub nodes_head : nodes_of (with_head u h) ≡ map node_of (pieces 52 h.count (drop 12 u))
    unfolding nodes_of
    nodes_head = rw (count_head, drop_head) refl

-- ---- a node changed

pub count_same : (s u : List ℕ) → length u ≡ length s → take 12 u ≡ take 12 s → 12 ≤ length s → count_of u ≡ count_of s
unfolding count_of
count_same s u l e h =
    let m : capacity u ≡ capacity s = capacity_same u s l in
    let f : part u 8 4 ≡ part s 8 4 = sym (drop_take u 8 4 (omega arith)) ∙ (ap (λ (x : List ℕ). drop 8 x) e ∙ drop_take s 8 4 (omega arith)) in
    rw (m, number_in 4 u 8 (omega arith), number_in 4 s 8 (omega arith), f) refl

pub next_same : (s u : List ℕ) → length u ≡ length s → take 12 u ≡ take 12 s → 12 ≤ length s → next_of u ≡ next_of s
next_same s u l e h =
    let f : part u 0 8 ≡ part s 0 8 = sym (take-take 8 12 u (omega arith)) ∙ (ap (λ (x : List ℕ). take 8 x) e ∙ take-take 8 12 s (omega arith)) in
    rw (number_in 8 u 0 (omega arith), number_in 8 s 0 (omega arith), f) refl

module _ (s : List ℕ) (j : ℕ) (n : Node) (f : FitsNode n) where
  put_in_range : j < count_of s → put_bytes s j n ≡ over s (12 + 52 * j) (node_bytes n)
  unfolding put_bytes
  put_in_range h = rw (lt-ltb j (count_of s) h) refl

  put_outside : count_of s ≤ j → put_bytes s j n ≡ s
  unfolding put_bytes
  put_outside h = rw (le-ltb j (count_of s) h) refl

  put_fits : j < count_of s → 12 + 52 * j + length (node_bytes n) ≤ length s
  put_fits h = rw (length_node n f.arrays) (omega (arith, in_memory s j h))

  either : {P : Type 0} → (j < count_of s → P) → (count_of s ≤ j → P) → P
  either {P} a b = go (ltb j (count_of s)) refl
    where
      go : (t : Bool) → ltb j (count_of s) ≡ t → P
      go true e = a (ltb-true j (count_of s) e)
      go false e = b (ltb-false j (count_of s) e)

  pub length_put : length (put_bytes s j n) ≡ length s
  length_put = either (λ h. ap length (put_in_range h) ∙ length_over s (12 + 52 * j) (node_bytes n) (put_fits h)) (λ h. ap length (put_outside h))

  put_head_same : j < count_of s → take 12 (put_bytes s j n) ≡ take 12 s
  put_head_same h = ap (λ (x : List ℕ). take 12 x) (put_in_range h) ∙ take_over s (12 + 52 * j) (node_bytes n) (put_fits h) 12 (omega arith)

  pub count_put : count_of (put_bytes s j n) ≡ count_of s
  count_put = either (λ h. count_same s (put_bytes s j n) length_put (put_head_same h) (omega (arith, in_memory s j h))) (λ h. ap count_of (put_outside h))

  pub next_put : next_of (put_bytes s j n) ≡ next_of s
  next_put = either (λ h. next_same s (put_bytes s j n) length_put (put_head_same h) (omega (arith, in_memory s j h))) (λ h. ap next_of (put_outside h))

  -- "changed": the node at its place, all others as they were
  pub nodes_put : nodes_of (put_bytes s j n) ≡ set (nodes_of s) j n
  nodes_put = either here (λ h. ap nodes_of (put_outside h) ∙ sym (set_out (nodes_of s) j n (rw (length_nodes s) h)))
    where
      here : j < count_of s → nodes_of (put_bytes s j n) ≡ set (nodes_of s) j n
      here h = unfold nodes_of in
          rw (
            count_put,
            put_in_range h,
            drop_over s 12 (52 * j) (node_bytes n) (put_fits h),
            pieces_set 52 (count_of s) (drop 12 s) j (node_bytes n) (length_node n f.arrays) h (simp length-drop (nodes_fit s)),
            map_set node_of (pieces 52 (count_of s) (drop 12 s)) j (node_bytes n),
            node_read n f,
          )
          refl

-- ---- a node put in at place `k`

pub not_full : (s : List ℕ) → full s ≡ false → count_of s < capacity s
unfolding full
not_full s e = leb-false (capacity s) (count_of s) e

module _ (s : List ℕ) (k : ℕ) (n : Node) (h : Head) (f : FitsNode n) (l : k ≤ count_of s) (w : count_of s < capacity s) where
  abbrev inner : List ℕ
  inner = over s (12 + 52 * k) (node_bytes n ++ part s (12 + 52 * k) (52 * (count_of s - k)))

  room : 52 * count_of s + 64 ≤ length s
  room = omega (arith, capacity_fits s)

  insert_fits : 12 + 52 * k + length (node_bytes n ++ part s (12 + 52 * k) (52 * (count_of s - k))) ≤ length s
  insert_fits = let r : 52 * count_of s + 64 ≤ length s = room in simp (length-append, length-take, length-drop, length_node n f.arrays) (omega arith)

  length_inner : length inner ≡ length s
  length_inner = length_over s (12 + 52 * k) (node_bytes n ++ part s (12 + 52 * k) (52 * (count_of s - k))) insert_fits

  inner_head : 12 ≤ length inner
  inner_head = rw length_inner (omega (arith, room))

  pub length_inserted : length (inserted_bytes s k n h) ≡ length s
  unfolding inserted_bytes
  length_inserted = length_laid inner 0 (head_bytes h) ∙ length_inner

  pub next_inserted : h.next < 18446744073709551616 → next_of (inserted_bytes s k n h) ≡ h.next
  unfolding inserted_bytes
  next_inserted e = next_head inner h inner_head e

  module _ (c : h.count ≡ count_of s + 1) where
    count_room : h.count ≤ capacity inner
    count_room = rw (c, capacity_same inner s length_inner) (omega arith)

    pub count_inserted : count_of (inserted_bytes s k n h) ≡ count_of s + 1
    unfolding inserted_bytes
    count_inserted = count_head inner h inner_head count_room ∙ c

    pub nodes_inserted : nodes_of (inserted_bytes s k n h) ≡ insert_at k n (nodes_of s)
    unfolding inserted_bytes nodes_of
    nodes_inserted =
        let r : 52 * count_of s + 64 ≤ length s = room in
        let g : part s (12 + 52 * k) (52 * (count_of s - k)) ≡ part (drop 12 s) (52 * k) (52 * (count_of s - k)) = ap (λ (z : List ℕ). take (52 * (count_of s - k)) z) (sym (drop-drop (52 * k) 12 s)) in
        let i : pieces 52 (count_of s + 1) (drop 12 inner) ≡ insert_at k (node_bytes n) (pieces 52 (count_of s) (drop 12 s)) =
        rw (drop_over s 12 (52 * k) (node_bytes n ++ part s (12 + 52 * k) (52 * (count_of s - k))) insert_fits, g, add-one (count_of s))
        (pieces_insert 52 (count_of s) (drop 12 s) k (node_bytes n) (length_node n f.arrays) l (simp length-drop (omega arith))) in
        nodes_head inner h inner_head count_room
        ∙ (ap (λ (m : ℕ). map node_of (pieces 52 m (drop 12 inner))) c
        ∙ (ap (map node_of) i
        ∙ (map_insert node_of (pieces 52 (count_of s) (drop 12 s)) k (node_bytes n) ∙ ap (λ (z : Node). insert_at k z (map node_of (pieces 52 (count_of s) (drop 12 s)))) (node_read n f))))

-- ---- a node taken out

remove_past : {A : Type 0} (k : ℕ) (l : List A) → length l ≤ k → remove_at k l ≡ l
remove_past k l h = rw (take_all k l h, drop_of_length-le l {i = suc k} (omega arith)) (append-nil l)

module _ (s : List ℕ) (k : ℕ) where
  pub not_taken_is : count_of s ≤ k → taken_bytes s k ≡ s
  unfolding taken_bytes
  not_taken_is h = rw (le-ltb k (count_of s) h) refl

  module _ (h : k < count_of s) where
    abbrev rest : List ℕ
    rest = part s (12 + 52 * k + 52) (52 * (count_of s - 1 - k)) ++ replicate 52 0

    abbrev closed : List ℕ
    closed = over s (12 + 52 * k) rest

    pub taken_is : taken_bytes s k ≡ with_head closed (fewer (head_of s))
    unfolding taken_bytes
    taken_is = rw (lt-ltb k (count_of s) h) refl

    length_moved : length (part s (12 + 52 * k + 52) (52 * (count_of s - 1 - k))) ≡ 52 * (count_of s - 1 - k)
    length_moved = let w : 52 * count_of s ≤ length s - 12 = nodes_fit s in simp (length-take, length-drop) (omega arith)

    pub taken_fits : 12 + 52 * k + length rest ≤ length s
    taken_fits = let w : 52 * count_of s ≤ length s - 12 = nodes_fit s in simp (length-append, length_moved, length-replicate) (omega arith)

    length_closed : length closed ≡ length s
    length_closed = length_over s (12 + 52 * k) rest taken_fits

    closed_head : 12 ≤ length closed
    closed_head = rw length_closed (omega (arith, nodes_fit s))

    fewer_count : (fewer (head_of s)).count ≡ count_of s - 1
    unfolding fallen
    fewer_count = rw (le-ltb (count_of s) 1 (omega arith)) refl

    fewer_room : (fewer (head_of s)).count ≤ capacity closed
    fewer_room = rw (fewer_count, capacity_same closed s length_closed) (omega (arith, count_fits s))

    taken_count : count_of (taken_bytes s k) ≡ count_of s - 1
    taken_count = ap count_of taken_is ∙ (count_head closed (fewer (head_of s)) closed_head fewer_room ∙ fewer_count)

    taken_nodes : nodes_of (taken_bytes s k) ≡ remove_at k (nodes_of s)
    unfolding nodes_of
    taken_nodes =
        let w : 52 * count_of s ≤ length s - 12 = nodes_fit s in
        let g : part s (12 + 52 * k + 52) (52 * (count_of s - 1 - k)) ≡ part (drop 12 s) (52 * k + 52) (52 * (count_of s - 1 - k)) =
        ap (λ (z : List ℕ). take (52 * (count_of s - 1 - k)) z) (rw (add_assoc 12 (52 * k) 52) (sym (drop-drop (52 * k + 52) 12 s))) in
        let j : suc (count_of s - 1) ≡ count_of s = omega arith in
        let i : pieces 52 (count_of s - 1) (drop 12 closed) ≡ remove_at k (pieces 52 (count_of s) (drop 12 s)) =
        rw (drop_over s 12 (52 * k) rest taken_fits, g)
        (pieces_remove 52 (count_of s - 1) (drop 12 s) k (replicate 52 0) refl (omega arith) (simp length-drop (omega arith)) ∙ ap (λ (z : ℕ). remove_at k (pieces 52 z (drop 12 s))) j) in
        ap nodes_of taken_is
        ∙ (nodes_head closed (fewer (head_of s)) closed_head fewer_room
        ∙ (ap (λ (m : ℕ). map node_of (pieces 52 m (drop 12 closed))) fewer_count ∙ (ap (map node_of) i ∙ map_remove node_of (pieces 52 (count_of s) (drop 12 s)) k)))

    taken_next : next_of s < 18446744073709551616 → next_of (taken_bytes s k) ≡ next_of s
    taken_next e = ap next_of taken_is ∙ next_head closed (fewer (head_of s)) closed_head e

    taken_length : length (taken_bytes s k) ≡ length s
    taken_length = ap length taken_is ∙ (length_laid closed 0 (head_bytes (fewer (head_of s))) ∙ length_closed)

  in_or_out : {P : Type 0} → (k < count_of s → P) → (count_of s ≤ k → P) → P
  in_or_out {P} a b = go (ltb k (count_of s)) refl
    where
      go : (t : Bool) → ltb k (count_of s) ≡ t → P
      go true e = a (ltb-true k (count_of s) e)
      go false e = b (ltb-false k (count_of s) e)

  pub length_taken : length (taken_bytes s k) ≡ length s
  length_taken = in_or_out taken_length (λ h. ap length (not_taken_is h))

  pub count_taken : k < count_of s → count_of (taken_bytes s k) ≡ count_of s - 1
  count_taken = taken_count

  pub next_taken : next_of s < 18446744073709551616 → next_of (taken_bytes s k) ≡ next_of s
  next_taken e = in_or_out (λ h. taken_next h e) (λ h. ap next_of (not_taken_is h))

  pub nodes_taken : nodes_of (taken_bytes s k) ≡ remove_at k (nodes_of s)
  nodes_taken = in_or_out taken_nodes (λ h. ap nodes_of (not_taken_is h) ∙ sym (remove_past k (nodes_of s) (rw (length_nodes s) h)))
