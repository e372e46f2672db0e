-- Bytes stay bytes under every change, a node read from bytes fits its fields, and its bytes are given back. Assumes nothing.
use Rattle.std.specs.Prelude.{Option, Some, None}
use mathlib.Core.Path.{◌≡◌, refl, sym, ap₂, ◌∙◌, subst}
use Prim.Native.Nat.{ℕ, zero, suc, ◌+◌, ◌*◌, ◌-◌, ◌/◌, ◌%◌, ◌^◌, ◌≤◌, ◌<◌}
use native.Mathlib.Omega.{arith}
use native.Mathlib.Nat.{pow-succ', mod-lt, mul-le-mul_left, mul-suc}
use mathlib.Core.Bool.{Bool, true, false, cond}
use mathlib.Core.List.{List, [], ◌∷◌, ◌++◌}
use lib.Dec.{ltb, leb}
use lib.ListN.{length, take, drop, get_or, replicate, length-take, length-drop, get_or-eq_default}
use lib.Seq.{take_all, get_or-drop}
use borrow.Author.Tests.{ltb-true, ltb-false}
use Rattle.layers.specs.Bytes.{part, over, le_of, le_bytes, laid, AllBytes}
use Rattle.layers.proofs.Determined.{bytes_drop, bytes_take, parts, again}
use Rattle.merge.specs.declared.node.Node.{Node}
use Rattle.merge.specs.declared.head.Head.{Head}
use Rattle.merge.specs.Nodes.{pairs_of, pair_bytes, node_of, number_bytes, rest_bytes, node_bytes, no_node, count_of, nodes_of, node_at, FitsNode}
use Rattle.merge.specs.Heads.{head_of, head_bytes, with_head, fewer}
use Rattle.merge.specs.Changes.{put_bytes, inserted_bytes, taken_bytes, inserted_at}
use Rattle.merge.proofs.HeadLaws.{in_memory}
use Rattle.merge.proofs.StateLaws.{length_nodes, node_is}

-- ---- runs of bytes

pub bytes_append : (x y : List ℕ) → AllBytes x → AllBytes y → AllBytes (x ++ y)
unfolding AllBytes
bytes_append [] y h g i = g i
bytes_append (a ∷ x) y h g zero = h 0
bytes_append (a ∷ x) y h g (suc i) = bytes_append x y (λ k. h (suc k)) g i

pub bytes_cons : (a : ℕ) (x : List ℕ) → a < 256 → AllBytes x → AllBytes (a ∷ x)
unfolding AllBytes
bytes_cons a x h g zero = h
bytes_cons a x h g (suc i) = g i

pub bytes_none : AllBytes []
unfolding AllBytes
bytes_none i = omega arith

pub bytes_zeros : (n : ℕ) → AllBytes (replicate n 0)
bytes_zeros zero = bytes_none
bytes_zeros (suc n) = bytes_cons 0 (replicate n 0) (omega arith) (bytes_zeros n)

pub bytes_number : (n x : ℕ) → AllBytes (le_bytes n x)
unfolding le_bytes
bytes_number zero x = bytes_none
bytes_number (suc n) x = bytes_cons (x % 256) (le_bytes n (x / 256)) (mod-lt x (omega arith)) (bytes_number n (x / 256))

pub bytes_over : (t : List ℕ) (a : ℕ) (b : List ℕ) → AllBytes t → AllBytes b → AllBytes (over t a b)
bytes_over t a b h g = bytes_append (take a t ++ b) (drop (a + length b) t) (bytes_append (take a t) b (bytes_take t a h) g) (bytes_drop t (a + length b) h)

pub bytes_laid : (t : List ℕ) (a : ℕ) (b : List ℕ) → AllBytes t → AllBytes b → AllBytes (laid t a b)
unfolding laid
bytes_laid t a b h g = go (leb (a + length b) (length t))
  where
    go : (c : Bool) → AllBytes (cond c (over t a b) t)
    go true = bytes_over t a b h g
    go false = h

pub bytes_part : (t : List ℕ) (a n : ℕ) → AllBytes t → AllBytes (part t a n)
bytes_part t a n h = bytes_take (drop a t) n (bytes_drop t a h)

-- a number is below what its bytes can hold
pub number_bound : (b : List ℕ) → AllBytes b → le_of b < 256 ^ length b
unfolding le_of AllBytes
number_bound [] h = omega arith
number_bound (x ∷ b) h =
    let a : x < 256 = h 0 in
    let c : le_of b < 256 ^ length b = number_bound b (λ i. h (suc i)) in
    let m : 256 * suc (le_of b) ≤ 256 * 256 ^ length b = mul-le-mul_left 256 c in
    rw (pow-succ' 256 (length b)) (omega (arith, mul-suc 256 (le_of b)))

-- ---- a node's bytes

first_four : (b : List ℕ) → 4 ≤ length b → get_or b 0 0 ∷ get_or b 1 0 ∷ get_or b 2 0 ∷ get_or b 3 0 ∷ [] ≡ take 4 b
first_four [] l = absurd (omega arith)
first_four (w ∷ []) l = absurd (omega arith)
first_four (w ∷ x ∷ []) l = absurd (omega arith)
first_four (w ∷ x ∷ y ∷ []) l = absurd (omega arith)
first_four (w ∷ x ∷ y ∷ z ∷ r) l = refl

eight : (b : List ℕ) → 8 ≤ length b → pair_bytes (pairs_of b) ≡ take 8 b
unfolding pairs_of pair_bytes
eight [] l = absurd (omega arith)
eight (a ∷ []) l = absurd (omega arith)
eight (a ∷ b ∷ []) l = absurd (omega arith)
eight (a ∷ b ∷ c ∷ []) l = absurd (omega arith)
eight (a ∷ b ∷ c ∷ d ∷ []) l = absurd (omega arith)
eight (a ∷ b ∷ c ∷ d ∷ e ∷ []) l = absurd (omega arith)
eight (a ∷ b ∷ c ∷ d ∷ e ∷ f ∷ []) l = absurd (omega arith)
eight (a ∷ b ∷ c ∷ d ∷ e ∷ f ∷ g ∷ []) l = absurd (omega arith)
eight (a ∷ b ∷ c ∷ d ∷ e ∷ f ∷ g ∷ h ∷ r) l = refl

module _ (b : List ℕ) (l : length b ≡ 52) where
  marks : get_or b 12 0 ∷ get_or b 13 0 ∷ get_or b 14 0 ∷ get_or b 15 0 ∷ [] ≡ part b 12 4
  marks =
      ap₂ ◌∷◌ (sym (get_or-drop 12 b 0 0)) (ap₂ ◌∷◌ (sym (get_or-drop 12 b 1 0)) (ap₂ ◌∷◌ (sym (get_or-drop 12 b 2 0)) (ap₂ ◌∷◌ (sym (get_or-drop 12 b 3 0)) refl)))
      ∙ first_four (drop 12 b) (simp length-drop (omega arith))

  pub rest_again : rest_bytes (node_of b) ≡ part b 12 40
  unfolding rest_bytes node_of
  rest_again = ap₂ ◌++◌ (ap₂ ◌++◌ marks (eight (drop 16 b) (simp length-drop (omega arith))) ∙ parts b 12 4 8) refl ∙ parts b 12 12 28

  module _ (h : AllBytes b) where
    numbers_again : number_bytes (node_of b) ≡ part b 0 12
    unfolding number_bytes node_of
    numbers_again = ap₂ ◌++◌ (ap₂ ◌++◌ (again b h 0 4 (omega arith)) (again b h 4 4 (omega arith)) ∙ parts b 0 4 4) (again b h 8 4 (omega arith)) ∙ parts b 0 8 4

    -- "every byte of a node's place is a field"
    pub node_again : node_bytes (node_of b) ≡ b
    unfolding node_bytes
    node_again = ap₂ ◌++◌ numbers_again rest_again ∙ (parts b 0 12 40 ∙ take_all 52 b (omega arith))

    number_fit : (a : ℕ) → a + 4 ≤ 52 → le_of (part b a 4) < 4294967296
    number_fit a g =
        let k : length (part b a 4) ≡ 4 = simp (length-take, length-drop) (omega arith) in
        subst (λ (n : ℕ). le_of (part b a 4) < 256 ^ n) k (number_bound (part b a 4) (bytes_part b a 4 h))

    -- what was read fits
    pub read_fits : FitsNode (node_of b)
    unfolding node_of pairs_of
    read_fits =
        record {
          numbers = record { number_fits = number_fit 0 (omega arith); parent_fits = number_fit 4 (omega arith); count_fits = number_fit 8 (omega arith) };
          arrays = record { stack_fits = refl; name_fits = simp (length-take, length-drop) (omega arith) };
        }

    pub read_bytes : AllBytes (rest_bytes (node_of b))
    read_bytes = rw rest_again (bytes_part b 12 40 h)

pub no_node_fits : FitsNode no_node
no_node_fits = record { numbers = record { number_fits = omega arith; parent_fits = omega arith; count_fits = omega arith }; arrays = record { stack_fits = refl; name_fits = refl } }

pub no_node_bytes : AllBytes (rest_bytes no_node)
unfolding rest_bytes pair_bytes
no_node_bytes = bytes_zeros 40

-- a node of which every field fits
pub record Whole (n : Node) : Type 0 where
  pub fits : FitsNode n
  pub bytes : AllBytes (rest_bytes n)

-- ---- the nodes of a state

module _ (s : List ℕ) (h : AllBytes s) where
  pub node_whole : (j : ℕ) → Whole (node_at (nodes_of s) j)
  node_whole j = go (ltb j (count_of s)) refl
    where
      go : (b : Bool) → ltb j (count_of s) ≡ b → Whole (node_at (nodes_of s) j)
      go true e =
          let l : j < count_of s = ltb-true j (count_of s) e in
          let m : 52 * j + 64 ≤ length s = in_memory s j l in
          let k : length (part s (12 + 52 * j) 52) ≡ 52 = simp (length-take, length-drop) (omega arith) in
          let g : AllBytes (part s (12 + 52 * j) 52) = bytes_part s (12 + 52 * j) 52 h in
          rw (node_is s j l) (record { fits = read_fits (part s (12 + 52 * j) 52) k g; bytes = read_bytes (part s (12 + 52 * j) 52) k g })
      go false e =
          let l : count_of s ≤ j = ltb-false j (count_of s) e in
          rw (get_or-eq_default (nodes_of s) no_node {n = j} (rw (length_nodes s) l)) (record { fits = no_node_fits; bytes = no_node_bytes })

pub bytes_node : (n : Node) → AllBytes (rest_bytes n) → AllBytes (node_bytes n)
unfolding node_bytes number_bytes
bytes_node n h =
    bytes_append (le_bytes 4 n.number ++ le_bytes 4 n.parent ++ le_bytes 4 n.count) (rest_bytes n)
    (bytes_append (le_bytes 4 n.number ++ le_bytes 4 n.parent) (le_bytes 4 n.count) (bytes_append (le_bytes 4 n.number) (le_bytes 4 n.parent) (bytes_number 4 n.number) (bytes_number 4 n.parent)) (bytes_number 4 n.count))
    h

pub bytes_head : (s : List ℕ) (h : Head) → AllBytes s → AllBytes (with_head s h)
unfolding head_bytes
bytes_head s h b = bytes_laid s 0 (head_bytes h) b (bytes_append (le_bytes 8 h.next) (le_bytes 4 h.count) (bytes_number 8 h.next) (bytes_number 4 h.count))

module _ (s : List ℕ) (h : AllBytes s) where
  pub bytes_put : (j : ℕ) (n : Node) → AllBytes (rest_bytes n) → AllBytes (put_bytes s j n)
  unfolding put_bytes
  bytes_put j n g = go (ltb j (count_of s))
    where
      go : (b : Bool) → AllBytes (cond b (over s (12 + 52 * j) (node_bytes n)) s)
      go true = bytes_over s (12 + 52 * j) (node_bytes n) h (bytes_node n g)
      go false = h

  pub bytes_inserted : (n : Node) (d : Head) (f : Option ℕ) → AllBytes (rest_bytes n) → AllBytes (inserted_at s n d f)
  unfolding inserted_at inserted_bytes
  bytes_inserted n d (Some k) g =
      bytes_head (over s (12 + 52 * k) (node_bytes n ++ part s (12 + 52 * k) (52 * (count_of s - k)))) d
      (bytes_over s (12 + 52 * k) (node_bytes n ++ part s (12 + 52 * k) (52 * (count_of s - k))) h (bytes_append (node_bytes n) (part s (12 + 52 * k) (52 * (count_of s - k))) (bytes_node n g) (bytes_part s (12 + 52 * k) (52 * (count_of s - k)) h)))
  bytes_inserted n d None g = h

  pub bytes_taken : (k : ℕ) → AllBytes (taken_bytes s k)
  unfolding taken_bytes
  bytes_taken k = go (ltb k (count_of s))
    where
      go : (b : Bool) → AllBytes (cond b (with_head (over s (12 + 52 * k) (part s (12 + 52 * k + 52) (52 * (count_of s - 1 - k)) ++ replicate 52 0)) (fewer (head_of s))) s)
      go true =
          bytes_head (over s (12 + 52 * k) (part s (12 + 52 * k + 52) (52 * (count_of s - 1 - k)) ++ replicate 52 0)) (fewer (head_of s))
          (bytes_over s (12 + 52 * k) (part s (12 + 52 * k + 52) (52 * (count_of s - 1 - k)) ++ replicate 52 0) h (bytes_append (part s (12 + 52 * k + 52) (52 * (count_of s - 1 - k))) (replicate 52 0) (bytes_part s (12 + 52 * k + 52) (52 * (count_of s - 1 - k)) h) (bytes_zeros 52)))
      go false = h
