-- The nodes in lent memory: one read, its fields in place, and the walks over them. Assumes nothing.
use Rattle.std.specs.Prelude.{Option, Some, None, position}
use Rattle.std.specs.List.{position_or_len, slice_range}
use Rattle.std.specs.Simd.{first_chunks}
use Rattle.std.proofs.lemmas.List.{drop-map, take_rest, take_min}
use Rattle.std.specs.declared.cmp.Ordering.{Ordering}
use Rattle.std.specs.declared.cmp.Ordering.TheVariants.{Less, Equal, Greater}
use mathlib.Core.Path.{◌≡◌, refl, sym, ap, ap₂, ◌∙◌}
use Prim.Native.Nat.{ℕ, zero, suc, min, ◌+◌, ◌*◌, ◌-◌, ◌/◌, ◌≤◌, ◌<◌}
use native.Mathlib.Omega.{arith}
use native.Mathlib.Nat.{add-zero, zero-add}
use native.Mathlib.Numerals.{add-one}
use mathlib.Core.Bool.{Bool, true, false, not, cond}
use mathlib.Core.List.{List, [], ◌∷◌, map}
use lib.Dec.{ltb}
use lib.ListN.{length, take, drop, get_or, length-take, length-drop, length-map, drop_of_length-le}
use lib.Seq.{take_all, take-take, drop-drop, drop-cons}
use borrow.Author.Tests.{lt-ltb, le-ltb, ltb-true, ltb-false}
use Rattle.layers.specs.Bytes.{part}
use Rattle.layers.specs.Items.{pieces}
use Rattle.layers.specs.Names.{Name, order_of}
use Rattle.layers.specs.Search.{first_from}
use Rattle.layers.specs.Order.{spot_from, spot_step}
use Rattle.layers.proofs.Pieces.{piece_at, length_pieces}
use Rattle.layers.proofs.ItemLaws.{get_d_map}
use Rattle.merge.specs.declared.node.Node.{Node}
use Rattle.merge.specs.Nodes.{node_of, count_of, nodes_of, node_at, no_node, node_name, key_of, bytes_at}
use Rattle.merge.proofs.HeadLaws.{in_memory}

-- ---- how many

pub length_nodes : (s : List ℕ) → length (nodes_of s) ≡ count_of s
unfolding nodes_of
length_nodes s = length-map (pieces 52 (count_of s) (drop 12 s)) node_of ∙ length_pieces 52 (count_of s) (drop 12 s)

-- as many as a callee counted
pub nodes_are : (s : List ℕ) (c : ℕ) → c ≡ count_of s → length (nodes_of s) ≡ c
nodes_are s c e = length_nodes s ∙ sym e

-- ---- the nodes' bytes, as pieces of the memory

pieces_taken : (w m n : ℕ) (t : List ℕ) → m ≤ n → take m (first_chunks w n t) ≡ pieces w m t
unfolding pieces
pieces_taken w zero n t h = refl
pieces_taken w (suc m) zero t h = absurd (omega arith)
pieces_taken w (suc m) (suc n) t h = ap (λ (r : List (List ℕ)). take w t ∷ r) (pieces_taken w m n (drop w t) (omega arith))

module _ (s : List ℕ) (c : ℕ) (q : c ≡ count_of s) where
  pub none_lent : c ≡ 0 → [] ≡ pieces 52 (count_of s) (drop 12 s)
  unfolding pieces
  none_lent h = rw (← q, h) refl

  pub nodes_lent : (t : List ℕ) (bs : List (List ℕ)) → t ≡ take (length s - 12) (drop 12 s) → bs ≡ first_chunks 52 (length t / 52) t → 52 * c ≤ length s - 12 → take c bs ≡ pieces 52 (count_of s) (drop 12 s)
  nodes_lent t bs e f h =
      let d : t ≡ drop 12 s = e ∙ take_all (length s - 12) (drop 12 s) (simp length-drop (omega arith)) in
      let l : c ≤ length t / 52 = rw (d, length-drop) (omega arith) in
      rw (f, pieces_taken 52 c (length t / 52) t l, d, q) refl

pub nodes_read : (s : List ℕ) (bs : List (List ℕ)) → bs ≡ pieces 52 (count_of s) (drop 12 s) → map node_of bs ≡ nodes_of s
unfolding nodes_of
nodes_read s bs e = ap (map node_of) e

-- the one at place `j`
pub lent_node : (bs : List (List ℕ)) (j : ℕ) → j < length bs → node_at (map node_of bs) j ≡ node_of (get_or bs j [])
lent_node bs j h = get_d_map node_of bs j no_node [] h

-- ---- one node read

module _ (s : List ℕ) (j : ℕ) (h : j < count_of s) where
  -- where the node at place `j` lies
  pub node_is : node_at (nodes_of s) j ≡ node_of (part s (12 + 52 * j) 52)
  unfolding nodes_of
  node_is =
      get_d_map node_of (pieces 52 (count_of s) (drop 12 s)) j no_node [] (rw (length_pieces 52 (count_of s) (drop 12 s)) h)
      ∙ ap node_of (piece_at 52 (count_of s) (drop 12 s) j h ∙ ap (λ (x : List ℕ). take 52 x) (drop-drop (52 * j) 12 s))

  bytes_at_is : bytes_at s j ≡ part s (12 + 52 * j) 52
  unfolding bytes_at
  bytes_at_is = rw (lt-ltb j (count_of s) h) refl

  pub bytes_here : (bs : List (List ℕ)) (x : List ℕ) → bs ≡ pieces 52 (count_of s) (drop 12 s) → x ≡ get_or bs j [] → x ≡ bytes_at s j
  bytes_here bs x e f = f ∙ (ap (λ (l : List (List ℕ)). get_or l j []) e ∙ (piece_at 52 (count_of s) (drop 12 s) j h ∙ (ap (λ (l : List ℕ). take 52 l) (drop-drop (52 * j) 12 s) ∙ sym bytes_at_is)))

  pub bytes_of_node : node_of (bytes_at s j) ≡ node_at (nodes_of s) j
  bytes_of_node = ap node_of bytes_at_is ∙ sym node_is

  pub length_bytes : length (bytes_at s j) ≡ 52
  length_bytes = ap length bytes_at_is ∙ simp (length-take, length-drop) (omega (arith, in_memory s j h))

pub bytes_past : (s : List ℕ) (j : ℕ) → count_of s ≤ j → [] ≡ bytes_at s j
unfolding bytes_at
bytes_past s j h = rw (le-ltb j (count_of s) h) refl

-- how many are lent
pub lent_many : (s : List ℕ) (bs : List (List ℕ)) → bs ≡ pieces 52 (count_of s) (drop 12 s) → length bs ≡ count_of s
lent_many s bs e = ap length e ∙ length_pieces 52 (count_of s) (drop 12 s)

-- ---- a name in a node's bytes

pub name_cut : (b : List ℕ) (n : ℕ) → length b ≡ 52 → n ≡ min (get_or b 15 0) 28 → take n (drop 24 b) ≡ node_name (node_of b)
unfolding node_of
name_cut b n h e =
    let l : length (take 28 (drop 24 b)) ≡ 28 = simp (length-take, length-drop) (omega arith) in
    sym (sym (take_min (get_or b 15 0) (take 28 (drop 24 b))) ∙ (ap (λ (i : ℕ). take (min (get_or b 15 0) i) (take 28 (drop 24 b))) l ∙ (ap (λ (i : ℕ). take i (take 28 (drop 24 b))) (sym e) ∙ take-take n 28 (drop 24 b) (omega arith))))

-- ---- the tests of a search

-- the library's search from the first place on, among what the nodes are read from
ltb_suc : (n m : ℕ) → ltb n m ≡ ltb (1 + n) (suc m)
ltb_suc n m = go (ltb n m) refl
  where
    go : (t : Bool) → ltb n m ≡ t → t ≡ ltb (1 + n) (suc m)
    go true e = sym (lt-ltb (1 + n) (suc m) (omega (arith, ltb-true n m e)))
    go false e = sym (le-ltb (1 + n) (suc m) (omega (arith, ltb-false n m e)))

position_from_place : {A B : Type 0} (f : A → B) (p : B → Bool) (xs : List A) (k : ℕ)
    → first_from p k (map f xs) ≡ cond (ltb (position_or_len (λ x. p (f x)) xs) (length xs)) (Some (k + position_or_len (λ x. p (f x)) xs)) None
unfolding first_from
position_from_place f p [] k = refl
position_from_place f p (x ∷ xs) k = go (p (f x)) (position_from_place f p xs (suc k))
  where
    go : (b : Bool) → first_from p (suc k) (map f xs) ≡ cond (ltb (position_or_len (λ x. p (f x)) xs) (length xs)) (Some (suc k + position_or_len (λ x. p (f x)) xs)) None
        → cond b (Some k) (first_from p (suc k) (map f xs)) ≡ cond (ltb (cond (not b) (1 + position_or_len (λ x. p (f x)) xs) 0) (suc (length xs))) (Some (k + cond (not b) (1 + position_or_len (λ x. p (f x)) xs) 0)) None
    go true e = rw (add-zero k, lt-ltb 0 (suc (length xs)) (omega arith)) refl
    go false e =
        let z : suc k + position_or_len (λ x. p (f x)) xs ≡ k + (1 + position_or_len (λ x. p (f x)) xs) = omega arith in
        let l : ltb (position_or_len (λ x. p (f x)) xs) (length xs) ≡ ltb (1 + position_or_len (λ x. p (f x)) xs) (suc (length xs)) = ltb_suc (position_or_len (λ x. p (f x)) xs) (length xs) in
        e ∙ ap₂ (λ (t : Bool) (v : ℕ). cond t (Some v) None) l z

pub position_is : {A B : Type 0} (f : A → B) (p : B → Bool) (xs : List A) (ys : List B) (r : Option ℕ) → map f xs ≡ ys → r ≡ position (λ x. p (f x)) xs → r ≡ first_from p 0 ys
position_is f p xs ys r e q =
    q
    ∙ (ap (λ (v : ℕ). cond (ltb (position_or_len (λ x. p (f x)) xs) (length xs)) (Some v) None) (sym (zero-add (position_or_len (λ x. p (f x)) xs)))
    ∙ (sym (position_from_place f p xs 0) ∙ ap (first_from p 0) e))

-- the same, from place `k` on
abbrev pub behind_first : ℕ → Option ℕ → Option ℕ
behind_first k None = None
behind_first k (Some i) = Some (k + i)

module _ {A : Type 0} (f : A → Node) (p : Node → Bool) (xs : List A) (ns : List Node) (e : map f xs ≡ ns) (k : ℕ) where
  pub past_all : length xs < k → None ≡ first_from p k (drop k ns)
  unfolding first_from
  past_all h = sym (rw (drop_of_length-le ns {i = k} (omega (arith, length-map xs f, ap length e))) refl)

  rest_is : first_from p k (drop k ns) ≡ behind_first k (position (λ x. p (f x)) (drop k xs))
  rest_is =
      ap (λ (l : List Node). first_from p k l) (ap (drop k) (sym e) ∙ drop-map f k xs)
      ∙ (position_from_place f p (drop k xs) k ∙ go (ltb (position_or_len (λ x. p (f x)) (drop k xs)) (length (drop k xs))) (position_or_len (λ x. p (f x)) (drop k xs)))
    where
      go : (t : Bool) (i : ℕ) → cond t (Some (k + i)) None ≡ behind_first k (cond t (Some i) None)
      go true i = refl
      go false i = refl

  pub place_behind : (ys : List A) (r : Option ℕ) → ys ≡ slice_range xs k (length xs) → r ≡ position (λ x. p (f x)) ys → behind_first k r ≡ first_from p k (drop k ns)
  place_behind ys r q h = ap (behind_first k) (h ∙ ap (position (λ x. p (f x))) (q ∙ take_rest xs k)) ∙ sym rest_is

-- ---- the place of a new node

module _ (bs : List (List ℕ)) (ns : List Node) (x : Name) (j : ℕ) (r : Option ℕ) (e : map node_of bs ≡ ns) (inv : spot_from key_of j x (drop j ns) ≡ r) where
  many : length ns ≡ length bs
  many = sym (ap length e) ∙ length-map bs node_of

  pub spot_end : length bs ≤ j → j ≤ length bs → Some (length bs) ≡ r
  unfolding spot_from
  spot_end h l = let z : j ≡ length bs = omega arith in ap Some (sym z) ∙ (sym (rw (drop_of_length-le ns {i = j} (omega (arith, many))) refl) ∙ inv)

  module _ (o : Ordering) (q : o ≡ order_of x (key_of (node_of (get_or bs j [])))) (h : j < length bs) where
    spot_by : (k : Ordering) → o ≡ k → spot_step k j (spot_from key_of (suc j) x (drop (suc j) ns)) ≡ r
    unfolding spot_from
    spot_by k f =
        let n : node_at ns j ≡ node_of (get_or bs j []) = ap (λ (l : List Node). node_at l j) (sym e) ∙ lent_node bs j h in
        let s : spot_from key_of j x (drop j ns) ≡ spot_step (order_of x (key_of (node_at ns j))) j (spot_from key_of (suc j) x (drop (suc j) ns)) =
        rw (drop-cons ns j no_node (omega (arith, many))) refl in
        ap (λ (z : Ordering). spot_step z j (spot_from key_of (suc j) x (drop (suc j) ns))) (sym f ∙ (q ∙ ap (λ (m : Node). order_of x (key_of m)) (sym n))) ∙ (sym s ∙ inv)

    pub spot_before : o ≡ Less → Some j ≡ r
    unfolding spot_step
    spot_before f = spot_by Less f

    pub spot_same : o ≡ Equal → None ≡ r
    unfolding spot_step
    spot_same f = spot_by Equal f

    pub spot_after : o ≡ Greater → spot_from key_of (j + 1) x (drop (j + 1) ns) ≡ r
    unfolding spot_step
    spot_after f = rw (add-one j) (spot_by Greater f)

pub ruleset spot_walk = (spot_end, spot_before, spot_same, spot_after)
