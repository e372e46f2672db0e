-- A node read from its bytes, laid over them, and changed. Assumes nothing.
use mathlib.Core.Path.{◌≡◌, refl, sym, ap, ◌∙◌}
use Prim.Native.Nat.{ℕ, zero, suc, ◌+◌, ◌*◌, ◌≤◌, ◌<◌}
use native.Mathlib.Omega.{arith}
use native.Mathlib.Nat.{add_assoc}
use mathlib.Core.List.{List, [], ◌∷◌, ◌++◌, map}
use lib.ListN.{length, take, drop, get_or, replicate, length-append, length-take, length-drop}
use lib.Seq.{take_all, drop_at}
use Rattle.layers.specs.Bytes.{part, over, le_of, le_bytes, number_at, laid}
use Rattle.layers.proofs.Numbers.{le_read, length_le, number_in, laid_in}
use Rattle.layers.proofs.Runs.{over_all}
use Rattle.layers.proofs.ItemLaws.{laid_next, three_laid}
use Rattle.merge.specs.declared.stacks.Pair.{Pair}
use Rattle.merge.specs.declared.node.Node.{Node}
use Rattle.merge.specs.Nodes.{pairs_of, pair_bytes, node_of, number_bytes, rest_bytes, node_bytes, FitsNumbers, FitsArrays, FitsNode}

-- ---- reading

-- that an array has its length is known of what its elements are mapped to
pub unmapped : {A B : Type 0} (f : A → B) (l : List A) (n : ℕ) → length (map f l) ≡ n → length l ≡ n
unmapped f [] n h = h
unmapped f (x ∷ xs) zero h = absurd (omega arith)
unmapped f (x ∷ xs) (suc n) h = ap suc (unmapped f xs n (omega arith))

pub name_copied : (b u : List ℕ) → length b ≡ 52 → u ≡ laid (replicate 28 0) 0 (take 28 (drop 24 b)) → u ≡ part b 24 28
name_copied b u h e =
    let k : length (part b 24 28) ≡ 28 = simp (length-take, length-drop, h) in
    over_all (replicate 28 0) (part b 24 28) u (sym k) (e ∙ laid_in (replicate 28 0) 0 (part b 24 28) (omega arith))

pub node_fields : (b : List ℕ) (p q c : ℕ) (s : List Pair) (x : List ℕ) → length b ≡ 52 → s ≡ pairs_of (drop 16 b) → x ≡ part b 24 28 → p ≡ number_at 4 b 0 → q ≡ number_at 4 b 4 → c ≡ number_at 4 b 8
    → record { number = p; parent = q; count = c; white = get_or b 12 0; loaded = get_or b 13 0; depth = get_or b 14 0; length = get_or b 15 0; stack = s; name = x } ≡ node_of b
unfolding node_of
node_fields b p q c s x h e f e₁ e₂ e₃ = rw (e, f, e₁, e₂, e₃, number_in 4 b 0 (omega arith), number_in 4 b 4 (omega arith), number_in 4 b 8 (omega arith)) refl

-- ---- writing

pub length_pairs : (ps : List Pair) → length (pair_bytes ps) ≡ 2 * length ps
unfolding pair_bytes
length_pairs [] = refl
length_pairs (p ∷ ps) = omega (arith, length_pairs ps)

pub pairs_read : (ps : List Pair) (x : List ℕ) → length ps ≡ 4 → pairs_of (pair_bytes ps ++ x) ≡ ps
unfolding pairs_of pair_bytes
pairs_read [] x h = absurd (omega arith)
pairs_read (p ∷ []) x h = absurd (omega arith)
pairs_read (p ∷ q ∷ []) x h = absurd (omega arith)
pairs_read (p ∷ q ∷ r ∷ []) x h = absurd (omega arith)
pairs_read (p ∷ q ∷ r ∷ t ∷ []) x h = refl
pairs_read (p ∷ q ∷ r ∷ t ∷ (u ∷ w)) x h = absurd (omega arith)

pub numbers_laid : (t t₁ t₂ t₃ : List ℕ) (a : ℕ) (n : Node) → a + 12 ≤ length t → t₁ ≡ laid t a (le_bytes 4 n.number)
    → t₂ ≡ laid t₁ (a + 4) (le_bytes 4 n.parent) → t₃ ≡ laid t₂ (a + 8) (le_bytes 4 n.count) → t₃ ≡ over t a (number_bytes n)
unfolding number_bytes
numbers_laid t t₁ t₂ t₃ a n h p q s =
    three_laid t t₁ t₂ t₃ a 4 4 (le_bytes 4 n.number) (le_bytes 4 n.parent) (le_bytes 4 n.count) (length_le 4 n.number) (length_le 4 n.parent) (rw (length_le 4 n.count) (omega arith)) p q (rw (add_assoc a 4 4) s)

pub numbers_fit : (n : Node) → n.number < 4294967296 → n.parent < 4294967296 → n.count < 4294967296 → FitsNumbers n
numbers_fit n a b c = record { number_fits = a; parent_fits = b; count_fits = c }

pub rest_laid : (t t₁ t₂ t₃ : List ℕ) (a : ℕ) (n : Node) (b : List ℕ) → a + 40 ≤ length t → t₁ ≡ laid t a (n.white ∷ n.loaded ∷ n.depth ∷ n.length ∷ [])
    → b ≡ pair_bytes n.stack → t₂ ≡ laid t₁ (a + 4) b → t₃ ≡ laid t₂ (a + 12) n.name → length n.stack ≡ 4 → length n.name ≡ 28 → t₃ ≡ over t a (rest_bytes n)
unfolding rest_bytes
rest_laid t t₁ t₂ t₃ a n b h p d q s k l =
    let m : length (pair_bytes n.stack) ≡ 8 = rw (length_pairs n.stack, k) refl in
    three_laid t t₁ t₂ t₃ a 4 8 (n.white ∷ n.loaded ∷ n.depth ∷ n.length ∷ []) (pair_bytes n.stack) n.name refl m (omega arith) p (rw d at q) (rw (add_assoc a 4 8) s)

pub arrays_fit : (n : Node) → length n.stack ≡ 4 → length n.name ≡ 28 → FitsArrays n
arrays_fit n a b = record { stack_fits = a; name_fits = b }

pub length_numbers : (n : Node) → length (number_bytes n) ≡ 12
unfolding number_bytes
length_numbers n = simp (length-append, length_le)

pub length_node : (n : Node) → FitsArrays n → length (node_bytes n) ≡ 52
unfolding node_bytes rest_bytes
length_node n f =
    let m : length (pair_bytes n.stack) ≡ 8 = rw (length_pairs n.stack, f.stack_fits) refl in
    simp (length-append, length_numbers, m, f.name_fits)

pub node_laid : (t t₁ t₂ : List ℕ) (a : ℕ) (n : Node) → a + 52 ≤ length t → t₁ ≡ over t a (number_bytes n) → t₂ ≡ over t₁ (a + 12) (rest_bytes n) → t₂ ≡ over t a (node_bytes n)
unfolding node_bytes
node_laid t t₁ t₂ a n h p q = laid_next t t₁ t₂ a 12 (number_bytes n) (rest_bytes n) p (length_numbers n) (omega arith) q

pub node_fits : (n : Node) → FitsNumbers n → FitsArrays n → FitsNode n
node_fits n f g = record { numbers = f; arrays = g }

-- what was written is read
pub node_read : (n : Node) → FitsNode n → node_of (node_bytes n) ≡ n
unfolding node_of node_bytes number_bytes rest_bytes le_bytes
node_read n f =
    let p : le_of (le_bytes 4 n.number) ≡ n.number = le_read 4 n.number f.numbers.number_fits in
    let q : le_of (le_bytes 4 n.parent) ≡ n.parent = le_read 4 n.parent f.numbers.parent_fits in
    let c : le_of (le_bytes 4 n.count) ≡ n.count = le_read 4 n.count f.numbers.count_fits in
    let k : length n.stack ≡ 4 = f.arrays.stack_fits in
    let m : length (pair_bytes n.stack) ≡ 8 = rw (length_pairs n.stack, k) refl in
    let l : length n.name ≡ 28 = f.arrays.name_fits in
    rw (p, q, c, pairs_read n.stack n.name k, drop_at (pair_bytes n.stack) n.name 8 m, take_all 28 n.name (omega arith)) refl
