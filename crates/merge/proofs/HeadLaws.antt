-- The head of a state read and written; how many nodes there are and fit. Assumes nothing.
use mathlib.Core.Path.{◌≡◌, refl, sym, ◌∙◌}
use Prim.Native.Nat.{ℕ, ◌+◌, ◌*◌, ◌-◌, ◌/◌, ◌≤◌, ◌<◌}
use native.Mathlib.Omega.{arith}
use mathlib.Core.List.{List}
use lib.ListN.{length, length-append}
use Rattle.layers.specs.Bytes.{least, le_bytes, number_at, laid}
use Rattle.layers.proofs.Numbers.{length_le, laid_in, laid_short}
use Rattle.layers.proofs.ItemLaws.{two_laid}
use Rattle.layers.proofs.Least.{least_left, least_right}
use Rattle.merge.specs.declared.head.Head.{Head}
use Rattle.merge.specs.Nodes.{capacity, count_of}
use Rattle.merge.specs.Heads.{head_bytes, with_head, room_of}

-- ---- how many fit

pub capacity_fits : (s : List ℕ) → 52 * capacity s ≤ length s - 12
unfolding capacity
capacity_fits s = let h : least 4294967295 ((length s - 12) / 52) ≤ (length s - 12) / 52 = least_right 4294967295 ((length s - 12) / 52) in omega arith

pub capacity_most : (s : List ℕ) → capacity s ≤ 4294967295
unfolding capacity
capacity_most s = least_left 4294967295 ((length s - 12) / 52)

pub capacity_same : (s u : List ℕ) → length s ≡ length u → capacity s ≡ capacity u
unfolding capacity
capacity_same s u e = rw e refl

-- ---- how many there are

pub count_fits : (s : List ℕ) → count_of s ≤ capacity s
unfolding count_of
count_fits s = least_left (capacity s) (number_at 4 s 8)

-- the nodes fit
pub nodes_fit : (s : List ℕ) → 52 * count_of s ≤ length s - 12
nodes_fit s = omega (arith, count_fits s, capacity_fits s)

pub count_most : (s : List ℕ) → count_of s ≤ 4294967295
count_most s = omega (arith, count_fits s, capacity_most s)

pub in_memory : (s : List ℕ) (j : ℕ) → j < count_of s → 52 * j + 64 ≤ length s
in_memory s j h = omega (arith, nodes_fit s)

-- ---- the head, from what the callees answer

pub no_room : (s : List ℕ) (n c : ℕ) → n ≡ capacity s → c ≡ count_of s → n < c → 0 ≡ room_of s
no_room s n c p q h = omega arith

pub length_head : (h : Head) → length (head_bytes h) ≡ 12
unfolding head_bytes
length_head h = simp (length-append, length_le)

pub head_short : (s : List ℕ) (h : Head) → length s < 12 → s ≡ with_head s h
head_short s h l = laid_short s 0 (head_bytes h) (rw (length_head h) l)

pub head_laid : (s s₁ s₂ : List ℕ) (h : Head) → 12 ≤ length s → s₁ ≡ laid s 0 (le_bytes 8 h.next) → s₂ ≡ laid s₁ 8 (le_bytes 4 h.count) → s₂ ≡ with_head s h
head_laid s s₁ s₂ h l p q =
    two_laid s s₁ s₂ 0 8 (le_bytes 8 h.next) (le_bytes 4 h.count) (length_le 8 h.next) (rw (length_le 4 h.count) (omega arith)) p q
    ∙ (unfold head_bytes in sym (laid_in s 0 (head_bytes h) (rw (length_head h) l)))
