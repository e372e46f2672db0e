-- Runs moved by one node's length, in the part of the lent state that starts at a node. Assumes nothing.
use mathlib.Core.Path.{◌≡◌, sym, ap, ap₂, ◌∙◌}
use Prim.Native.Nat.{ℕ, ◌+◌, ◌*◌, ◌-◌, ◌≤◌, ◌<◌}
use native.Mathlib.Omega.{arith}
use native.Mathlib.Nat.{add-zero}
use mathlib.Core.List.{List, [], ◌++◌, append-nil}
use lib.ListN.{length, take, drop, replicate, length-take, length-drop, take-append-drop, drop_of_length-le}
use lib.Seq.{paste, take-paste, drop-paste, take_all, drop-drop}
use Rattle.std.specs.List.{copy_within}
use Rattle.layers.specs.Bytes.{part, over, laid}
use Rattle.layers.proofs.Runs.{take_over, drop_over}
use Rattle.merge.specs.declared.node.Node.{Node}
use Rattle.merge.specs.declared.head.Head.{Head}
use Rattle.merge.specs.Nodes.{node_bytes, count_of, FitsNode}
use Rattle.merge.specs.Heads.{head_of, with_head, fewer}
use Rattle.merge.specs.Changes.{inserted_bytes, taken_bytes}
use Rattle.merge.proofs.HeadLaws.{nodes_fit}
use Rattle.merge.proofs.ChangeLaws.{inserted, taken}

-- what `copy_within` leaves
copied : (t w : List ℕ) (q p n m : ℕ) → w ≡ paste t q (drop p t) m → m ≡ n → q + n ≤ length t → p + n ≤ length t → w ≡ over t q (part t p n)
copied t w q p n m e z h l =
    let k : length (part t p n) ≡ n = simp (length-take, length-drop) (omega arith) in
    let d : n ≤ length (drop p t) = simp length-drop (omega arith) in
    let f : paste t q (drop p t) n ≡ take (q + n) (paste t q (drop p t) n) ++ drop (q + n) (paste t q (drop p t) n) = sym (take-append-drop (q + n) (paste t q (drop p t) n)) in
    rw z at e
    ∙ (f ∙ (ap₂ (λ (x y : List ℕ). x ++ y) (take-paste t q (drop p t) n (omega arith) d) (drop-paste t q (drop p t) n (omega arith) d) ∙ ap (λ (i : ℕ). take q t ++ part t p n ++ drop (q + i) t) (sym k)))

-- ---- the part from `a` to the end, lent and given back as `w`

-- the part
abbrev pub tail : List ℕ → ℕ → List ℕ
tail s a = take (length s - a) (drop a s)

-- the whole with `w` in its place
abbrev pub rejoined : List ℕ → ℕ → List ℕ → List ℕ
rejoined s a w = take a s ++ (w ++ drop (length s - a) (drop a s))

module _ (s w : List ℕ) (a : ℕ) where
  tail_is : tail s a ≡ drop a s
  tail_is = take_all (length s - a) (drop a s) (simp length-drop (omega arith))

  -- a run laid over the part is laid over the whole
  pub over_tail : (b : ℕ) (x : List ℕ) → a + b + length x ≤ length s → w ≡ over (drop a s) b x → rejoined s a w ≡ over s (a + b) x
  over_tail b x h e =
      let z : drop (length s - a) (drop a s) ≡ [] = drop_of_length-le (drop a s) {i = length s - a} (simp length-drop (omega arith)) in
      ap (λ (y : List ℕ). take a s ++ (w ++ y)) z
      ∙ (ap (λ (y : List ℕ). take a s ++ y) (append-nil w ∙ e)
      ∙ (ap₂ (λ (y v : List ℕ). y ++ v) (sym (take_over s (a + b) x h a (omega arith))) (sym (drop_over s a b x h)) ∙ take-append-drop a (over s (a + b) x)))

  pub tail_down : (n : ℕ) → a + 52 + n ≤ length s → w ≡ copy_within (tail s a) 0 n 52 → rejoined s a w ≡ over s (a + 52) (part s a n)
  tail_down n h e =
      let l : length (tail s a) ≡ length s - a = simp (length-take, length-drop) (omega arith) in
      over_tail 52 (part s a n) (simp (length-take, length-drop) (omega arith)) (copied (tail s a) w 52 0 n (n - 0) e (omega arith) (omega arith) (omega arith) ∙ ap (λ (v : List ℕ). over v 52 (part v 0 n)) tail_is)

  pub tail_up : (n : ℕ) → a + 52 + n ≤ length s → w ≡ copy_within (tail s a) 52 (52 + n) 0 → rejoined s a w ≡ over s a (part s (a + 52) n)
  tail_up n h e =
      let l : length (tail s a) ≡ length s - a = simp (length-take, length-drop) (omega arith) in
      let d : part (drop a s) 52 n ≡ part s (a + 52) n = ap (λ (v : List ℕ). take n v) (drop-drop 52 a s) in
      over_tail 0 (part s (a + 52) n) (simp (length-take, length-drop) (omega arith)) (copied (tail s a) w 0 52 n (52 + n - 52) e (omega arith) (omega arith) (omega arith) ∙ (ap (λ (v : List ℕ). over v 0 (part v 52 n)) tail_is ∙ ap (λ (x : List ℕ). over (drop a s) 0 x) d))
      ∙ ap (λ (k : ℕ). over s k (part s (a + 52) n)) (add-zero a)

-- ---- the node put in, and taken out

module _ (s w s₂ s₃ : List ℕ) (c k : ℕ) where
  pub inserted_in_tail : (n : Node) (h : Head) → c ≡ count_of s → k ≤ count_of s → 52 * count_of s + 64 ≤ length s
      → w ≡ copy_within (tail s (12 + 52 * k)) 0 (52 * (c - k)) 52 → s₂ ≡ over (rejoined s (12 + 52 * k) w) (12 + 52 * k) (node_bytes n) → FitsNode n → s₃ ≡ with_head s₂ h
      → s₃ ≡ inserted_bytes s k n h
  inserted_in_tail n h q g l e d f o = inserted s (rejoined s (12 + 52 * k) w) s₂ s₃ c k n h q g l (tail_down s w (12 + 52 * k) (52 * (c - k)) (omega arith) e) d f o

  pub taken_in_tail : (g m : Head) → c ≡ count_of s → k < c → g ≡ head_of s → m ≡ fewer g
      → w ≡ copy_within (tail s (12 + 52 * k)) 52 (52 + 52 * (c - 1 - k)) 0 → s₂ ≡ laid (rejoined s (12 + 52 * k) w) (12 + 52 * k + 52 * (c - 1 - k)) (replicate 52 0) → s₃ ≡ with_head s₂ m
      → s₃ ≡ taken_bytes s k
  taken_in_tail g m q h a b e d o =
      let l : 52 * c ≤ length s - 12 = omega (arith, nodes_fit s) in
      taken s c k q (rejoined s (12 + 52 * k) w) s₂ s₃ g m h a b (tail_up s w (12 + 52 * k) (52 * (c - 1 - k)) (omega arith) e) d o
