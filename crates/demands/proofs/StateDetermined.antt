-- A state's nodes and next number determine its bytes, where zeros follow the last node. Assumes nothing.
use mathlib.Core.Path.{◌≡◌, refl, sym, ap, ap₂, ◌∙◌}
use Prim.Native.Nat.{ℕ, zero, suc, ◌+◌, ◌*◌, ◌-◌, ◌≤◌}
use native.Mathlib.Omega.{arith}
use mathlib.Core.List.{List, [], ◌∷◌, ◌++◌, map}
use lib.ListN.{length, take, drop, replicate, length-take, length-drop, take-append-drop}
use lib.Seq.{drop-drop}
use Rattle.layers.specs.Bytes.{part, le_bytes, number_at, AllBytes}
use Rattle.layers.specs.Items.{pieces}
use Rattle.layers.proofs.Numbers.{number_in}
use Rattle.layers.proofs.Pieces.{joined, pieces_join, mul_next}
use Rattle.layers.proofs.Determined.{bytes_drop, bytes_take, parts, again}
use Rattle.merge.specs.declared.node.Node.{Node}
use Rattle.merge.specs.declared.head.Head.{Head}
use Rattle.merge.specs.Nodes.{node_of, node_bytes, count_of, nodes_of}
use Rattle.merge.specs.Heads.{next_of, head_of, head_bytes}
use Rattle.merge.proofs.HeadLaws.{nodes_fit}
use Rattle.merge.proofs.StateLaws.{length_nodes}
use Rattle.merge.proofs.NodeFits.{node_again}
use Rattle.merge.proofs.Kept.{Zeros, Blank}

nodes_again : (n : ℕ) (t : List ℕ) → AllBytes t → 52 * n ≤ length t → map node_bytes (map node_of (pieces 52 n t)) ≡ pieces 52 n t
unfolding pieces
nodes_again zero t h l = refl
nodes_again (suc n) t h l =
    let m : 52 * suc n ≡ 52 + 52 * n = mul_next 52 n in
    ap₂ ◌∷◌ (node_again (take 52 t) (simp length-take (omega arith)) (bytes_take t 52 h)) (nodes_again n (drop 52 t) (bytes_drop t 52 h) (simp length-drop (omega arith)))

zeros_are : (t : List ℕ) → Zeros t → t ≡ replicate (length t) 0
zeros_are [] h = refl
zeros_are (x ∷ t) h = ap₂ ◌∷◌ (h 0) (zeros_are t (λ i. h (suc i)))

-- the head, the nodes one after another, and zeros up to the length `k`
unfoldable pub state_bytes : ℕ → Head → List Node → List ℕ
state_bytes k h ns = head_bytes h ++ (joined (map node_bytes ns) ++ replicate (k - (12 + 52 * length ns)) 0)

module _ (s : List ℕ) (h : AllBytes s) (l : 12 ≤ length s) (count : number_at 4 s 8 ≡ count_of s) where
  head_again : head_bytes (head_of s) ≡ take 12 s
  unfolding head_bytes
  head_again =
      ap₂ ◌++◌
      (ap (le_bytes 8) (number_in 8 s 0 (omega arith)) ∙ again s h 0 8 (omega arith))
      (ap (le_bytes 4) (sym count ∙ number_in 4 s 8 (omega arith)) ∙ again s h 8 4 (omega arith))
      ∙ parts s 0 8 4

  nodes_joined : joined (map node_bytes (nodes_of s)) ≡ part s 12 (52 * count_of s)
  unfolding nodes_of
  nodes_joined = ap joined (nodes_again (count_of s) (drop 12 s) (bytes_drop s 12 h) (simp length-drop (nodes_fit s))) ∙ pieces_join 52 (count_of s) (drop 12 s)

  pub state_again : Blank s → state_bytes (length s) (head_of s) (nodes_of s) ≡ s
  unfolding state_bytes
  state_again b =
      let z : drop (12 + 52 * count_of s) s ≡ replicate (length s - (12 + 52 * count_of s)) 0 = zeros_are (drop (12 + 52 * count_of s) s) b ∙ ap (λ (n : ℕ). replicate n 0) (length-drop (12 + 52 * count_of s) s) in
      rw (head_again, nodes_joined, length_nodes s)
      (ap (λ (x : List ℕ). take 12 s ++ (part s 12 (52 * count_of s) ++ x)) (sym z ∙ sym (drop-drop (52 * count_of s) 12 s))
      ∙ (ap (λ (x : List ℕ). take 12 s ++ x) (take-append-drop (52 * count_of s) (drop 12 s)) ∙ take-append-drop 12 s))

-- two states of one length with equal nodes and the same next number are equal bytes
pub state_determined : (s t : List ℕ) → AllBytes s → AllBytes t → 12 ≤ length s → length s ≡ length t → number_at 4 s 8 ≡ count_of s → number_at 4 t 8 ≡ count_of t → Blank s → Blank t → nodes_of s ≡ nodes_of t → next_of s ≡ next_of t → s ≡ t
state_determined s t hs ht l e cs ct bs bt n x =
    let c : count_of s ≡ count_of t = sym (length_nodes s) ∙ (ap length n ∙ length_nodes t) in
    let d : head_of s ≡ head_of t = ap₂ (λ (a b : ℕ). record { next = a; count = b }) x c in
    sym (state_again s hs l cs bs) ∙ (ap₂ (λ (k : ℕ) (h : Head). state_bytes k h (nodes_of s)) e d ∙ (ap (state_bytes (length t) (head_of t)) n ∙ state_again t ht (omega arith) ct bt))
