-- A node passed over by the first 8 bytes of its name. Assumes nothing.
use mathlib.Core.Path.{◌≡◌, refl, sym, ap, ◌∙◌}
use Prim.Native.Nat.{ℕ, ◌≤◌}
use native.Mathlib.Omega.{arith}
use mathlib.Core.Bool.{Bool, true, false, cond}
use mathlib.Core.List.{List}
use lib.Dec.{eqb}
use lib.ListN.{length, take, length-take}
use lib.Seq.{take-take}
use Rattle.layers.specs.Bytes.{le_of}
use Rattle.layers.specs.Names.{Name, same_name}
use Rattle.layers.proofs.NameLaws.{same_true}
use Rattle.merge.specs.declared.node.Node.{Node}
use Rattle.merge.specs.Nodes.{node_name}
use Rattle.merge.specs.State.{is_child, first_word}

-- what was taken is no longer than asked
longer : (m k : ℕ) (y : List ℕ) → k ≤ length (take m y) → k ≤ m
longer m k y h = let e : length (take m y) ≤ m = simp length-take (omega arith) in omega arith

-- the first 8 bytes of a name are those of the bytes that hold it
name_word : (n : Node) (x : Name) → node_name n ≡ x → 8 ≤ length x → first_word n.name ≡ first_word x
name_word n x e l =
    let h : 8 ≤ length (node_name n) = rw e l in
    sym (ap le_of (ap (λ (y : List ℕ). take 8 y) (sym e) ∙ take-take 8 n.length n.name (longer n.length 8 n.name h)))

child_name : (p : ℕ) (x : Name) (n : Node) → is_child p x n ≡ true → node_name n ≡ x
unfolding is_child
child_name p x n = go (eqb n.parent p)
  where
    go : (b : Bool) → cond b (same_name (node_name n) x) false ≡ true → node_name n ≡ x
    go true t = same_true (node_name n) x t
    go false t = absurd (let o : ◌≡◌ {A = ℕ} 0 1 = cc in omega arith)

-- a name that starts otherwise is another
pub word_other : (p : ℕ) (x : Name) (n : Node) (v w : ℕ) → 8 ≤ length x → w ≡ first_word x → v ≡ first_word n.name → (v ≡ w → ⊥) → false ≡ is_child p x n
word_other p x n v w l e q h = go (is_child p x n) refl
  where
    go : (b : Bool) → is_child p x n ≡ b → false ≡ is_child p x n
    go true t = absurd (h (q ∙ (name_word n x (child_name p x n t) l ∙ sym e)))
    go false t = sym t
