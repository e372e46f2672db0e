-- The merge afresh, from the root down a path. Assumes nothing.
use Rattle.std.specs.Prelude.{ℕ, zero, suc, cond, List, [], ◌∷◌, eqb, length}
use Rattle.layers.specs.Names.{Name}
use Rattle.merge.specs.Tables.{table_of}
use Rattle.merge.specs.Stacks.{pair, stack_of}
use Rattle.merge.specs.declared.stacks.Pair.{Pair}

-- the roots of those of the `n` layers from `k` on that there are
unfoldable pub roots_from : List ℕ → List ℕ → ℕ → ℕ → List Pair
roots_from u l k zero = []
roots_from u l k (suc n) = cond (eqb (length (table_of u l k)) 8192) (pair k 1 ∷ roots_from u l (suc k) n) (roots_from u l (suc k) n)

-- "The root's stack holds every layer's root (`import`), even below an opaque one"; "Record 1 is the layer's root"
unfoldable pub root_stack : List ℕ → List ℕ → List Pair
root_stack u l = roots_from u l 0 4

-- down a path from the stack `s`; where a step finds nothing, the empty stack is left
unfoldable pub fresh_from : List ℕ → List ℕ → List Pair → List Name → List Pair
fresh_from u l s [] = s
fresh_from u l s (x ∷ p) = fresh_from u l (stack_of u l s x) p

-- "The merge afresh of a deeper directory starts at the root and goes down its path."
unfoldable pub fresh : List ℕ → List ℕ → List Name → List Pair
fresh u l p = fresh_from u l (root_stack u l) p
