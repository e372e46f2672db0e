-- How the code puts a stack together, record by record: the steps that its private functions promise. Assumes nothing.
use Rattle.std.specs.Prelude.{ℕ, ◌+◌, Bool, true, false, cond, [], ◌∷◌, eqb, set, Option, None, Some}
use Rattle.merge.specs.Stacks.{pair}
use Rattle.merge.specs.declared.stacks.Pair.{Pair}
use Rattle.merge.specs.declared.stacks.Stack.{Stack}
use Rattle.merge.specs.declared.stacks.Class.{Class}
use Rattle.merge.specs.declared.stacks.Class.TheVariants.{Whiteout, Other, Plain, Opaque}

abbrev pub no_stack : Stack
no_stack = record { pairs = pair 0 0 ∷ pair 0 0 ∷ pair 0 0 ∷ pair 0 0 ∷ []; length = 0; whiteout = false }

abbrev pub push : Stack → Pair → Stack
push s p = record { pairs = set s.pairs s.length p; length = s.length + 1; whiteout = s.whiteout }

-- the first record, with its mark; a later one is dropped
unfoldable pub marked : Bool → Stack → Pair → Stack
marked w s p = cond (eqb s.length 0) (record { pairs = set s.pairs s.length p; length = s.length + 1; whiteout = w }) s

unfoldable pub with_real : Stack → Pair → Class → Stack
with_real s p Whiteout = marked true s p
with_real s p Other = marked false s p
with_real s p Plain = push s p
with_real s p Opaque = push s p

unfoldable pub with_seen : Stack → ℕ → Option (Class × ℕ) → Stack
with_seen s k None = s
with_seen s k (Some (c, n)) = with_real s (pair k n) c

abbrev pub ends_merge : Class → Bool
ends_merge Whiteout = true
ends_merge Other = true
ends_merge Plain = false
ends_merge Opaque = true

unfoldable pub ends_seen : Option (Class × ℕ) → Bool
ends_seen None = false
ends_seen (Some (c, n)) = ends_merge c
