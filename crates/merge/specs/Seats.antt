-- Where a name below a directory has its node, or where a new node belongs: by halving, as the nodes stand in order. Assumes nothing.
use Rattle.std.specs.Prelude.{ℕ, zero, suc, ◌+◌, ◌-◌, ◌/◌, cond, List, ◌∷◌, ltb, length, Option, Some, None, Result, Ok, Err}
use Rattle.std.specs.declared.cmp.Ordering.{Ordering}
use Rattle.std.specs.declared.cmp.Ordering.TheVariants.{Less, Equal, Greater}
use Rattle.layers.specs.Names.{Name, order_of}
use Rattle.merge.specs.declared.node.Node.{Node}
use Rattle.merge.specs.Nodes.{node_at, key_of}

abbrev pub middle : ℕ → ℕ → ℕ
middle lo hi = lo + (hi - lo) / 2

-- by how the name stands to the node at place `k`: the seat before it, its own, or the seat behind it
unfoldable pub seat_by : Ordering → ℕ → Result ℕ ℕ → Result ℕ ℕ → Result ℕ ℕ
seat_by Less k l r = l
seat_by Equal k l r = Ok k
seat_by Greater k l r = r

-- the seat of a key among the nodes from place `lo` to before `hi`, in at most so many halvings
unfoldable pub seat_in : ℕ → List Node → Name → ℕ → ℕ → Result ℕ ℕ
seat_in zero ns x lo hi = Err lo
seat_in (suc m) ns x lo hi =
    cond (ltb lo hi)
    (seat_by (order_of x (key_of (node_at ns (middle lo hi)))) (middle lo hi) (seat_in m ns x lo (middle lo hi)) (seat_in m ns x (suc (middle lo hi)) hi))
    (Err lo)

-- "by their parent's number and then by name in byte order": the seat of the name `x` below the node of number `p`
abbrev pub seat_of : List Node → ℕ → Name → Result ℕ ℕ
seat_of ns p x = seat_in (length ns) ns (p ∷ x) 0 (length ns)

-- the place of the name's node
unfoldable pub holder : Result ℕ ℕ → Option ℕ
holder (Ok k) = Some k
holder (Err k) = None
