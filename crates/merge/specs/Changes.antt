-- The bytes of a state with a node changed, put in at its place, or taken out. Assumes nothing.
use Rattle.std.specs.Prelude.{cond, ℕ, suc, ◌+◌, ◌*◌, ◌-◌, List, ◌++◌, ltb, replicate, Option, Some, None}
use Rattle.layers.specs.Bytes.{part, over}
use Rattle.merge.specs.declared.node.Node.{Node}
use Rattle.merge.specs.declared.head.Head.{Head}
use Rattle.merge.specs.Nodes.{node_bytes, node_name, count_of, nodes_of}
use Rattle.merge.specs.Methods.{with_number}
use Rattle.merge.specs.Heads.{next_of, head_of, with_head, more, fewer, numbered, full}
use Rattle.merge.specs.State.{place_for}

-- the node at place `j` changed; where there is none, nothing changes
unfoldable pub put_bytes : List ℕ → ℕ → Node → List ℕ
put_bytes s j n = cond (ltb j (count_of s)) (over s (12 + 52 * j) (node_bytes n)) s

-- "A new node is put before the first that comes after it, and those move down": the node, then all from place `k` on
unfoldable pub inserted_bytes : List ℕ → ℕ → Node → Head → List ℕ
inserted_bytes s k n h = with_head (over s (12 + 52 * k) (node_bytes n ++ part s (12 + 52 * k) (52 * (count_of s - k)))) h

-- "where one goes, those after it move up, and the place left over is zeros"
unfoldable pub taken_bytes : List ℕ → ℕ → List ℕ
taken_bytes s k =
    cond (ltb k (count_of s))
    (with_head (over s (12 + 52 * k) (part s (12 + 52 * k + 52) (52 * (count_of s - 1 - k)) ++ replicate 52 0)) (fewer (head_of s)))
    s

-- the place for a node, where a further one fits and its parent has none of its name
unfoldable pub spot_for : List ℕ → Node → Option ℕ
spot_for s n = cond (full s) None (place_for (nodes_of s) n.parent (node_name n))

unfoldable pub inserted_at : List ℕ → Node → Head → Option ℕ → List ℕ
inserted_at s n h (Some k) = inserted_bytes s k n h
inserted_at s n h None = s

-- a node put in at its place
abbrev pub put_in_bytes : List ℕ → Node → List ℕ
put_in_bytes s n = inserted_at s n (more (head_of s)) (spot_for s n)

-- a node put in with the next number, which is then given; where no number or no place is left, nothing changes
unfoldable pub new_spot : List ℕ → Node → Option ℕ
new_spot s n = cond (ltb 4294967295 (next_of s)) None (spot_for s n)

unfoldable pub given : Option ℕ → ℕ → ℕ
given (Some k) x = x
given None x = 0

abbrev pub new_number : List ℕ → Node → ℕ
new_number s n = given (new_spot s n) (next_of s)

abbrev pub new_bytes : List ℕ → Node → List ℕ
new_bytes s n = inserted_at s (with_number n (next_of s)) (numbered (more (head_of s))) (new_spot s n)

-- the place `k`, where a number is left, a further node fits and `k` is among the nodes or right behind them
unfoldable pub seat_spot : List ℕ → ℕ → Option ℕ
seat_spot s k = cond (ltb 4294967295 (next_of s)) None (cond (full s) None (cond (ltb (count_of s) k) None (Some k)))

-- a node put in there with the next number, which is then given
abbrev pub seated_number : List ℕ → ℕ → ℕ
seated_number s k = given (seat_spot s k) (next_of s)

abbrev pub seated_bytes : List ℕ → Node → ℕ → List ℕ
seated_bytes s n k = inserted_at s (with_number n (next_of s)) (numbered (more (head_of s))) (seat_spot s k)

-- where the search for the next name's place starts, this one's having started at `k`: behind the node put in
unfoldable pub behind : ℕ → Option ℕ → ℕ
behind k (Some j) = suc j
behind k None = k
