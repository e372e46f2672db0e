-- The nodes of a state searched: by number, by parent and name, by parent, and for the place of a new one. Assumes nothing.
use Rattle.std.specs.Prelude.{Bool, false, cond, ◌≡◌, ℕ, ◌≤◌, ◌<◌, List, [], ◌∷◌, eqb, ltb, length, take, drop, Option, is_some}
use Rattle.std.specs.declared.cmp.Ordering.TheVariants.{Less, Greater}
use Rattle.layers.specs.Bytes.{le_of, be_of}
use Rattle.layers.specs.Names.{Name, same_name, order_of}
use Rattle.layers.specs.Search.{first_from}
use Rattle.layers.specs.Order.{spot_from}
use Rattle.merge.specs.declared.node.Node.{Node}
use Rattle.merge.specs.Nodes.{node_at, node_name, key_of}

unfoldable pub is_number : ℕ → Node → Bool
is_number x n = eqb n.number x

unfoldable pub is_child : ℕ → Name → Node → Bool
is_child p x n = cond (eqb n.parent p) (same_name (node_name n) x) false

unfoldable pub has_parent : ℕ → Node → Bool
has_parent p n = eqb n.parent p

-- the first 8 bytes, as a number
abbrev pub first_word : List ℕ → ℕ
first_word b = le_of (take 8 b)

-- the same, the highest byte first, as names are ordered
abbrev pub top_word : List ℕ → ℕ
top_word b = be_of (take 8 b)

-- that of a name which has so many bytes
unfoldable pub lead_of : Name → ℕ
lead_of x = cond (ltb (length x) 8) 0 (top_word x)

-- the place of the node of number `x`
abbrev pub find_number : List Node → ℕ → Option ℕ
find_number ns x = first_from (is_number x) 0 ns

-- the place of the node that the node of number `p` has under the name `x`
abbrev pub find_child : List Node → ℕ → Name → Option ℕ
find_child ns p x = first_from (is_child p x) 0 ns

-- the first place from `j` on of a child of `p`
abbrev pub child_from : List Node → ℕ → ℕ → Option ℕ
child_from ns p j = first_from (has_parent p) j (drop j ns)

-- "has resident children": a node with this parent has a place
abbrev pub has_children : List Node → ℕ → Bool
has_children ns p = is_some (child_from ns p 0)

-- those that pass the test, in their order
unfoldable pub those : {A : Type 0} → (A → Bool) → List A → List A
those p [] = []
those p (x ∷ xs) = cond (p x) (x ∷ those p xs) (those p xs)

-- the children of `p`, in table order
abbrev pub children_of : List Node → ℕ → List Node
children_of ns p = those (has_parent p) ns

-- where a node of parent `p` and name `x` belongs: "before the first that comes after it"
abbrev pub place_for : List Node → ℕ → Name → Option ℕ
place_for ns p x = spot_from key_of 0 (p ∷ x) ns

-- ---- what the private functions ask of a search that starts behind the first nodes

-- the first `k` nodes come before the name `x` below `p`
pub record Passed (ns : List Node) (p : ℕ) (x : Name) (k : ℕ) : Type 0 where
  pub within : k ≤ length ns
  pub after : (j : ℕ) → j < k → order_of (p ∷ x) (key_of (node_at ns j)) ≡ Greater

-- they come before every name that comes after `x`
pub record PassedNext (ns : List Node) (p : ℕ) (x : Name) (k : ℕ) : Type 0 where
  pub next : (y : Name) → order_of x y ≡ Less → Passed ns p y k
