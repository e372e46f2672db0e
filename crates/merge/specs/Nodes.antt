-- A node as docs/ABI.md lays it out, and the nodes of the lent state. Assumes nothing.
use Rattle.std.specs.Prelude.{◌≡◌, cond, ℕ, ◌+◌, ◌*◌, ◌-◌, ◌/◌, ◌<◌, List, [], ◌∷◌, ◌++◌, map, ltb, length, take, drop, get_or, replicate}
use Rattle.layers.specs.Names.{Name}
use Rattle.layers.specs.Bytes.{least, part, le_of, le_bytes, number_at}
use Rattle.layers.specs.Items.{pieces}
use Rattle.merge.specs.declared.stacks.Pair.{Pair}
use Rattle.merge.specs.declared.node.Node.{Node}

-- ---- a node's bytes

abbrev pub no_pair : Pair
no_pair = record { layer = 0; number = 0 }

-- "four pairs of layer and record (8)"
unfoldable pub pairs_of : List ℕ → List Pair
pairs_of b =
    record { layer = get_or b 0 0; number = get_or b 1 0 }
    ∷ record { layer = get_or b 2 0; number = get_or b 3 0 }
    ∷ record { layer = get_or b 4 0; number = get_or b 5 0 }
    ∷ record { layer = get_or b 6 0; number = get_or b 7 0 }
    ∷ []

unfoldable pub pair_bytes : List Pair → List ℕ
pair_bytes [] = []
pair_bytes (p ∷ ps) = p.layer ∷ p.number ∷ pair_bytes ps

-- "number (4 bytes), parent's number (4; the root's is 0), lookup count (4), whiteout mark (1), loaded mark (1), stack length (1), name length (1), four pairs of layer and record (8), name (28)"
unfoldable pub node_of : List ℕ → Node
node_of b =
    record {
      number = le_of (part b 0 4);
      parent = le_of (part b 4 4);
      count = le_of (part b 8 4);
      white = get_or b 12 0;
      loaded = get_or b 13 0;
      depth = get_or b 14 0;
      length = get_or b 15 0;
      stack = pairs_of (drop 16 b);
      name = part b 24 28;
    }

-- the bytes that hold a node: the first 12, and the other 40
unfoldable pub number_bytes : Node → List ℕ
number_bytes n = le_bytes 4 n.number ++ le_bytes 4 n.parent ++ le_bytes 4 n.count

unfoldable pub rest_bytes : Node → List ℕ
rest_bytes n = (n.white ∷ n.loaded ∷ n.depth ∷ n.length ∷ []) ++ pair_bytes n.stack ++ n.name

unfoldable pub node_bytes : Node → List ℕ
node_bytes n = number_bytes n ++ rest_bytes n

-- a node's numbers fit their bytes, and its arrays are of their lengths
pub record FitsNumbers (n : Node) : Type 0 where
  pub number_fits : n.number < 4294967296
  pub parent_fits : n.parent < 4294967296
  pub count_fits : n.count < 4294967296

pub record FitsArrays (n : Node) : Type 0 where
  pub stack_fits : length n.stack ≡ 4
  pub name_fits : length n.name ≡ 28

pub record FitsNode (n : Node) : Type 0 where
  pub numbers : FitsNumbers n
  pub arrays : FitsArrays n

-- "What a node does not use .. is zero": no node at all
abbrev pub no_node : Node
no_node = record { number = 0; parent = 0; count = 0; white = 0; loaded = 0; depth = 0; length = 0; stack = no_pair ∷ no_pair ∷ no_pair ∷ no_pair ∷ []; name = replicate 28 0 }

-- a node's name, without the zeros behind it
abbrev pub node_name : Node → Name
node_name n = take n.length n.name

-- "by their parent's number and then by name in byte order"
abbrev pub key_of : Node → Name
key_of n = n.parent ∷ node_name n

-- ---- the nodes of a state

-- "How many nodes fit follows from the slice's length": those of 52 bytes behind the head, as far as its 4 bytes can count
unfoldable pub capacity : List ℕ → ℕ
capacity s = least 4294967295 ((length s - 12) / 52)

-- "Bytes 8 to 11: how many nodes there are"; "a count above that is taken as that"
unfoldable pub count_of : List ℕ → ℕ
count_of s = least (capacity s) (number_at 4 s 8)

-- "Then the nodes, 52 bytes each, one after another"
unfoldable pub nodes_of : List ℕ → List Node
nodes_of s = map node_of (pieces 52 (count_of s) (drop 12 s))

abbrev pub node_at : List Node → ℕ → Node
node_at ns j = get_or ns j no_node

-- the 52 bytes of the node at place `j`; where there is none, no bytes
unfoldable pub bytes_at : List ℕ → ℕ → List ℕ
bytes_at s j = cond (ltb j (count_of s)) (part s (12 + 52 * j) 52) []
