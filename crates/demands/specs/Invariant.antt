-- What holds of a state and its layers between calls. Assumes nothing.
use Rattle.std.specs.Prelude.{◌≡◌, ◌≢◌, true, cond, ℕ, zero, suc, ◌+◌, ◌*◌, ◌≤◌, ◌<◌, List, [], ◌∷◌, ◌++◌, eqb, length, drop, get_or, Option, Some, None}
use Rattle.layers.specs.Names.{Name}
use Rattle.layers.specs.Search.{one}
use Rattle.layers.specs.Sorted.{Sorted}
use Rattle.merge.specs.declared.node.Node.{Node}
use Rattle.merge.specs.Tidy.{Tidy}
use Rattle.merge.specs.Nodes.{no_node, node_name, key_of, count_of, nodes_of, node_at}
use Rattle.merge.specs.Heads.{next_of}
use Rattle.merge.specs.State.{is_number, find_number, those}
use Rattle.merge.specs.Stacks.{stack_of, whiteout_of}
use Rattle.merge.specs.Fresh.{root_stack}
use Rattle.merge.specs.Load.{stack_list, is_loaded}

-- ---- the node of each number

unfoldable pub node_in : List Node → Option ℕ → Node
node_in ns (Some k) = node_at ns k
node_in ns None = no_node

-- the node of number `x`; no node where there is none
abbrev pub node_by : List Node → ℕ → Node
node_by ns x = node_in ns (find_number ns x)

-- the number `x` has a node, `f` giving the node of each number
abbrev pub Resident : (ℕ → Node) → ℕ → Type 0
Resident f x = (x ≢ 0) × ((f x).number ≡ x)

-- and it is not the root
abbrev pub NonRoot : (ℕ → Node) → ℕ → Type 0
NonRoot f x = Resident f x × (x ≢ 1)

-- ---- the tree of the nodes, `f` giving the node of each number
pub record Coherent (u l : List ℕ) (f : ℕ → Node) : Type 0 where
  -- the root is resident: "The root is 1"
  pub root_there : Resident f 1
  -- "parent's number (4; the root's is 0)"; it has no name
  pub root_key : key_of (f 1) ≡ 0 ∷ []
  -- "The root's stack holds every layer's root"
  pub root_stack : stack_list (f 1) ≡ root_stack u l
  -- and is marked no whiteout
  pub root_white : (f 1).white ≡ 0
  -- every other resident node's parent is resident
  pub parent_there : (x : ℕ) → NonRoot f x → Resident f (f x).parent
  -- and has a smaller number
  pub parent_less : (x : ℕ) → NonRoot f x → (f x).parent < x
  -- a node's stack is the merged stack of its name below its parent's stack
  pub stack_is : (x : ℕ) → NonRoot f x → stack_list (f x) ≡ stack_of u l (stack_list (f (f x).parent)) (node_name (f x))
  -- and is not empty
  pub stack_some : (x : ℕ) → NonRoot f x → stack_list (f x) ≢ []
  -- "The name is marked whiteout exactly if its first record is."
  pub white_is : (x : ℕ) → NonRoot f x → (f x).white ≡ one (whiteout_of u l (stack_list (f (f x).parent)) (node_name (f x)))

-- a loaded node has a node for every name whose stack is not empty
abbrev pub Complete : List ℕ → List ℕ → (ℕ → Node) → ℕ → Type 0
Complete u l f x = Resident f x → is_loaded (f x) ≡ true → (y : Name) → stack_of u l (stack_list (f x)) y ≢ [] → (k : ℕ) × Resident f k × (key_of (f k) ≡ x ∷ y)

-- ---- the list of the nodes, `next` being the next number to give
pub record GoodNodes (u l : List ℕ) (ns : List Node) (next : ℕ) : Type 0 where
  pub coherent : Coherent u l (node_by ns)
  -- "by their parent's number and then by name in byte order": so one node for a parent and a name
  pub sorted : Sorted key_of ns
  -- numbers are "never given twice": one node for a number
  pub once : (x : ℕ) → length (those (is_number x) ns) ≤ 1
  -- and none for 0
  pub none_zero : find_number ns 0 ≡ None
  -- every node is tidy
  pub tidy : (x : ℕ) → Tidy (node_by ns x)
  -- numbers lie below the next one
  pub below_next : (x : ℕ) → Resident (node_by ns) x → x < next
  -- "the next number to give (2 to 4294967296)"
  pub next_least : 2 ≤ next
  pub next_most : next ≤ 4294967296

-- ---- the state
pub record Good (u l s : List ℕ) : Type 0 where
  pub nodes : GoodNodes u l (nodes_of s) (next_of s)
  -- loaded nodes are complete
  pub complete : (x : ℕ) → Complete u l (node_by (nodes_of s)) x
  -- "and so is what follows the last node": zero
  pub blank : (i : ℕ) → get_or (drop (12 + 52 * count_of s) s) i 0 ≡ 0

-- ---- the path of a node: names from the root down, `k` steps at most

unfoldable pub path_in : (ℕ → Node) → ℕ → ℕ → List Name
path_in f zero x = []
path_in f (suc k) x = cond (eqb x 1) [] (path_in f k (f x).parent ++ (node_name (f x) ∷ []))

-- numbers fall towards the root, so that `x` steps suffice
abbrev pub path_of : List Node → ℕ → List Name
path_of ns x = path_in (node_by ns) x x
