-- Loading a directory: a node for each merged name that has none. Assumes nothing.
use Rattle.std.specs.Prelude.{◌≡◌, ℕ, ◌≤◌, Bool, false, not, cond, List, [], ◌∷◌, map, eqb, leb, length, take, replicate, Result, Ok, Err, is_some}
use Rattle.merge.specs.declared.load.LoadError.{LoadError}
use Rattle.merge.specs.declared.load.LoadError.TheVariants.{NoRoom}
use Rattle.layers.specs.Bytes.{least, laid}
use Rattle.layers.specs.Names.{Name}
use Rattle.layers.specs.Search.{one}
use Rattle.merge.specs.Nodes.{nodes_of, node_at}
use Rattle.merge.specs.Methods.{with_loaded}
use Rattle.merge.specs.Heads.{room_of, numbers_left}
use Rattle.merge.specs.State.{find_child, those}
use Rattle.merge.specs.Changes.{put_bytes, new_bytes}
use Rattle.merge.specs.Tables.{place_name}
use Rattle.merge.specs.Scan.{merged_names}
use Rattle.merge.specs.Stacks.{merged_stack}
use Rattle.merge.specs.Tops.{Topmost}
use Rattle.merge.specs.declared.stacks.Pair.{Pair}
use Rattle.merge.specs.declared.stacks.Stack.{Stack}
use Rattle.merge.specs.declared.node.Node.{Node}

-- "If places or numbers don't suffice it adds none: 23."
abbrev pub load_errno : Result (Unit {0}) LoadError → ℕ
load_errno (Ok tt) = 0
load_errno (Err NoRoom) = 23

-- "A new node's count is 1."; it is not loaded, and its number is yet to be given
unfoldable pub new_node : ℕ → Stack → Name → Node
new_node p st x =
    record {
      number = 0;
      parent = p;
      count = 1;
      white = one st.whiteout;
      loaded = 0;
      depth = least 4 st.length;
      length = least 28 (length x);
      stack = st.pairs;
      name = laid (replicate 28 0) 0 x;
    }

-- the names that have no node below `p`
unfoldable pub has_none : List Node → ℕ → Name → Bool
has_none ns p x = not (is_some (find_child ns p x))

abbrev pub missing_names : List Node → ℕ → List Name → List Name
missing_names ns p xs = those (has_none ns p) xs

-- nodes for these names below `p`, whose stack is `ps`, one after another
unfoldable pub add_names : List ℕ → List ℕ → ℕ → List Pair → List Name → List ℕ → List ℕ
add_names u l p ps [] s = s
add_names u l p ps (x ∷ xs) s = add_names u l p ps xs (new_bytes s (new_node p (merged_stack u l ps x) x))

-- a node's stack as a list
abbrev pub stack_list : Node → List Pair
stack_list n = take n.depth n.stack

-- "a node for each merged name that has none"
unfoldable pub to_add : List ℕ → List ℕ → List ℕ → Node → List Name
to_add u l s n = missing_names (nodes_of s) n.number (merged_names u l (stack_list n))

-- places and numbers suffice for so many nodes more
unfoldable pub suffices : List ℕ → ℕ → Bool
suffices s k = cond (leb k (room_of s)) (leb k (numbers_left s)) false

unfoldable pub is_loaded : Node → Bool
is_loaded n = not (eqb n.loaded 0)

unfoldable pub load_node : List ℕ → List ℕ → List ℕ → ℕ → Node → Result (Unit {0}) LoadError
load_node u l s j n = cond (is_loaded n) (Ok tt) (cond (suffices s (length (to_add u l s n))) (Ok tt) (Err NoRoom))

unfoldable pub load_node_bytes : List ℕ → List ℕ → List ℕ → ℕ → Node → List ℕ
load_node_bytes u l s j n =
    cond (is_loaded n) s
    (cond (suffices s (length (to_add u l s n)))
    (add_names u l n.number (stack_list n) (to_add u l s n) (put_bytes s j (with_loaded n 1)))
    s)

-- "adds a node for each merged name that has none, in byte order of names, keeps the others, sets the mark", for the node at place `j`
abbrev pub load_answer : List ℕ → List ℕ → List ℕ → ℕ → Result (Unit {0}) LoadError
load_answer u l s j = load_node u l s j (node_at (nodes_of s) j)

abbrev pub load_bytes : List ℕ → List ℕ → List ℕ → ℕ → List ℕ
load_bytes u l s j = load_node_bytes u l s j (node_at (nodes_of s) j)

-- ---- what the private functions promise of the 512 places

-- the place's name has no node below `p`
unfoldable pub place_has_none : List ℕ → List ℕ → List Node → ℕ → ℕ → Bool
place_has_none u l ns p q = has_none ns p (place_name u l q)

-- of the first `n` places the `r` that pass, in their order
pub record KeptPlaces (test : ℕ → Bool) (p : List ℕ) (n r : ℕ) (q : List ℕ) : Type 0 where
  pub kept : take r q ≡ those test (take n p)
  pub within : r ≤ n
  pub long : length q ≡ 512

-- the first `r` places stand for the names to add, each the topmost of its name
pub record ToAdd (u l s : List ℕ) (n : Node) (r : ℕ) (q : List ℕ) : Type 0 where
  pub names : map (place_name u l) (take r q) ≡ to_add u l s n
  pub topmost : Topmost u l (stack_list n) q r
  pub within : r ≤ 512
  pub long : length q ≡ 512
