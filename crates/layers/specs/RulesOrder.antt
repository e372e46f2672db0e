-- Entry places in the order of parent and name, as the pass for distinct names keeps them. Assumes nothing.
use Rattle.std.specs.Prelude.{◌≡◌, ℕ, Bool, true, false, List, ◌∷◌, take, Option, Some, None}
use Rattle.layers.specs.Names.{Name}
use Rattle.layers.specs.Items.{entry_at}
use Rattle.layers.specs.Search.{name_of}
use Rattle.layers.specs.Order.{spot_from, put_in}
use Rattle.layers.specs.declared.items.Entry.{Entry}

-- what an entry place stands for in the order: the parent, then the name
unfoldable pub place_key : List Entry → ℕ → Name
place_key es q = (entry_at es q).parent ∷ name_of (entry_at es q)

unfoldable pub is_open : Option ℕ → Bool
is_open (Some i) = true
is_open None = false

-- `q` put at an open spot of the first `n`
unfoldable pub put_spot : Option ℕ → List ℕ → ℕ → ℕ → List ℕ
put_spot (Some i) p n q = put_in p n i q
put_spot None p n q = p

-- whether the entry `j` could be put among the first `n` places of `p`, and the places `u` after it
pub record PutPlace (es : List Entry) (p : List ℕ) (n j : ℕ) (r : Bool) (u : List ℕ) : Type 0 where
  pub answer : r ≡ is_open (spot_from (place_key es) 0 (place_key es j) (take n p))
  pub places : u ≡ put_spot (spot_from (place_key es) 0 (place_key es j) (take n p)) p n j
