-- Demand 3, of the calls that change no layer: after any sequence of them from an accepted import the state is as a merge afresh. Assumes nothing.
use Rattle.std.specs.Prelude.{◌≡◌, true, ℕ, List, [], ◌∷◌, map, length, Ok}
use Rattle.layers.specs.Names.{Name}
use Rattle.layers.specs.Search.{one}
use Rattle.layers.specs.Rules.{Valid}
use Rattle.merge.specs.Nodes.{node_name, nodes_of}
use Rattle.merge.specs.State.{children_of}
use Rattle.merge.specs.Tables.{table_of}
use Rattle.merge.specs.Stacks.{whiteout_of}
use Rattle.merge.specs.Scan.{merged_names}
use Rattle.merge.specs.Fresh.{fresh}
use Rattle.merge.specs.Load.{stack_list, is_loaded}
use Rattle.calls.specs.Import.{import_spec}
use Rattle.calls.specs.Lookup.{lookup_spec}
use Rattle.calls.specs.Count.{count_spec}
use Rattle.calls.specs.Listing.{list_spec}
use Rattle.calls.specs.Forget.{forget_call}
use Rattle.demands.specs.Invariant.{Resident, NonRoot, node_by, path_of}

-- each layer's table keeps every rule
pub record SoundLayers (u l : List ℕ) : Type 0 where
  pub tables : (k : ℕ) → length (table_of u l k) ≡ 8192 → Valid (table_of u l k)

-- a call that changes no layer, with its arguments; that for a node's bytes leaves the state as it is
pub data Read : Type 0 where
  lookup : ℕ → Name → Read
  count : ℕ → Read
  listing : ℕ → ℕ → ℕ → List ℕ → Read
  forget : ℕ → ℕ → Read

-- the state that it leaves, refused or not
unfoldable pub after_read : List ℕ → List ℕ → Read → List ℕ → List ℕ
after_read u l (lookup p x) s = (lookup_spec u l s p x).state
after_read u l (count x) s = (count_spec u l s x).state
after_read u l (listing x o size t) s = (list_spec u l s x o size t).state
after_read u l (forget x m) s = forget_call s x m

-- one after another
unfoldable pub after_reads : List ℕ → List ℕ → List Read → List ℕ → List ℕ
after_reads u l [] s = s
after_reads u l (c ∷ cs) s = after_reads u l cs (after_read u l c s)

-- "each loaded directory's names, stacks and whiteout marks equal a merge of it worked out afresh; in a directory not loaded each resident name agrees with that merge"
pub record AsAfresh (u l s : List ℕ) : Type 0 where
  -- a resident node's stack is the merge down its path
  pub stacks : (x : ℕ) → Resident (node_by (nodes_of s)) x → stack_list (node_by (nodes_of s) x) ≡ fresh u l (path_of (nodes_of s) x)
  -- its mark is whether that merge has a whiteout of its name
  pub marks : (x : ℕ) → NonRoot (node_by (nodes_of s)) x → (node_by (nodes_of s) x).white ≡ one (whiteout_of u l (fresh u l (path_of (nodes_of s) (node_by (nodes_of s) x).parent)) (node_name (node_by (nodes_of s) x)))
  -- a loaded directory's nodes have the merged names, in byte order
  pub names : (x : ℕ) → Resident (node_by (nodes_of s)) x → is_loaded (node_by (nodes_of s) x) ≡ true → map node_name (children_of (nodes_of s) x) ≡ merged_names u l (fresh u l (path_of (nodes_of s) x))

pub record DemandThreeOfReads : Type 0 where
  pub reads_afresh : (u l s : List ℕ) (v : ℕ) → (import_spec u l s).answer ≡ Ok v → (cs : List Read) → AsAfresh u l (after_reads u l cs (import_spec u l s).state)
