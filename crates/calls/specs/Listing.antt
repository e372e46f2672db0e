-- A directory's listing: the list of its entries, and the call that writes a page of it. Assumes nothing.
use Rattle.std.specs.Prelude.{cond, ℕ, ◌+◌, List, [], ◌∷◌, map, eqb, Result, Ok, Err}
use Rattle.calls.specs.declared.refusal.Refusal.{Refusal}
use Rattle.layers.specs.Names.{Name}
use Rattle.layers.specs.Items.{records_of, record_at}
use Rattle.merge.specs.Nodes.{nodes_of, node_name}
use Rattle.merge.specs.Tables.{table_of}
use Rattle.merge.specs.declared.stacks.Pair.{Pair}
use Rattle.merge.specs.declared.node.Node.{Node}
use Rattle.calls.specs.Dirents.{Dirent, dirent, room_of}
use Rattle.calls.specs.Parents.{numbered, top_of, live_children, place_numbered, parent_tests, load_tests, loaded_state, loading_call}
use Rattle.calls.specs.Lengths.{lengths_test}
use Rattle.calls.specs.Refusal.{passed}
use Rattle.calls.specs.Pages.{page_of, page_over}
use Rattle.calls.specs.declared.page.Page.{Page}
use Rattle.calls.specs.declared.refusal.Refusal.TheVariants.{Einval}

-- "4 of type": the kind number of a record; 0 where there is none
unfoldable pub type_of : List ℕ → List ℕ → Pair → ℕ
type_of u l p = (record_at (records_of (table_of u l p.layer)) p.number).kind

-- "inode (the top record's number)"
unfoldable pub dirent_of : List ℕ → List ℕ → Name → Node → Dirent
dirent_of u l x n = dirent (top_of n).number (type_of u l (top_of n)) x

-- ".." ("the root's is itself"): the number of the directory above
unfoldable pub above : List ℕ → ℕ → ℕ
above s x = cond (eqb x 1) 1 (numbered s x).parent

-- the entries of "live children in byte order", which is the nodes' order
unfoldable pub child_dirents : List ℕ → List ℕ → ℕ → List Node → List Dirent
child_dirents u l x ns = map (λ n. dirent_of u l (node_name n) n) (live_children ns x)

-- "Index 0 is ".", 1 is ".." (the root's is itself), then live children in byte order"
unfoldable pub listing_of : List ℕ → List ℕ → List ℕ → ℕ → List Dirent
listing_of u l s x = dirent_of u l (46 ∷ []) (numbered s x) ∷ dirent_of u l (46 ∷ 46 ∷ []) (numbered s (above s x)) ∷ child_dirents u l x (nodes_of s)

-- ---- the call

-- "bytes written + 2147483648 where entries remain"
unfoldable pub page_value : Page → ℕ
page_value p = cond p.remains (p.bytes + 2147483648) p.bytes

-- what a listing answers, and the state and the buffer that it leaves
pub record Listed : Type 0 where
  pub answer : Result ℕ Refusal
  pub state : List ℕ
  pub buffer : List ℕ

abbrev pub listed : Result ℕ Refusal → List ℕ → List ℕ → Listed
listed a s t = record { answer = a; state = s; buffer = t }

-- the entries once the directory is loaded
abbrev pub loaded_listing : List ℕ → List ℕ → List ℕ → ℕ → List Dirent
loaded_listing u l s x = listing_of u l (loaded_state u l s x) x

-- "then 2 unknown or whiteout, 20, load (23)"; "No refusal writes the output buffer"
unfoldable pub list_loaded : List ℕ → List ℕ → List ℕ → ℕ → ℕ → ℕ → List ℕ → Listed
list_loaded u l s x o size t =
    record {
      answer = (loading_call u l s x (parent_tests u l s x) [] (loaded_state u l s x) (page_value (page_of (room_of size t) o (loaded_listing u l s x)))).answer;
      state = (loading_call u l s x (parent_tests u l s x) [] (loaded_state u l s x) (page_value (page_of (room_of size t) o (loaded_listing u l s x)))).state;
      buffer =
          cond (passed (parent_tests u l s x))
          (cond (passed (load_tests u l s (place_numbered s x))) (page_over (room_of size t) o (loaded_listing u l s x) t) t)
          t;
    }

-- "listing: size 0 is success with nothing written and nothing remaining, whatever the number; then 2 unknown or whiteout, 20, load (23)."
unfoldable pub list_spec : List ℕ → List ℕ → List ℕ → ℕ → ℕ → ℕ → List ℕ → Listed
list_spec u l s x o size t =
    cond (lengths_test s u l)
    (cond (eqb size 0) (listed (Ok 0) s t) (list_loaded u l s x o size t))
    (listed (Err Einval) s t)
