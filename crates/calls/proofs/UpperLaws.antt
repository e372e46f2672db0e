-- What the functions of the upper layer write: a record with its entry, a whiteout deleted, the name's node. Assumes nothing.
use Rattle.std.specs.Prelude.{unwrap_or, Option, Some, None, Result, Ok, Err}
use mathlib.Core.Path.{◌≡◌, refl, sym, ap, ◌∙◌}
use Prim.Native.Nat.{ℕ, ◌<◌}
use native.Mathlib.Omega.{arith}
use mathlib.Core.Bool.{false}
use mathlib.Core.List.{List, [], ◌∷◌}
use lib.Dec.{eqb}
use Rattle.layers.specs.Names.{Name}
use Rattle.layers.specs.Items.{records_of, record_at, free_record}
use Rattle.layers.specs.Search.{free_record_place}
use Rattle.layers.specs.Change.{entry_naming, AddEntry, AddRecord, DropEntry}
use Rattle.layers.specs.declared.items.Record.{Record}
use Rattle.layers.specs.declared.items.Entry.{Entry}
use Rattle.layers.proofs.ChangeLaws.{record_below}
use Rattle.merge.specs.Nodes.{nodes_of, node_at}
use Rattle.merge.specs.Methods.{with_stack, with_white, alone}
use Rattle.merge.specs.Changes.{put_bytes, seated_number, seated_bytes}
use Rattle.merge.specs.Tables.{table_of}
use Rattle.merge.specs.Stacks.{pair, stack_from}
use Rattle.merge.specs.Load.{new_node}
use Rattle.merge.specs.declared.stacks.Pair.{Pair}
use Rattle.merge.specs.declared.node.Node.{Node}
use Rattle.calls.specs.Parents.{top_of}
use Rattle.calls.specs.Upper.{Up, up, in_upper, record_number, new_record, add_new, top_record, emptied, without_whiteout, upper_alone, given_record, named_state, named_number}
use Rattle.calls.proofs.RecordLaws.{record_none, record_there}

-- ---- the two parts of what a call has in hand
abbrev pub the_table : Up → List ℕ
the_table u = u.table

abbrev pub the_state : Up → List ℕ
the_state u = u.state

-- given by two equations
pub up_is : (x : Up) (t s : List ℕ) → t ≡ x.table → s ≡ x.state → up t s ≡ x
up_is x t s a b = rw (a, b) refl

-- ---- the record that a node has on top
module _ (n : Node) (p : Pair) (p_is : p ≡ top_of n) where
  pub top_upper : eqb p.layer 0 ≡ in_upper n
  unfolding in_upper
  top_upper = rw p_is refl

  module _ (u l : List ℕ) (w : ℕ) (q : w ≡ p.layer) (r : Record) where
    pub top_none : table_of u l w ≡ [] → r ≡ free_record → r ≡ top_record u l n
    top_none h g = (g ∙ sym (record_none u l p w q h)) ∙ rw p_is refl

    pub top_there : (t : List ℕ) → t ≡ table_of u l w → (v : ℕ) → v ≡ p.number → r ≡ record_at (records_of t) v → r ≡ top_record u l n
    top_there t e v k h = record_there u l p w q t e v r k h ∙ rw p_is refl

-- ---- a new record with its entry
number_is : (f : Option ℕ) → unwrap_or f 0 ≡ record_number f
unfolding record_number
number_is (Some i) = refl
number_is None = refl

module _ (t : List ℕ) (r : Record) (f : Option ℕ) (t₁ : List ℕ) (a : AddRecord t r f t₁) where
  pub new_fits : record_number f < 256
  unfolding record_number
  new_fits = go f a.place
    where
      go : (g : Option ℕ) → g ≡ free_record_place (records_of t) → record_number g < 256
      go (Some i) e = record_below t (Some i) i e refl
      go None e = omega arith

  module _ (c : ℕ) (c_is : c ≡ unwrap_or f 0) where
    pub number_fits : c < 256
    number_fits = let e : c ≡ record_number f = c_is ∙ number_is f in let h = new_fits in omega (arith, e, h)

    pub new_number_lem : c ≡ new_record t
    new_number_lem = c_is ∙ number_is f ∙ ap record_number a.place

    pub new_added : (d : ℕ) (x : Name) (e : Entry) → e ≡ entry_naming d x c → (g : Option ℕ) (t₂ : List ℕ) → AddEntry t₁ e g t₂ → t₂ ≡ add_new d x r t
    unfolding add_new
    new_added d x e q g t₂ b = b.bytes ∙ rw (q, new_number_lem, a.bytes) refl

-- ---- a whiteout deleted
module _ (s : List ℕ) (f : Option ℕ) where
  pub not_emptied : f ≡ None → s ≡ emptied f s
  unfolding emptied
  not_emptied h = rw h refl

  pub empties : (j : ℕ) → f ≡ Some j → (n m : Node) (z : Pair) (s' : List ℕ) → n ≡ node_at (nodes_of s) j → z ≡ pair 0 0 → m ≡ with_stack n (z ∷ z ∷ z ∷ z ∷ []) 0 → s' ≡ put_bytes s j m → s' ≡ emptied f s
  unfolding emptied
  empties j h n m z s' a b c d = d ∙ rw (c, b, a, h) refl

pub not_deleted : (part : Up → List ℕ) (t s : List ℕ) (e f : Option ℕ) → e ≡ None → part (up t s) ≡ part (without_whiteout e f (up t s))
unfolding without_whiteout
not_deleted part t s e f h = rw h refl

module _ (t s : List ℕ) (e f : Option ℕ) (j : ℕ) (h : e ≡ Some j) where
  pub deleted_table : (t' : List ℕ) → DropEntry t j t' → t' ≡ (without_whiteout e f (up t s)).table
  unfolding without_whiteout
  deleted_table t' d = d.bytes ∙ rw h refl

  pub deleted_state : (s' : List ℕ) → s' ≡ emptied f s → s' ≡ (without_whiteout e f (up t s)).state
  unfolding without_whiteout
  deleted_state s' d = d ∙ rw h refl

-- ---- the name's node
pub alone_made : (p : ℕ) (x : Name) (c : ℕ) (z q : Pair) (n : Node) → z ≡ pair 0 0 → q ≡ pair 0 c → n ≡ new_node p (record { pairs = q ∷ z ∷ z ∷ z ∷ []; length = 1; whiteout = false }) x → n ≡ upper_alone p x c
unfolding stack_from
alone_made p x c z q n a b d = d ∙ rw (b, a) refl

pub number_kept : (s : List ℕ) (j : ℕ) (n : Node) → n ≡ node_at (nodes_of s) j → n.number ≡ (node_at (nodes_of s) j).number
number_kept s j n e = ap (λ (m : Node). m.number) e

pub record_given : (s s' : List ℕ) (j c : ℕ) (n : Node) (q : Pair) (a b : Node) → n ≡ node_at (nodes_of s) j → q ≡ pair 0 c → a ≡ alone n q → b ≡ with_white a 0 → s' ≡ put_bytes s j b → s' ≡ given_record s j c
unfolding given_record
record_given s s' j c n q a b e i k m g = g ∙ rw (m, k, i, e) refl

module _ (t : Result ℕ ℕ) (p : ℕ) (x : Name) (c : ℕ) (s s' : List ℕ) (r : ℕ) where
  module _ (k : ℕ) (h : t ≡ Err k) where
    pub named_new : r ≡ seated_number s k → r ≡ named_number t p x c s
    unfolding named_number
    named_new q = q ∙ rw h refl

    pub put_new : (m : Node) → m ≡ upper_alone p x c → s' ≡ seated_bytes s m k → s' ≡ named_state t p x c s
    unfolding named_state
    put_new m e q = q ∙ rw (e, h) refl

  module _ (j : ℕ) (h : t ≡ Ok j) where
    pub named_kept : r ≡ (node_at (nodes_of s) j).number → r ≡ named_number t p x c s
    unfolding named_number
    named_kept q = q ∙ rw h refl

    pub put_kept : s' ≡ given_record s j c → s' ≡ named_state t p x c s
    unfolding named_state
    put_kept q = q ∙ rw h refl
