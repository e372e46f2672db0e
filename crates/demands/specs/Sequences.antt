-- Demand 3, of the calls that read, of copy-up and of creations: after any sequence of them from an accepted import the state is as a merge afresh of the layers as they then are. Assumes nothing.
use Rattle.std.specs.Prelude.{◌≡◌, ℕ, ◌≤◌, Bool, false, List, [], ◌∷◌, Ok}
use Rattle.layers.specs.Bytes.{AllBytes}
use Rattle.layers.specs.Names.{Name}
use Rattle.layers.specs.Items.{FitsTail}
use Rattle.layers.specs.Change.{numbered}
use Rattle.layers.specs.Rules.{GoodRecord}
use Rattle.layers.specs.declared.items.Record.{Record}
use Rattle.calls.specs.Upper.{Up, up}
use Rattle.calls.specs.Import.{import_spec}
use Rattle.calls.specs.CopyUp.{copy_up_spec}
use Rattle.calls.specs.Creation.{creation_spec}
use Rattle.demands.specs.Reads.{Read, after_read, AsAfresh}

-- a call with its arguments; mknod, create and symlink are each `creates` of their record (calls/specs/Creation.antt), the first argument saying that one of theirs is malformed
pub data Call : Type 0 where
  reads : Read → Call
  copies_up : ℕ → Call
  creates : Bool → ℕ → Name → Record → Call

-- "A new record": its fields keep the rules at every place and fit their bytes, and it is no directory
pub record Creatable (r : Record) : Type 0 where
  pub good : (i : ℕ) → 1 ≤ i → i ≤ 128 → GoodRecord i (numbered i r)
  pub tail : FitsTail r
  pub no_directory : r.kind ≡ 4 → ⊥

-- a creation's name is bytes, and its record, where no argument is malformed, such a record
unfoldable pub Sensible : Call → Type 0
Sensible (reads c) = Unit {0}
Sensible (copies_up x) = Unit {0}
Sensible (creates bad p x r) = AllBytes x × (bad ≡ false → Creatable r)

-- so of each call
unfoldable pub AllSensible : List Call → Type 0
AllSensible [] = Unit {0}
AllSensible (c ∷ cs) = Sensible c × AllSensible cs

-- the upper layer's table and the state that it leaves, refused or not; "no lower layer changes": they are `l` throughout
unfoldable pub after_call : List ℕ → Call → Up → Up
after_call l (reads c) u = up u.table (after_read u.table l c u.state)
after_call l (copies_up x) u = up (copy_up_spec u.table l u.state x).upper (copy_up_spec u.table l u.state x).state
after_call l (creates bad p x r) u = up (creation_spec u.table l u.state bad p x r).upper (creation_spec u.table l u.state bad p x r).state

-- one after another
unfoldable pub after_calls : List ℕ → List Call → Up → Up
after_calls l [] u = u
after_calls l (c ∷ cs) u = after_calls l cs (after_call l c u)

-- what the slices hold are bytes
pub record DemandThreeInPart : Type 0 where
  pub calls_afresh : (u l s : List ℕ) → AllBytes u → AllBytes l → (v : ℕ) → (import_spec u l s).answer ≡ Ok v → (cs : List Call) → AllSensible cs
      → AsAfresh (after_calls l cs (up u (import_spec u l s).state)).table l (after_calls l cs (up u (import_spec u l s).state)).state
