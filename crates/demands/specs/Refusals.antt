-- Demand 1: "A refusal is one errno of document 01, given exactly when its rule says, and changes nothing, except that a directory loaded before it stays loaded." Assumes nothing.
use Rattle.std.specs.Prelude.{◌≡◌, ◌⊎◌, Bool, true, false, not, cond, ℕ, List, [], ◌∷◌, ◌++◌, eqb, Result, Err}
use Rattle.layers.specs.Names.{Name}
use Rattle.layers.specs.declared.items.Record.{Record}
use Rattle.calls.specs.Refusal.{Test, test, Outcome}
use Rattle.calls.specs.Lengths.{lengths_test}
use Rattle.calls.specs.Parents.{place_numbered, parent_tests, load_tests, loaded_state}
use Rattle.calls.specs.Import.{import_tests, root_tests, wiped, import_spec}
use Rattle.calls.specs.Lookup.{lookup_before, name_tests, lookup_spec}
use Rattle.calls.specs.Count.{count_before, count_spec}
use Rattle.calls.specs.Listing.{list_spec}
use Rattle.calls.specs.NodeCall.{node_tests, node_answer, node_out}
use Rattle.calls.specs.Writing.{Written}
use Rattle.calls.specs.Creation.{creation_before, creation_behind, creation_spec}
use Rattle.calls.specs.Link.{link_before, link_behind, link_spec}
use Rattle.calls.specs.CopyUp.{copy_up_before, copy_up_tests, copy_up_spec}
use Rattle.calls.specs.declared.refusal.Refusal.{Refusal}
use Rattle.calls.specs.declared.refusal.Refusal.TheVariants.{Einval}

-- ---- "given exactly when its rule says"

-- of "each call's order of tests" the first that fails gives `r`
pub data Refuses : List Test → Refusal → Type 0 where
  here : {t : Test} {ts : List Test} → t.fails ≡ true → Refuses (t ∷ ts) t.gives
  behind : {t : Test} {ts : List Test} {r : Refusal} → t.fails ≡ false → Refuses ts r → Refuses (t ∷ ts) r

-- the answer is a refusal exactly where these tests give it
pub record Given (ts : List Test) (a : Result ℕ Refusal) : Type 0 where
  pub sound : (r : Refusal) → a ≡ Err r → Refuses ts r
  pub whole : (r : Refusal) → Refuses ts r → a ≡ Err r

-- ---- "changes nothing, except that a directory loaded before it stays loaded"

-- a call that loads the directory of number `p`
pub record Loads (u l s : List ℕ) (p : ℕ) (ts : List Test) (o : Outcome) : Type 0 where
  pub given : Given ts o.answer
  pub kept : (r : Refusal) → o.answer ≡ Err r → (o.state ≡ s) ⊎ (o.state ≡ loaded_state u l s p)

-- and one that writes besides
pub record Writes (u l s : List ℕ) (p : ℕ) (ts : List Test) (w : Written) : Type 0 where
  pub given : Given ts w.answer
  pub kept : (r : Refusal) → w.answer ≡ Err r → (w.state ≡ s) ⊎ (w.state ≡ loaded_state u l s p)
  pub upper_kept : (r : Refusal) → w.answer ≡ Err r → w.upper ≡ u

-- ---- the calls' tests, those before the load of the directory of number `p`, the load's and those behind it

abbrev pub around_load : List ℕ → List ℕ → List ℕ → ℕ → List Test → List Test → List Test
around_load u l s p before after = before ++ (load_tests u l s (place_numbered s p) ++ after)

-- a listing's: "size 0 is success .. whatever the number"
unfoldable pub list_tests : List ℕ → List ℕ → List ℕ → ℕ → ℕ → List Test
list_tests u l s x size = test (not (lengths_test s u l)) Einval ∷ cond (eqb size 0) [] (around_load u l s x (parent_tests u l s x) [])

-- ---- the demand, of every call that can refuse, for any bytes
pub record DemandOne : Type 0 where
  pub import_given : (u l s : List ℕ) → Given (import_tests u l s ++ root_tests u l) (import_spec u l s).answer
  -- "A refused import leaves a state in which every number is unknown."
  pub import_wipes : (u l s : List ℕ) (r : Refusal) → (import_spec u l s).answer ≡ Err r → (import_spec u l s).state ≡ wiped s
  pub lookup_refused : (u l s : List ℕ) (p : ℕ) (x : Name) → Loads u l s p (around_load u l s p (lookup_before u l s p x) (name_tests (loaded_state u l s p) p x)) (lookup_spec u l s p x)
  pub count_refused : (u l s : List ℕ) (x : ℕ) → Loads u l s x (around_load u l s x (count_before u l s x) []) (count_spec u l s x)
  pub list_given : (u l s : List ℕ) (x o size : ℕ) (t : List ℕ) → Given (list_tests u l s x size) (list_spec u l s x o size t).answer
  pub list_kept : (u l s : List ℕ) (x o size : ℕ) (t : List ℕ) (r : Refusal) → (list_spec u l s x o size t).answer ≡ Err r → ((list_spec u l s x o size t).state ≡ s) ⊎ ((list_spec u l s x o size t).state ≡ loaded_state u l s x)
  -- "No refusal writes the output buffer"
  pub list_unwritten : (u l s : List ℕ) (x o size : ℕ) (t : List ℕ) (r : Refusal) → (list_spec u l s x o size t).answer ≡ Err r → (list_spec u l s x o size t).buffer ≡ t
  pub node_given : (s : List ℕ) (x : ℕ) (out : List ℕ) → Given (node_tests s x out) (node_answer s x out)
  pub node_unwritten : (s : List ℕ) (x : ℕ) (out : List ℕ) (r : Refusal) → node_answer s x out ≡ Err r → node_out s x out ≡ out
  -- mknod, create and symlink
  pub creation_refused : (u l s : List ℕ) (bad : Bool) (p : ℕ) (x : Name) (r : Record) → Writes u l s p (around_load u l s p (creation_before u l s bad p x) (creation_behind u (loaded_state u l s p) p x r)) (creation_spec u l s bad p x r)
  pub link_refused : (u l s : List ℕ) (n p : ℕ) (x : Name) → Writes u l s p (around_load u l s p (link_before u l s n p x) (link_behind u (loaded_state u l s p) n p x)) (link_spec u l s n p x)
  pub copy_up_given : (u l s : List ℕ) (x : ℕ) → Given (copy_up_before u l s x ++ copy_up_tests u s (place_numbered s x)) (copy_up_spec u l s x).answer
  pub copy_up_kept : (u l s : List ℕ) (x : ℕ) (r : Refusal) → (copy_up_spec u l s x).answer ≡ Err r → ((copy_up_spec u l s x).state ≡ s) × ((copy_up_spec u l s x).upper ≡ u)
