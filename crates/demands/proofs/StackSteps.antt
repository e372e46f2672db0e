-- The records of a node's stack reach their layers' roots in one number of steps. Assumes nothing.
use mathlib.Core.Path.{◌≡◌, refl, sym, ap, ◌∙◌, subst}
use mathlib.Core.Logic.{◌≢◌}
use Prim.Native.Nat.{ℕ, zero, suc, ◌<◌}
use native.Mathlib.Omega.{arith}
use native.Mathlib.Decide.{ℕ_discrete}
use mathlib.Core.List.{List}
use Rattle.layers.specs.Names.{Name}
use Rattle.layers.specs.Items.{records_of, entries_of, record_at, entry_at}
use Rattle.layers.specs.Search.{name_of}
use Rattle.layers.specs.Rules.{Used, Reaches, at_root, up, Valid}
use Rattle.layers.specs.declared.items.Entry.{Entry}
use Rattle.layers.proofs.RuleFacts.{directory_once}
use Rattle.merge.specs.declared.node.Node.{Node}
use Rattle.merge.specs.declared.stacks.Pair.{Pair}
use Rattle.merge.specs.Nodes.{node_name}
use Rattle.merge.specs.Tables.{table_of}
use Rattle.merge.specs.Classes.{named}
use Rattle.merge.specs.Stacks.{stack_of}
use Rattle.merge.specs.Load.{stack_list}
use Rattle.demands.specs.Invariant.{Resident, Coherent}
use Rattle.demands.proofs.InvariantShare.{found_parts, In, Above, stack_above, root_one}

-- ---- the entry that a search finds

pub found_entry : (es : List Entry) (d : ℕ) (x : Name) → named es d x ≢ 0 → (j : ℕ) × Used es j × ((entry_at es j).child ≡ named es d x) × ((entry_at es j).parent ≡ d) × (name_of (entry_at es j) ≡ x)
found_entry es d x z = found_parts es d x (named es d x) refl z

-- ---- a directory of a valid table reaches the root in one number of steps

module _ (t : List ℕ) (v : Valid t) where
  pub steps_once : {a b r : ℕ} → (record_at (records_of t) r).kind ≡ 4 → Reaches (entries_of t) a r → Reaches (entries_of t) b r → a ≡ b
  steps_once k (at_root p) (at_root q) = refl
  steps_once k (at_root p) (up j m rest) = absurd ((v.ends j).child_not_root m.0 (m.1 ∙ p))
  steps_once k (up j m rest) (at_root p) = absurd ((v.ends j).child_not_root m.0 (m.1 ∙ p))
  steps_once {r = r} k (up {n = a} j m rest) (up {n = b} i o more) =
      ap suc
      (steps_once ((v.ends j).parent_directory m.0) rest
      (subst (λ (z : ℕ). Reaches (entries_of t) b (entry_at (entries_of t) z).parent) (sym (directory_once t v r j i k m o)) more))

-- every record of a node's stack reaches its layer's root in as many steps as the node
module _ (t l : List ℕ) where
  abbrev pub Steps : ℕ → List Pair → Type 0
  Steps m s = (a : Pair) → In a s → Reaches (entries_of (table_of t l a.layer)) m a.number

  pub steps_below : (m : ℕ) (s : List Pair) (x : Name) → Steps m s → Steps (suc m) (stack_of t l s x)
  steps_below m s x h a i =
      let w : Above t l x s a = stack_above t l x s i in
      let e : (j : ℕ) × Used (entries_of (table_of t l w.at.layer)) j × ((entry_at (entries_of (table_of t l w.at.layer)) j).child ≡ named (entries_of (table_of t l w.at.layer)) w.at.number x) × ((entry_at (entries_of (table_of t l w.at.layer)) j).parent ≡ w.at.number) × (name_of (entry_at (entries_of (table_of t l w.at.layer)) j) ≡ x) =
      found_entry (entries_of (table_of t l w.at.layer)) w.at.number x (λ z. w.some (sym w.found ∙ z)) in
      subst (λ (k : ℕ). Reaches (entries_of (table_of t l k)) (suc m) a.number) w.layer_is
      (up {n = m} {r = a.number} e.0 (e.1, e.2 ∙ w.found) (subst (Reaches (entries_of (table_of t l w.at.layer)) m) (sym e.3) (h w.at w.within)))

  module _ (f : ℕ → Node) (c : Coherent t l f) where
    steps_to : (b x : ℕ) → x < b → Resident f x → (m : ℕ) × Steps m (stack_list (f x))
    steps_to zero x h r = absurd (omega arith)
    steps_to (suc b) x h r = go (ℕ_discrete x 1) (steps_to b (f x).parent)
      where
        go : Dec (x ≡ 1) → ((f x).parent < b → Resident f (f x).parent → (m : ℕ) × Steps m (stack_list (f (f x).parent))) → (m : ℕ) × Steps m (stack_list (f x))
        go (yes e) ih = (0, λ a i. at_root (root_one t l (subst (In a) (ap (λ (z : ℕ). stack_list (f z)) e ∙ c.root_stack) i)))
        go (no e) ih =
            let a : (f x).parent < x = c.parent_less x (r, e) in
            let s : (m : ℕ) × Steps m (stack_list (f (f x).parent)) = ih (omega arith) (c.parent_there x (r, e)) in
            (suc s.0, subst (Steps (suc s.0)) (sym (c.stack_is x (r, e))) (steps_below s.0 (stack_list (f (f x).parent)) (node_name (f x)) s.1))

    pub node_steps : (x : ℕ) → Resident f x → (m : ℕ) × Steps m (stack_list (f x))
    node_steps x r = steps_to (suc x) x (omega arith) r
