-- The entries of a listing, as the code finds them in the nodes. Assumes nothing.
use Rattle.std.specs.Prelude.{Option, Some, None}
use mathlib.Core.Path.{◌≡◌, refl, sym, ap, ap₂, ◌∙◌}
use Prim.Native.Nat.{ℕ, suc, ◌+◌, ◌-◌, ◌≤◌, ◌<◌}
use native.Mathlib.Omega.{arith}
use mathlib.Core.Bool.{Bool, true, false, cond}
use mathlib.Core.List.{List, [], ◌∷◌}
use lib.ListN.{length, drop, get_or, length-drop}
use lib.Seq.{drop-drop, get_or-drop}
use Rattle.layers.specs.Items.{records_of, record_at}
use Rattle.layers.specs.Search.{first_from}
use Rattle.layers.specs.declared.items.Record.{Record}
use Rattle.merge.specs.Nodes.{no_node, node_at, node_name}
use Rattle.merge.specs.State.{those, child_from, children_of, has_parent}
use Rattle.merge.specs.Tables.{table_of}
use Rattle.merge.specs.declared.stacks.Pair.{Pair}
use Rattle.merge.specs.declared.node.Node.{Node}
use Rattle.merge.proofs.ListChanges.{those_missing}
use Rattle.calls.specs.Parents.{is_white, is_live}
use Rattle.calls.specs.Listing.{type_of, dirent_of, child_dirents}
use Rattle.calls.proofs.RecordLaws.{record_none, record_there}

-- ---- a record's type

module _ (u l : List ℕ) (p : Pair) (w : ℕ) (q : w ≡ p.layer) where
  pub no_type : table_of u l w ≡ [] → 0 ≡ type_of u l p
  unfolding type_of
  no_type h = sym (ap (λ (r : Record). r.kind) (record_none u l p w q h))

  pub type_there : (t : List ℕ) → t ≡ table_of u l w → (v r : ℕ) → v ≡ p.number → r ≡ (record_at (records_of t) v).kind → r ≡ type_of u l p
  unfolding type_of
  type_there t e v r k h = h ∙ ap (λ (x : Record). x.kind) (record_there u l p w q t e v (record_at (records_of t) v) k refl)

-- ---- the children one after another

-- the first that passes, and those behind it
pub those_first : {A : Type 0} (p : A → Bool) (d : A) (s : ℕ) (xs : List A) (m : ℕ) → first_from p s xs ≡ Some m
    → (k : ℕ) × (m ≡ s + k) × (k < length xs) × (those p xs ≡ get_or xs k d ∷ those p (drop (suc k) xs))
unfolding first_from those
those_first p d s [] m h = absurd (let z : ◌≡◌ {A = ℕ} 0 1 = cc in omega arith)
those_first {A} p d s (x ∷ xs) m h = go (p x) h (those_first p d (suc s) xs m)
  where
    go : (b : Bool) → cond b (Some s) (first_from p (suc s) xs) ≡ Some m
        → (first_from p (suc s) xs ≡ Some m → (k : ℕ) × (m ≡ suc s + k) × (k < length xs) × (those p xs ≡ get_or xs k d ∷ those p (drop (suc k) xs)))
        → (k : ℕ) × (m ≡ s + k) × (k < length (x ∷ xs)) × (cond b (x ∷ those p xs) (those p xs) ≡ get_or (x ∷ xs) k d ∷ those p (drop (suc k) (x ∷ xs)))
    go true h ih = let z : s ≡ m = cc in (0, omega arith, omega arith, refl)
    go false h ih =
        let t : (k : ℕ) × (m ≡ suc s + k) × (k < length xs) × (those p xs ≡ get_or xs k d ∷ those p (drop (suc k) xs)) = ih h in
        let e : m ≡ suc s + t.0 = t.1 in
        let l : t.0 < length xs = t.2 in
        (suc t.0, omega arith, omega arith, t.3)

module _ (ns : List Node) (x k : ℕ) (f : Option ℕ) (f_is : f ≡ child_from ns x k) (j : ℕ) (h : f ≡ Some j) where
  next_child : (k ≤ j) × (j < length ns) × (children_of (drop k ns) x ≡ node_at ns j ∷ children_of (drop (j + 1) ns) x)
  next_child =
      let t : (i : ℕ) × (j ≡ k + i) × (i < length (drop k ns)) × (those (has_parent x) (drop k ns) ≡ get_or (drop k ns) i no_node ∷ those (has_parent x) (drop (suc i) (drop k ns))) =
      those_first (has_parent x) no_node k (drop k ns) j (sym f_is ∙ h) in
      let e : j ≡ k + t.0 = t.1 in
      let l : t.0 < length ns - k = rw (← length-drop k ns) t.2 in
      let a : get_or (drop k ns) t.0 no_node ≡ node_at ns j = get_or-drop k ns t.0 no_node ∙ ap (λ (i : ℕ). node_at ns i) (sym e) in
      let b : drop (suc t.0) (drop k ns) ≡ drop (j + 1) ns = drop-drop (suc t.0) k ns ∙ ap (λ (i : ℕ). drop i ns) (let z : k + suc t.0 ≡ j + 1 = omega arith in z) in
      (omega arith, omega arith, t.3 ∙ ap₂ (λ (m : Node) (y : List Node). m ∷ those (has_parent x) y) a b)

  pub child_after : k ≤ j
  child_after = next_child.0

  pub child_below : j < length ns
  child_below = next_child.1

  module _ (u l : List ℕ) (n : Node) (n_is : n ≡ node_at ns j) (b : Bool) (b_is : b ≡ is_white n) where
    pub white_child : b ≡ true → child_dirents u l x (drop k ns) ≡ child_dirents u l x (drop (j + 1) ns)
    unfolding child_dirents those is_live
    white_child t = rw (next_child.2, ← n_is, ← b_is, t) refl

    pub live_child : b ≡ false → child_dirents u l x (drop k ns) ≡ dirent_of u l (node_name n) n ∷ child_dirents u l x (drop (j + 1) ns)
    unfolding child_dirents those is_live
    live_child t = rw (next_child.2, ← n_is, ← b_is, t) refl

pub no_child : (ns : List Node) (x k : ℕ) (f : Option ℕ) → f ≡ child_from ns x k → f ≡ None → (u l : List ℕ) → child_dirents u l x (drop k ns) ≡ []
unfolding child_dirents those
no_child ns x k f q h u l = rw (those_missing (has_parent x) k (drop k ns) (sym q ∙ h)) refl
