-- What is made in the upper layer: one record, and the missing directories of a path. Assumes nothing.
use mathlib.Core.Path.{◌≡◌, refl, ap, ◌∙◌}
use Prim.Native.Nat.{ℕ, zero, suc, ◌-◌}
use native.Mathlib.Omega.{arith}
use mathlib.Core.Bool.{Bool, true, false}
use mathlib.Core.List.{List}
use Rattle.layers.specs.declared.items.Record.{Record}
use Rattle.merge.specs.Nodes.{nodes_of, node_at}
use Rattle.merge.specs.Changes.{put_bytes}
use Rattle.merge.specs.Stacks.{pair}
use Rattle.merge.specs.declared.stacks.Pair.{Pair}
use Rattle.merge.specs.declared.node.Node.{Node}
use Rattle.calls.specs.Parents.{place_numbered, is_directory_node}
use Rattle.calls.specs.Upper.{Up, up, in_upper, new_record, top_record, added_for, made_directory, made_upper, made_path, copied_file, copied_up}
use Rattle.calls.proofs.UpperLaws.{up_is}

-- ---- a node made in the upper layer: with a record like its own, and with that record put on its stack
module _ (like : Record → Record) (put : Node → Pair → Node) (t l s : List ℕ) (k : ℕ) (n : Node) (n_is : n ≡ node_at (nodes_of s) k) where
  pub made_table : (q r : Record) (t' : List ℕ) → q ≡ top_record t l n → r ≡ like q → t' ≡ added_for k r (up t s) → t' ≡ added_for k (like (top_record t l (node_at (nodes_of s) k))) (up t s)
  made_table q r t' a b e = e ∙ rw (b, a, n_is) refl

  pub made_state : (c : ℕ) (p : Pair) (m : Node) (s' : List ℕ) → c ≡ new_record t → p ≡ pair 0 c → m ≡ put n p → s' ≡ put_bytes s k m → s' ≡ put_bytes s k (put (node_at (nodes_of s) k) (pair 0 (new_record t)))
  made_state c p m s' a b e g = g ∙ rw (e, b, a, n_is) refl

-- ---- a path, `part` being the table or the state
module _ (part : Up → List ℕ) (l : List ℕ) (d k : ℕ) (t s : List ℕ) where
  pub path_end : d ≡ 0 → part (up t s) ≡ part (made_upper d l k (up t s))
  unfolding made_upper
  path_end h = rw h refl

  module _ (n : Node) (n_is : n ≡ node_at (nodes_of s) k) (b : Bool) (b_is : b ≡ in_upper n) where
    pub path_there : b ≡ true → part (up t s) ≡ part (made_upper d l k (up t s))
    unfolding made_upper
    path_there h = go d
      where
        go : (m : ℕ) → part (up t s) ≡ part (made_upper m l k (up t s))
        go zero = refl
        go (suc m) = rw (← n_is, ← b_is, h) refl

    one_more : b ≡ false → (m : ℕ) → part (made_directory l k (made_upper m l (place_numbered s n.parent) (up t s))) ≡ part (made_upper (suc m) l k (up t s))
    unfolding made_upper
    one_more h m = rw (← n_is, ← b_is, h) refl

    pub path_made : b ≡ false → (d ≡ 0 → ⊥) → (w j : ℕ) → w ≡ n.parent → j ≡ place_numbered s w → (t₁ s₁ : List ℕ) → t₁ ≡ (made_upper (d - 1) l j (up t s)).table → s₁ ≡ (made_upper (d - 1) l j (up t s)).state
        → (z : List ℕ) → z ≡ part (made_directory l k (up t₁ s₁)) → z ≡ part (made_upper d l k (up t s))
    path_made h g w j a c t₁ s₁ x y z e =
        let i : suc (d - 1) ≡ d = omega arith in
        (e ∙ rw (up_is (made_upper (d - 1) l j (up t s)) t₁ s₁ x y, c, a) refl)
        ∙ (one_more h (d - 1) ∙ ap (λ (m : ℕ). part (made_upper m l k (up t s))) i)

-- ---- a node copied up
module _ (part : Up → List ℕ) (l : List ℕ) (k : ℕ) (t s : List ℕ) (n : Node) (n_is : n ≡ node_at (nodes_of s) k) (b : Bool) (b_is : b ≡ in_upper n) where
  pub copied_there : b ≡ true → part (up t s) ≡ part (copied_up l k (up t s))
  unfolding copied_up
  copied_there h = rw (← n_is, ← b_is, h) refl

  module _ (h : b ≡ false) (e : Bool) (e_is : e ≡ is_directory_node t l n) (z : List ℕ) where
    pub copied_directory : e ≡ true → z ≡ part (made_path l k (up t s)) → z ≡ part (copied_up l k (up t s))
    unfolding copied_up
    copied_directory g q = q ∙ rw (← n_is, ← b_is, h, ← e_is, g) refl

    file_alone : e ≡ false → part (copied_file l k (made_path l (place_numbered s n.parent) (up t s))) ≡ part (copied_up l k (up t s))
    unfolding copied_up
    file_alone g = rw (← n_is, ← b_is, h, ← e_is, g) refl

    pub copied_file_lem : e ≡ false → (w j : ℕ) → w ≡ n.parent → j ≡ place_numbered s w → (t₁ s₁ : List ℕ) → t₁ ≡ (made_path l j (up t s)).table → s₁ ≡ (made_path l j (up t s)).state
        → z ≡ part (copied_file l k (up t₁ s₁)) → z ≡ part (copied_up l k (up t s))
    copied_file_lem g w j a c t₁ s₁ x y q = (q ∙ rw (up_is (made_path l j (up t s)) t₁ s₁ x y, c, a) refl) ∙ file_alone g
