-- The counts of a directory's children, as the code adds them up. Assumes nothing.
use Rattle.std.specs.Prelude.{Result, Ok}
use Rattle.calls.specs.declared.refusal.Refusal.{Refusal}
use mathlib.Core.Path.{◌≡◌, refl, sym, ap, ◌∙◌}
use Prim.Native.Nat.{ℕ, ◌+◌, ◌≤◌, ◌<◌}
use native.Mathlib.Omega.{arith}
use native.Mathlib.Numerals.{add-one}
use mathlib.Core.Bool.{Bool, true, false, not}
use mathlib.Core.List.{List, [], ◌∷◌}
use lib.ListN.{drop, drop_of_length-le}
use lib.Seq.{drop-cons}
use borrow.Author.Tests.{eq-eqb, ne_eqb}
use Rattle.merge.specs.Nodes.{count_of, nodes_of, node_at, no_node}
use Rattle.merge.specs.State.{has_parent, those}
use Rattle.merge.specs.Load.{load_bytes}
use Rattle.merge.specs.declared.node.Node.{Node}
use Rattle.merge.proofs.StateLaws.{length_nodes}
use Rattle.calls.specs.Refusal.{after_tests, passed}
use Rattle.calls.specs.Parents.{is_white, is_live, place_numbered, load_tests, loaded_state}
use Rattle.calls.proofs.LoadingLaws.{loaded_is, answered_behind, left_behind}
use Rattle.calls.specs.Count.{child_counts, weight, count_before, count_spec}

module _ (x : ℕ) (n : Node) (w : ℕ) (q : w ≡ n.parent) where
  pub weight_other : (w ≡ x → ⊥) → 0 ≡ weight x n
  unfolding weight has_parent
  weight_other h = rw (ne_eqb n.parent x (λ e. h (q ∙ e))) refl

  module _ (h : w ≡ x) (b : Bool) (g : b ≡ is_white n) where
    pub weight_white : b ≡ true → 65536 ≡ weight x n
    unfolding weight has_parent
    weight_white t = rw (eq-eqb n.parent x (sym q ∙ h), ← g, t) refl

    pub weight_live : b ≡ false → 1 ≡ weight x n
    unfolding weight has_parent
    weight_live t = rw (eq-eqb n.parent x (sym q ∙ h), ← g, t) refl

pub ruleset weights = (weight_other, weight_white, weight_live)

module _ {A : Type 0} (p : A → Bool) (x : A) (xs : List A) where
  those_yes : p x ≡ true → those p (x ∷ xs) ≡ x ∷ those p xs
  unfolding those
  those_yes h = rw h refl

  those_no : p x ≡ false → those p (x ∷ xs) ≡ those p xs
  unfolding those
  those_no h = rw h refl

live_not : (n : Node) (b : Bool) → is_white n ≡ b → is_live n ≡ not b
unfolding is_live
live_not n b h = rw h refl

module _ (x : ℕ) (n : Node) (ns : List Node) where
  counts_white : has_parent x n ≡ true → is_white n ≡ true → child_counts (n ∷ ns) x ≡ weight x n + child_counts ns x
  unfolding child_counts weight
  counts_white h w =
      rw (those_yes (has_parent x) n ns h, those_no is_live n (those (has_parent x) ns) (live_not n true w), those_yes is_white n (those (has_parent x) ns) w, h, w)
      (omega arith)

  counts_live : has_parent x n ≡ true → is_white n ≡ false → child_counts (n ∷ ns) x ≡ weight x n + child_counts ns x
  unfolding child_counts weight
  counts_live h w =
      rw (those_yes (has_parent x) n ns h, those_yes is_live n (those (has_parent x) ns) (live_not n false w), those_no is_white n (those (has_parent x) ns) w, h, w)
      (omega arith)

  counts_other : has_parent x n ≡ false → child_counts (n ∷ ns) x ≡ weight x n + child_counts ns x
  unfolding child_counts weight
  counts_other h = rw (those_no (has_parent x) n ns h, h) (omega arith)

  pub counts_cons : child_counts (n ∷ ns) x ≡ weight x n + child_counts ns x
  counts_cons = go (has_parent x n) (is_white n) refl refl
    where
      go : (a b : Bool) → has_parent x n ≡ a → is_white n ≡ b → child_counts (n ∷ ns) x ≡ weight x n + child_counts ns x
      go true true h w = counts_white h w
      go true false h w = counts_live h w
      go false b h w = counts_other h

module _ (s : List ℕ) (x c m n j : ℕ) (q : c ≡ count_of s) where
  pub counts_next : (k : Node) (w : ℕ) → k ≡ node_at (nodes_of s) j → w ≡ weight x k → j < c → n + child_counts (drop j (nodes_of s)) x ≡ m → n + w + child_counts (drop (j + 1) (nodes_of s)) x ≡ m
  counts_next k w e g h i =
      let d : drop j (nodes_of s) ≡ node_at (nodes_of s) j ∷ drop (j + 1) (nodes_of s) = rw (add-one j) (drop-cons (nodes_of s) j no_node (rw (length_nodes s) (omega arith))) in
      let y : child_counts (drop j (nodes_of s)) x ≡ w + child_counts (drop (j + 1) (nodes_of s)) x = rw d (counts_cons x (node_at (nodes_of s) j) (drop (j + 1) (nodes_of s)) ∙ rw (g, e) refl) in
      omega arith

  pub counts_end : c ≤ j → n + child_counts (drop j (nodes_of s)) x ≡ m → n ≡ m
  unfolding child_counts those
  counts_end h i =
      let d : drop j (nodes_of s) ≡ [] = drop_of_length-le (nodes_of s) {i = j} (rw (length_nodes s) (omega arith)) in
      let y : n + 0 ≡ m = rw d at i in
      omega arith

-- ---- the counts, behind the load, where no test is left
module _ (u l s : List ℕ) (x : ℕ) (f : Result ℕ Refusal) (q : f ≡ after_tests (count_before u l s x) (Ok (place_numbered s x))) (k : ℕ) (h : f ≡ Ok k)
    (a : Result ℕ Refusal) (g : a ≡ after_tests (load_tests u l s k) (Ok k)) (s' : List ℕ) (e : s' ≡ load_bytes u l s k) (j : ℕ) (t : a ≡ Ok j) where
  loaded : s' ≡ loaded_state u l s x
  loaded = loaded_is u l s x (count_before u l s x) [] f q k h s' e

  pub counts_answered : (v : ℕ) → v ≡ child_counts (nodes_of s') x → Ok v ≡ (count_spec u l s x).answer
  unfolding after_tests
  counts_answered v d =
      answered_behind u l s x (count_before u l s x) [] f q k h a g j t (child_counts (nodes_of (loaded_state u l s x)) x) (Ok v)
      (ap Ok (d ∙ rw loaded refl))

  pub counts_left : s' ≡ (count_spec u l s x).state
  unfolding passed
  counts_left = left_behind u l s x (count_before u l s x) [] f q k h a g j t (loaded_state u l s x) s' loaded
