-- Creation: what is written, and the call behind its load. Assumes nothing.
use Rattle.std.specs.Prelude.{Option, Some, Result, Ok}
use Rattle.calls.specs.declared.refusal.Refusal.{Refusal}
use mathlib.Core.Path.{◌≡◌, refl, sym, ap, ◌∙◌}
use Prim.Native.Nat.{ℕ, suc, ◌+◌}
use native.Mathlib.Omega.{arith}
use mathlib.Core.Bool.{Bool, true, not, cond}
use mathlib.Core.List.{List, [], ◌∷◌}
use lib.ListN.{length}
use Rattle.layers.specs.Names.{Name, malformed_name}
use Rattle.layers.specs.declared.items.Record.{Record}
use Rattle.merge.specs.Nodes.{nodes_of, node_at}
use Rattle.merge.specs.State.{find_number}
use Rattle.merge.specs.Seats.{seat_of, holder}
use Rattle.merge.specs.Load.{load_bytes}
use Rattle.merge.specs.declared.stacks.Pair.{Pair}
use Rattle.merge.specs.declared.node.Node.{Node}
use Rattle.calls.specs.Refusal.{Test, test, after_tests, passed}
use Rattle.calls.specs.Lengths.{lengths_test}
use Rattle.calls.specs.Parents.{place_numbered, numbered, unknown, top_of, load_tests, loaded_state}
use Rattle.calls.specs.Upper.{Up, up, new_record, add_new, named_state, named_number}
use Rattle.calls.specs.Room.{missing, whiteout_entry, overfull}
use Rattle.calls.specs.Writing.{has_upper}
use Rattle.calls.specs.Creation.{parent_node, creation_before, filled, filled_number, created_at, creation_behind, created, created_number, created_in, creation_spec}
use Rattle.calls.specs.declared.refusal.Refusal.TheVariants.{Einval, Enoent, Erofs}
use Rattle.calls.proofs.TestLaws.{fine_passed}
use Rattle.calls.proofs.LoadingLaws.{loaded_is, answered_behind, left_behind, upper_behind}
use Rattle.calls.proofs.NumberTests.{known_place}
use Rattle.calls.proofs.WritingTests.{passed_at, not_fails}
use Rattle.calls.proofs.WritingSteps.{value_behind, table_behind, state_behind}

-- ---- the parent, whose number was found
module _ (s : List ℕ) (x : ℕ) (f : Option ℕ) (q : f ≡ find_number (nodes_of s) x) (k : ℕ) (h : f ≡ Some k) where
  pub parent_found : (u l : List ℕ) (n : Node) (z : Result ℕ Refusal) → n ≡ node_at (nodes_of s) k → z ≡ after_tests (parent_node u l n) (Ok k) → z ≡ after_tests (parent_node u l (numbered s x)) (Ok (place_numbered s x))
  parent_found u l n z e g = g ∙ rw (e, known_place s x f q k h) refl

-- ---- 28

pub room_for : (b : Bool) (t s : List ℕ) (e : Option ℕ) (k m : ℕ) → m ≡ length (missing s k) → b ≡ overfull t e (1 + m) (1 + m) → b ≡ overfull t e (suc (length (missing s k))) (suc (length (missing s k)))
room_for b t s e k m h g = let i : 1 + m ≡ suc (length (missing s k)) = omega arith in g ∙ ap (λ (n : ℕ). overfull t e n n) i

-- ---- what is written
module _ (t s : List ℕ) (k : ℕ) (n : Node) (q : n ≡ node_at (nodes_of s) k) (f : Result ℕ ℕ) (x : Name) where
  pub fills_table : (r : Record) (d : Pair) (v : List ℕ) → d ≡ top_of n → v ≡ add_new d.number x r t → v ≡ (filled k f x r (up t s)).table
  unfolding filled
  fills_table r d v e g = g ∙ rw (e, q) refl

  module _ (c : ℕ) (h : c ≡ new_record t) where
    pub fills_number : (m : ℕ) → m ≡ named_number f n.number x c s → m ≡ filled_number k f x (up t s)
    unfolding filled_number
    fills_number m g = g ∙ rw (h, q) refl

    pub fills_state : (r : Record) (v : List ℕ) → v ≡ named_state f n.number x c s → v ≡ (filled k f x r (up t s)).state
    unfolding filled
    fills_state r v g = g ∙ rw (h, q) refl

module _ (ts : List Test) (a : Result ℕ Refusal) (q : a ≡ after_tests ts (Ok 0)) (j : ℕ) (f : Result ℕ ℕ) (x : Name) (r : Record) (k : ℕ) (h : a ≡ Ok k) (t s : List ℕ) (w : Up) (e : t ≡ w.table) (d : s ≡ w.state) where
  pub created_value : (n : ℕ) → n ≡ filled_number j f x (up t s) → Ok n ≡ after_tests ts (Ok (filled_number j f x w))
  created_value = value_behind ts a q (filled_number j f x) (filled j f x r) k h t s w e d

  pub created_table : (v y : List ℕ) → v ≡ (filled j f x r (up t s)).table → v ≡ cond (passed ts) (filled j f x r w).table y
  created_table = table_behind ts a q (filled_number j f x) (filled j f x r) k h t s w e d

  pub created_state : (v y : List ℕ) → v ≡ (filled j f x r (up t s)).state → v ≡ cond (passed ts) (filled j f x r w).state y
  created_state = state_behind ts a q (filled_number j f x) (filled j f x r) k h t s w e d

-- ---- in the directory of number `p`
module _ (u l v : List ℕ) (p : ℕ) (x : Name) (r : Record) (k : ℕ) (m : k ≡ place_numbered v p) (t : Result ℕ ℕ) (b : t ≡ seat_of (nodes_of v) p x) (f : Option ℕ) (n : f ≡ holder t) (w : Option ℕ) (o : w ≡ whiteout_entry u v k f x) where
  pub in_answered : (z : Result ℕ Refusal) → z ≡ (created_at u l v x r k f t w).answer → z ≡ (created_in u l v p x r).answer
  unfolding creation_behind created_number
  in_answered z d = d ∙ rw (o, n, b, m) refl

  pub in_left : (z : List ℕ) → z ≡ (created_at u l v x r k f t w).state → z ≡ (created_in u l v p x r).state
  unfolding creation_behind created
  in_left z d = d ∙ rw (o, n, b, m) refl

  pub in_wrote : (z : List ℕ) → z ≡ (created_at u l v x r k f t w).upper → z ≡ (created_in u l v p x r).upper
  unfolding creation_behind created
  in_wrote z d = d ∙ rw (o, n, b, m) refl

-- ---- the call
module _ (u l s : List ℕ) (bad : Bool) (p : ℕ) (x : Name) (a : Result ℕ Refusal) (q : a ≡ after_tests (creation_before u l s bad p x) (Ok (place_numbered s p))) (i : ℕ) (h : a ≡ Ok i) where
  pub creation_has_upper : length u ≡ 8192
  unfolding creation_before
  creation_has_upper =
      not_fails (length u) 8192
      (passed_at (test (not (lengths_test s u l)) Einval ∷ test (cond (malformed_name x) true bad) Einval ∷ test (unknown s p) Enoent ∷ [])
      (parent_node u l (numbered s p))
      (test (not (has_upper u)) Erofs)
      (fine_passed (creation_before u l s bad p x) (Ok (place_numbered s p)) i (sym q ∙ h)))

  module _ (r : Record) (b : Result ℕ Refusal) (g : b ≡ after_tests (load_tests u l s i) (Ok i)) (v : List ℕ) (e : v ≡ load_bytes u l s i) (j : ℕ) (t : b ≡ Ok j) where
    loaded : v ≡ loaded_state u l s p
    loaded = loaded_is u l s p (creation_before u l s bad p x) [] a q i h v e

    pub creation_answered : (z : Result ℕ Refusal) → z ≡ (created_in u l v p x r).answer → z ≡ (creation_spec u l s bad p x r).answer
    creation_answered z d =
        answered_behind u l s p (creation_before u l s bad p x) (creation_behind u (loaded_state u l s p) p x r) a q i h b g j t (created_number u l (loaded_state u l s p) p x) z
        (d ∙ rw loaded refl)

    pub creation_left : (z : List ℕ) → z ≡ (created_in u l v p x r).state → z ≡ (creation_spec u l s bad p x r).state
    creation_left z d =
        left_behind u l s p (creation_before u l s bad p x) (creation_behind u (loaded_state u l s p) p x r) a q i h b g j t (created u l (loaded_state u l s p) p x r).state z
        (d ∙ rw loaded refl)

    pub creation_wrote : (z : List ℕ) → z ≡ (created_in u l v p x r).upper → z ≡ (creation_spec u l s bad p x r).upper
    creation_wrote z d =
        upper_behind u l s p (creation_before u l s bad p x) (creation_behind u (loaded_state u l s p) p x r) a q i h b g j t (created u l (loaded_state u l s p) p x r).table z
        (d ∙ rw loaded refl)
