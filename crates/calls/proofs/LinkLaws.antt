-- Link: what is written, and the call behind its load. Assumes nothing.
use Rattle.std.specs.Prelude.{Option, Some, Result, Ok, None, IfSome}
use Rattle.calls.specs.declared.refusal.Refusal.{Refusal}
use mathlib.Core.Path.{◌≡◌, refl, sym, ap, ◌∙◌}
use Prim.Native.Nat.{ℕ, suc, ◌+◌}
use native.Mathlib.Omega.{arith}
use mathlib.Core.Bool.{Bool, not, cond, true}
use mathlib.Core.List.{List, [], ◌∷◌}
use lib.ListN.{length}
use Rattle.layers.specs.Names.{Name, malformed_name}
use Rattle.layers.specs.Change.{entry_naming, added_entry}
use Rattle.layers.specs.declared.items.Entry.{Entry}
use Rattle.merge.specs.Nodes.{nodes_of, node_at}
use Rattle.merge.specs.State.{find_number}
use Rattle.merge.specs.Seats.{seat_of, holder}
use Rattle.merge.specs.Load.{is_loaded, load_node_bytes, load_bytes}
use Rattle.merge.specs.declared.stacks.Pair.{Pair}
use Rattle.merge.specs.declared.node.Node.{Node}
use Rattle.calls.specs.Refusal.{Test, test, after_tests, passed}
use Rattle.calls.specs.Lengths.{lengths_test}
use Rattle.calls.specs.Parents.{place_of, place_numbered, numbered, unknown, is_white, is_directory_node, top_of, load_tests, loaded_state}
use Rattle.calls.specs.Upper.{Up, up, named_state, named_number}
use Rattle.calls.specs.Room.{missing_either, whiteout_entry, overfull}
use Rattle.calls.specs.Writing.{has_upper}
use Rattle.calls.specs.Link.{Still, link_nodes, link_before, linked, linked_number, linked_at, link_behind, made_link, made_link_number, linked_in, link_spec}
use Rattle.calls.specs.declared.refusal.Refusal.TheVariants.{Einval, Enoent, Erofs}
use Rattle.calls.proofs.TestLaws.{fine_passed}
use Rattle.calls.proofs.LoadingLaws.{loaded_is, answered_behind, left_behind, upper_behind}
use Rattle.calls.proofs.NumberTests.{known_place}
use Rattle.calls.proofs.WritingTests.{passed_at, not_fails}
use Rattle.calls.proofs.WritingSteps.{value_behind, table_behind, state_behind}

-- ---- what a function found of the node that stands at a place
module _ (b : Bool) (n m : Node) where
  pub white_of : b ≡ is_white n → n ≡ m → b ≡ is_white m
  white_of h e = h ∙ ap is_white e

  pub directory_of : (u l : List ℕ) → b ≡ is_directory_node u l n → n ≡ m → b ≡ is_directory_node u l m
  directory_of u l h e = h ∙ ap (is_directory_node u l) e

-- ---- the nodes of two numbers that were found
module _ (u l s : List ℕ) (n p : ℕ) (f : Option ℕ) (q : f ≡ find_number (nodes_of s) n) (j : ℕ) (h : f ≡ Some j) (g : Option ℕ) (r : g ≡ find_number (nodes_of s) p) (k : ℕ) (i : g ≡ Some k) where
  pub link_found : (z : Result ℕ Refusal) → z ≡ after_tests (link_nodes u l (node_at (nodes_of s) j) (node_at (nodes_of s) k)) (Ok k) → z ≡ after_tests (link_nodes u l (numbered s n) (numbered s p)) (Ok (place_numbered s p))
  link_found z e = e ∙ rw (known_place s n f q j h, known_place s p g r k i) refl

-- ---- 28

pub room_for_link : (b : Bool) (t s : List ℕ) (e : Option ℕ) (j k m : ℕ) → m ≡ missing_either s j k → b ≡ overfull t e m (1 + m) → b ≡ overfull t e (missing_either s j k) (suc (missing_either s j k))
room_for_link b t s e j k m h g = let i : 1 + m ≡ suc m = omega arith in g ∙ ap (λ (n : ℕ). overfull t e m n) i ∙ ap (λ (n : ℕ). overfull t e n (suc n)) h

-- ---- what is written
module _ (t s : List ℕ) (j k : ℕ) (n : Node) (q : n ≡ node_at (nodes_of s) j) (c : Pair) (h : c ≡ top_of n) (m : Node) (r : m ≡ node_at (nodes_of s) k) (f : Result ℕ ℕ) (x : Name) where
  pub links_number : (z : ℕ) → z ≡ named_number f m.number x c.number s → z ≡ linked_number j k f x (up t s)
  unfolding linked_number
  links_number z g = g ∙ rw (h, q, r) refl

  pub links_table : (d : Pair) (e : Entry) (z : List ℕ) → d ≡ top_of m → e ≡ entry_naming d.number x c.number → z ≡ added_entry t e → z ≡ (linked j k f x (up t s)).table
  unfolding linked
  links_table d e z i o g = g ∙ rw (o, i, h, q, r) refl

  pub links_state : (z : List ℕ) → z ≡ named_state f m.number x c.number s → z ≡ (linked j k f x (up t s)).state
  unfolding linked
  links_state z g = g ∙ rw (h, q, r) refl

module _ (ts : List Test) (a : Result ℕ Refusal) (q : a ≡ after_tests ts (Ok 0)) (i j : ℕ) (f : Result ℕ ℕ) (x : Name) (k : ℕ) (h : a ≡ Ok k) (t s : List ℕ) (w : Up) (e : t ≡ w.table) (d : s ≡ w.state) where
  pub linked_value : (n : ℕ) → n ≡ linked_number i j f x (up t s) → Ok n ≡ after_tests ts (Ok (linked_number i j f x w))
  linked_value = value_behind ts a q (linked_number i j f x) (linked i j f x) k h t s w e d

  pub linked_table : (v y : List ℕ) → v ≡ (linked i j f x (up t s)).table → v ≡ cond (passed ts) (linked i j f x w).table y
  linked_table = table_behind ts a q (linked_number i j f x) (linked i j f x) k h t s w e d

  pub linked_state : (v y : List ℕ) → v ≡ (linked i j f x (up t s)).state → v ≡ cond (passed ts) (linked i j f x w).state y
  linked_state = state_behind ts a q (linked_number i j f x) (linked i j f x) k h t s w e d

-- ---- of the source `y` into the directory of number `p`
module _ (u l v : List ℕ) (y p : ℕ) (x : Name) (j : ℕ) (i : j ≡ place_numbered v y) (k : ℕ) (m : k ≡ place_numbered v p) (t : Result ℕ ℕ) (b : t ≡ seat_of (nodes_of v) p x) (f : Option ℕ) (n : f ≡ holder t) (w : Option ℕ) (o : w ≡ whiteout_entry u v k f x) where
  pub in_answered : (z : Result ℕ Refusal) → z ≡ (linked_at u l v x j k f t w).answer → z ≡ (linked_in u l v y p x).answer
  unfolding link_behind made_link_number
  in_answered z d = d ∙ rw (o, n, b, m, i) refl

  pub in_left : (z : List ℕ) → z ≡ (linked_at u l v x j k f t w).state → z ≡ (linked_in u l v y p x).state
  unfolding link_behind made_link
  in_left z d = d ∙ rw (o, n, b, m, i) refl

  pub in_wrote : (z : List ℕ) → z ≡ (linked_at u l v x j k f t w).upper → z ≡ (linked_in u l v y p x).upper
  unfolding link_behind made_link
  in_wrote z d = d ∙ rw (o, n, b, m, i) refl

-- ---- the source, where it was found before the load
module _ (s : List ℕ) (n : ℕ) (f : Option ℕ) where
  pub still_there : (u l v : List ℕ) (i : ℕ) (b : Bool) → f ≡ find_number (nodes_of s) n → b ≡ is_loaded (node_at (nodes_of s) i) → v ≡ load_bytes u l s i → Still b f v n
  unfolding load_node_bytes
  still_there u l v i b h g d = record { still = λ t. let z : v ≡ s = d ∙ rw (← g, t) refl in h ∙ ap (λ (w : List ℕ). find_number (nodes_of w) n) (sym z) }

-- the place that is handed on, where the load changed nothing
pub still_known : (v : List ℕ) (n : ℕ) (f q : Option ℕ) (b : Bool) → Still b f v n → b ≡ true → q ≡ f → IfSome q (λ k. k ≡ place_numbered v n)
unfolding place_of
still_known v n f q b w t e = rw e (go f (w.still t))
  where
    go : (f : Option ℕ) → f ≡ find_number (nodes_of v) n → IfSome f (λ k. k ≡ place_of (nodes_of v) (find_number (nodes_of v) n))
    go (Some k) h = rw (← h) refl
    go None h = tt

pub still_unknown : (v : List ℕ) (n : ℕ) (q : Option ℕ) → q ≡ None → IfSome q (λ k. k ≡ place_numbered v n)
still_unknown v n q e = rw e tt

-- ---- the call
module _ (u l s : List ℕ) (y p : ℕ) (x : Name) (a : Result ℕ Refusal) (q : a ≡ after_tests (link_before u l s y p x) (Ok (place_numbered s p))) (i : ℕ) (h : a ≡ Ok i) where
  pub link_has_upper : length u ≡ 8192
  unfolding link_before
  link_has_upper =
      not_fails (length u) 8192
      (passed_at (test (not (lengths_test s u l)) Einval ∷ test (malformed_name x) Einval ∷ test (unknown s y) Enoent ∷ test (unknown s p) Enoent ∷ [])
      (link_nodes u l (numbered s y) (numbered s p))
      (test (not (has_upper u)) Erofs)
      (fine_passed (link_before u l s y p x) (Ok (place_numbered s p)) i (sym q ∙ h)))

  module _ (b : Result ℕ Refusal) (g : b ≡ after_tests (load_tests u l s i) (Ok i)) (v : List ℕ) (e : v ≡ load_bytes u l s i) (j : ℕ) (t : b ≡ Ok j) where
    loaded : v ≡ loaded_state u l s p
    loaded = loaded_is u l s p (link_before u l s y p x) [] a q i h v e

    pub link_answered : (z : Result ℕ Refusal) → z ≡ (linked_in u l v y p x).answer → z ≡ (link_spec u l s y p x).answer
    link_answered z d =
        answered_behind u l s p (link_before u l s y p x) (link_behind u (loaded_state u l s p) y p x) a q i h b g j t (made_link_number u l (loaded_state u l s p) y p x) z
        (d ∙ rw loaded refl)

    pub link_left : (z : List ℕ) → z ≡ (linked_in u l v y p x).state → z ≡ (link_spec u l s y p x).state
    link_left z d =
        left_behind u l s p (link_before u l s y p x) (link_behind u (loaded_state u l s p) y p x) a q i h b g j t (made_link u l (loaded_state u l s p) y p x).state z
        (d ∙ rw loaded refl)

    pub link_wrote : (z : List ℕ) → z ≡ (linked_in u l v y p x).upper → z ≡ (link_spec u l s y p x).upper
    link_wrote z d =
        upper_behind u l s p (link_before u l s y p x) (link_behind u (loaded_state u l s p) y p x) a q i h b g j t (made_link u l (loaded_state u l s p) y p x).table z
        (d ∙ rw loaded refl)
