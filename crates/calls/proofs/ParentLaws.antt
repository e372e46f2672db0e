-- The parent search and the load, from what the code's tests showed. Assumes nothing.
use Rattle.std.specs.Prelude.{Option, Some, None, Result, Ok, Err, IsErrAnd, unwrap_or}
use Rattle.merge.specs.declared.load.LoadError.{LoadError}
use Rattle.merge.specs.declared.load.LoadError.TheVariants.{NoRoom}
use mathlib.Core.Path.{◌≡◌, refl, sym, ap, ◌∙◌}
use Prim.Native.Nat.{ℕ}
use mathlib.Core.Bool.{Bool, true, false, not}
use lib.Dec.{eqb}
use mathlib.Core.List.{List, []}
use lib.ListN.{get_or}
use borrow.Author.Tests.{eq-eqb, ne_eqb}
use Rattle.merge.specs.Nodes.{no_pair, nodes_of, node_at, count_of}
use Rattle.merge.specs.State.{find_number}
use Rattle.merge.specs.Tables.{table_of}
use Rattle.merge.specs.Scan.{is_walked}
use Rattle.merge.specs.Load.{is_loaded, load_answer}
use Rattle.merge.specs.declared.node.Node.{Node}
use Rattle.merge.proofs.StateLaws.{length_nodes}
use Rattle.merge.proofs.ClassLaws.{unwalked}
use Rattle.calls.specs.Refusal.{after_tests}
use Rattle.calls.specs.Parents.{place_of, place_numbered, is_white, is_directory_node, parent_tests, load_tests}
use Rattle.calls.specs.declared.refusal.Refusal.{Refusal}
use Rattle.calls.specs.declared.refusal.Refusal.TheVariants.{Enoent, Enotdir, Enfile}

module _ (u l : List ℕ) (n : Node) where
  pub no_top : n.depth ≡ 0 → false ≡ is_directory_node u l n
  unfolding is_directory_node
  no_top h = rw (eq-eqb n.depth 0 h) refl

  module _ (h : n.depth ≡ 0 → ⊥) (k : ℕ) (e : k ≡ (get_or n.stack 0 no_pair).layer) where
    pub top_gone : table_of u l k ≡ [] → false ≡ is_directory_node u l n
    unfolding is_directory_node
    top_gone g = sym (unwalked _ (get_or n.stack 0 no_pair).number g) ∙ rw (e, ne_eqb n.depth 0 h) refl

    pub top_decides : (t : List ℕ) (b : Bool) → t ≡ table_of u l k → b ≡ is_walked t (get_or n.stack 0 no_pair).number → b ≡ is_directory_node u l n
    unfolding is_directory_node
    top_decides t b g q = q ∙ rw (g, e, ne_eqb n.depth 0 h) refl

module _ (u l s : List ℕ) (x : ℕ) (f : Option ℕ) (q : f ≡ find_number (nodes_of s) x) where
  pub parent_unknown : f ≡ None → Err Enoent ≡ after_tests (parent_tests u l s x) (Ok (place_numbered s x))
  unfolding parent_tests after_tests
  parent_unknown h = rw (← q, h) refl

  module _ (k : ℕ) (h : f ≡ Some k) (n : Node) (e : n ≡ node_at (nodes_of s) k) (w : Bool) (g : w ≡ is_white n) where
    pub parent_white : w ≡ true → Err Enoent ≡ after_tests (parent_tests u l s x) (Ok (place_numbered s x))
    unfolding parent_tests after_tests place_of
    parent_white t = rw (← q, h, ← e, ← g, t) refl

    module _ (t : w ≡ false) (d : Bool) (i : d ≡ is_directory_node u l n) where
      pub parent_there : d ≡ true → Ok k ≡ after_tests (parent_tests u l s x) (Ok (place_numbered s x))
      unfolding parent_tests after_tests place_of
      parent_there z = rw (← q, h, ← e, ← g, t, ← i, z) refl

      pub parent_other : d ≡ false → Err Enotdir ≡ after_tests (parent_tests u l s x) (Ok (place_numbered s x))
      unfolding parent_tests after_tests place_of
      parent_other z = rw (← q, h, ← e, ← g, t, ← i, z) refl

pub ruleset parents = (parent_unknown, parent_white, parent_there, parent_other)

module _ (u l s : List ℕ) (k : ℕ) (a : Result (Unit {0}) LoadError) (q : a ≡ load_answer u l s k) where
  pub load_fine : (y : Unit {0}) → a ≡ Ok y → Ok k ≡ after_tests (load_tests u l s k) (Ok k)
  unfolding load_tests after_tests
  load_fine y h = rw (← q, h) refl

  load_refused_lem : (e : LoadError) → a ≡ Err e → Err Enfile ≡ after_tests (load_tests u l s k) (Ok k)
  unfolding load_tests after_tests
  load_refused_lem NoRoom h = rw (← q, h) refl

  pub load_refused : (e : LoadError) → a ≡ Err e → (r : Result ℕ Refusal) → IsErrAnd r (λ x. x ≡ Enfile) → r ≡ after_tests (load_tests u l s k) (Ok k)
  load_refused e h (Err x) g = ap Err g ∙ load_refused_lem e h
  load_refused e h (Ok v) g = absurd g

pub loaded_at : (n m : Node) → n ≡ m → not (eqb n.loaded 0) ≡ is_loaded m
unfolding is_loaded
loaded_at n m e = ap (λ (k : Node). not (eqb k.loaded 0)) e

-- ---- by number, where a node that is not there is no node
module _ (s : List ℕ) (f : Option ℕ) where
  pub place_told : (c k : ℕ) → c ≡ count_of s → k ≡ unwrap_or f c → k ≡ place_of (nodes_of s) f
  unfolding place_of
  place_told c k h e = e ∙ go f
    where
      go : (f : Option ℕ) → unwrap_or f c ≡ place_of (nodes_of s) f
      go (Some j) = refl
      go None = h ∙ sym (length_nodes s)
