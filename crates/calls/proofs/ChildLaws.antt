-- The page loop: the children's entries, as the code writes them. Assumes nothing.
use Rattle.std.specs.Prelude.{Option, Some, None}
use mathlib.Core.Path.{◌≡◌, refl, sym, ap, ◌∙◌}
use Prim.Native.Nat.{ℕ, ◌+◌, ◌-◌, ◌≤◌, ◌<◌}
use native.Mathlib.Omega.{arith}
use mathlib.Core.Bool.{Bool, true, false, not}
use borrow.Author.Tests.{not-true, not-false}
use mathlib.Core.List.{List, ◌∷◌}
use lib.ListN.{drop, get_or}
use mir.Syntax.{w64}
use mir.Val.{Fits}
use Rattle.layers.specs.Names.{Name}
use Rattle.merge.specs.Nodes.{no_pair, nodes_of, node_at, node_name, count_of}
use Rattle.merge.specs.State.{child_from}
use Rattle.merge.specs.declared.node.Node.{Node}
use Rattle.merge.proofs.StateLaws.{length_nodes}
use Rattle.merge.proofs.HeadLaws.{count_most}
use Rattle.calls.specs.Dirents.{dirent, put_answer, put_dirent}
use Rattle.calls.specs.Pages.{entry_answer, entry_over, Filled, filled, fill}
use Rattle.calls.specs.Parents.{is_white}
use Rattle.calls.specs.Listing.{type_of, dirent_of, child_dirents}
use Rattle.calls.proofs.ListingLaws.{child_after, child_below, white_child, live_child, no_child}
use Rattle.calls.proofs.PageLaws.{put_answer_lem, put_over, fill_next, fill_full}

-- ---- the entry of a node under a name
module _ (o limit : ℕ) (t : List ℕ) (at i : ℕ) (u l : List ℕ) (n : Node) where
  module _ (x : Name) (k : ℕ) (k_is : k ≡ type_of u l (get_or n.stack 0 no_pair)) (h : o ≤ i) where
    pub entry_answer_lem : (r : Option ℕ) → r ≡ put_answer limit t at (dirent (get_or n.stack 0 no_pair).number k x) → r ≡ entry_answer o limit t at i (dirent_of u l x n)
    unfolding dirent_of
    entry_answer_lem r e = put_answer_lem o limit t at i (dirent_of u l x n) h r (e ∙ rw k_is refl)

    pub entry_over_lem : (v : List ℕ) → v ≡ put_dirent limit t at i (dirent (get_or n.stack 0 no_pair).number k x) → v ≡ entry_over o limit t at i (dirent_of u l x n)
    unfolding dirent_of
    entry_over_lem v e = put_over o limit t at i (dirent_of u l x n) h v (e ∙ rw k_is refl)

-- ---- the loop

-- where the next child stands
record Stands (s : List ℕ) (k j : ℕ) : Type 0 where
  after : k ≤ j
  below : j < count_of s
  most : count_of s ≤ 4294967295

module _ (s : List ℕ) (x k : ℕ) (f : Option ℕ) (f_is : f ≡ child_from (nodes_of s) x k) (j : ℕ) (h : f ≡ Some j) where
  stands : Stands s k j
  stands = record { after = child_after (nodes_of s) x k f f_is j h; below = rw (← length_nodes s) (child_below (nodes_of s) x k f f_is j h); most = count_most s }

  pub next_fits : Fits w64 (j + 1)
  next_fits = omega (arith, stands)

  pub next_below : j + 1 ≤ count_of s
  next_below = omega (arith, stands)

  pub next_less : count_of s - (j + 1) < count_of s - k
  next_less = omega (arith, stands)

  -- an index is at most 2 above how many nodes were passed
  module _ (i : ℕ) (most : i ≤ k + 2) where
    pub index_fits : Fits w64 (i + 1)
    index_fits = omega (arith, stands, most)

    pub index_same : i ≤ j + 1 + 2
    index_same = omega (arith, stands, most)

    pub index_next : i + 1 ≤ j + 1 + 2
    index_next = omega (arith, stands, most)

pub ruleset next_child = (next_fits, next_below, next_less, index_fits, index_same, index_next)

module _ (o limit i at : ℕ) (t u l : List ℕ) (x : ℕ) (ns : List Node) (k : ℕ) (z : Filled) (inv : fill o limit i at t (child_dirents u l x (drop k ns)) ≡ z) (f : Option ℕ) (f_is : f ≡ child_from ns x k) where
  pub children_end : f ≡ None → filled at false t ≡ z
  unfolding fill
  children_end h = ap (fill o limit i at t) (sym (no_child ns x k f f_is h u l)) ∙ inv

  module _ (j : ℕ) (h : f ≡ Some j) (n : Node) (n_is : n ≡ node_at ns j) (b : Bool) (b_is : b ≡ is_white n) where
    pub children_white : not b ≡ false → fill o limit i at t (child_dirents u l x (drop (j + 1) ns)) ≡ z
    children_white e = ap (fill o limit i at t) (sym (white_child ns x k f f_is j h u l n n_is b b_is (not-false b e))) ∙ inv

    module _ (e : not b ≡ true) (y : Name) (y_is : y ≡ node_name (node_at ns j)) (r : Option ℕ) (v : List ℕ) (answer : r ≡ entry_answer o limit t at i (dirent_of u l y n)) (written : v ≡ entry_over o limit t at i (dirent_of u l y n)) where
      named : y ≡ node_name n
      named = y_is ∙ ap node_name (sym n_is)

      p : r ≡ entry_answer o limit t at i (dirent_of u l (node_name n) n)
      p = answer ∙ ap (λ x. entry_answer o limit t at i (dirent_of u l x n)) named

      q : v ≡ entry_over o limit t at i (dirent_of u l (node_name n) n)
      q = written ∙ ap (λ x. entry_over o limit t at i (dirent_of u l x n)) named

      left : fill o limit i at t (dirent_of u l (node_name n) n ∷ child_dirents u l x (drop (j + 1) ns)) ≡ z
      left = ap (fill o limit i at t) (sym (live_child ns x k f f_is j h u l n n_is b b_is (not-true b e))) ∙ inv

      pub children_next : (a : ℕ) → r ≡ Some a → fill o limit (i + 1) a v (child_dirents u l x (drop (j + 1) ns)) ≡ z
      children_next a g = fill_next o limit t at i (dirent_of u l (node_name n) n) r v p q (child_dirents u l x (drop (j + 1) ns)) a g ∙ left

      pub children_full : r ≡ None → filled at true v ≡ z
      children_full g = fill_full o limit t at i (dirent_of u l (node_name n) n) r v p q (child_dirents u l x (drop (j + 1) ns)) g ∙ left

pub ruleset children_walk = (children_end, children_white, children_next, children_full)
