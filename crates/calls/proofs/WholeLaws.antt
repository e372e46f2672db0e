-- A directory's whole listing, as the code writes it: the fixed names, then the children. Assumes nothing.
use Rattle.std.specs.Prelude.{Option, Some, None}
use mathlib.Core.Path.{◌≡◌, sym, ap, ◌∙◌}
use Prim.Native.Nat.{ℕ, ◌+◌, ◌*◌, ◌≤◌}
use native.Mathlib.Omega.{arith}
use mathlib.Core.Bool.{Bool, true, cond}
use mathlib.Core.List.{List, [], ◌∷◌}
use lib.ListN.{length}
use borrow.Author.Tests.{eq-eqb, ne_eqb}
use Rattle.merge.specs.Nodes.{nodes_of, count_of}
use Rattle.merge.specs.declared.node.Node.{Node}
use Rattle.merge.proofs.HeadLaws.{count_most}
use Rattle.calls.specs.Dirents.{Dirent, room_of}
use Rattle.calls.specs.Pages.{page_bytes, page_of, page_over, Paged, entry_answer, entry_over, Filled, filled, fill}
use Rattle.calls.specs.Parents.{numbered}
use Rattle.calls.specs.Listing.{dirent_of, above, child_dirents, listing_of}
use Rattle.calls.specs.declared.page.Page.{Page}
use Rattle.calls.proofs.PageLaws.{fill_next, fill_full, fill_page}
use Rattle.calls.proofs.PageBounds.{listing_bytes}

-- ---- the nodes of the fixed names

module _ (s : List ℕ) (x : ℕ) (n : Node) where
  pub above_root : x ≡ 1 → n ≡ numbered s 1 → n ≡ numbered s (above s x)
  unfolding above
  above_root h e = e ∙ ap (λ (b : Bool). numbered s (cond b 1 (numbered s x).parent)) (sym (eq-eqb x 1 h))

  pub above_other : (x ≡ 1 → ⊥) → n ≡ numbered s x → (w : ℕ) → w ≡ n.parent → (m : Node) → m ≡ numbered s w → m ≡ numbered s (above s x)
  unfolding above
  above_other h e w g m d =
      d ∙ (ap (λ (y : ℕ). numbered s y) (g ∙ ap (λ (k : Node). k.parent) e) ∙ ap (λ (b : Bool). numbered s (cond b 1 (numbered s x).parent)) (sym (ne_eqb x 1 h)))

-- ---- the fixed names, then the children
module _ (o limit : ℕ) (t u l s : List ℕ) (x : ℕ) (n : Node) (n_is : n ≡ numbered s x) (r : Option ℕ) (v : List ℕ)
    (p : r ≡ entry_answer o limit t 0 0 (dirent_of u l (46 ∷ []) n)) (q : v ≡ entry_over o limit t 0 0 (dirent_of u l (46 ∷ []) n)) where
  abbrev rest : List Dirent
  rest = dirent_of u l (46 ∷ 46 ∷ []) (numbered s (above s x)) ∷ child_dirents u l x (nodes_of s)

  whole : fill o limit 0 0 t (dirent_of u l (46 ∷ []) n ∷ rest) ≡ fill o limit 0 0 t (listing_of u l s x)
  unfolding listing_of
  whole = ap (λ (m : Node). fill o limit 0 0 t (dirent_of u l (46 ∷ []) m ∷ rest)) n_is

  pub first_full : r ≡ None → filled 0 true v ≡ fill o limit 0 0 t (listing_of u l s x)
  first_full h = fill_full o limit t 0 0 (dirent_of u l (46 ∷ []) n) r v p q rest h ∙ whole

  module _ (a : ℕ) (h : r ≡ Some a) (m : Node) (m_is : m ≡ numbered s (above s x)) (r₂ : Option ℕ) (v₂ : List ℕ)
      (p₂ : r₂ ≡ entry_answer o limit v a 1 (dirent_of u l (46 ∷ 46 ∷ []) m)) (q₂ : v₂ ≡ entry_over o limit v a 1 (dirent_of u l (46 ∷ 46 ∷ []) m)) where
    second : fill o limit 1 a v (dirent_of u l (46 ∷ 46 ∷ []) m ∷ child_dirents u l x (nodes_of s)) ≡ fill o limit 0 0 t (listing_of u l s x)
    second =
        ap (λ (k : Node). fill o limit 1 a v (dirent_of u l (46 ∷ 46 ∷ []) k ∷ child_dirents u l x (nodes_of s))) m_is
        ∙ (fill_next o limit t 0 0 (dirent_of u l (46 ∷ []) n) r v p q rest a h ∙ whole)

    pub second_full : r₂ ≡ None → filled a true v₂ ≡ fill o limit 0 0 t (listing_of u l s x)
    second_full g = fill_full o limit v a 1 (dirent_of u l (46 ∷ 46 ∷ []) m) r₂ v₂ p₂ q₂ (child_dirents u l x (nodes_of s)) g ∙ second

    pub then_children : (b : ℕ) → r₂ ≡ Some b → (y : Page) (w : List ℕ) → ◌≡◌ {A = Filled} (record { page = y; buffer = w }) (fill o limit 2 b v₂ (child_dirents u l x (nodes_of s))) → ◌≡◌ {A = Filled} (record { page = y; buffer = w }) (fill o limit 0 0 t (listing_of u l s x))
    then_children b g y w e = e ∙ (fill_next o limit v a 1 (dirent_of u l (46 ∷ 46 ∷ []) m) r₂ v₂ p₂ q₂ (child_dirents u l x (nodes_of s)) b g ∙ second)

pub ruleset whole_walk = (first_full, second_full, then_children)

pub page_written : (o limit : ℕ) (t u l s : List ℕ) (x : ℕ) (p : Page) (v : List ℕ) → ◌≡◌ {A = Filled} (record { page = p; buffer = v }) (fill o limit 0 0 t (listing_of u l s x)) → Paged limit o t (listing_of u l s x) p v
page_written o limit t u l s x p v e =
    let f : ◌≡◌ {A = Filled} (record { page = p; buffer = v }) (record { page = page_of (room_of limit t) o (listing_of u l s x); buffer = page_over (room_of limit t) o (listing_of u l s x) t }) = e ∙ fill_page o limit t (listing_of u l s x) in
    let a : p ≡ page_of (room_of limit t) o (listing_of u l s x) = ap (λ (z : Filled). z.page) f in
    let b : length (page_bytes (room_of limit t) o (listing_of u l s x)) ≤ 56 * (2 + count_of s) = listing_bytes u l s x (room_of limit t) o in
    let c : count_of s ≤ 4294967295 = count_most s in
    let d : p.bytes ≡ length (page_bytes (room_of limit t) o (listing_of u l s x)) = ap (λ (z : Page). z.bytes) a in
    record { answer = a; buffer = ap (λ (z : Filled). z.buffer) f; small = omega arith }
