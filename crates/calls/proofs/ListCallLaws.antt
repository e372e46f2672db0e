-- The listing call: refused, of size 0, or a page. Assumes nothing.
use Rattle.std.specs.Prelude.{Result, Ok, Err}
use mathlib.Core.Path.{◌≡◌, refl, sym, ap, ◌∙◌}
use Prim.Native.Nat.{ℕ, ◌+◌}
use mathlib.Core.Bool.{Bool, true, false, not, cond}
use mathlib.Core.List.{List, []}
use borrow.Author.Tests.{eq-eqb, ne_eqb, not-true, not-false}
use Rattle.merge.specs.Load.{load_bytes}
use Rattle.calls.specs.Refusal.{Test, after_tests, passed}
use Rattle.calls.specs.Lengths.{lengths_test}
use Rattle.calls.specs.Parents.{place_numbered, parent_tests, load_tests, loaded_state, loading_call}
use Rattle.calls.specs.Dirents.{room_of}
use Rattle.calls.specs.Pages.{page_of, page_over, Paged}
use Rattle.calls.specs.Listing.{listing_of, page_value, listed, loaded_listing, list_loaded, list_spec}
use Rattle.calls.specs.declared.page.Page.{Page}
use Rattle.calls.specs.declared.refusal.Refusal.{Refusal}
use Rattle.calls.specs.declared.refusal.Refusal.TheVariants.{Einval}
use Rattle.calls.proofs.TestLaws.{fine_passed, refused_failed, fine_value}
use Rattle.calls.proofs.LoadingLaws.{refused_before, unchanged_before, loaded_is, refused_by_load, unchanged_by_load, answered_behind, left_behind}

pub value_remains : (p : Page) → p.remains ≡ true → p.bytes + 2147483648 ≡ page_value p
unfolding page_value
value_remains p h = rw h refl

pub value_whole : (p : Page) → p.remains ≡ false → p.bytes ≡ page_value p
unfolding page_value
value_whole p h = rw h refl

same_listed : (a b : Result ℕ Refusal) (s u t v : List ℕ) → a ≡ b → s ≡ u → t ≡ v → listed a s t ≡ listed b u v
same_listed a b s u t v e f g = rw (e, f, g) refl

module _ (u l s : List ℕ) (x o size : ℕ) (t : List ℕ) (f : Result ℕ Refusal) (q : f ≡ after_tests (parent_tests u l s x) (Ok (place_numbered s x))) where
  -- the value of the page, and the buffer that it stands in
  abbrev value : ℕ
  value = page_value (page_of (room_of size t) o (loaded_listing u l s x))

  abbrev written : List ℕ
  written = page_over (room_of size t) o (loaded_listing u l s x) t

  abbrev load : List Test
  load = load_tests u l s (place_numbered s x)

  pub list_refused : (r : Refusal) → f ≡ Err r → listed f s t ≡ list_loaded u l s x o size t
  unfolding list_loaded
  list_refused r h =
      same_listed f (loading_call u l s x (parent_tests u l s x) [] (loaded_state u l s x) value).answer s (loading_call u l s x (parent_tests u l s x) [] (loaded_state u l s x) value).state
      t (cond (passed (parent_tests u l s x)) (cond (passed load) written t) t)
      (refused_before u l s x (parent_tests u l s x) [] f q r value h)
      (unchanged_before u l s x (parent_tests u l s x) [] f q r (loaded_state u l s x) h)
      (sym (rw (refused_failed (parent_tests u l s x) (place_numbered s x) r (sym q ∙ h)) refl))

  module _ (k : ℕ) (h : f ≡ Ok k) (s' : List ℕ) (e : s' ≡ load_bytes u l s k) (a : Result ℕ Refusal) (g : a ≡ after_tests (load_tests u l s k) (Ok k)) where
    went : passed (parent_tests u l s x) ≡ true
    went = fine_passed (parent_tests u l s x) (Ok (place_numbered s x)) k (sym q ∙ h)

    place : k ≡ place_numbered s x
    place = fine_value (parent_tests u l s x) [] f (Ok 0) (place_numbered s x) q k h

    loads : a ≡ after_tests load (Ok k)
    loads = g ∙ ap (λ (j : ℕ). after_tests (load_tests u l s j) (Ok k)) place

    pub list_not_loaded : (r : Refusal) → a ≡ Err r → listed a s' t ≡ list_loaded u l s x o size t
    unfolding list_loaded
    list_not_loaded r d =
        same_listed a (loading_call u l s x (parent_tests u l s x) [] (loaded_state u l s x) value).answer s' (loading_call u l s x (parent_tests u l s x) [] (loaded_state u l s x) value).state
        t (cond (passed (parent_tests u l s x)) (cond (passed load) written t) t)
        (refused_by_load u l s x (parent_tests u l s x) [] f q k h a g r value d)
        (unchanged_by_load u l s x (parent_tests u l s x) [] f q k h a g r (loaded_state u l s x) s' e d)
        (sym (rw (went, refused_failed load k r (sym loads ∙ d)) refl))

    pub list_page : (j : ℕ) → a ≡ Ok j → (p : Page) (v : List ℕ) → Paged size o t (listing_of u l s' x) p v → (w : ℕ) → w ≡ page_value p → listed (Ok w) s' v ≡ list_loaded u l s x o size t
    unfolding list_loaded after_tests passed
    list_page j d p v b w c =
        let i : s' ≡ loaded_state u l s x = loaded_is u l s x (parent_tests u l s x) [] f q k h s' e in
        let n : w ≡ value = c ∙ ap page_value (b.answer ∙ ap (λ (y : List ℕ). page_of (room_of size t) o (listing_of u l y x)) i) in
        let m : v ≡ written = b.buffer ∙ ap (λ (y : List ℕ). page_over (room_of size t) o (listing_of u l y x) t) i in
        same_listed (Ok w) (loading_call u l s x (parent_tests u l s x) [] (loaded_state u l s x) value).answer s' (loading_call u l s x (parent_tests u l s x) [] (loaded_state u l s x) value).state
        v (cond (passed (parent_tests u l s x)) (cond (passed load) written t) t)
        (answered_behind u l s x (parent_tests u l s x) [] f q k h a g j d value (Ok w) (ap Ok n))
        (left_behind u l s x (parent_tests u l s x) [] f q k h a g j d (loaded_state u l s x) s' i)
        (m ∙ sym (rw (went, fine_passed load (Ok k) j (sym loads ∙ d)) refl))

pub ruleset list_walk = (list_refused, list_not_loaded, list_page)

module _ (u l s : List ℕ) (x o size : ℕ) (t : List ℕ) (b : Bool) (q : b ≡ lengths_test s u l) where
  pub list_lengths : not b ≡ true → listed (Err Einval) s t ≡ list_spec u l s x o size t
  unfolding list_spec
  list_lengths h = rw (← q, not-true b h) refl

  pub list_nothing : not b ≡ false → size ≡ 0 → listed (Ok 0) s t ≡ list_spec u l s x o size t
  unfolding list_spec
  list_nothing h z = rw (← q, not-false b h, eq-eqb size 0 z) refl

  pub list_some : not b ≡ false → (size ≡ 0 → ⊥) → (a : Result ℕ Refusal) (s' v : List ℕ) → listed a s' v ≡ list_loaded u l s x o size t → listed a s' v ≡ list_spec u l s x o size t
  unfolding list_spec
  list_some h z a s' v e = rw (← q, not-false b h, ne_eqb size 0 z) e

pub ruleset list_start = (list_lengths, list_nothing, list_some)
