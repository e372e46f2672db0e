-- A refusal is given exactly when its rule says, and changes nothing but what a load did before it: of every call. Assumes nothing.
use Rattle.std.specs.Prelude.{Result, Ok, Err}
use mathlib.Core.Path.{◌≡◌, refl, sym, ◌∙◌, subst}
use mathlib.Core.Logic.{◌⊎◌, inl, inr}
use mathlib.Core.Bool.{Bool, true, false, not, cond}
use Prim.Native.Nat.{ℕ}
use native.Mathlib.Omega.{arith}
use mathlib.Core.List.{List, [], ◌∷◌, ◌++◌}
use lib.Dec.{eqb}
use Rattle.calls.specs.Refusal.{Test, test, after_tests, passed}
use Rattle.calls.specs.Lengths.{lengths_test}
use Rattle.calls.specs.Parents.{place_numbered, parent_tests, load_tests, loaded_state, loading_call}
use Rattle.calls.specs.Upper.{Up}
use Rattle.calls.specs.Import.{import_tests, root_tests, wiped}
use Rattle.calls.specs.Lookup.{lookup_before, name_tests}
use Rattle.calls.specs.Count.{count_before}
use Rattle.calls.specs.Dirents.{room_of}
use Rattle.calls.specs.Pages.{page_of, page_over}
use Rattle.calls.specs.Listing.{page_value, loaded_listing, listed, list_loaded, list_spec}
use Rattle.calls.specs.NodeCall.{node_tests, node_out}
use Rattle.calls.specs.Writing.{writing_call}
use Rattle.calls.specs.Creation.{creation_before, creation_behind}
use Rattle.calls.specs.Link.{link_before, link_behind}
use Rattle.calls.specs.CopyUp.{copy_up_before, copy_up_tests}
use Rattle.calls.specs.declared.refusal.Refusal.{Refusal}
use Rattle.calls.specs.declared.refusal.Refusal.TheVariants.{Einval}
use Rattle.calls.proofs.TestLaws.{passed_append, refused_failed}
use Rattle.demands.specs.Refusals.{Refuses, here, behind, Given, Loads, Writes, around_load, list_tests, DemandOne}

-- ---- given exactly when its rule says

given_sound : (ts : List Test) (v : ℕ) (r : Refusal) → after_tests ts (Ok v) ≡ Err r → Refuses ts r
unfolding after_tests
given_sound [] v r e = absurd (let z : ◌≡◌ {A = ℕ} 0 1 = cc in omega arith)
given_sound (t ∷ ts) v r e = go t.fails refl e (given_sound ts v r)
  where
    go : (b : Bool) → t.fails ≡ b → cond b (Err t.gives) (after_tests ts (Ok v)) ≡ Err r → (after_tests ts (Ok v) ≡ Err r → Refuses ts r) → Refuses (t ∷ ts) r
    go true f e ih = let z : t.gives ≡ r = cc in subst (λ (q : Refusal). Refuses (t ∷ ts) q) z (here f)
    go false f e ih = behind f (ih e)

given_whole : (ts : List Test) (v : ℕ) (r : Refusal) → Refuses ts r → after_tests ts (Ok v) ≡ Err r
unfolding after_tests
given_whole [] v r h = elim h [ ]
given_whole (t ∷ ts) v r (here f) = rw f refl
given_whole (t ∷ ts) v r (behind f h) = rw f (given_whole ts v r h)

given_after : (ts : List Test) (v : ℕ) → Given ts (after_tests ts (Ok v))
given_after ts v = record { sound = given_sound ts v; whole = given_whole ts v }

-- ---- what a refusal leaves

left_after : {A : Type 0} (ts : List Test) (v : ℕ) (x y : A) (r : Refusal) → after_tests ts (Ok v) ≡ Err r → cond (passed ts) x y ≡ y
left_after ts v x y r e = rw (refused_failed ts v r e) refl

-- of tests in two parts the first failed, or the second
module _ (ts us : List Test) (v : ℕ) (r : Refusal) (e : after_tests (ts ++ us) (Ok v) ≡ Err r) where
  two_parts : cond (passed ts) (passed us) false ≡ false
  two_parts = sym (passed_append ts us) ∙ refused_failed (ts ++ us) v r e

  left_either : {A : Type 0} (x y z : A) → (cond (passed ts) (cond (passed us) x y) z ≡ z) ⊎ (cond (passed ts) (cond (passed us) x y) z ≡ y)
  left_either x y z = go (passed ts) (passed us) two_parts
    where
      go : (a b : Bool) → cond a b false ≡ false → (cond a (cond b x y) z ≡ z) ⊎ (cond a (cond b x y) z ≡ y)
      go true true q = absurd (let o : ◌≡◌ {A = ℕ} 0 1 = cc in omega arith)
      go true false q = inr refl
      go false b q = inl refl

  left_same : {A : Type 0} (x y : A) → cond (passed ts) (cond (passed us) x y) y ≡ y
  left_same x y = go (passed ts) (passed us) two_parts
    where
      go : (a b : Bool) → cond a b false ≡ false → cond a (cond b x y) y ≡ y
      go true true q = absurd (let o : ◌≡◌ {A = ℕ} 0 1 = cc in omega arith)
      go true false q = refl
      go false b q = refl

-- ---- a call that loads, and one that writes besides

module _ (u l s : List ℕ) (p : ℕ) (before after : List Test) where
  loads : (changed : List ℕ) (v : ℕ) → Loads u l s p (around_load u l s p before after) (loading_call u l s p before after changed v)
  loads changed v =
      record {
        given = given_after (around_load u l s p before after) v;
        kept = λ r e. left_either before (load_tests u l s (place_numbered s p) ++ after) v r e changed (loaded_state u l s p) s;
      }

  writes : (changed : Up) (v : ℕ) → Writes u l s p (around_load u l s p before after) (writing_call u l s p before after changed v)
  writes changed v =
      record {
        given = given_after (around_load u l s p before after) v;
        kept = λ r e. left_either before (load_tests u l s (place_numbered s p) ++ after) v r e changed.state (loaded_state u l s p) s;
        upper_kept = λ r e. left_same before (load_tests u l s (place_numbered s p) ++ after) v r e changed.table u;
      }

-- ---- a listing
module _ (u l s : List ℕ) (x o size : ℕ) (t : List ℕ) where
  abbrev before : List Test
  before = parent_tests u l s x

  abbrev load : List Test
  load = load_tests u l s (place_numbered s x)

  abbrev value : ℕ
  value = page_value (page_of (room_of size t) o (loaded_listing u l s x))

  list_answer : (list_spec u l s x o size t).answer ≡ after_tests (list_tests u l s x size) (Ok (cond (eqb size 0) 0 value))
  unfolding list_spec list_loaded list_tests after_tests
  list_answer = go (lengths_test s u l) (eqb size 0)
    where
      go : (a b : Bool) → (cond a (cond b (listed (Ok 0) s t) (list_loaded u l s x o size t)) (listed (Err Einval) s t)).answer ≡ after_tests (test (not a) Einval ∷ cond b [] (before ++ (load ++ []))) (Ok (cond b 0 value))
      go true true = refl
      go true false = refl
      go false b = refl

  list_leaves : (r : Refusal) → (list_spec u l s x o size t).answer ≡ Err r → ((list_spec u l s x o size t).state ≡ s) ⊎ ((list_spec u l s x o size t).state ≡ loaded_state u l s x)
  unfolding list_spec list_loaded
  list_leaves r = go (lengths_test s u l) (eqb size 0)
    where
      go : (a b : Bool) → (cond a (cond b (listed (Ok 0) s t) (list_loaded u l s x o size t)) (listed (Err Einval) s t)).answer ≡ Err r
          → ((cond a (cond b (listed (Ok 0) s t) (list_loaded u l s x o size t)) (listed (Err Einval) s t)).state ≡ s) ⊎ ((cond a (cond b (listed (Ok 0) s t) (list_loaded u l s x o size t)) (listed (Err Einval) s t)).state ≡ loaded_state u l s x)
      go true true e = inl refl
      go true false e = left_either before (load ++ []) value r e (loaded_state u l s x) (loaded_state u l s x) s
      go false b e = inl refl

  unwritten : (r : Refusal) → after_tests (before ++ (load ++ [])) (Ok value) ≡ Err r → (y : List ℕ) → cond (passed before) (cond (passed load) y t) t ≡ t
  unfolding passed
  unwritten r e y = go (passed before) (passed load) (rw (passed_append load []) at (two_parts before (load ++ []) value r e))
    where
      go : (a b : Bool) → cond a (cond b true false) false ≡ false → cond a (cond b y t) t ≡ t
      go true true q = absurd (let z : ◌≡◌ {A = ℕ} 0 1 = cc in omega arith)
      go true false q = refl
      go false b q = refl

  list_keeps : (r : Refusal) → (list_spec u l s x o size t).answer ≡ Err r → (list_spec u l s x o size t).buffer ≡ t
  unfolding list_spec list_loaded
  list_keeps r = go (lengths_test s u l) (eqb size 0)
    where
      go : (a b : Bool) → (cond a (cond b (listed (Ok 0) s t) (list_loaded u l s x o size t)) (listed (Err Einval) s t)).answer ≡ Err r
          → (cond a (cond b (listed (Ok 0) s t) (list_loaded u l s x o size t)) (listed (Err Einval) s t)).buffer ≡ t
      go true true e = refl
      go true false e = unwritten r e (page_over (room_of size t) o (loaded_listing u l s x) t)
      go false b e = refl

-- ---- the demand

pub demand_one : DemandOne
unfolding node_out
demand_one =
    record {
      import_given = λ u l s. given_after (import_tests u l s ++ root_tests u l) 0;
      import_wipes = λ u l s r e. left_after (import_tests u l s ++ root_tests u l) 0 _ (wiped s) r e;
      lookup_refused = λ u l s p x. loads u l s p (lookup_before u l s p x) (name_tests (loaded_state u l s p) p x) _ _;
      count_refused = λ u l s x. loads u l s x (count_before u l s x) [] _ _;
      list_given = λ u l s x o size t. subst (λ (a : Result ℕ Refusal). Given (list_tests u l s x size) a) (sym (list_answer u l s x o size t)) (given_after (list_tests u l s x size) _);
      list_kept = list_leaves;
      list_unwritten = list_keeps;
      node_given = λ s x out. given_after (node_tests s x out) 0;
      node_unwritten = λ s x out r e. left_after (node_tests s x out) 0 _ out r e;
      creation_refused = λ u l s bad p x r. writes u l s p (creation_before u l s bad p x) (creation_behind u (loaded_state u l s p) p x r) _ _;
      link_refused = λ u l s n p x. writes u l s p (link_before u l s n p x) (link_behind u (loaded_state u l s p) n p x) _ _;
      copy_up_given = λ u l s x. given_after (copy_up_before u l s x ++ copy_up_tests u s (place_numbered s x)) 0;
      copy_up_kept =
          λ u l s x r e. (
            left_after (copy_up_before u l s x ++ copy_up_tests u s (place_numbered s x)) 0 _ s r e,
            left_after (copy_up_before u l s x ++ copy_up_tests u s (place_numbered s x)) 0 _ u r e,
          );
    }
