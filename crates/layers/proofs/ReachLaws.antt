-- The way up to the root: the climb by the first naming entry is the rule's, where directories are named once. Assumes nothing.
use mathlib.Core.Path.{◌≡◌, refl, sym, ap, ◌∙◌}
use mathlib.Core.Logic.{◌⊎◌, inl, inr}
use Prim.Native.Nat.{ℕ, zero, suc, ◌≤◌}
use native.Mathlib.Omega.{arith}
use native.Mathlib.Decide.{ℕ_discrete}
use mathlib.Core.Bool.{Bool, true, false, cond}
use mathlib.Core.List.{List, [], ◌∷◌}
use lib.Dec.{eqb}
use borrow.Author.Tests.{eq-eqb, ne_eqb, eqb-true}
use Rattle.layers.specs.Items.{record_at, entry_at}
use Rattle.layers.specs.Search.{names_record}
use Rattle.layers.specs.Rules.{Exactly, Used, NamesAt, NamedOnce, Reaches, at_root, up, DirectoryReachesRoot, parent_of, climbs, reach_test}
use Rattle.layers.proofs.EveryLaws.{no_true, sure, split}
use Rattle.layers.proofs.RuleLaws.{names_record_exactly}
use Rattle.layers.specs.declared.items.Record.{Record}
use Rattle.layers.specs.declared.items.Entry.{Entry}

-- the parent is that of an entry that names the record, or there is none
parent_found : (es : List Entry) (r : ℕ) → ((j : ℕ) × (names_record r (entry_at es j) ≡ true) × ((entry_at es j).parent ≡ parent_of es r)) ⊎ (parent_of es r ≡ 0)
unfolding parent_of
parent_found [] r = inr refl
parent_found (e ∷ es) r = go (names_record r e) refl (parent_found es r)
  where
    go : (b : Bool) → names_record r e ≡ b
        → ((j : ℕ) × (names_record r (entry_at es j) ≡ true) × ((entry_at es j).parent ≡ parent_of es r)) ⊎ (parent_of es r ≡ 0)
        → ((j : ℕ) × (names_record r (entry_at (e ∷ es) j) ≡ true) × ((entry_at (e ∷ es) j).parent ≡ cond b e.parent (parent_of es r))) ⊎ (cond b e.parent (parent_of es r) ≡ 0)
    go true p ih = inl (0, p, refl)
    go false p (inl t) = inl (suc t.0, t.1, t.2)
    go false p (inr z) = inr z

-- where one entry alone names the record, it is that entry's
parent_only : (es : List Entry) (r j : ℕ) → names_record r (entry_at es j) ≡ true → ((k : ℕ) → names_record r (entry_at es k) ≡ true → k ≡ j) → parent_of es r ≡ (entry_at es j).parent
unfolding parent_of
parent_only [] r j h o = refl
parent_only (e ∷ es) r j h o = go (names_record r e) refl j h o (parent_only es r)
  where
    go : (b : Bool) → names_record r e ≡ b → (j : ℕ) → names_record r (entry_at (e ∷ es) j) ≡ true → ((k : ℕ) → names_record r (entry_at (e ∷ es) k) ≡ true → k ≡ j)
        → ((j : ℕ) → names_record r (entry_at es j) ≡ true → ((k : ℕ) → names_record r (entry_at es k) ≡ true → k ≡ j) → parent_of es r ≡ (entry_at es j).parent)
        → cond b e.parent (parent_of es r) ≡ (entry_at (e ∷ es) j).parent
    go true p zero h o ih = refl
    go true p (suc j) h o ih = absurd (let z : 0 ≡ suc j = o 0 p in omega arith)
    go false p zero h o ih = no_true (sym p ∙ h)
    go false p (suc j) h o ih = ih j h (λ k t. let z : suc k ≡ suc j = o (suc k) t in omega arith)

module _ (es : List Entry) where
  climbs_zero : (n : ℕ) → climbs n es 0 ≡ false
  unfolding climbs
  climbs_zero zero = refl
  climbs_zero (suc n) = refl

  climbs_root : (n r : ℕ) → r ≡ 1 → climbs n es r ≡ true
  unfolding climbs
  climbs_root zero r h = eq-eqb r 1 h
  climbs_root (suc n) r h = rw (eq-eqb r 1 h) refl

  climbs_up : (n r : ℕ) → (r ≡ 1 → ⊥) → (r ≡ 0 → ⊥) → climbs (suc n) es r ≡ climbs n es (parent_of es r)
  unfolding climbs
  climbs_up n r a b = rw (ne_eqb r 1 a, ne_eqb r 0 b) refl

  -- a climb that succeeds is a chain of entries
  pub climbs_sound : (n r : ℕ) → climbs n es r ≡ true → (m : ℕ) × (m ≤ n) × Reaches es m r
  unfolding climbs
  climbs_sound zero r h = (0, omega arith, at_root (eqb-true r 1 h))
  climbs_sound (suc n) r h = go (eqb r 1) refl (eqb r 0) (parent_found es r) h (climbs_sound n)
    where
      go : (a : Bool) → eqb r 1 ≡ a → (b : Bool) → ((j : ℕ) × (names_record r (entry_at es j) ≡ true) × ((entry_at es j).parent ≡ parent_of es r)) ⊎ (parent_of es r ≡ 0) → cond a true (cond b false (climbs n es (parent_of es r))) ≡ true
          → ((q : ℕ) → climbs n es q ≡ true → (m : ℕ) × (m ≤ n) × Reaches es m q) → (m : ℕ) × (m ≤ suc n) × Reaches es m r
      go true p b f h ih = (0, omega arith, at_root (eqb-true r 1 p))
      go false p true f h ih = no_true h
      go false p false (inr z) h ih = no_true (sym (climbs_zero n) ∙ (ap (climbs n es) (sym z) ∙ h))
      go false p false (inl f) h ih =
          let t : (m : ℕ) × (m ≤ n) × Reaches es m (entry_at es f.0).parent = ih (entry_at es f.0).parent (ap (climbs n es) f.2 ∙ h) in
          let l : t.0 ≤ n = t.1 in
          (suc t.0, omega arith, up {n = t.0} {r = r} f.0 ((names_record_exactly r (entry_at es f.0)).sound f.1) t.2)

  -- and a chain from a directory is climbed, where parents are directories and directories are named once
  module _ (rs : List Record) (parents : (j : ℕ) → Used es j → (record_at rs (entry_at es j).parent).kind ≡ 4) (once : (i : ℕ) → (record_at rs i).kind ≡ 4 → (i ≡ 1 → ⊥) → NamedOnce es i) where
    not_zero : (r : ℕ) → (record_at rs r).kind ≡ 4 → r ≡ 0 → ⊥
    not_zero r k z = let e : ◌≡◌ {A = ℕ} 0 4 = ap (λ (i : ℕ). (record_at rs i).kind) (sym z) ∙ k in omega arith

    only_parent : (r j : ℕ) → NamedOnce es r → NamesAt es j r → parent_of es r ≡ (entry_at es j).parent
    only_parent r j o n = parent_only es r j ((names_record_exactly r (entry_at es j)).whole n) (λ k t. o.only k ((names_record_exactly r (entry_at es k)).sound t) ∙ sym (o.only j n))

    pub climbs_whole : {n r : ℕ} → Reaches es n r → (m : ℕ) → n ≤ m → (record_at rs r).kind ≡ 4 → climbs m es r ≡ true
    climbs_whole {r = r} (at_root z) m l k = climbs_root m r z
    climbs_whole (up {n = n} {r = r} j names rest) zero l k = absurd (omega arith)
    climbs_whole (up {n = n} {r = r} j names rest) (suc m) l k = go (ℕ_discrete r 1) (climbs_whole rest m (omega arith) (parents j names.0))
      where
        go : Dec (r ≡ 1) → climbs m es (entry_at es j).parent ≡ true → climbs (suc m) es r ≡ true
        go (yes z) ih = climbs_root (suc m) r z
        go (no z) ih = climbs_up m r z (not_zero r k) ∙ (ap (climbs m es) (only_parent r j (once r k z) names) ∙ ih)

    pub reach_exactly : (i : ℕ) → Exactly (reach_test es i (record_at rs i)) (DirectoryReachesRoot es i (record_at rs i))
    unfolding reach_test
    reach_exactly i =
        split (record_at rs i).kind 4
        (λ k. record { sound = λ h _. climbs_sound 16 i h; whole = λ d. let t : (n : ℕ) × (n ≤ 16) × Reaches es n i = d k in climbs_whole t.2 16 t.1 k })
        (λ k. sure (λ d. absurd (k d)))
