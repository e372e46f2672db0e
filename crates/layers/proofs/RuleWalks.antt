-- The table rules as the code runs them. Assumes nothing.
use mathlib.Core.Path.{◌≡◌, refl, sym, ap, ◌∙◌}
use Prim.Native.Nat.{ℕ, zero, suc, ◌-◌, ◌≤◌, ◌<◌}
use native.Mathlib.Omega.{arith}
use mathlib.Core.Bool.{Bool, true, false, not, cond}
use mathlib.Core.List.{List}
use lib.Dec.{eqb, leb}
use lib.ListN.{length, take, drop, get_or, length-take, length-drop}
use lib.Seq.{take_all}
use borrow.Author.Tests.{eq-eqb, ne_eqb, not-true, not-false, le-leb, lt-leb}
use Rattle.layers.specs.Names.{malformed_name}
use Rattle.layers.specs.Items.{record_at}
use Rattle.layers.specs.Search.{naming}
use Rattle.layers.specs.Rules.{every, all_zero, name_test, entry_test, ends_test, record_test, count_test, naming_test, climbs, reach_test, entries_test, records_test}
use Rattle.layers.specs.RulesTally.{Counted, Parented, entry_holds, record_holds}
use Rattle.layers.proofs.EveryLaws.{every_both}
use Rattle.layers.specs.declared.items.Record.{Record}
use Rattle.layers.specs.declared.items.Entry.{Entry}

-- ---- a callee's test, turned round
module _ {A : Type 0} (z x y : A) (r t : Bool) (q : r ≡ t) where
  pub not_failed : not r ≡ true → z ≡ y → z ≡ cond t x y
  not_failed h e = let f : t ≡ false = sym q ∙ not-true r h in rw f e

  pub not_passed : not r ≡ false → z ≡ x → z ≡ cond t x y
  not_passed h e = let f : t ≡ true = sym q ∙ not-false r h in rw f e

pub ruleset turned = (not_failed, not_passed)

-- ---- a callee's number, compared
module _ {A : Type 0} (z x y : A) (r a b : ℕ) (q : r ≡ a) where
  pub of_at_least : b ≤ r → z ≡ x → z ≡ cond (leb b a) x y
  of_at_least h e = rw (le-leb b a (omega arith)) e

  pub of_under : r < b → z ≡ y → z ≡ cond (leb b a) x y
  of_under h e = rw (lt-leb b a (omega arith)) e

  pub of_at_most : r ≤ b → z ≡ x → z ≡ cond (leb a b) x y
  of_at_most h e = rw (le-leb a b (omega arith)) e

  pub of_over : b < r → z ≡ y → z ≡ cond (leb a b) x y
  of_over h e = rw (lt-leb a b (omega arith)) e

pub ruleset compared = (of_at_least, of_under, of_at_most, of_over)

-- ---- a name of `n` bytes in 28
module _ (x : List ℕ) (n : ℕ) (l : length x ≡ 28) (m : n ≤ 28) (r : Bool) (q : r ≡ all_zero (take (28 - n) (drop n x))) where
  rest_is : r ≡ all_zero (drop n x)
  rest_is = q ∙ ap all_zero (take_all (28 - n) (drop n x) (simp length-drop (omega arith)))

  pub not_padded : not r ≡ true → false ≡ name_test n x
  unfolding name_test
  not_padded h = not_failed false (not (malformed_name (take n x))) false r (all_zero (drop n x)) rest_is h refl

  pub padded_name : not r ≡ false → (s : Bool) → s ≡ malformed_name (take n x) → not s ≡ name_test n x
  unfolding name_test
  padded_name h s e = not_passed (not s) (not (malformed_name (take n x))) false r (all_zero (drop n x)) rest_is h (ap not e)

pub name_test_of : (n m : ℕ) (x : List ℕ) (r : Bool) → r ≡ name_test n x → n ≡ m → r ≡ name_test m x
name_test_of n m x r q e = q ∙ ap (λ (k : ℕ). name_test k x) e

pub length_front : (x : List ℕ) (n : ℕ) → n ≤ 28 → length x ≡ 28 → n ≡ length (take n x)
length_front x n m l = simp length-take (omega arith)

-- ---- an item on its way through a callee

pub entry_test_of : (e g : Entry) (r : Bool) → r ≡ entry_test e → e ≡ g → r ≡ entry_test g
entry_test_of e g r q e_is = q ∙ ap entry_test e_is

pub ends_test_of : (rs : List Record) (e g : Entry) (r : Bool) → r ≡ ends_test rs e → e ≡ g → r ≡ ends_test rs g
ends_test_of rs e g r q e_is = q ∙ ap (ends_test rs) e_is

pub record_test_of : (i : ℕ) (r s : Record) (b : Bool) → b ≡ record_test i r → r ≡ s → b ≡ record_test i s
record_test_of i r s b q r_is = q ∙ ap (record_test i) r_is

pub naming_test_of : (es : List Entry) (i : ℕ) (r s : Record) (b : Bool) (c : List ℕ) → b ≡ count_test (get_or c i 0) i r → r ≡ s → Counted es c → i < 129 → b ≡ count_test (naming i es) i s
naming_test_of es i r s b c q r_is g l = q ∙ (ap (count_test (get_or c i 0) i) r_is ∙ ap (λ (k : ℕ). count_test k i s) (g.counts i (omega arith)))

-- ---- the tests of one walk are those of the rules
module _ (rs : List Record) (es : List Entry) (b : Bool) where
  pub entries_together : b ≡ every (entry_holds rs) 0 es → b ≡ entries_test rs es
  unfolding entry_holds entries_test
  entries_together h = h ∙ every_both (λ _ e. entry_test e) (λ _ e. ends_test rs e) 0 es

  pub records_together : b ≡ every (record_holds es) 1 rs → b ≡ records_test rs es
  unfolding record_holds records_test
  records_together h =
      h
      ∙ (every_both record_test (λ i r. cond (naming_test es i r) (reach_test es i r) false) 1 rs
      ∙ ap (λ (q : Bool). cond (every record_test 1 rs) q false) (every_both (naming_test es) (reach_test es) 1 rs))

-- ---- the way up, by the parents that were kept
module _ (rs : List Record) (es : List Entry) (i k : ℕ) (k_is : k ≡ (record_at rs i).kind) where
  pub reach_other : (k ≡ 4 → ⊥) → true ≡ reach_test es i (record_at rs i)
  unfolding reach_test
  reach_other h = rw (ne_eqb (record_at rs i).kind 4 (λ e. h (k_is ∙ e))) refl

  pub reach_start : k ≡ 4 → climbs 16 es i ≡ reach_test es i (record_at rs i)
  unfolding reach_test
  reach_start h = rw (eq-eqb (record_at rs i).kind 4 (sym k_is ∙ h)) refl

module _ (es : List Entry) (n q : ℕ) (b : Bool) where
  pub climb_here : 0 < n → q ≡ 1 → climbs n es q ≡ b → true ≡ b
  unfolding climbs
  climb_here h e w = go n h w
    where
      go : (n : ℕ) → 0 < n → climbs n es q ≡ b → true ≡ b
      go zero h w = absurd (omega arith)
      go (suc m) h w = sym (rw (eq-eqb q 1 e) refl) ∙ w

  pub climb_none : 0 < n → (q ≡ 1 → ⊥) → q ≡ 0 → climbs n es q ≡ b → false ≡ b
  unfolding climbs
  climb_none h e z w = go n h w
    where
      go : (n : ℕ) → 0 < n → climbs n es q ≡ b → false ≡ b
      go zero h w = absurd (omega arith)
      go (suc m) h w = sym (rw (ne_eqb q 1 e, eq-eqb q 0 z) refl) ∙ w

  pub climb_next : (p : List ℕ) (w : ℕ) → 0 < n → (q ≡ 1 → ⊥) → (q ≡ 0 → ⊥) → q < 256 → Parented es p → w ≡ get_or p q 0 → climbs n es q ≡ b → (m : ℕ) → m ≡ n - 1 → climbs m es w ≡ b
  unfolding climbs
  climb_next p w h e z l g x k m m_is = rw m_is (go n h k)
    where
      go : (n : ℕ) → 0 < n → climbs n es q ≡ b → climbs (n - 1) es w ≡ b
      go zero h k = absurd (omega arith)
      go (suc m) h k = let s : suc m - 1 ≡ m = omega arith in rw (s, x, g.parents q l) (sym (rw (ne_eqb q 1 e, ne_eqb q 0 z) refl) ∙ k)

  pub climb_end : n ≤ 0 → climbs n es q ≡ b → eqb q 1 ≡ b
  unfolding climbs
  climb_end h w = let z : n ≡ 0 = omega arith in rw z at w
