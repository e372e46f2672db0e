-- What one pass over the entries collects for each record, how far the used places reach, and the rules of one place together. Assumes nothing.
use Rattle.std.specs.Prelude.{◌≡◌, ℕ, ◌≤◌, ◌<◌, Bool, false, cond, List, length, get_or}
use Rattle.layers.specs.Search.{naming}
use Rattle.layers.specs.Rules.{parent_of, entry_test, ends_test, record_test, naming_test, reach_test}
use Rattle.layers.specs.declared.items.Record.{Record}
use Rattle.layers.specs.declared.items.Entry.{Entry}

-- place `r` of `a` holds how many of the entries name the record `r`
pub record Counted (es : List Entry) (a : List ℕ) : Type 0 where
  pub sized : length a ≡ 256
  pub counts : (r : ℕ) → r < 256 → get_or a r 0 ≡ naming r es

-- place `r` of `a` holds the parent of the first of the entries that names the record `r`, 0 where there is none
pub record Parented (es : List Entry) (a : List ℕ) : Type 0 where
  pub sized : length a ≡ 256
  pub parents : (r : ℕ) → r < 256 → get_or a r 0 ≡ parent_of es r

-- the places from `n` on are free: "A free place is 32 zero bytes."
pub record FreeFrom {A : Type 0} (free : A) (xs : List A) (n : ℕ) : Type 0 where
  pub rest : (j : ℕ) → n ≤ j → get_or xs j free ≡ free

-- ---- the rules of one place, as one walk runs them

unfoldable pub entry_holds : List Record → ℕ → Entry → Bool
entry_holds rs j e = cond (entry_test e) (ends_test rs e) false

unfoldable pub record_holds : List Entry → ℕ → Record → Bool
record_holds es i r = cond (record_test i r) (cond (naming_test es i r) (reach_test es i r) false) false
