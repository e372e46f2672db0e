-- What the paths of a call need in the upper layer, walked up, and what the call frees there. Assumes nothing.
use mir.Val.{bool_byte}
use Rattle.std.specs.Prelude.{Option, Some, None, is_some, ◌||◌}
use Rattle.std.specs.List.{list_any, filter}
use Rattle.std.specs.Iterator.{YieldsFirst}
use Rattle.std.proofs.lemmas.Iterator.{YieldsList}
use Rattle.std.proofs.lemmas.Iterator.Consumers.{YieldsList-from_first}
use mathlib.Core.Path.{◌≡◌, refl, ap, ◌∙◌}
use Prim.Native.Nat.{ℕ, zero, suc, ◌+◌, ◌-◌, ◌≤◌, ◌<◌}
use native.Mathlib.Omega.{arith}
use mathlib.Core.Bool.{Bool, true, false, not, cond}
use mathlib.Core.List.{List, [], ◌∷◌}
use lib.Dec.{eqb, ltb, leb}
use lib.ListN.{length}
use borrow.Author.Tests.{le-leb, lt-leb, ltb-true, ltb-false}
use Rattle.layers.specs.Names.{Name}
use Rattle.layers.specs.Items.{records_of, entries_of, entry_at}
use Rattle.layers.specs.Search.{one, count_if, search_of, is_free, no_record, naming, used_entries, used_records}
use Rattle.layers.proofs.ItemLaws.{length_records, length_entries}
use Rattle.layers.proofs.CountLaws.{count_below}
use Rattle.merge.specs.Nodes.{nodes_of, node_at}
use Rattle.merge.specs.declared.stacks.Pair.{Pair}
use Rattle.merge.specs.declared.node.Node.{Node}
use Rattle.calls.specs.Parents.{place_numbered, top_of}
use Rattle.calls.specs.Upper.{in_upper}
use Rattle.calls.specs.declared.room.MissingFrom.{MissingFrom}
use Rattle.calls.specs.Room.{missing_from, missing, places_left, is_in, missing_beside, missing_either, whiteout_entry, freed_entries, freed_records, overfull}

-- ---- one step of the walk up

-- where no step is left nothing is missing
pub none_left : (s : List ℕ) (m j : ℕ) → m ≡ 0 → missing_from m s j ≡ []
unfolding missing_from
none_left s m j h = rw h refl

module _ (s : List ℕ) (m j : ℕ) (some : m ≡ 0 → ⊥) (n : Node) (n_is : n ≡ node_at (nodes_of s) j) (b : Bool) (b_is : b ≡ in_upper n) where
  step : missing_from m s j ≡ missing_from (suc (m - 1)) s j
  step = let e : m ≡ suc (m - 1) = omega arith in ap (λ (i : ℕ). missing_from i s j) e

  pub none_above : b ≡ true → missing_from m s j ≡ []
  unfolding missing_from
  none_above h = step ∙ rw (← n_is, ← b_is, h) refl

  pub one_above : b ≡ false → (p k : ℕ) → p ≡ n.parent → k ≡ place_numbered s p → missing_from m s j ≡ j ∷ missing_from (m - 1) s k
  unfolding missing_from
  one_above h p k p_is k_is = step ∙ rw (k_is, p_is, ← n_is, ← b_is, h) refl

-- ---- the walks

-- what a walk that has these places left gives
pub walk_yields : (w : MissingFrom) (xs : List ℕ) → places_left w ≡ xs → YieldsList (YieldsFirst places_left) (λ x. x) w xs
walk_yields w xs e = YieldsList-from_first (λ x. x) places_left xs e

pub length_missing : (s : List ℕ) (m j : ℕ) → length (missing_from m s j) ≤ m
unfolding missing_from
length_missing s zero j = omega arith
length_missing s (suc m) j = go (in_upper (node_at (nodes_of s) j)) (missing_from m s _) (length_missing s m _)
  where
    go : (b : Bool) (xs : List ℕ) → length xs ≤ m → length (cond b [] (j ∷ xs)) ≤ suc m
    go true xs h = omega arith
    go false xs h = omega (arith, h)

pub is_in_any : (x : ℕ) (ys : List ℕ) → is_in x ys ≡ list_any (λ y. eqb x y) ys
unfolding is_in
is_in_any x [] = refl
is_in_any x (y ∷ ys) = rw (is_in_any x ys) (go (eqb x y) (list_any (λ y. eqb x y) ys))
  where
    go : (a b : Bool) → cond a true b ≡ a || b
    go true b = refl
    go false b = refl

pub length_filtered : {A : Type 0} (p : A → Bool) (xs : List A) → length (filter p xs) ≡ count_if p xs
unfolding count_if one
length_filtered p [] = refl
length_filtered p (x ∷ xs) = go (p x) (length_filtered p xs)
  where
    go : (b : Bool) → length (filter p xs) ≡ count_if p xs → length (cond b (x ∷ filter p xs) (filter p xs)) ≡ cond b 1 0 + count_if p xs
    go true e = omega (arith, e)
    go false e = omega (arith, e)

pub either_sum : (s : List ℕ) (j k a b : ℕ) → a ≡ length (missing s k) → b ≡ missing_beside s j k → a + b ≡ missing_either s j k
unfolding missing_either
either_sum s j k a b a_is b_is = rw (a_is, b_is) refl

-- ---- what is freed

module _ (t s : List ℕ) (k : ℕ) (f : Option ℕ) (x : Name) where
  pub whiteout_none : f ≡ None → None ≡ whiteout_entry t s k f x
  unfolding whiteout_entry
  whiteout_none h = rw h refl

  module _ (j : ℕ) (h : f ≡ Some j) (n : Node) (n_is : n ≡ node_at (nodes_of s) j) (b : Bool) (b_is : b ≡ in_upper n) where
    pub whiteout_lower : b ≡ false → None ≡ whiteout_entry t s k f x
    unfolding whiteout_entry
    whiteout_lower g = rw (h, ← n_is, ← b_is, g) refl

    pub whiteout_upper : b ≡ true → (m : Node) (d : Pair) (e : Option ℕ) → m ≡ node_at (nodes_of s) k → d ≡ top_of m → e ≡ search_of (entries_of t) d.number x → e ≡ whiteout_entry t s k f x
    unfolding whiteout_entry
    whiteout_upper g m d e m_is d-is e_is = e_is ∙ rw (h, ← n_is, ← b_is, g, d-is, m_is) refl

-- a test as a number
one_as_byte : (b : Bool) → (bool_byte b ≡ one b) × (bool_byte b ≤ 1)
unfolding one
one_as_byte true = (refl, omega arith)
one_as_byte false = (refl, omega arith)

module _ (e : Option ℕ) where
  pub entry_freed : (b : Bool) (r : ℕ) → b ≡ is_some e → r ≡ bool_byte b → (r ≡ freed_entries e) × (r ≤ 1)
  entry_freed b r b_is r_is = rw (r_is, b_is) (one_as_byte (is_some e))

module _ (t : List ℕ) (e : Option ℕ) where
  pub no_record_goes : e ≡ None → 0 ≡ freed_records t e
  unfolding freed_records
  no_record_goes h = rw h refl

  pub record_freed : (j c n : ℕ) → e ≡ Some j → c ≡ (entry_at (entries_of t) j).child → n ≡ naming c (entries_of t) → (r : ℕ) → r ≡ bool_byte (eqb n 1) → (r ≡ freed_records t e) × (r ≤ 1)
  unfolding freed_records
  record_freed j c n h c_is n_is r r_is = rw (h, ← c_is, ← n_is, r_is) (one_as_byte (eqb n 1))

-- ---- whether it fits

module _ (t : List ℕ) (e : Option ℕ) (records entries : ℕ) where
  records_below : used_records (records_of t) ≤ 128
  records_below = omega (arith, count_below (λ r. not (no_record r)) (records_of t), length_records t)

  entries_below : used_entries (entries_of t) ≤ 128
  entries_below = omega (arith, count_below (λ i. not (is_free i)) (entries_of t), length_entries t)

  -- `u` places are used, `n` are wanted and `f` freed: those beyond the freed ones are free
  fits : (u n f : ℕ) → u ≤ 128 → not (leb (u + (n - f)) 128) ≡ ltb (128 + f) (u + n)
  fits u n f b = go (ltb (128 + f) (u + n)) refl
    where
      go : (c : Bool) → ltb (128 + f) (u + n) ≡ c → not (leb (u + (n - f)) 128) ≡ c
      go true h = let g : 128 + f < u + n = ltb-true (128 + f) (u + n) h in rw (lt-leb (u + (n - f)) 128 (omega arith)) refl
      go false h = let g : u + n ≤ 128 + f = ltb-false (128 + f) (u + n) h in rw (le-leb (u + (n - f)) 128 (omega arith)) refl

  module _ (f m : ℕ) (f_is : f ≡ freed_records t e) (m_is : m ≡ records - f) (a : Bool) (a_is : a ≡ leb (used_records (records_of t) + m) 128) where
    records_over : not a ≡ ltb (128 + freed_records t e) (used_records (records_of t) + records)
    records_over = rw (a_is, m_is, f_is) (fits (used_records (records_of t)) records (freed_records t e) records_below)

    pub over_records : not a ≡ true → true ≡ overfull t e records entries
    unfolding overfull
    over_records h = rw (← records_over, h) refl

    pub over_entries : not a ≡ false → (g k : ℕ) → g ≡ freed_entries e → k ≡ entries - g → (b : Bool) → b ≡ leb (used_entries (entries_of t) + k) 128 → not b ≡ overfull t e records entries
    unfolding overfull
    over_entries h g k g-is k_is b b_is =
        rw (← records_over, h, b_is, k_is, g-is) (fits (used_entries (entries_of t)) entries (freed_entries e) entries_below)
