-- Which bytes a layer has. Assumes nothing.
use denote.Ref.{Bor}
use Rattle.std.specs.Prelude.{Option, Some, None, MatchOption, ◌≢◌}
use Rattle.std.specs.Array.{IsWholeChunk}
use mathlib.Core.Path.{◌≡◌, refl, sym, ap, ◌∙◌}
use Prim.Native.Nat.{ℕ, zero, suc, ◌+◌, ◌*◌, ◌-◌, ◌/◌, ◌%◌, ◌≤◌, ◌<◌}
use native.Mathlib.Omega.{arith}
use mathlib.Core.Bool.{Bool, true, false, cond}
use mathlib.Core.List.{List, [], map}
use lib.Dec.{eqb, ltb}
use lib.ListN.{length, take, drop, length-take, length-drop, get_or}
use borrow.Author.Tests.{eqb-true, ltb-false, eq-eqb, ne_eqb, lt-ltb, le-ltb}
use Rattle.layers.specs.Bytes.{part}
use Rattle.merge.specs.Tables.{table_of, place_name, IsTable}
use Rattle.layers.specs.Items.{pieces, entry_of, entries_of, entry_at, free_entry}
use Rattle.layers.specs.Search.{name_of}

module _ (u l : List ℕ) (k : ℕ) where
  pub table_upper : k ≡ 0 → length u ≡ 8192 → u ≡ table_of u l k
  unfolding table_of
  table_upper h g = rw (eq-eqb k 0 h, eq-eqb (length u) 8192 g) refl

  pub table_no_upper : k ≡ 0 → (length u ≡ 8192 → ⊥) → [] ≡ table_of u l k
  unfolding table_of
  table_no_upper h g = rw (eq-eqb k 0 h, ne_eqb (length u) 8192 g) refl

  -- a layer that has no 8192 bytes has none
  pub table_none : (length (table_of u l k) ≡ 8192 → ⊥) → table_of u l k ≡ []
  unfolding table_of
  table_none h = go (eqb k 0) refl (eqb (length u) 8192) refl (ltb 3 k) refl (ltb (length l) (8192 * (k - 1) + 8192)) refl h
    where
      go : (a : Bool) → eqb k 0 ≡ a → (b : Bool) → eqb (length u) 8192 ≡ b → (c : Bool) → ltb 3 k ≡ c → (d : Bool) → ltb (length l) (8192 * (k - 1) + 8192) ≡ d
          → (length (cond a (cond b u []) (cond c [] (cond d [] (part l (8192 * (k - 1)) 8192)))) ≡ 8192 → ⊥)
          → cond a (cond b u []) (cond c [] (cond d [] (part l (8192 * (k - 1)) 8192))) ≡ []
      go true p true q c r d s h = absurd (h (eqb-true (length u) 8192 q))
      go true p false q c r d s h = refl
      go false p b q true r d s h = refl
      go false p b q false r true s h = refl
      go false p b q false r false s h =
          let g : 8192 * (k - 1) + 8192 ≤ length l = ltb-false (length l) (8192 * (k - 1) + 8192) s in
          absurd (h (simp (length-take, length-drop) (omega arith)))

  pub table_past : (k ≡ 0 → ⊥) → 3 < k → table_of u l k ≡ []
  unfolding table_of
  table_past h g = rw (ne_eqb k 0 h, lt-ltb 3 k g) refl

  pub table_short : (k ≡ 0 → ⊥) → k ≤ 3 → length l < 8192 * (k - 1) + 8192 → table_of u l k ≡ []
  unfolding table_of
  table_short h g s = rw (ne_eqb k 0 h, le-ltb 3 k g, lt-ltb (length l) (8192 * (k - 1) + 8192) s) refl

  pub table_lower : (k ≡ 0 → ⊥) → k ≤ 3 → 8192 * (k - 1) + 8192 ≤ length l → take (8192 * (k - 1) + 8192 - 8192 * (k - 1)) (drop (8192 * (k - 1)) l) ≡ table_of u l k
  unfolding table_of
  table_lower h g s = let z : 8192 * (k - 1) + 8192 - 8192 * (k - 1) ≡ 8192 = omega arith in rw (z, ne_eqb k 0 h, le-ltb 3 k g, le-ltb (length l) (8192 * (k - 1) + 8192) s) refl

-- bytes that are a table, as the library tells it
abbrev Whole : List ℕ → Option (Bor (List ℕ)) → Type 0
Whole b r = MatchOption r (length b ≢ 8192) (λ y. IsWholeChunk b y.now 8192)

module _ (u l : List ℕ) (k : ℕ) where
  pub upper_table : k ≡ 0 → (r : Option (Bor (List ℕ))) → Whole u r → IsTable (table_of u l k) r
  upper_table h (Some y) w = let e = table_upper u l k h w.long in (w.same ∙ e, ap length (sym e) ∙ w.long)
  upper_table h None w = sym (table_no_upper u l k h w)

  pub lower_table : (k ≡ 0 → ⊥) → k ≤ 3 → 8192 * (k - 1) + 8192 ≤ length l → (r : Option (Bor (List ℕ)))
      → Whole (take (8192 * (k - 1) + 8192 - 8192 * (k - 1)) (drop (8192 * (k - 1)) l)) r → IsTable (table_of u l k) r
  lower_table h g s (Some y) w = let e = table_lower u l k h g s in (w.same ∙ e, ap length (sym e) ∙ w.long)
  lower_table h g s None w = absurd (w (simp (length-take, length-drop) (omega arith)))

pub ruleset tables = (table_past, table_short, upper_table, lower_table)

-- ---- no bytes hold nothing

empty_entry : (n j : ℕ) → (name_of (get_or (map entry_of (pieces 32 n [])) j free_entry) ≡ []) × ((get_or (map entry_of (pieces 32 n [])) j free_entry).parent ≡ 0)
unfolding pieces entry_of
empty_entry zero j = (refl, refl)
empty_entry (suc n) zero = (refl, refl)
empty_entry (suc n) (suc j) = empty_entry n j

module _ (u l : List ℕ) (k : ℕ) (t : List ℕ) (e : t ≡ table_of u l k) (h : length t ≡ 8192 → ⊥) where
  gone : table_of u l k ≡ []
  gone = table_none u l k (λ z. h (ap length e ∙ z))

  pub no_parent : (j : ℕ) → (entry_at (entries_of (table_of u l k)) j).parent ≡ 0
  unfolding entries_of
  no_parent j = rw gone (empty_entry 128 j).1

pub no_name : (u l : List ℕ) (q k : ℕ) → k ≡ q / 128 → table_of u l k ≡ [] → [] ≡ place_name u l q
unfolding entries_of
no_name u l q k e h = rw (← e, h) (sym (empty_entry 128 (q % 128)).0)

pub name_there : (u l t r : List ℕ) (q k j : ℕ) → k ≡ q / 128 → j ≡ q % 128 → t ≡ table_of u l k → r ≡ name_of (entry_at (entries_of t) j) → r ≡ place_name u l q
name_there u l t r q k j e f g h = h ∙ rw (g, e, f) refl
