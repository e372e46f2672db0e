-- A change at one directory and name of the upper layer leaves the stack of every name that it does not stand below. Assumes nothing.
use mathlib.Core.Path.{◌≡◌, refl, sym, ap, ◌∙◌}
use Prim.Native.Nat.{ℕ}
use native.Mathlib.Decide.{ℕ_discrete}
use mathlib.Core.List.{List, [], ◌∷◌}
use lib.ListN.{length}
use Rattle.layers.specs.Names.{Name}
use Rattle.layers.specs.Items.{records_of, record_at}
use Rattle.merge.specs.Tables.{table_of}
use Rattle.merge.specs.Classes.{is_opaque}
use Rattle.merge.specs.Scan.{is_walked, ends_scan}
use Rattle.merge.specs.Stacks.{stack_of, whiteout_of}
use Rattle.merge.specs.declared.stacks.Pair.{Pair}
use Rattle.merge.proofs.TableLaws.{table_upper}
use Rattle.merge.proofs.MergeLaws.{Each}
use Rattle.demands.proofs.NameChanges.{Elsewhere, ChangedAt, seen_elsewhere}
use Rattle.demands.proofs.AgreeLaws.{SameName, lower_same, stack_agree, whiteout_agree}

-- the record `d` is scanned alike in two tables of the same length that have it alike
pub scan_agree : (t v : List ℕ) (d : ℕ) → length t ≡ length v → record_at (records_of t) d ≡ record_at (records_of v) d → (is_walked t d ≡ is_walked v d) × (ends_scan t d ≡ ends_scan v d)
unfolding is_walked ends_scan
scan_agree t v d l e = (rw (l, e) refl, ap is_opaque e)

module _ (u v l : List ℕ) (d : ℕ) (x : Name) (change : ChangedAt u v d x) (lu : length u ≡ 8192) (lv : length v ≡ 8192) (y : Name) where
  -- what a directory of a stack has to do with the change: a lower one nothing; an upper one is as before, and is another or has another name in view
  abbrev pub Untouched : Pair → Type 0
  Untouched a = a.layer ≡ 0 → (record_at (records_of u) a.number ≡ record_at (records_of v) a.number) × Elsewhere d x a.number y

  upper_same : (a : Pair) → a.layer ≡ 0 → Untouched a → SameName u v l y a
  upper_same a z h =
      let p : table_of u l a.layer ≡ u = sym (table_upper u l a.layer z lu) in
      let q : table_of v l a.layer ≡ v = sym (table_upper v l a.layer z lv) in
      let w : (is_walked u a.number ≡ is_walked v a.number) × (ends_scan u a.number ≡ ends_scan v a.number) = scan_agree u v a.number (lu ∙ sym lv) (h z).0 in
      record {
        scan = record { walked = rw (p, q) w.0; ends = rw (p, q) w.1 };
        seen = rw (p, q) (sym (seen_elsewhere u v d x change a.number y (h z).1));
      }

  pub untouched_same : (a : Pair) → Untouched a → SameName u v l y a
  untouched_same a h = go (ℕ_discrete a.layer 0)
    where
      go : Dec (a.layer ≡ 0) → SameName u v l y a
      go (yes z) = upper_same a z h
      go (no z) = lower_same u v l y a z

  pub untouched_each : (s : List Pair) → Each Untouched s → Each (SameName u v l y) s
  untouched_each [] h = tt
  untouched_each (a ∷ s) h = (untouched_same a h.0, untouched_each s h.1)

  pub stack_elsewhere : (s : List Pair) → Each Untouched s → stack_of u l s y ≡ stack_of v l s y
  stack_elsewhere s h = stack_agree u v l y s (untouched_each s h)

  pub whiteout_elsewhere : (s : List Pair) → Each Untouched s → whiteout_of u l s y ≡ whiteout_of v l s y
  whiteout_elsewhere s h = whiteout_agree u v l y s (untouched_each s h)
