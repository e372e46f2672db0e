-- The layers keep every rule where the upper table does and the lower ones are as they were. Assumes nothing.
use mathlib.Core.Path.{◌≡◌, refl, sym, ap, ◌∙◌, subst}
use Prim.Native.Nat.{ℕ}
use native.Mathlib.Decide.{ℕ_discrete}
use mathlib.Core.List.{List}
use lib.ListN.{length}
use Rattle.layers.specs.Rules.{Valid}
use Rattle.merge.specs.Tables.{table_of}
use Rattle.merge.proofs.TableLaws.{table_upper}
use Rattle.demands.proofs.AgreeLaws.{lower_table}
use Rattle.demands.specs.Reads.{SoundLayers}

-- a valid upper table above the same lower ones
pub sound_changed : (t w l : List ℕ) → SoundLayers t l → Valid w → SoundLayers w l
sound_changed t w l sound v = record { tables = each }
  where
    each : (m : ℕ) → length (table_of w l m) ≡ 8192 → Valid (table_of w l m)
    each m h = go (ℕ_discrete m 0)
      where
        go : Dec (m ≡ 0) → Valid (table_of w l m)
        go (yes z) = subst Valid (table_upper w l m z v.size) v
        go (no z) = subst Valid (lower_table t w l m z) (sound.tables m (ap length (lower_table t w l m z) ∙ h))

-- the upper table is valid, where there is one
pub upper_valid : (t l : List ℕ) → SoundLayers t l → length t ≡ 8192 → Valid t
upper_valid t l sound h = subst Valid (sym (table_upper t l 0 refl h)) (sound.tables 0 (ap length (sym (table_upper t l 0 refl h)) ∙ h))
