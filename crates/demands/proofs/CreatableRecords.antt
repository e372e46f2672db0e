-- The records that create, symlink and mknod make are new records. Assumes nothing.
use Rattle.std.specs.Prelude.{Option, Some, None}
use mathlib.Core.Path.{◌≡◌, refl, sym, ap}
use mathlib.Core.Logic.{◌≢◌}
use Prim.Native.Nat.{ℕ, ◌-◌, ◌≤◌, ◌<◌}
use native.Mathlib.Omega.{arith}
use mathlib.Core.Bool.{Bool, true, false, cond}
use lib.Bits.{and_le_r}
use Rattle.layers.specs.Kinds.{kind_number, number_or_zero, kind_of}
use Rattle.layers.specs.Change.{numbered}
use Rattle.layers.specs.Rules.{GoodRecord}
use Rattle.layers.specs.declared.kinds.Kind.{Kind}
use Rattle.layers.specs.declared.kinds.Kind.TheVariants.{Fifo, Character, Directory, Block, Regular, Symlink, Socket}
use Rattle.layers.proofs.EveryLaws.{no_true}
use Rattle.calls.specs.Creation.{made_record, bad_mode, not_made, bad_node, is_device, device_of}
use Rattle.demands.specs.Sequences.{Creatable}

-- of a kind that is no directory's, and whose device number is 0 but for devices
module _ (k : Kind) (some : kind_number k ≢ 0) (no_directory : kind_number k ≢ 4) (permissions umask device content : ℕ) (only : kind_number k ≢ 2 → kind_number k ≢ 6 → device ≡ 0)
    (device_fits : device < 18446744073709551616) (content_fits : content < 18446744073709551616)
  where
    made_good : (i : ℕ) → 1 ≤ i → GoodRecord i (numbered i (made_record (kind_number k) permissions umask device content))
    unfolding made_record
    made_good i h =
        record {
          free = λ z. absurd (omega arith);
          number_is = λ z. refl;
          kind_is = λ z. (k, refl);
          permissions_fit = omega (arith, and_le_r permissions (4095 - umask));
          mark_zero = refl;
          links_zero = refl;
          opaque_is = omega arith;
          opaque_directory = λ z. absurd (z refl);
          device_is = only;
        }

    made_creatable : Creatable (made_record (kind_number k) permissions umask device content)
    unfolding made_record
    made_creatable =
        record {
          good = λ i a b. made_good i a;
          tail = record { device_fit = device_fits; size_fit = omega arith; content_fit = content_fits };
          no_directory = no_directory;
        }

pub create_creatable : (permissions umask : ℕ) → Creatable (made_record (kind_number Regular) permissions umask 0 0)
create_creatable permissions umask = made_creatable Regular (λ z. omega arith) (λ z. omega arith) permissions umask 0 0 (λ a b. refl) (omega arith) (omega arith)

pub symlink_creatable : (content : ℕ) → content < 18446744073709551616 → Creatable (made_record (kind_number Symlink) 511 0 0 content)
symlink_creatable content h = made_creatable Symlink (λ z. omega arith) (λ z. omega arith) 511 0 0 content (λ a b. refl) (omega arith) h

pub mknod_creatable : (kind permissions umask device : ℕ) → device < 18446744073709551616 → bad_node kind permissions umask ≡ false
    → Creatable (made_record (number_or_zero (kind_of kind)) permissions umask (device_of kind device) 0)
unfolding bad_node device_of
mknod_creatable kind permissions umask device h = go (kind_of kind) (bad_mode permissions umask)
  where
    none : (k : Kind) → kind_number k ≢ 0 → kind_number k ≢ 4 → Creatable (made_record (kind_number k) permissions umask 0 0)
    none k a b = made_creatable k a b permissions umask 0 0 (λ c d. refl) (omega arith) (omega arith)

    go : (k : Option Kind) (b : Bool) → cond (not_made k) true b ≡ false → Creatable (made_record (number_or_zero k) permissions umask (cond (is_device k) device 0) 0)
    go (Some Fifo) b q = none Fifo (λ z. omega arith) (λ z. omega arith)
    go (Some Character) b q = made_creatable Character (λ z. omega arith) (λ z. omega arith) permissions umask device 0 (λ c d. absurd (c refl)) h (omega arith)
    go (Some Directory) b q = no_true (sym q)
    go (Some Block) b q = made_creatable Block (λ z. omega arith) (λ z. omega arith) permissions umask device 0 (λ c d. absurd (d refl)) h (omega arith)
    go (Some Regular) b q = none Regular (λ z. omega arith) (λ z. omega arith)
    go (Some Symlink) b q = no_true (sym q)
    go (Some Socket) b q = none Socket (λ z. omega arith) (λ z. omega arith)
    go None b q = no_true (sym q)
