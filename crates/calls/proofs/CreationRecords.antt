-- The record that a creation makes, and mknod's kinds. Assumes nothing.
use Rattle.std.specs.Prelude.{Option, Some, None, Result, Ok, Err, OkIff}
use Rattle.std.specs.Result.{result_ok}
use mathlib.Core.Path.{◌≡◌, refl, sym, ◌∙◌}
use Prim.Native.Nat.{ℕ, ◌-◌, ◌≤◌, ◌<◌}
use native.Mathlib.Omega.{arith}
use mathlib.Core.Bool.{Bool, true, false}
use lib.Bits.{bit_and}
use lib.Dec.{ltb}
use borrow.Author.Tests.{ne_eqb, ltb-true, ltb-false}
use Rattle.layers.specs.Kinds.{kind_of}
use Rattle.layers.specs.declared.kinds.Kind.{Kind}
use Rattle.calls.specs.Creation.{made_record, bad_mode, not_made, bad_node, is_device, device_of}

module _ (kind permissions umask device content m : ℕ) where
  pub record_made : m ≡ bit_and permissions (4095 - umask) → record { number = 0; kind = kind; opaque = 0; mark = 0; permissions = m; links = 0; device = device; size = 0; content = content } ≡ made_record kind permissions umask device content
  unfolding made_record
  record_made h = rw h refl

pub no_such_kind : (n : ℕ) → 255 < n → None ≡ kind_of n
unfolding kind_of
no_such_kind n h =
    rw (ne_eqb n 1 (λ e. omega arith), ne_eqb n 2 (λ e. omega arith), ne_eqb n 4 (λ e. omega arith), ne_eqb n 6 (λ e. omega arith), ne_eqb n 8 (λ e. omega arith), ne_eqb n 10 (λ e. omega arith), ne_eqb n 12 (λ e. omega arith))
    refl

-- a number that fits a byte or not, as the library tells it
module _ {E : Type 0} (r : Result ℕ E) (o : Option ℕ) (n : ℕ) (r_is : OkIff r (n < 256) n) (o_is : o ≡ result_ok r) where
  pub byte_none : o ≡ None → 255 < n
  byte_none h = go r r_is (sym o_is ∙ h)
    where
      go : (r : Result ℕ E) → OkIff r (n < 256) n → result_ok r ≡ None → 255 < n
      go (Ok x) i e = absurd (let z : ◌≡◌ {A = Option ℕ} (Some x) None = e in cc)
      go (Err x) i e = go_over (ltb n 256) refl
        where
          go_over : (b : Bool) → ltb n 256 ≡ b → 255 < n
          go_over true q = absurd (i (ltb-true n 256 q))
          go_over false q = let y : 256 ≤ n = ltb-false n 256 q in omega arith

module _ (n : ℕ) (k : Option Kind) (q : k ≡ kind_of n) (b : Bool) where
  module _ (permissions umask : ℕ) (e : b ≡ not_made k) where
    pub bad_kind : b ≡ true → true ≡ bad_node n permissions umask
    unfolding bad_node
    bad_kind h = rw (← q, ← e, h) refl

    pub bad_bits : (c : Bool) → b ≡ false → c ≡ bad_mode permissions umask → c ≡ bad_node n permissions umask
    unfolding bad_node
    bad_bits c h g = rw (← q, ← e, h) g

  module _ (d : ℕ) (e : b ≡ is_device k) where
    pub device_kept : b ≡ true → d ≡ device_of n d
    unfolding device_of
    device_kept h = rw (← q, ← e, h) refl

    pub device_none : b ≡ false → 0 ≡ device_of n d
    unfolding device_of
    device_none h = rw (← q, ← e, h) refl
