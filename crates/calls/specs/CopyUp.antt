-- Copy-up, as a call. Assumes nothing.
use Rattle.std.specs.Prelude.{ℕ, not, cond, List, [], ◌∷◌, ◌++◌, length, None, Ok}
use Rattle.calls.specs.Refusal.{Test, test, after_tests, passed}
use Rattle.calls.specs.Lengths.{lengths_test}
use Rattle.calls.specs.Parents.{place_numbered, numbered, unknown, is_white}
use Rattle.calls.specs.Upper.{up, copied_up}
use Rattle.calls.specs.Room.{missing, overfull}
use Rattle.calls.specs.Writing.{Written, has_upper}
use Rattle.calls.specs.declared.refusal.Refusal.TheVariants.{Enoent, Einval, Enospc, Erofs}

-- "copy-up: 2 unknown, 30, 2 whiteout"
unfoldable pub copy_up_before : List ℕ → List ℕ → List ℕ → ℕ → List Test
copy_up_before u l s x =
    test (not (lengths_test s u l)) Einval
    ∷ test (unknown s x) Enoent
    ∷ test (not (has_upper u)) Erofs
    ∷ test (is_white (numbered s x)) Enoent
    ∷ []

-- "then success without change if the top record is upper, 28"; where it is upper, nothing is missing
unfoldable pub copy_up_tests : List ℕ → List ℕ → ℕ → List Test
copy_up_tests u s k = test (overfull u None (length (missing s k)) (length (missing s k))) Enospc ∷ []

abbrev pub copy_up_at : List ℕ → List ℕ → List ℕ → ℕ → ℕ → Written
copy_up_at u l s x k =
    record {
      answer = after_tests (copy_up_before u l s x ++ copy_up_tests u s k) (Ok 0);
      state = cond (passed (copy_up_before u l s x ++ copy_up_tests u s k)) (copied_up l k (up u s)).state s;
      upper = cond (passed (copy_up_before u l s x ++ copy_up_tests u s k)) (copied_up l k (up u s)).table u;
    }

abbrev pub copy_up_spec : List ℕ → List ℕ → List ℕ → ℕ → Written
copy_up_spec u l s x = copy_up_at u l s x (place_numbered s x)
