-- What the definition of copy-up says of a node that is in the upper layer already. Assumes nothing.
use Rattle.std.specs.Prelude.{Option, None, Ok}
use mathlib.Core.Path.{◌≡◌, refl, ◌∙◌}
use Prim.Native.Nat.{ℕ, ◌+◌, ◌≤◌}
use native.Mathlib.Omega.{arith}
use mathlib.Core.Bool.{true, false, not}
use mathlib.Core.List.{List, [], ◌++◌}
use borrow.Author.Tests.{le-ltb}
use Rattle.layers.specs.Items.{records_of, entries_of}
use Rattle.layers.specs.Search.{is_free, no_record, used_entries, used_records}
use Rattle.layers.proofs.CountLaws.{count_below}
use Rattle.layers.proofs.ItemLaws.{length_records, length_entries}
use Rattle.merge.specs.Nodes.{nodes_of, node_at}
use Rattle.calls.specs.Refusal.{passed}
use Rattle.calls.specs.Parents.{place_numbered, numbered}
use Rattle.calls.specs.Upper.{Up, up, node_in, in_upper, copied_up}
use Rattle.calls.specs.Room.{missing_from, missing, freed_entries, freed_records, overfull}
use Rattle.calls.specs.Writing.{Written}
use Rattle.calls.specs.CopyUp.{copy_up_before, copy_up_tests, copy_up_spec}
use Rattle.calls.proofs.TestLaws.{passed_append, after_passed}

-- nothing from it up is missing
pub upper_none_missing : (s : List ℕ) (k : ℕ) → in_upper (node_at (nodes_of s) k) ≡ true → missing s k ≡ []
unfolding missing_from
upper_none_missing s k h = rw h refl

-- 128 places hold at most 128 records and entries: where nothing is made there is room
pub nothing_fits : (t : List ℕ) (e : Option ℕ) → overfull t e 0 0 ≡ false
unfolding overfull
nothing_fits t e =
    let records : used_records (records_of t) ≤ 128 = omega (arith, count_below (λ r. not (no_record r)) (records_of t), length_records t) in
    let entries : used_entries (entries_of t) ≤ 128 = omega (arith, count_below (λ i. not (is_free i)) (entries_of t), length_entries t) in
    rw (
      le-ltb (128 + freed_records t e) (used_records (records_of t) + 0) (omega arith),
      le-ltb (128 + freed_entries e) (used_entries (entries_of t) + 0) (omega arith),
    )
    refl

-- so 28 is not given
pub upper_has_room : (u s : List ℕ) (k : ℕ) → in_upper (node_at (nodes_of s) k) ≡ true → passed (copy_up_tests u s k) ≡ true
unfolding copy_up_tests passed
upper_has_room u s k h = rw (upper_none_missing s k h, nothing_fits u None) refl

pub upper_unchanged : (l : List ℕ) (k : ℕ) (u : Up) → in_upper (node_in u k) ≡ true → copied_up l k u ≡ u
unfolding copied_up
upper_unchanged l k u h = rw h refl

-- "then success without change if the top record is upper"
pub upper_succeeds : (u l s : List ℕ) (x : ℕ) → passed (copy_up_before u l s x) ≡ true → in_upper (numbered s x) ≡ true → ◌≡◌ {A = Written} (copy_up_spec u l s x) (record { answer = Ok 0; state = s; upper = u })
upper_succeeds u l s x h t =
    let all : passed (copy_up_before u l s x ++ copy_up_tests u s (place_numbered s x)) ≡ true =
    passed_append (copy_up_before u l s x) (copy_up_tests u s (place_numbered s x)) ∙ rw (h, upper_has_room u s (place_numbered s x) t) refl in
    rw
    (after_passed (copy_up_before u l s x ++ copy_up_tests u s (place_numbered s x)) (Ok 0) all, all, upper_unchanged l (place_numbered s x) (up u s) t)
    refl
