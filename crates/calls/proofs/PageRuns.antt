-- A page is a run of the listing's entries, and the offset in its last entry is where the next page starts. Assumes nothing.
use mathlib.Core.Path.{◌≡◌, refl, sym, ap, ◌∙◌}
use Prim.Native.Nat.{ℕ, suc, ◌+◌, ◌*◌, ◌-◌, ◌≤◌, ◌<◌}
use native.Mathlib.Omega.{arith}
use native.Mathlib.Nat.{add-zero, add-suc, suc-add}
use mathlib.Core.Bool.{Bool, true, false, cond}
use mathlib.Core.List.{List, [], ◌∷◌, ◌++◌, append_assoc, append-nil}
use lib.Dec.{leb, ltb}
use lib.ListN.{length, take, drop, length-drop, take-append-drop, drop_of_length-le}
use lib.Seq.{take_all, take_at, drop_at, drop-drop, length-take-le}
use borrow.Author.Tests.{le-leb, lt-leb, le-ltb}
use Rattle.layers.specs.Bytes.{part, le_bytes}
use Rattle.layers.proofs.Numbers.{length_le}
use Rattle.merge.proofs.MergeLaws.{Each}
use Rattle.calls.specs.Dirents.{Dirent, padding, dirent_size, dirent_bytes}
use Rattle.calls.specs.Pages.{fitting, bytes_from, page_run, page_bytes, remaining}
use Rattle.calls.proofs.PageBounds.{Short, size_most}

-- ---- a page is a run

pub fitting_most : (room : ℕ) (ds : List Dirent) → fitting room ds ≤ length ds
unfolding fitting
fitting_most room [] = omega arith
fitting_most room (d ∷ ds) = go (leb (dirent_size d) room) (fitting_most (room - dirent_size d) ds)
  where
    go : (b : Bool) → fitting (room - dirent_size d) ds ≤ length ds → cond b (suc (fitting (room - dirent_size d) ds)) 0 ≤ suc (length ds)
    go true ih = omega arith
    go false ih = omega arith

pub length_run : (room o : ℕ) (ds : List Dirent) → length (page_run room o ds) ≡ fitting room (drop o ds)
length_run room o ds = length-take-le (fitting room (drop o ds)) (drop o ds) (fitting_most room (drop o ds))

-- the page's entries stand in the listing from the offset on, and what remains stands behind them
pub page_is_run : (room o : ℕ) (ds : List Dirent) → page_run room o ds ++ drop (o + length (page_run room o ds)) ds ≡ drop o ds
page_is_run room o ds =
    rw (length_run room o ds)
    (ap (λ (y : List Dirent). page_run room o ds ++ y) (sym (drop-drop (fitting room (drop o ds)) o ds)) ∙ take-append-drop (fitting room (drop o ds)) (drop o ds))

-- entries remain exactly where the run ends before the list does
pub remains_is : (room o : ℕ) (ds : List Dirent) → remaining room o ds ≡ ltb (o + length (page_run room o ds)) (length ds)
unfolding remaining
remains_is room o ds = rw (length_run room o ds) refl

-- "Offset at or past the count writes nothing and nothing remains."
module _ (room o : ℕ) (ds : List Dirent) (h : length ds ≤ o) where
  pub past_writes_nothing : page_bytes room o ds ≡ []
  unfolding page_bytes bytes_from fitting
  past_writes_nothing = rw (drop_of_length-le ds {i = o} h) refl

  pub past_nothing_remains : remaining room o ds ≡ false
  unfolding remaining
  past_nothing_remains = le-ltb (o + fitting room (drop o ds)) (length ds) (omega arith)

-- no room: nothing is written, and entries remain where the offset is below the count
fitting_none : (ds : List Dirent) → fitting 0 ds ≡ 0
unfolding fitting dirent_size
fitting_none [] = refl
fitting_none (d ∷ ds) = rw (lt-leb (24 + length d.name + padding (length d.name)) 0 (omega arith)) refl

module _ (o : ℕ) (ds : List Dirent) where
  pub no_room_no_bytes : page_bytes 0 o ds ≡ []
  unfolding page_bytes bytes_from
  no_room_no_bytes = rw (fitting_none (drop o ds)) refl

  pub no_room_remains : remaining 0 o ds ≡ ltb o (length ds)
  unfolding remaining
  no_room_remains = rw (fitting_none (drop o ds), add-zero o) refl

-- ---- the next page

-- "8 of index plus 1": the offset that an entry carries
pub offset_carried : (i : ℕ) (d : Dirent) → part (dirent_bytes i d) 8 8 ≡ le_bytes 8 (i + 1)
unfolding dirent_bytes
offset_carried i d =
    simp append_assoc
    (ap (λ (y : List ℕ). take 8 y) (drop_at (le_bytes 8 d.inode) _ 8 (length_le 8 d.inode)) ∙ take_at (le_bytes 8 (i + 1)) _ 8 (length_le 8 (i + 1)))

-- runs side by side: the second's indices go on where the first's end
pub bytes_append : (i : ℕ) (xs ys : List Dirent) → bytes_from i (xs ++ ys) ≡ bytes_from i xs ++ bytes_from (i + length xs) ys
unfolding bytes_from
bytes_append i [] ys = rw (add-zero i) refl
bytes_append i (x ∷ xs) ys =
    rw (bytes_append (suc i) xs ys, append_assoc (dirent_bytes i x) (bytes_from (suc i) xs) (bytes_from (i + length (x ∷ xs)) ys), add-suc i (length xs), suc-add i (length xs)) refl

-- the last entry of a run carries the index behind the run
pub last_carries : (i : ℕ) (xs : List Dirent) (d : Dirent) → bytes_from i (xs ++ d ∷ []) ≡ bytes_from i xs ++ dirent_bytes (i + length xs) d
unfolding bytes_from
last_carries i xs d = bytes_append i xs (d ∷ []) ∙ ap (λ (y : List ℕ). bytes_from i xs ++ y) (append-nil (dirent_bytes (i + length xs) d))

-- a page and the one that starts where it ended are the bytes of one longer run
pub pages_join : (room o room₂ : ℕ) (ds : List Dirent)
    → page_bytes room o ds ++ page_bytes room₂ (o + length (page_run room o ds)) ds ≡ bytes_from o (page_run room o ds ++ page_run room₂ (o + length (page_run room o ds)) ds)
unfolding page_bytes
pages_join room o room₂ ds = sym (bytes_append o (page_run room o ds) (page_run room₂ (o + length (page_run room o ds)) ds))

-- where an entry is left, a room of 56 bytes takes it
pub page_goes_on : (room o : ℕ) (ds : List Dirent) → Each Short (drop o ds) → 56 ≤ room → o < length ds → 1 ≤ length (page_run room o ds)
unfolding fitting
page_goes_on room o ds e h l = rw (length_run room o ds) (go (drop o ds) e (rw (length-drop o ds) (omega arith)))
  where
    go : (ds : List Dirent) → Each Short ds → 1 ≤ length ds → 1 ≤ fitting room ds
    go [] e l = absurd (omega arith)
    go (d ∷ ds) e l = let m : dirent_size d ≤ 56 = size_most d e.0 in rw (le-leb (dirent_size d) room (omega arith)) (omega arith)

-- room for every entry gives them all
all_fit : (room : ℕ) (ds : List Dirent) → Each Short ds → 56 * length ds ≤ room → fitting room ds ≡ length ds
unfolding fitting
all_fit room [] e h = refl
all_fit room (d ∷ ds) e h =
    let m : dirent_size d ≤ 56 = size_most d e.0 in
    rw (le-leb (dirent_size d) room (omega arith)) (ap suc (all_fit (room - dirent_size d) ds e.1 (omega arith)))

pub whole_page : (room : ℕ) (ds : List Dirent) → Each Short ds → 56 * length ds ≤ room → page_bytes room 0 ds ≡ bytes_from 0 ds
unfolding page_bytes
whole_page room ds e h = ap (bytes_from 0) (take_all (fitting room ds) ds (let m : fitting room ds ≡ length ds = all_fit room ds e h in omega arith))
