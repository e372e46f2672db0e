-- A page: the run of a listing's entries that fits, and its bytes. Assumes nothing.
use Rattle.std.specs.Prelude.{Bool, true, false, cond, ◌≡◌, ℕ, suc, ◌+◌, ◌-◌, ◌≤◌, List, [], ◌∷◌, ◌++◌, leb, ltb, length, take, drop, Option, Some}
use Rattle.layers.specs.Bytes.{over}
use Rattle.calls.specs.Dirents.{Dirent, dirent_size, dirent_bytes, room_of, fits, put_answer, put_dirent}
use Rattle.calls.specs.declared.page.Page.{Page}

-- "entries are written as long as the next fits": how many of these fit in `room`
unfoldable pub fitting : ℕ → List Dirent → ℕ
fitting room [] = 0
fitting room (d ∷ ds) = cond (leb (dirent_size d) room) (suc (fitting (room - dirent_size d) ds)) 0

-- the bytes of entries one after another, the first of index `i`
unfoldable pub bytes_from : ℕ → List Dirent → List ℕ
bytes_from i [] = []
bytes_from i (d ∷ ds) = dirent_bytes i d ++ bytes_from (suc i) ds

-- "From the given offset on": the run of entries that a page holds
abbrev pub page_run : ℕ → ℕ → List Dirent → List Dirent
page_run room o ds = take (fitting room (drop o ds)) (drop o ds)

unfoldable pub page_bytes : ℕ → ℕ → List Dirent → List ℕ
page_bytes room o ds = bytes_from o (page_run room o ds)

-- "whether entries remain"; "Offset at or past the count writes nothing and nothing remains."
unfoldable pub remaining : ℕ → ℕ → List Dirent → Bool
remaining room o ds = ltb (o + fitting room (drop o ds)) (length ds)

-- "The answer has bytes written and whether entries remain"
abbrev pub page_of : ℕ → ℕ → List Dirent → Page
page_of room o ds = record { bytes = length (page_bytes room o ds); remains = remaining room o ds }

-- "the rest of the buffer is untouched"
abbrev pub page_over : ℕ → ℕ → List Dirent → List ℕ → List ℕ
page_over room o ds t = over t 0 (page_bytes room o ds)

-- what writing a page answers and leaves. A listing has at most 2 entries more than the 4294967295 nodes that can be counted, each of at most 56 bytes
pub record Paged (limit o : ℕ) (t : List ℕ) (ds : List Dirent) (p : Page) (u : List ℕ) : Type 0 where
  pub answer : p ≡ page_of (room_of limit t) o ds
  pub buffer : u ≡ page_over (room_of limit t) o ds t
  pub small : p.bytes ≤ 240518168632

-- ---- what the private functions promise

-- one entry: below the offset it is passed over
unfoldable pub entry_answer : ℕ → ℕ → List ℕ → ℕ → ℕ → Dirent → Option ℕ
entry_answer o limit t at i d = cond (ltb i o) (Some at) (put_answer limit t at d)

unfoldable pub entry_over : ℕ → ℕ → List ℕ → ℕ → ℕ → Dirent → List ℕ
entry_over o limit t at i d = cond (ltb i o) t (put_dirent limit t at i d)

-- a page and the buffer that it stands in
pub record Filled : Type 0 where
  pub page : Page
  pub buffer : List ℕ

abbrev pub filled : ℕ → Bool → List ℕ → Filled
filled at b t = record { page = record { bytes = at; remains = b }; buffer = t }

-- the entries from index `i` on written one after another, the first at `at`
unfoldable pub fill : ℕ → ℕ → ℕ → ℕ → List ℕ → List Dirent → Filled
fill o limit i at t [] = filled at false t
fill o limit i at t (d ∷ ds) =
    cond (ltb i o) (fill o limit (suc i) at t ds)
    (cond (fits limit t at d)
    (fill o limit (suc i) (at + dirent_size d) (over t at (dirent_bytes i d)) ds)
    (filled at true t))
