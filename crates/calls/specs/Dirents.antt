-- An entry of a listing, and the bytes in which it is written: the FUSE dirent. Assumes nothing.
use Rattle.std.specs.Prelude.{Bool, cond, ℕ, ◌+◌, ◌-◌, ◌%◌, List, ◌++◌, leb, length, replicate, Option, Some, None}
use Rattle.layers.specs.Bytes.{least, over, le_bytes}
use Rattle.layers.specs.Names.{Name}

pub record Dirent : Type 0 where
  pub inode : ℕ
  pub kind : ℕ
  pub name : Name

abbrev pub dirent : ℕ → ℕ → Name → Dirent
dirent i k x = record { inode = i; kind = k; name = x }

-- "zeros to a multiple of 8": how many follow a name of `n` bytes
unfoldable pub padding : ℕ → ℕ
padding n = (8 - n % 8) % 8

unfoldable pub dirent_size : Dirent → ℕ
dirent_size d = 24 + length d.name + padding (length d.name)

-- "8 bytes of inode (the top record's number), 8 of index plus 1, 4 of name length, 4 of type, name, zeros to a multiple of 8", "little-endian"
unfoldable pub dirent_bytes : ℕ → Dirent → List ℕ
dirent_bytes i d =
    le_bytes 8 d.inode ++ le_bytes 8 (i + 1) ++ le_bytes 4 (length d.name) ++ le_bytes 4 d.kind
    ++ d.name ++ replicate (padding (length d.name)) 0

-- "the smaller of size and buffer length"
abbrev pub room_of : ℕ → List ℕ → ℕ
room_of limit t = least limit (length t)

-- the entry fits behind the first `at` bytes
abbrev pub fits : ℕ → List ℕ → ℕ → Dirent → Bool
fits limit t at d = leb (at + dirent_size d) (room_of limit t)

-- what writing the entry of index `i` at `at` answers: where the next one goes, or that it does not fit
unfoldable pub put_answer : ℕ → List ℕ → ℕ → Dirent → Option ℕ
put_answer limit t at d = cond (fits limit t at d) (Some (at + dirent_size d)) None

-- and the buffer then; an entry that does not fit changes nothing
unfoldable pub put_dirent : ℕ → List ℕ → ℕ → ℕ → Dirent → List ℕ
put_dirent limit t at i d = cond (fits limit t at d) (over t at (dirent_bytes i d)) t
