-- The refusals with their numbers, a call's order of tests as a list, and what a call answers. Assumes nothing.
use Rattle.std.specs.Prelude.{codes, ℕ, ◌*◌, Bool, true, false, cond, List, [], ◌∷◌, Result, Ok, Err}
use Rattle.calls.specs.declared.refusal.Refusal.{Refusal}
use Rattle.calls.specs.declared.refusal.Refusal.TheVariants.{Eperm, Enoent, Eexist, Enotdir, Einval, Enfile, Enospc, Erofs, Enametoolong}

-- "1 EPERM link of a directory; mknod of a whiteout. 2 ENOENT node unknown or whiteout; name absent or whiteout. 17 EEXIST creation or link on a live name.
-- 20 ENOTDIR parent or listed node is no directory. 22 EINVAL malformed name or argument, bad layers. 23 ENFILE node places or numbers don't suffice.
-- 28 ENOSPC upper would hold over 128 records or entries. 30 read-only no upper layer. 36 ENAMETOOLONG a new name of over 28 bytes."
abbrev pub refusal_number : Refusal → ℕ
refusal_number Eperm = 1
refusal_number Enoent = 2
refusal_number Eexist = 17
refusal_number Enotdir = 20
refusal_number Einval = 22
refusal_number Enfile = 23
refusal_number Enospc = 28
refusal_number Erofs = 30
refusal_number Enametoolong = 36

-- the words of a refusal
abbrev pub refusal_words : Refusal → List ℕ
refusal_words Eperm = codes "operation not permitted"
refusal_words Enoent = codes "no such file or directory"
refusal_words Eexist = codes "file exists"
refusal_words Enotdir = codes "not a directory"
refusal_words Einval = codes "invalid argument"
refusal_words Enfile = codes "too many nodes"
refusal_words Enospc = codes "no space left in the upper layer"
refusal_words Erofs = codes "read-only file system"
refusal_words Enametoolong = codes "file name too long"

-- one test of "each call's order of tests": the refusal that is given where it fails
pub record Test : Type 0 where
  pub fails : Bool
  pub gives : Refusal

abbrev pub test : Bool → Refusal → Test
test b r = record { fails = b; gives = r }

-- the first test that fails decides; where none does, the answer stands
unfoldable pub after_tests : List Test → Result ℕ Refusal → Result ℕ Refusal
after_tests [] a = a
after_tests (t ∷ ts) a = cond t.fails (Err t.gives) (after_tests ts a)

-- no test fails
unfoldable pub passed : List Test → Bool
passed [] = true
passed (t ∷ ts) = cond t.fails false (passed ts)

-- what a call answers, and the state that it leaves
pub record Outcome : Type 0 where
  pub answer : Result ℕ Refusal
  pub state : List ℕ

-- "Answers in 32 bits are an errno, 0 for success."
abbrev pub errno_of : Result ℕ Refusal → ℕ
errno_of (Ok v) = 0
errno_of (Err r) = refusal_number r

-- "Answers in 64 bits have the errno in the upper 32 bits and the value in the lower 32; a refusal's value is 0."
abbrev pub packed : Result ℕ Refusal → ℕ
packed (Ok v) = v
packed (Err r) = 4294967296 * refusal_number r
