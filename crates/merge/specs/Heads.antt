-- The head of a state: the next number to give, and how many nodes there are. Assumes nothing.
use Rattle.std.specs.Prelude.{Bool, cond, ℕ, ◌+◌, ◌-◌, List, ◌++◌, ltb, leb}
use Rattle.layers.specs.Bytes.{le_bytes, number_at, laid}
use Rattle.merge.specs.declared.head.Head.{Head}
use Rattle.merge.specs.Nodes.{capacity, count_of}
use Rattle.merge.specs.Methods.{fallen, risen}

-- "Bytes 0 to 7: the next number to give (2 to 4294967296)."
abbrev pub next_of : List ℕ → ℕ
next_of s = number_at 8 s 0

abbrev pub head_of : List ℕ → Head
head_of s = record { next = next_of s; count = count_of s }

unfoldable pub head_bytes : Head → List ℕ
head_bytes h = le_bytes 8 h.next ++ le_bytes 4 h.count

-- the bytes with this head; those too few to hold one stay
abbrev pub with_head : List ℕ → Head → List ℕ
with_head s h = laid s 0 (head_bytes h)

-- ---- the methods

-- one node more, one less
abbrev pub more : Head → Head
more h = record { next = h.next; count = risen h.count }

abbrev pub fewer : Head → Head
fewer h = record { next = h.next; count = fallen h.count 1 }

-- "Other numbers rise from 2, are never given twice, and end at 4294967295": past it none is left
unfoldable pub following : ℕ → ℕ
following x = cond (ltb x 4294967296) (x + 1) x

abbrev pub numbered : Head → Head
numbered h = record { next = following h.next; count = h.count }

-- ---- what is left

-- how many more nodes fit
abbrev pub room_of : List ℕ → ℕ
room_of s = capacity s - count_of s

-- no further node fits
unfoldable pub full : List ℕ → Bool
full s = leb (capacity s) (count_of s)

-- how many numbers are left to give
abbrev pub numbers_left : List ℕ → ℕ
numbers_left s = 4294967296 - next_of s
