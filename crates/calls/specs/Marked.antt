-- The marked cases of document 01, M1 to M11, one statement about the definitions. Assumes nothing.
use Rattle.std.specs.Prelude.{◌≡◌, ℕ, Bool, true, false, List, [], ◌∷◌, length}
use Rattle.layers.specs.Kinds.{kind_number}
use Rattle.layers.specs.declared.kinds.Kind.TheVariants.{Character, Directory, Regular}
use Rattle.layers.specs.declared.items.Record.{Record}
use Rattle.merge.specs.Classes.{class_of}
use Rattle.merge.specs.Stacks.{merge, marks, merge_errno}
use Rattle.merge.specs.Methods.{forgotten}
use Rattle.merge.specs.declared.node.Node.{Node}
use Rattle.calls.specs.Dirents.{Dirent, dirent_size}

-- ---- the records of the cases

abbrev pub real : ℕ → ℕ → Record
real k o = record { number = 2; kind = k; opaque = o; mark = 0; permissions = 420; links = 0; device = 0; size = 0; content = 0 }

abbrev pub file : Record
file = real (kind_number Regular) 0

abbrev pub white : Record
white = real (kind_number Character) 0

abbrev pub dir : Record
dir = real (kind_number Directory) 0

abbrev pub opaque_dir : Record
opaque_dir = real (kind_number Directory) 1

-- ---- what a case says

abbrev pub live : Bool
live = false

abbrev pub whiteout : Bool
whiteout = true

-- the real records merge to a stack of this many, and the name has this mark
abbrev pub Merges : List Record → ℕ → Bool → Type 0
Merges rs n w = (length (merge class_of rs) ≡ n) × (marks class_of rs ≡ w)

-- a node with this count has that one after a forget of the amount
abbrev pub Forgets : ℕ → ℕ → ℕ → Type 0
Forgets c amount then = (n : Node) → n.count ≡ c → (forgotten n amount).count ≡ then

-- a name of this many bytes makes an entry of that many
abbrev pub Sized : ℕ → ℕ → Type 0
Sized n size = (d : Dirent) → length d.name ≡ n → dirent_size d ≡ size

-- "M1 [file, file]: stack 1, live. M2 [whiteout, file]: 1, whiteout. M3 [dir, whiteout, dir]: 1. M4 [dir, file, dir]: 1.
-- M5 [dir, opaque dir, dir]: 2. M6 [opaque dir, dir]: 1. M7 [dir, dir, dir]: 3. M8 []: 22. M9 count 1, forget 5: 0.
-- M10 count 3, forget 0: 3. M11 names of 8, 9, 28 bytes: entries of 32, 40, 56."
pub record Marked : Type 0 where
  pub m1 : Merges (file ∷ file ∷ []) 1 live
  pub m2 : Merges (white ∷ file ∷ []) 1 whiteout
  pub m3 : Merges (dir ∷ white ∷ dir ∷ []) 1 live
  pub m4 : Merges (dir ∷ file ∷ dir ∷ []) 1 live
  pub m5 : Merges (dir ∷ opaque_dir ∷ dir ∷ []) 2 live
  pub m6 : Merges (opaque_dir ∷ dir ∷ []) 1 live
  pub m7 : Merges (dir ∷ dir ∷ dir ∷ []) 3 live
  pub m8 : merge_errno {A = Record} [] ≡ 22
  pub m9 : Forgets 1 5 0
  pub m10 : Forgets 3 0 3
  pub m11 : Sized 8 32 × Sized 9 40 × Sized 28 56
