-- The merge of one name's real records, and the merged stack of a name. Assumes nothing.
use Rattle.std.specs.Prelude.{ℕ, Bool, true, false, List, [], ◌∷◌, ◌++◌, map, length, take, replicate, Option, None, Some}
use Rattle.layers.specs.Names.{Name}
use Rattle.merge.specs.Tables.{table_of}
use Rattle.merge.specs.Classes.{seen_of}
use Rattle.merge.specs.Scan.{scanned}
use Rattle.merge.specs.declared.stacks.Pair.{Pair}
use Rattle.merge.specs.declared.stacks.Stack.{Stack}
use Rattle.merge.specs.declared.stacks.Class.{Class}
use Rattle.merge.specs.declared.stacks.Class.TheVariants.{Whiteout, Other, Plain, Opaque}

-- ---- the merge, of any records that have a class

-- "A later one that is a whiteout or no directory is dropped and ends the stack; a later directory is kept, and if opaque ends it."
unfoldable pub later_step : {A : Type 0} → Class → A → List A → List A
later_step Whiteout r rs = []
later_step Other r rs = []
later_step Plain r rs = r ∷ rs
later_step Opaque r rs = r ∷ []

unfoldable pub later : {A : Type 0} → (A → Class) → List A → List A
later c [] = []
later c (r ∷ rs) = later_step (c r) r (later c rs)

-- "The first is always kept; the stack ends there if it is a whiteout, then if it isn't a directory, then if it is opaque."
unfoldable pub first_step : {A : Type 0} → Class → A → List A → List A
first_step Whiteout r rs = r ∷ []
first_step Other r rs = r ∷ []
first_step Plain r rs = r ∷ rs
first_step Opaque r rs = r ∷ []

-- "One name, real records topmost first"
unfoldable pub merge : {A : Type 0} → (A → Class) → List A → List A
merge c [] = []
merge c (r ∷ rs) = first_step (c r) r (later c rs)

abbrev pub is_mark : Class → Bool
is_mark Whiteout = true
is_mark Other = false
is_mark Plain = false
is_mark Opaque = false

-- "The name is marked whiteout exactly if its first record is."
unfoldable pub marks : {A : Type 0} → (A → Class) → List A → Bool
marks c [] = false
marks c (r ∷ rs) = is_mark (c r)

-- "none at all is 22"
unfoldable pub merge_errno : {A : Type 0} → List A → ℕ
merge_errno [] = 22
merge_errno (r ∷ rs) = 0

-- ---- a name below a directory's stack

abbrev pub pair : ℕ → ℕ → Pair
pair k n = record { layer = k; number = n }

-- a record, classified where its entry stands
pub record Real : Type 0 where
  pub place : Pair
  pub class : Class

unfoldable pub seen_then : ℕ → Option (Class × ℕ) → List Real → List Real
seen_then k None rs = rs
seen_then k (Some (c, n)) rs = record { place = pair k n; class = c } ∷ rs

-- "collect each name's records in that order"
unfoldable pub collect : List ℕ → List ℕ → Name → List Pair → List Real
collect u l x [] = []
collect u l x (a ∷ s) = seen_then a.layer (seen_of (table_of u l a.layer) a.number x) (collect u l x s)

-- the real records of the name `x` below the stack `s`
abbrev pub reals_of : List ℕ → List ℕ → List Pair → Name → List Real
reals_of u l s x = collect u l x (scanned u l s)

-- the merged stack of the name `x` below the stack `s`
unfoldable pub stack_of : List ℕ → List ℕ → List Pair → Name → List Pair
stack_of u l s x = map (λ r. r.place) (merge (λ r. r.class) (reals_of u l s x))

-- whether the name `x` is marked whiteout
unfoldable pub whiteout_of : List ℕ → List ℕ → List Pair → Name → Bool
whiteout_of u l s x = marks (λ r. r.class) (reals_of u l s x)

-- ---- "a stack of 4 places with a length"; places past the length are 0

unfoldable pub stack_from : List Pair → Bool → Stack
stack_from ps w = record { pairs = take 4 (ps ++ replicate 4 (pair 0 0)); length = length ps; whiteout = w }

abbrev pub merged_stack : List ℕ → List ℕ → List Pair → Name → Stack
merged_stack u l s x = stack_from (stack_of u l s x) (whiteout_of u l s x)
