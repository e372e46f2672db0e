-- The merge of any records that have a class. Assumes nothing.
use mathlib.Core.Path.{◌≡◌, refl, sym, ap, ◌∙◌}
use mathlib.Core.Bool.{true, false}
use mathlib.Core.List.{List, [], ◌∷◌}
use Rattle.merge.specs.Stacks.{later_step, later, first_step, merge, marks, merge_errno}
use Rattle.merge.specs.declared.stacks.Class.{Class}
use Rattle.merge.specs.declared.stacks.Class.TheVariants.{Whiteout, Other, Plain, Opaque}

-- each item of a list
abbrev pub Each : {A : Type 0} → (A → Type 0) → List A → Type 0
Each P [] = Unit {0}
Each P (x ∷ xs) = P x × Each P xs

module _ {A : Type 0} (c : A → Class) where
  module _ (r : A) (rs : List A) where
    pub later_plain : c r ≡ Plain → later c (r ∷ rs) ≡ r ∷ later c rs
    unfolding later later_step
    later_plain e = rw e refl

    -- what stands under a plain directory
    pub merge_plain : c r ≡ Plain → merge c (r ∷ rs) ≡ r ∷ later c rs
    unfolding merge first_step
    merge_plain e = rw e refl

    -- a whiteout, a non-directory and an opaque directory stand alone
    pub merge_whiteout : c r ≡ Whiteout → merge c (r ∷ rs) ≡ r ∷ []
    unfolding merge first_step
    merge_whiteout e = rw e refl

    pub merge_other : c r ≡ Other → merge c (r ∷ rs) ≡ r ∷ []
    unfolding merge first_step
    merge_other e = rw e refl

    pub merge_opaque : c r ≡ Opaque → merge c (r ∷ rs) ≡ r ∷ []
    unfolding merge first_step
    merge_opaque e = rw e refl

  -- no record, or a directory first
  pub data DirectoryFirst : List A → Type 0 where
    no_record_lem : DirectoryFirst []
    plain_first : {r : A} {rs : List A} → c r ≡ Plain → DirectoryFirst (r ∷ rs)
    opaque_first : {r : A} {rs : List A} → c r ≡ Opaque → DirectoryFirst (r ∷ rs)

  -- a first directory is kept as a later one is
  pub merge_later : (rs : List A) → DirectoryFirst rs → merge c rs ≡ later c rs
  unfolding merge first_step later later_step
  merge_later rs no_record_lem = refl
  merge_later rs (plain_first e) = rw e refl
  merge_later rs (opaque_first e) = rw e refl

  -- a plain directory in front of a directory's records
  pub merge_front : (r : A) (rs : List A) → c r ≡ Plain → DirectoryFirst rs → merge c (r ∷ rs) ≡ r ∷ merge c rs
  merge_front r rs e h = merge_plain r rs e ∙ ap (λ t. r ∷ t) (sym (merge_later rs h))

  -- the mark is the class of the first
  pub marks_first : (r : A) (rs : List A) → c r ≡ Whiteout → marks c (r ∷ rs) ≡ true
  unfolding marks
  marks_first r rs e = rw e refl

  pub marks_directory : (rs : List A) → DirectoryFirst rs → marks c rs ≡ false
  unfolding marks
  marks_directory rs no_record_lem = refl
  marks_directory rs (plain_first e) = rw e refl
  marks_directory rs (opaque_first e) = rw e refl

  -- "none at all is 22", and else there is a stack
  pub errno_merge : (rs : List A) → merge_errno (merge c rs) ≡ merge_errno rs
  unfolding merge merge_errno first_step
  errno_merge [] = refl
  errno_merge (r ∷ rs) = go (c r)
    where
      go : (k : Class) → merge_errno (first_step k r (later c rs)) ≡ 0
      go Whiteout = refl
      go Other = refl
      go Plain = refl
      go Opaque = refl
