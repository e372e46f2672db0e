-- A stack put together record by record is the merged stack. Assumes nothing.
use Rattle.std.specs.Prelude.{Option}
use mathlib.Core.Path.{◌≡◌, refl, sym, ap, ◌∙◌}
use Prim.Native.Nat.{ℕ, suc, ◌-◌, ◌≤◌}
use native.Mathlib.Omega.{arith}
use mathlib.Core.Bool.{Bool, true, false, cond}
use mathlib.Core.List.{List, [], ◌∷◌, ◌++◌, map}
use lib.ListN.{length, take, drop, replicate, length-map, length-take, length-append}
use lib.Seq.{take-take, take_at}
use borrow.Author.Tests.{ne_eqb}
use Rattle.merge.specs.Stacks.{pair, Real, later_step, later, first_step, merge, is_mark, marks, stack_from}
use Rattle.merge.specs.Pushes.{no_stack, push, marked, with_real, with_seen, ends_merge}
use Rattle.merge.specs.declared.stacks.Pair.{Pair}
use Rattle.merge.specs.declared.stacks.Stack.{Stack}
use Rattle.merge.specs.declared.stacks.Class.{Class}
use Rattle.merge.specs.declared.stacks.Class.TheVariants.{Whiteout, Other, Plain, Opaque}

-- ---- one record

pub marked_first : (w : Bool) (s q : Stack) (p : Pair) → s.length ≡ 0 → q ≡ push s p → record { pairs = q.pairs; length = q.length; whiteout = w } ≡ marked w s p
unfolding marked
marked_first w s q p h e = rw (e, h) refl

pub marked_later : (w : Bool) (s : Stack) (p : Pair) → (s.length ≡ 0 → ⊥) → s ≡ marked w s p
unfolding marked
marked_later w s p h = rw (ne_eqb s.length 0 h) refl

pub real_at : (s r : Stack) (p : Pair) (c g : Class) → c ≡ g → r ≡ with_real s p g → r ≡ with_real s p c
real_at s r p c g e h = h ∙ ap (with_real s p) (sym e)

pub seen_at : (s r : Stack) (k : ℕ) (f g : Option (Class × ℕ)) → f ≡ g → r ≡ with_seen s k g → r ≡ with_seen s k f
seen_at s r k f g e h = h ∙ ap (with_seen s k) (sym e)

-- ---- all the records of a name

-- what the code makes of the records that are left
unfoldable pub walk : Stack → List Real → Stack
walk o [] = o
walk o (r ∷ rs) = cond (ends_merge r.class) (with_real o r.place r.class) (walk (with_real o r.place r.class) rs)

abbrev places : List Real → List Pair
places rs = map (λ r. r.place) rs

abbrev classes : Real → Class
classes r = r.class

-- several records pushed
unfoldable pub push_all : Stack → List Pair → Stack
push_all o [] = o
push_all o (p ∷ ps) = push_all (push o p) ps

walk_later : (o : Stack) (rs : List Real) → (o.length ≡ 0 → ⊥) → walk o rs ≡ push_all o (places (later classes rs))
unfolding walk later push_all later_step with_real
walk_later o [] h = refl
walk_later o (r ∷ rs) h = go r.class (walk_later (push o r.place) rs (λ e. omega arith))
  where
    go : (c : Class) → walk (push o r.place) rs ≡ push_all (push o r.place) (places (later classes rs))
        → cond (ends_merge c) (with_real o r.place c) (walk (with_real o r.place c) rs) ≡ push_all o (places (later_step c r (later classes rs)))
    go Whiteout ih = sym (marked_later true o r.place h)
    go Other ih = sym (marked_later false o r.place h)
    go Plain ih = ih
    go Opaque ih = refl

push_list : (p : Pair) (ps : List Pair) → length ps ≤ 3 → push_all (push no_stack p) ps ≡ stack_from (p ∷ ps) false
unfolding push_all stack_from
push_list p [] h = refl
push_list p (a ∷ []) h = refl
push_list p (a ∷ b ∷ []) h = refl
push_list p (a ∷ b ∷ c ∷ []) h = refl
push_list p (a ∷ b ∷ c ∷ d ∷ ps) h = absurd (omega arith)

pub length_later : {A : Type 0} (c : A → Class) (rs : List A) → length (later c rs) ≤ length rs
unfolding later later_step
length_later c [] = omega arith
length_later {A} c (r ∷ rs) = go (c r) (length_later c rs)
  where
    go : (k : Class) → length (later c rs) ≤ length rs → length (later_step k r (later c rs)) ≤ suc (length rs)
    go Whiteout ih = omega arith
    go Other ih = omega arith
    go Plain ih = omega arith
    go Opaque ih = omega arith

pub length_merge : {A : Type 0} (c : A → Class) (rs : List A) → length (merge c rs) ≤ length rs
unfolding merge first_step
length_merge c [] = omega arith
length_merge {A} c (r ∷ rs) = go (c r) (length_later c rs)
  where
    go : (k : Class) → length (later c rs) ≤ length rs → length (first_step k r (later c rs)) ≤ suc (length rs)
    go Whiteout ih = omega arith
    go Other ih = omega arith
    go Plain ih = omega arith
    go Opaque ih = omega arith

pub walk_merge : (rs : List Real) → length rs ≤ 4 → walk no_stack rs ≡ stack_from (places (merge classes rs)) (marks classes rs)
unfolding walk merge marks first_step with_real marked stack_from
walk_merge [] h = refl
walk_merge (r ∷ rs) h = go r.class
  where
    short : length (places (later classes rs)) ≤ 3
    short = let a : length (later classes rs) ≤ length rs = length_later classes rs in rw (length-map (later classes rs) (λ r. r.place)) (omega arith)

    go : (c : Class) → cond (ends_merge c) (with_real no_stack r.place c) (walk (with_real no_stack r.place c) rs) ≡ stack_from (places (first_step c r (later classes rs))) (is_mark c)
    go Whiteout = refl
    go Other = refl
    go Plain = walk_later (push no_stack r.place) rs (λ e. omega arith) ∙ push_list r.place (places (later classes rs)) short
    go Opaque = refl

pub push_all_lem : (ps : List Pair) → length ps ≤ 4 → push_all no_stack ps ≡ stack_from ps false
unfolding push_all stack_from
push_all_lem [] h = refl
push_all_lem (p ∷ ps) h = push_list p ps (omega arith)

-- ---- a stack of 4 places with a length holds its list

module _ (ps : List Pair) (w : Bool) where
  pub from_length : (stack_from ps w).length ≡ length ps
  unfolding stack_from
  from_length = refl

  pub from_mark : (stack_from ps w).whiteout ≡ w
  unfolding stack_from
  from_mark = refl

  pub from_four : length (stack_from ps w).pairs ≡ 4
  unfolding stack_from
  from_four = simp (length-take, length-append) (omega arith)

  -- the places before the length are the list
  pub from_pairs : length ps ≤ 4 → take (stack_from ps w).length (stack_from ps w).pairs ≡ ps
  unfolding stack_from
  from_pairs h = take-take (length ps) 4 (ps ++ replicate 4 (pair 0 0)) h ∙ take_at ps (replicate 4 (pair 0 0)) (length ps) refl

  -- and those from there on are 0
  pub from_zeros : length ps ≤ 4 → drop (stack_from ps w).length (stack_from ps w).pairs ≡ replicate (4 - length ps) (pair 0 0)
  unfolding stack_from
  from_zeros h = zeros ps h
    where
      zeros : (ps : List Pair) → length ps ≤ 4 → drop (length ps) (take 4 (ps ++ replicate 4 (pair 0 0))) ≡ replicate (4 - length ps) (pair 0 0)
      zeros [] h = refl
      zeros (a ∷ []) h = refl
      zeros (a ∷ b ∷ []) h = refl
      zeros (a ∷ b ∷ c ∷ []) h = refl
      zeros (a ∷ b ∷ c ∷ d ∷ []) h = refl
      zeros (a ∷ b ∷ c ∷ d ∷ e ∷ ps) h = absurd (omega arith)
