-- The merge of one name, walked layer by layer. Assumes nothing.
use Rattle.std.specs.Prelude.{Option, None, Some, min}
use Rattle.merge.specs.declared.stacks.Class.{Class}
use mathlib.Core.Path.{◌≡◌, refl, sym, ◌∙◌}
use Prim.Native.Nat.{ℕ, suc, ◌+◌, ◌≤◌, ◌<◌}
use native.Mathlib.Omega.{arith}
use native.Mathlib.Numerals.{add-one}
use mathlib.Core.Bool.{Bool, true, false, cond}
use mathlib.Core.List.{List, [], ◌∷◌, map}
use lib.ListN.{length, take, drop, get_or, length-take, length-map, drop_of_length-le}
use lib.Seq.{drop-cons, get_or-take}
use Rattle.layers.specs.Names.{Name}
use Rattle.merge.specs.Tables.{table_of}
use Rattle.merge.specs.Classes.{seen_of}
use Rattle.merge.specs.Scan.{scanned, is_walked, ends_scan}
use Rattle.merge.specs.Stacks.{Real, merge, seen_then, collect, reals_of, stack_of, whiteout_of, merged_stack}
use Rattle.merge.specs.Pushes.{no_stack, with_seen, ends_seen}
use Rattle.merge.specs.declared.stacks.Pair.{Pair}
use Rattle.merge.specs.declared.stacks.Stack.{Stack}
use Rattle.merge.proofs.PushLaws.{walk, walk_merge, length_merge}

-- an array of structs has as many items as its words
pub unmapped : {A B : Type 0} (f : A → B) (l : List A) (n : ℕ) → length (map f l) ≡ n → length l ≡ n
unmapped f l n h = sym (length-map l f) ∙ h

-- ---- how long a merged stack is

pub length_scanned : (u l : List ℕ) (s : List Pair) → length (scanned u l s) ≤ length s
unfolding scanned
length_scanned u l [] = omega arith
length_scanned u l (a ∷ s) = go (is_walked (table_of u l a.layer) a.number) (ends_scan (table_of u l a.layer) a.number) (length_scanned u l s)
  where
    go : (b c : Bool) → length (scanned u l s) ≤ length s → length (cond b (a ∷ cond c [] (scanned u l s)) []) ≤ suc (length s)
    go true true ih = omega arith
    go true false ih = omega arith
    go false c ih = omega arith

length_collect : (u l : List ℕ) (x : Name) (s : List Pair) → length (collect u l x s) ≤ length s
unfolding collect seen_then
length_collect u l x [] = omega arith
length_collect u l x (a ∷ s) = go (seen_of (table_of u l a.layer) a.number x) (length_collect u l x s)
  where
    go : (f : Option (Class × ℕ)) → length (collect u l x s) ≤ length s → length (seen_then a.layer f (collect u l x s)) ≤ suc (length s)
    go None ih = omega arith
    go (Some (c, n)) ih = omega arith

pub length_reals : (u l : List ℕ) (s : List Pair) (x : Name) → length (reals_of u l s x) ≤ length s
length_reals u l s x =
    let a : length (reals_of u l s x) ≤ length (scanned u l s) = length_collect u l x (scanned u l s) in
    let b : length (scanned u l s) ≤ length s = length_scanned u l s in
    omega arith

-- a merged stack is at most as long as its directory's
pub length_stack : (u l : List ℕ) (s : List Pair) (x : Name) → length (stack_of u l s x) ≤ length s
unfolding stack_of
length_stack u l s x =
    let a : length (merge (λ r. r.class) (reals_of u l s x)) ≤ length (reals_of u l s x) = length_merge (λ r. r.class) (reals_of u l s x) in
    let b : length (reals_of u l s x) ≤ length s = length_reals u l s x in
    rw (length-map (merge (λ r. r.class) (reals_of u l s x)) (λ r. r.place)) (omega arith)

-- ---- the walk

walk_seen : (o : Stack) (k : ℕ) (f : Option (Class × ℕ)) (rs : List Real) → walk o (seen_then k f rs) ≡ cond (ends_seen f) (with_seen o k f) (walk (with_seen o k f) rs)
unfolding walk seen_then with_seen ends_seen
walk_seen o k None rs = refl
walk_seen o k (Some (c, n)) rs = refl

module _ (u l : List ℕ) (s : List Pair) (z : Pair) (len : ℕ) (x : Name) where
  -- what is left from place `i` of the stack on makes of `o` the merged stack
  abbrev pub Left : Stack → ℕ → Type 0
  Left o i = walk o (collect u l x (scanned u l (drop i (take len s)))) ≡ merged_stack u l (take len s) x

  pub stack_start : (o : Stack) → o ≡ no_stack → length s ≡ 4 → Left o 0
  unfolding stack_of whiteout_of
  stack_start o h g =
      let a : length (reals_of u l (take len s) x) ≤ length (take len s) = length_reals u l (take len s) x in
      let b : length (take len s) ≤ 4 = simp length-take (omega arith) in
      rw h (walk_merge (reals_of u l (take len s) x) (omega arith))

  pub stack_end : (o : Stack) (i m : ℕ) → Left o i → length s ≡ 4 → m ≡ min len 4 → m ≤ i → o ≡ merged_stack u l (take len s) x
  unfolding scanned collect walk
  stack_end o i m q g m_is e = sym (rw (drop_of_length-le (take len s) {i = i} (simp length-take (omega (arith, m_is)))) refl) ∙ q

  module _ (o : Stack) (i m : ℕ) (q : Left o i) (g : length s ≡ 4) (m_is : m ≡ min len 4) (e : i < m) where
    abbrev d : ℕ
    d = (get_or s i z).number

    abbrev b : List ℕ
    b = table_of u l (get_or s i z).layer

    step : scanned u l (drop i (take len s)) ≡ cond (is_walked b d) (get_or s i z ∷ cond (ends_scan b d) [] (scanned u l (drop (i + 1) (take len s)))) []
    unfolding scanned
    step = rw (drop-cons (take len s) i z (simp length-take (omega (arith, m_is))), get_or-take len s i z (omega (arith, m_is)), add-one i) refl

    pub stack_stop : is_walked b d ≡ false → o ≡ merged_stack u l (take len s) x
    unfolding collect walk
    stack_stop y = sym (rw (step, y) refl) ∙ q

    module _ (t : List ℕ) (t_is : t ≡ b) (y : is_walked b d ≡ true) (f : Option (Class × ℕ)) (f_is : f ≡ seen_of t d x) (o' : Stack) (o_is : o' ≡ with_seen o (get_or s i z).layer f) (v : Bool) (v_is : v ≡ ends_seen f) where
      turn : cond v o' (walk o' (collect u l x (cond (ends_scan t d) [] (scanned u l (drop (i + 1) (take len s)))))) ≡ merged_stack u l (take len s) x
      unfolding collect
      turn =
          rw (v_is, o_is, f_is, t_is)
          (sym (walk_seen o (get_or s i z).layer (seen_of b d x) (collect u l x (cond (ends_scan b d) [] (scanned u l (drop (i + 1) (take len s))))))
          ∙ (sym (rw (step, y) refl) ∙ q))

      pub stack_merged : v ≡ true → o' ≡ merged_stack u l (take len s) x
      stack_merged w = sym (rw w refl) ∙ turn

      module _ (w : v ≡ false) (c : Bool) (c_is : c ≡ ends_scan t d) where
        on : walk o' (collect u l x (cond c [] (scanned u l (drop (i + 1) (take len s))))) ≡ merged_stack u l (take len s) x
        on = rw c_is (sym (rw w refl) ∙ turn)

        pub stack_scanned : c ≡ true → o' ≡ merged_stack u l (take len s) x
        unfolding collect walk
        stack_scanned a = sym (rw a refl) ∙ on

        pub stack_next : c ≡ false → Left o' (i + 1)
        stack_next a = rw a at on

pub ruleset stack_walk = (stack_end, stack_stop, stack_merged, stack_scanned, stack_next)

pub none_length : (o : Stack) → o ≡ no_stack → o.length ≤ 0
none_length o h = let e : o.length ≡ 0 = rw h refl in omega arith
