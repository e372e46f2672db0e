-- The root's stack, walked layer by layer, and the merge afresh one step further. Assumes nothing.
use denote.Ref.{Bor}
use Rattle.std.specs.Prelude.{Option, Some, None, is_some}
use Rattle.layers.proofs.EveryLaws.{no_true}
use mathlib.Core.Path.{◌≡◌, refl, sym, ◌∙◌}
use Prim.Native.Nat.{ℕ, zero, suc, ◌+◌, ◌-◌, ◌≤◌, ◌<◌}
use native.Mathlib.Omega.{arith}
use native.Mathlib.Numerals.{add-one}
use mathlib.Core.Bool.{Bool, true, false, cond}
use mathlib.Core.List.{List, [], ◌∷◌, ◌++◌}
use lib.Dec.{eqb}
use lib.ListN.{length}
use borrow.Author.Tests.{eq-eqb, ne_eqb}
use Rattle.layers.specs.Names.{Name}
use Rattle.merge.specs.Tables.{table_of, IsTable}
use Rattle.merge.specs.Stacks.{pair, stack_of, stack_from}
use Rattle.merge.specs.Pushes.{no_stack, push}
use Rattle.merge.specs.Fresh.{roots_from, root_stack, fresh_from, fresh}
use Rattle.merge.specs.declared.stacks.Pair.{Pair}
use Rattle.merge.specs.declared.stacks.Stack.{Stack}
use Rattle.merge.proofs.PushLaws.{push_all, push_all_lem}
use Rattle.merge.proofs.StackLaws.{length_stack}

length_roots : (u l : List ℕ) (k n : ℕ) → length (roots_from u l k n) ≤ n
unfolding roots_from
length_roots u l k zero = omega arith
length_roots u l k (suc n) = go (eqb (length (table_of u l k)) 8192) (length_roots u l (suc k) n)
  where
    go : (b : Bool) → length (roots_from u l (suc k) n) ≤ n → length (cond b (pair k 1 ∷ roots_from u l (suc k) n) (roots_from u l (suc k) n)) ≤ suc n
    go true ih = omega arith
    go false ih = omega arith

pub length_root : (u l : List ℕ) → length (root_stack u l) ≤ 4
unfolding root_stack
length_root u l = length_roots u l 0 4

-- what is left from layer `k` on makes of `o` the root's stack
abbrev pub RootsLeft : List ℕ → List ℕ → Stack → ℕ → Type 0
RootsLeft u l o k = push_all o (roots_from u l k (4 - k)) ≡ stack_from (root_stack u l) false

pub roots_start : (u l : List ℕ) (o : Stack) → o ≡ no_stack → RootsLeft u l o 0
unfolding root_stack
roots_start u l o h = rw h (push_all_lem (roots_from u l 0 4) (length_roots u l 0 4))

module _ (u l : List ℕ) (o : Stack) (k : ℕ) (q : RootsLeft u l o k) where
  pub roots_end : 4 ≤ k → o ≡ stack_from (root_stack u l) false
  unfolding roots_from push_all
  roots_end h = let z : 4 - k ≡ 0 = omega arith in sym (rw z refl) ∙ q

  module _ (h : k < 4) (w : ℕ) (w_is : w ≡ k) (r : Option (Bor (List ℕ))) (r_is : IsTable (table_of u l w) r) where
    step : push_all o (cond (eqb (length (table_of u l w)) 8192) (pair k 1 ∷ roots_from u l (suc k) (4 - suc k)) (roots_from u l (suc k) (4 - suc k))) ≡ stack_from (root_stack u l) false
    unfolding roots_from
    step = let z : 4 - k ≡ suc (4 - suc k) = omega arith in rw w_is (sym (rw z refl) ∙ q)

    table_there : (r : Option (Bor (List ℕ))) → IsTable (table_of u l w) r → is_some r ≡ true → length (table_of u l w) ≡ 8192
    table_there (Some t) a b = a.1
    table_there None a b = no_true b

    table_gone : (r : Option (Bor (List ℕ))) → IsTable (table_of u l w) r → is_some r ≡ false → length (table_of u l w) ≡ 8192 → ⊥
    table_gone (Some t) a b n = no_true (sym b)
    table_gone None a b n = let z : length (table_of u l w) ≡ 0 = rw a refl in omega arith

    module _ (b : Bool) (b_is : b ≡ is_some r) where
      pub roots_there : b ≡ true → (o' : Stack) → o' ≡ push o (pair k 1) → RootsLeft u l o' (k + 1)
      unfolding push_all
      roots_there e o' p = rw (p, add-one k) (sym (rw (eq-eqb (length (table_of u l w)) 8192 (table_there r r_is (sym b_is ∙ e))) refl) ∙ step)

      pub roots_skip : b ≡ false → RootsLeft u l o (k + 1)
      roots_skip e = rw (add-one k) (sym (rw (ne_eqb (length (table_of u l w)) 8192 (table_gone r r_is (sym b_is ∙ e))) refl) ∙ step)

pub ruleset roots_walk = (roots_end, roots_there, roots_skip)

-- ---- the merge afresh

-- one name further
pub fresh_append : (u l : List ℕ) (s : List Pair) (p : List Name) (x : Name) → fresh_from u l s (p ++ (x ∷ [])) ≡ stack_of u l (fresh_from u l s p) x
unfolding fresh_from
fresh_append u l s [] x = refl
fresh_append u l s (y ∷ p) x = fresh_append u l (stack_of u l s y) p x

-- a path's stack is at most as long as the one that it starts from
pub length_fresh_from : (u l : List ℕ) (s : List Pair) (p : List Name) → length (fresh_from u l s p) ≤ length s
unfolding fresh_from
length_fresh_from u l s [] = omega arith
length_fresh_from u l s (x ∷ p) =
    let a : length (fresh_from u l (stack_of u l s x) p) ≤ length (stack_of u l s x) = length_fresh_from u l (stack_of u l s x) p in
    let b : length (stack_of u l s x) ≤ length s = length_stack u l s x in
    omega arith

pub length_fresh : (u l : List ℕ) (p : List Name) → length (fresh u l p) ≤ 4
unfolding fresh
length_fresh u l p =
    let a : length (fresh_from u l (root_stack u l) p) ≤ length (root_stack u l) = length_fresh_from u l (root_stack u l) p in
    let b : length (root_stack u l) ≤ 4 = length_root u l in
    omega arith
