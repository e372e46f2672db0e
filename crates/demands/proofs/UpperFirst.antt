-- In a node's stack only the first record can be of the upper layer. Assumes nothing.
use Rattle.std.specs.Prelude.{Option, None, Some}
use mathlib.Core.Path.{◌≡◌, sym, ap, ◌∙◌, subst}
use mathlib.Core.Logic.{◌≢◌}
use Prim.Native.Nat.{ℕ, zero, suc, ◌<◌}
use native.Mathlib.Omega.{arith}
use native.Mathlib.Decide.{ℕ_discrete}
use mathlib.Core.Bool.{Bool, true, false, cond}
use mathlib.Core.List.{List, [], ◌∷◌, map}
use lib.Dec.{eqb}
use lib.ListN.{length}
use Rattle.layers.specs.Names.{Name}
use Rattle.merge.specs.Tables.{table_of}
use Rattle.merge.specs.Classes.{seen_of}
use Rattle.merge.specs.Scan.{is_walked, ends_scan, scanned}
use Rattle.merge.specs.Stacks.{pair, Real, seen_then, collect, later_step, later, first_step, merge, reals_of, stack_of}
use Rattle.merge.specs.Fresh.{roots_from, root_stack}
use Rattle.merge.specs.Nodes.{node_name}
use Rattle.merge.specs.Load.{stack_list}
use Rattle.merge.specs.declared.stacks.Pair.{Pair}
use Rattle.merge.specs.declared.stacks.Class.{Class}
use Rattle.merge.specs.declared.stacks.Class.TheVariants.{Whiteout, Other, Plain, Opaque}
use Rattle.merge.specs.declared.node.Node.{Node}
use Rattle.merge.proofs.MergeLaws.{Each}
use Rattle.demands.specs.Invariant.{Resident, Coherent}

-- a record of a lower layer
abbrev pub Lower : Pair → Type 0
Lower a = a.layer ≢ 0

abbrev pub UpperFirst : List Pair → Type 0
UpperFirst [] = Unit {0}
UpperFirst (a ∷ s) = Each Lower s

abbrev LowerReal : Real → Type 0
LowerReal r = Lower r.place

abbrev FirstReal : List Real → Type 0
FirstReal [] = Unit {0}
FirstReal (r ∷ rs) = Each LowerReal rs

each_first : (rs : List Real) → Each LowerReal rs → FirstReal rs
each_first [] h = tt
each_first (r ∷ rs) h = h.1

-- ---- the scan, the records of a name, the merge

module _ (u l : List ℕ) where
  scanned_each : (s : List Pair) → Each Lower s → Each Lower (scanned u l s)
  unfolding scanned
  scanned_each [] h = tt
  scanned_each (a ∷ s) h = go (is_walked (table_of u l a.layer) a.number) (ends_scan (table_of u l a.layer) a.number) (scanned_each s h.1)
    where
      go : (b c : Bool) → Each Lower (scanned u l s) → Each Lower (cond b (a ∷ cond c [] (scanned u l s)) [])
      go true true i = (h.0, tt)
      go true false i = (h.0, i)
      go false c i = tt

  scanned_first : (s : List Pair) → UpperFirst s → UpperFirst (scanned u l s)
  unfolding scanned
  scanned_first [] h = tt
  scanned_first (a ∷ s) h = go (is_walked (table_of u l a.layer) a.number) (ends_scan (table_of u l a.layer) a.number) (scanned_each s h)
    where
      go : (b c : Bool) → Each Lower (scanned u l s) → UpperFirst (cond b (a ∷ cond c [] (scanned u l s)) [])
      go true true i = tt
      go true false i = i
      go false c i = tt

  module _ (x : Name) where
    collect_each : (s : List Pair) → Each Lower s → Each LowerReal (collect u l x s)
    unfolding collect seen_then
    collect_each [] h = tt
    collect_each (a ∷ s) h = go (seen_of (table_of u l a.layer) a.number x) (collect_each s h.1)
      where
        go : (f : Option (Class × ℕ)) → Each LowerReal (collect u l x s) → Each LowerReal (seen_then a.layer f (collect u l x s))
        go None i = i
        go (Some (c, n)) i = (h.0, i)

    collect_first : (s : List Pair) → UpperFirst s → FirstReal (collect u l x s)
    unfolding collect seen_then
    collect_first [] h = tt
    collect_first (a ∷ s) h = go (seen_of (table_of u l a.layer) a.number x) (collect_each s h)
      where
        go : (f : Option (Class × ℕ)) → Each LowerReal (collect u l x s) → FirstReal (seen_then a.layer f (collect u l x s))
        go None i = each_first (collect u l x s) i
        go (Some (c, n)) i = i

abbrev classes : Real → Class
classes r = r.class

later_each : (rs : List Real) → Each LowerReal rs → Each LowerReal (later classes rs)
unfolding later later_step
later_each [] h = tt
later_each (r ∷ rs) h = go r.class (later_each rs h.1)
  where
    go : (c : Class) → Each LowerReal (later classes rs) → Each LowerReal (later_step c r (later classes rs))
    go Whiteout i = tt
    go Other i = tt
    go Plain i = (h.0, i)
    go Opaque i = (h.0, tt)

merge_first : (rs : List Real) → FirstReal rs → FirstReal (merge classes rs)
unfolding merge first_step
merge_first [] h = tt
merge_first (r ∷ rs) h = go r.class (later_each rs h)
  where
    go : (c : Class) → Each LowerReal (later classes rs) → FirstReal (first_step c r (later classes rs))
    go Whiteout i = tt
    go Other i = tt
    go Plain i = i
    go Opaque i = tt

places_each : (rs : List Real) → Each LowerReal rs → Each Lower (map (λ r. r.place) rs)
places_each [] h = tt
places_each (r ∷ rs) h = (h.0, places_each rs h.1)

places_first : (rs : List Real) → FirstReal rs → UpperFirst (map (λ r. r.place) rs)
places_first [] h = tt
places_first (r ∷ rs) h = places_each rs h

module _ (u l : List ℕ) where
  stack_first : (s : List Pair) (x : Name) → UpperFirst s → UpperFirst (stack_of u l s x)
  unfolding stack_of
  stack_first s x h = places_first (merge classes (reals_of u l s x)) (merge_first (reals_of u l s x) (collect_first u l x (scanned u l s) (scanned_first u l s h)))

  -- ---- the roots

  roots_each : (k n : ℕ) → Each Lower (roots_from u l (suc k) n)
  unfolding roots_from
  roots_each k zero = tt
  roots_each k (suc n) = go (eqb (length (table_of u l (suc k))) 8192) (roots_each (suc k) n)
    where
      go : (b : Bool) → Each Lower (roots_from u l (suc (suc k)) n) → Each Lower (cond b (pair (suc k) 1 ∷ roots_from u l (suc (suc k)) n) (roots_from u l (suc (suc k)) n))
      go true i = ((λ z. omega arith), i)
      go false i = i

  lower_first : (s : List Pair) → Each Lower s → UpperFirst s
  lower_first [] h = tt
  lower_first (a ∷ s) h = h.1

  roots_first : UpperFirst (root_stack u l)
  unfolding root_stack roots_from
  roots_first = go (eqb (length (table_of u l 0)) 8192) (roots_each 0 3)
    where
      go : (b : Bool) → Each Lower (roots_from u l 1 3) → UpperFirst (cond b (pair 0 1 ∷ roots_from u l 1 3) (roots_from u l 1 3))
      go true i = i
      go false i = lower_first (roots_from u l 1 3) i

  -- ---- the nodes

  module _ (f : ℕ → Node) (c : Coherent u l f) where
    first_below : (b x : ℕ) → x < b → Resident f x → UpperFirst (stack_list (f x))
    first_below zero x h r = absurd (omega arith)
    first_below (suc b) x h r = go (ℕ_discrete x 1) (first_below b (f x).parent)
      where
        go : Dec (x ≡ 1) → ((f x).parent < b → Resident f (f x).parent → UpperFirst (stack_list (f (f x).parent))) → UpperFirst (stack_list (f x))
        go (yes e) ih = subst UpperFirst (sym (ap (λ (i : ℕ). stack_list (f i)) e ∙ c.root_stack)) roots_first
        go (no e) ih =
            let a : (f x).parent < x = c.parent_less x (r, e) in
            subst UpperFirst (sym (c.stack_is x (r, e))) (stack_first (stack_list (f (f x).parent)) (node_name (f x)) (ih (omega arith) (c.parent_there x (r, e))))

    pub node_first : (x : ℕ) → Resident f x → UpperFirst (stack_list (f x))
    node_first x r = first_below (suc x) x (omega arith) r
