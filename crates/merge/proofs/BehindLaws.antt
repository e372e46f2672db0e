-- A node put in for a name: the nodes up to it come before every later name. Assumes nothing.
use Rattle.std.specs.Prelude.{Option, Some, None}
use Rattle.std.specs.declared.cmp.Ordering.TheVariants.{Less, Greater}
use mathlib.Core.Path.{◌≡◌, refl, sym, ap, ap₂, ◌∙◌, subst}
use Prim.Native.Nat.{ℕ, zero, suc, ◌+◌, ◌%◌, ◌/◌, ◌≤◌, ◌<◌}
use native.Mathlib.Omega.{arith}
use native.Mathlib.Nat.{mod-lt}
use mathlib.Core.Bool.{Bool, true, false}
use mathlib.Core.List.{List, [], ◌∷◌, map}
use lib.Dec.{ltb}
use lib.ListN.{length, take, get_or, length-map}
use lib.Seq.{get_or-take, length-take-le}
use borrow.Author.Tests.{le-ltb, ltb-true, ltb-false}
use Rattle.layers.specs.Names.{Name, order_of}
use Rattle.layers.specs.Sorted.{Sorted}
use Rattle.layers.proofs.OrderLaws.{before_trans, after_before, before_after, order_eq}
use Rattle.layers.proofs.ItemLaws.{get_d_map}
use Rattle.layers.proofs.Padded.{name_back}
use Rattle.layers.proofs.PieceMoves.{insert_at}
use Rattle.merge.specs.declared.stacks.Pair.{Pair}
use Rattle.merge.specs.declared.stacks.Stack.{Stack}
use Rattle.merge.specs.declared.node.Node.{Node}
use Rattle.merge.specs.Nodes.{node_at, no_node, node_name, key_of, count_of, nodes_of, FitsNode}
use Rattle.merge.specs.Methods.{with_number}
use Rattle.merge.specs.Heads.{next_of, head_of, more, numbered, full}
use Rattle.merge.specs.Stacks.{stack_from, stack_of, whiteout_of, merged_stack}
use Rattle.merge.specs.State.{place_for, Passed, PassedNext}
use Rattle.merge.specs.Changes.{spot_for, inserted_at, new_spot, new_bytes, behind}
use Rattle.merge.specs.Tables.{table_of, place_name}
use Rattle.merge.specs.Scan.{merged_names}
use Rattle.merge.specs.Load.{new_node, to_add, stack_list, has_none, ToAdd}
use Rattle.merge.proofs.StateLaws.{length_nodes}
use Rattle.merge.proofs.ChangeLaws.{spot_not_full, spot_place, spot_in}
use Rattle.merge.proofs.NodesAfter.{not_full, nodes_inserted}
use Rattle.merge.proofs.PutInLaws.{risen_count}
use Rattle.merge.proofs.ListChanges.{length_insert, at_inserted, those_sorted}
use Rattle.merge.proofs.PushLaws.{from_length}
use Rattle.merge.proofs.NewNodes.{new_parent, new_name, new_tidy, entry_name_length}
use Rattle.merge.proofs.NamesOfPlaces.{merged_sorted, sorted_place}
use Rattle.merge.proofs.PassedLaws.{none_passed, before_free, spot_new_number, spot_new_place}

-- what comes before a name comes before a later one
later_after : (p : ℕ) (x y z : Name) → order_of x y ≡ Less → order_of (p ∷ x) z ≡ Greater → order_of (p ∷ y) z ≡ Greater
later_after p x y z h a = before_after z (p ∷ y) (before_trans z (p ∷ x) (p ∷ y) (after_before (p ∷ x) z a) (order_eq p p x y refl ∙ h))

pub passed_later : (ns : List Node) (p : ℕ) (x : Name) (k : ℕ) → Passed ns p x k → PassedNext ns p x k
passed_later ns p x k a = record { next = λ y h. record { within = a.within; after = λ j l. later_after p x y (key_of (node_at ns j)) h (a.after j l) } }

before_inserted : {A : Type 0} (d : A) (m : ℕ) (a : A) (xs : List A) (j : ℕ) → m ≤ length xs → j < m → get_or (insert_at m a xs) j d ≡ get_or xs j d
before_inserted d zero a xs j h l = absurd (omega arith)
before_inserted d (suc m) a [] j h l = absurd (omega arith)
before_inserted d (suc m) a (x ∷ xs) zero h l = refl
before_inserted d (suc m) a (x ∷ xs) (suc j) h l = before_inserted d m a xs j (omega arith) (omega arith)

-- a node of the key `p ∷ x`, put in where it belongs
inserted_passes : (ns : List Node) (p : ℕ) (x : Name) (j : ℕ) (m : Node) → key_of m ≡ p ∷ x → place_for ns p x ≡ Some j → j ≤ length ns → PassedNext (insert_at j m ns) p x (suc j)
inserted_passes ns p x j m e f b =
    record { next = λ y h. record { within = rw (length_insert j m ns) (omega arith); after = λ i l. go y h i l (ltb i j) refl } }
  where
    go : (y : Name) → order_of x y ≡ Less → (i : ℕ) → i < suc j → (t : Bool) → ltb i j ≡ t → order_of (p ∷ y) (key_of (node_at (insert_at j m ns) i)) ≡ Greater
    go y h i l true q =
        let g : i < j = ltb-true i j q in
        let z : 0 + i < j = omega arith in
        rw (before_inserted no_node j m ns i b g) (later_after p x y (key_of (node_at ns i)) h (before_free key_of no_node (p ∷ x) ns 0 j f i z))
    go y h i l false q =
        let g : j ≤ i = ltb-false i j q in
        let z : i ≡ j = omega arith in
        rw (z, at_inserted no_node j m ns b, e) (before_after (p ∷ x) (p ∷ y) (order_eq p p x y refl ∙ h))

module _ (s : List ℕ) (p : ℕ) (ps : List Pair) (w : Bool) (x : Name) (k : ℕ) (hx : length x ≤ 28) (hp : length ps ≤ 4) (hn : p < 4294967296) (a : Passed (nodes_of s) p x k) where
  abbrev made : Node
  made = new_node p (stack_from ps w) x

  abbrev given : Node
  given = with_number made (next_of s)

  made_key : key_of made ≡ p ∷ x
  made_key = ap₂ ◌∷◌ (new_parent p ps w x hx hp) (new_name p ps w x hx hp)

  given_key : key_of given ≡ p ∷ x
  unfolding with_number
  given_key = made_key

  given_fits : next_of s ≤ 4294967295 → FitsNode given
  unfolding with_number
  given_fits h =
      let f : FitsNode made = (new_tidy p ps w x hx hp hn).fits in
      record { numbers = record { number_fits = omega arith; parent_fits = f.numbers.parent_fits; count_fits = f.numbers.count_fits }; arrays = record { stack_fits = f.arrays.stack_fits; name_fits = f.arrays.name_fits } }

  free_passes : (j : ℕ) → new_spot s made ≡ Some j → PassedNext (nodes_of (inserted_at s given (numbered (more (head_of s))) (Some j))) p x (suc j)
  unfolding inserted_at
  free_passes j q =
      let g : spot_for s made ≡ Some j = spot_new_place s made j q in
      let e : full s ≡ false = spot_not_full s made (spot_for s made) j refl g in
      let b : j ≤ count_of s = spot_in s made (spot_for s made) j refl g in
      let f : place_for (nodes_of s) p x ≡ Some j = ap₂ (place_for (nodes_of s)) (sym (new_parent p ps w x hx hp)) (sym (new_name p ps w x hx hp)) ∙ spot_place s made (spot_for s made) j refl g in
      rw (nodes_inserted s j given (numbered (more (head_of s))) (given_fits (spot_new_number s made j q)) b (not_full s e) (risen_count s e))
      (inserted_passes (nodes_of s) p x j given given_key f (rw (length_nodes s) b))

  pub new_passes : PassedNext (nodes_of (new_bytes s made)) p x (behind k (new_spot s made))
  unfolding behind inserted_at
  new_passes = go (new_spot s made) refl
    where
      go : (f : Option ℕ) → new_spot s made ≡ f → PassedNext (nodes_of (inserted_at s given (numbered (more (head_of s))) f)) p x (behind k f)
      go (Some j) q = free_passes j q
      go None q = passed_later (nodes_of s) p x k a

-- as the code has it
pub added_passes : (u l s s' : List ℕ) (p : ℕ) (qs : List Pair) (x : Name) (k r : ℕ) (st : Stack) (n : Node) → length x ≤ 28 → p < 4294967296 → Passed (nodes_of s) p x k
    → st ≡ merged_stack u l qs x → st.length ≤ 4 → n ≡ new_node p st x → r ≡ behind k (new_spot s n) → s' ≡ new_bytes s n → PassedNext (nodes_of s') p x r
added_passes u l s s' p qs x k r st n hx hp a b d e f g =
    let m : length (stack_of u l qs x) ≤ 4 = (let z : st.length ≡ length (stack_of u l qs x) = ap (λ (t : Stack). t.length) b ∙ from_length (stack_of u l qs x) (whiteout_of u l qs x) in omega arith) in
    rw (g, f, e, b) (new_passes s p (stack_of u l qs x) (whiteout_of u l qs x) x k hx m hp a)

-- the new node belongs where its name does
pub node_passed : (ns : List Node) (p : ℕ) (x : Name) (k : ℕ) (st : Stack) (n : Node) → length x ≤ 28 → Passed ns p x k → n ≡ new_node p st x → Passed ns n.parent (node_name n) k
unfolding new_node
node_passed ns p x k st n h a e = rw (e, le-ltb 28 (length x) h) (subst (λ (y : Name). Passed ns p y k) (sym (name_back x h)) a)

-- ---- name after name

-- the first `k` nodes come before all names that are left
pub record Adding (u l : List ℕ) (p : ℕ) (q : List ℕ) (m : ℕ) (s : List ℕ) (k i : ℕ) : Type 0 where
  pub passed : (j : ℕ) → i ≤ j → j < m → Passed (nodes_of s) p (place_name u l (get_or q j 0)) k

pub adding_start : (u l : List ℕ) (p : ℕ) (q : List ℕ) (m : ℕ) (s : List ℕ) → Adding u l p q m s 0 0
adding_start u l p q m s = record { passed = λ j a b. none_passed (nodes_of s) p (place_name u l (get_or q j 0)) }

module _ (u l : List ℕ) (p : ℕ) (q : List ℕ) (m i : ℕ) (x : Name) (h : i < m) (e : x ≡ place_name u l (get_or q i 0)) where
  pub adding_this : (s : List ℕ) (k : ℕ) → Adding u l p q m s k i → Passed (nodes_of s) p x k
  adding_this s k a = rw e (a.passed i (omega arith) h)

  pub adding_next : (s : List ℕ) (r : ℕ) → length q ≡ 512 → m ≤ 512 → Sorted (λ n. n) (map (place_name u l) (take m q)) → PassedNext (nodes_of s) p x r → Adding u l p q m s r (i + 1)
  adding_next s r lq b o n =
      record { passed = λ j g y. n.next (place_name u l (get_or q j 0)) (rw e (sym (ap₂ order_of (name_at i h) (name_at j y)) ∙ sorted_place (λ n. n) [] (map (place_name u l) (take m q)) o i j (omega arith) (rw long y))) }
    where
      long : length (map (place_name u l) (take m q)) ≡ m
      long = length-map (take m q) (place_name u l) ∙ length-take-le m q (omega arith)

      name_at : (j : ℕ) → j < m → get_or (map (place_name u l) (take m q)) j [] ≡ place_name u l (get_or q j 0)
      name_at j y = get_d_map (place_name u l) (take m q) j [] 0 (rw (length-take-le m q (omega arith)) y) ∙ ap (place_name u l) (get_or-take m q j 0 y)

-- the names to add are in order
pub to_add_sorted : (u l s : List ℕ) (n : Node) (r : ℕ) (q : List ℕ) → ToAdd u l s n r q → Sorted (λ x. x) (map (place_name u l) (take r q))
unfolding to_add
to_add_sorted u l s n r q a = subst (λ (xs : List Name). Sorted (λ x. x) xs) (sym a.names) (those_sorted (λ x. x) (has_none (nodes_of s) n.number) (merged_names u l (stack_list n)) (merged_sorted u l (stack_list n)))

pub place_short : (u l : List ℕ) (q : ℕ) (x : Name) → x ≡ place_name u l q → length x ≤ 28
place_short u l q x e = rw e (entry_name_length (table_of u l (q / 128)) (q % 128) (mod-lt q (omega arith)))
