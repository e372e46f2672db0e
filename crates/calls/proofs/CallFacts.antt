-- What the definitions of the calls say together: refusals, long names, how large a value is. Assumes nothing.
use Rattle.std.specs.Prelude.{Option, Some, None, Ok, Err, is_some, Result}
use Rattle.merge.specs.declared.load.LoadError.{LoadError}
use Rattle.merge.specs.declared.load.LoadError.TheVariants.{NoRoom}
use mathlib.Core.Path.{◌≡◌, refl, sym, ap, ◌∙◌}
use Prim.Native.Nat.{ℕ, ◌*◌, ◌/◌, ◌%◌, ◌≤◌, ◌<◌}
use native.Mathlib.Omega.{arith}
use native.Mathlib.Nat.{mul-mod_right, mul-div_cancel_left}
use mathlib.Core.Bool.{Bool, true, false, not, cond}
use mathlib.Core.List.{List, [], ◌∷◌, ◌++◌}
use lib.ListN.{length, drop, length-take}
use Rattle.layers.specs.Bytes.{AllBytes}
use Rattle.layers.specs.Names.{Name}
use Rattle.merge.specs.Nodes.{node_of, nodes_of, node_at, node_name, count_of}
use Rattle.merge.specs.State.{has_parent, those}
use Rattle.merge.specs.Methods.{with_loaded}
use Rattle.merge.specs.Changes.{put_bytes}
use Rattle.merge.specs.Load.{is_loaded, suffices, to_add, add_names, stack_list, load_node, load_node_bytes, load_answer, load_bytes}
use Rattle.merge.specs.declared.node.Node.{Node}
use Rattle.merge.proofs.StateLaws.{node_is, length_nodes}
use Rattle.merge.proofs.HeadLaws.{nodes_fit}
use Rattle.merge.proofs.NodeFits.{node_whole}
use Rattle.merge.proofs.SeatLaws.{held_below, held_key}
use Rattle.calls.specs.Refusal.{Test, passed, refusal_number, packed}
use Rattle.calls.specs.Parents.{place_numbered, is_white, load_tests, loaded_state, loading_call}
use Rattle.calls.specs.Lookup.{name_in, absent, place_named, child_named}
use Rattle.calls.specs.Count.{child_counts, weight}
use Rattle.calls.specs.declared.refusal.Refusal.{Refusal}
use Rattle.calls.proofs.TestLaws.{refused_failed, passed_append}
use Rattle.calls.proofs.CountLaws.{counts_cons}

-- ---- refusals

-- "A refusal changes nothing, except that a load done before it stays."
module _ (u l s : List ℕ) (x : ℕ) (before behind : List Test) (changed : List ℕ) (v : ℕ) where
  pub refused_leaves : (r : Refusal) → (loading_call u l s x before behind changed v).answer ≡ Err r → (loading_call u l s x before behind changed v).state ≡ cond (passed before) (loaded_state u l s x) s
  refused_leaves r h = go (passed before) (passed (load_tests u l s (place_numbered s x) ++ behind)) (sym (passed_append before (load_tests u l s (place_numbered s x) ++ behind)) ∙ refused_failed (before ++ (load_tests u l s (place_numbered s x) ++ behind)) v r h)
    where
      go : (a b : Bool) → cond a b false ≡ false → cond a (cond b changed (loaded_state u l s x)) s ≡ cond a (loaded_state u l s x) s
      go true b e = rw e refl
      go false b e = refl

-- a load that is refused leaves the state as it was
pub refused_load : (u l s : List ℕ) (k : ℕ) → load_answer u l s k ≡ Err NoRoom → load_bytes u l s k ≡ s
unfolding load_node load_node_bytes
refused_load u l s k h = go (is_loaded (node_at (nodes_of s) k)) (suffices s (length (to_add u l s (node_at (nodes_of s) k)))) (added u l s k) h
  where
    added : List ℕ → List ℕ → List ℕ → ℕ → List ℕ
    added u l s k = add_names u l (node_at (nodes_of s) k).number (stack_list (node_at (nodes_of s) k)) (to_add u l s (node_at (nodes_of s) k)) (put_bytes s k (with_loaded (node_at (nodes_of s) k) 1))

    go : (a b : Bool) (x : List ℕ) → ◌≡◌ {A = Result (Unit {0}) LoadError} (cond a (Ok tt) (cond b (Ok tt) (Err NoRoom))) (Err NoRoom) → cond a s (cond b x s) ≡ s
    go true b x h = refl
    go false true x h = absurd (let z : ◌≡◌ {A = ℕ} 0 1 = cc in omega arith)
    go false false x h = refl

-- "a refused lookup .. answers node 0", "a refused count 0 and 0"; the errno stands in the upper 32 bits
pub refused_value : (r : Refusal) → packed (Err r) % 4294967296 ≡ 0
refused_value r = mul-mod_right 4294967296 (refusal_number r)

pub refused_errno : (r : Refusal) → packed (Err r) / 4294967296 ≡ refusal_number r
refused_errno r = mul-div_cancel_left (refusal_number r) {n = 4294967296} (omega arith)

-- ---- names

-- "A name of over 28 bytes is absent"
pub long_absent : (s : List ℕ) (p : ℕ) (x : Name) → 28 < length x → absent s p x ≡ true
long_absent s p x l = go (name_in s p x) refl
  where
    short : (k : ℕ) → k < count_of s → length (node_name (node_at (nodes_of s) k)) ≤ 28
    short k h = rw (node_is s k h) (unfold node_of in simp length-take (omega arith))

    go : (f : Option ℕ) → name_in s p x ≡ f → not (is_some f) ≡ true
    go None e = refl
    go (Some k) e =
        let b : k < count_of s = held_below s (name_in s p x) k e p x refl in
        let n : node_name (node_at (nodes_of s) k) ≡ x = ap (drop 1) (held_key s (name_in s p x) k e p x refl) in
        let m : length (node_name (node_at (nodes_of s) k)) ≡ length x = ap length n in
        absurd (omega (arith, short k b))

-- ---- values

weight_most : (x : ℕ) (n : Node) → weight x n ≤ 65536
unfolding weight
weight_most x n = go (has_parent x n) (is_white n)
  where
    go : (a b : Bool) → cond a (cond b 65536 1) 0 ≤ 65536
    go true true = omega arith
    go true false = omega arith
    go false b = omega arith

-- "live children + 65536 * whiteout children": at most 65536 for each node
pub counts_most : (ns : List Node) (x : ℕ) → child_counts ns x ≤ 65536 * length ns
unfolding child_counts those
counts_most [] x = omega arith
counts_most (n ∷ ns) x = rw (counts_cons x n ns) (omega (arith, weight_most x n, counts_most ns x))

-- the values fit the lower 32 bits: of a state of 13324 bytes, and of bytes
pub counts_fit : (s : List ℕ) (x : ℕ) → length s ≡ 13324 → child_counts (nodes_of s) x < 4294967296
counts_fit s x h = omega (arith, counts_most (nodes_of s) x, length_nodes s, nodes_fit s)

pub number_fits : (s : List ℕ) (p : ℕ) (x : Name) → AllBytes s → (child_named s p x).number < 4294967296
number_fits s p x h = (node_whole s h (place_named s p x)).fits.numbers.number_fits
