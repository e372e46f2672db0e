-- A record and an entry added to a table of bytes leave a table of bytes. Assumes nothing.
use Rattle.std.specs.Prelude.{Option, Some, None}
use mathlib.Core.Path.{◌≡◌, refl, sym, ◌∙◌, subst}
use mathlib.Core.Logic.{◌≢◌}
use Prim.Native.Nat.{ℕ, ◌+◌, ◌*◌, ◌-◌, ◌≤◌, ◌<◌}
use native.Mathlib.Omega.{arith}
use native.Mathlib.Decide.{ℕ_discrete}
use mathlib.Core.Bool.{Bool, true, false, cond}
use mathlib.Core.List.{List, [], ◌∷◌}
use lib.Dec.{eqb, ltb}
use lib.ListN.{length, get_or, replicate}
use borrow.Author.Tests.{eqb-true, ltb-true, ltb-false}
use Rattle.layers.specs.Bytes.{part, over, least, AllBytes}
use Rattle.layers.specs.Names.{Name}
use Rattle.layers.specs.Items.{record_of, entry_of, head_bytes, tail_bytes, record_bytes, entry_bytes, records_of, entries_of, record_at, entry_at, free_record, free_entry, record_put, entry_put}
use Rattle.layers.specs.Search.{name_of, free_entry_place, free_record_place}
use Rattle.layers.specs.Change.{entry_naming, numbered, entry_put_at, added_entry, record_put_at, added_record}
use Rattle.layers.specs.Rules.{Used, Valid}
use Rattle.layers.specs.declared.items.Record.{Record}
use Rattle.layers.specs.declared.items.Entry.{Entry}
use Rattle.layers.proofs.ChangeLaws.{free_record_below}
use Rattle.layers.proofs.Determined.{bytes_take}
use Rattle.layers.proofs.ItemLaws.{length_records, record_past, record_is, entry_past, entry_is}
use Rattle.layers.proofs.RuleFacts.{directory_present, present_below}
use Rattle.merge.specs.declared.node.Node.{Node}
use Rattle.merge.specs.declared.stacks.Pair.{Pair}
use Rattle.merge.specs.Nodes.{node_name, count_of, nodes_of, node_at}
use Rattle.merge.specs.Tables.{table_of}
use Rattle.merge.specs.Classes.{named}
use Rattle.merge.specs.Scan.{is_walked}
use Rattle.merge.specs.Load.{stack_list}
use Rattle.merge.proofs.ClassLaws.{directory_walked}
use Rattle.merge.proofs.NodeFits.{bytes_append, bytes_cons, bytes_none, bytes_zeros, bytes_number, bytes_over, bytes_laid, bytes_part}
use Rattle.calls.specs.Parents.{top_of}
use Rattle.calls.specs.Upper.{record_number, new_record, add_new, directory_like, file_like}
use Rattle.demands.specs.Invariant.{node_by, Good}
use Rattle.demands.proofs.InvariantShare.{In, here, Above, stack_above}
use Rattle.demands.proofs.StackSteps.{found_entry}
use Rattle.demands.proofs.RecordFits.{bytes_table}
use Rattle.demands.proofs.MadeDirectory.{take_first, node_stack, node_some}

-- ---- the bytes of a record and of an entry

-- the fields of one byte
pub record FitsBytes (r : Record) : Type 0 where
  pub kind_fits : r.kind < 256
  pub opaque_fits : r.opaque < 256
  pub mark_fits : r.mark < 256

record_bytes_lem : (r : Record) → r.number < 256 → FitsBytes r → AllBytes (record_bytes r)
unfolding record_bytes head_bytes tail_bytes
record_bytes_lem r n f =
    let k : r.kind < 256 = f.kind_fits in
    let o : r.opaque < 256 = f.opaque_fits in
    let m : r.mark < 256 = f.mark_fits in
    let a : AllBytes (r.number ∷ r.kind ∷ r.opaque ∷ r.mark ∷ []) = bytes_cons _ _ n (bytes_cons _ _ k (bytes_cons _ _ o (bytes_cons _ _ m bytes_none))) in
    bytes_append _ _ (bytes_append _ _ (bytes_append _ _ a (bytes_number 2 r.permissions)) (bytes_number 2 r.links))
    (bytes_append _ _ (bytes_append _ _ (bytes_number 8 r.device) (bytes_number 8 r.size)) (bytes_number 8 r.content))

least_below : (n : ℕ) → least 28 n ≤ 28
least_below n = go (ltb 28 n) refl
  where
    go : (b : Bool) → ltb 28 n ≡ b → cond b 28 n ≤ 28
    go true e = omega arith
    go false e = ltb-false 28 n e

pub naming_bytes : (d : ℕ) (x : Name) (c : ℕ) → d < 256 → c < 256 → AllBytes x → AllBytes (entry_bytes (entry_naming d x c))
unfolding entry_bytes entry_naming
naming_bytes d x c p q h =
    let m : least 28 (length x) ≤ 28 = least_below (length x) in
    let a : AllBytes (d ∷ c ∷ least 28 (length x) ∷ 0 ∷ []) = bytes_cons _ _ p (bytes_cons _ _ q (bytes_cons _ _ (omega arith) (bytes_cons _ _ (omega arith) bytes_none))) in
    bytes_append _ _ a (bytes_laid (replicate 28 0) 0 x (bytes_zeros 28) h)

-- ---- put into a table

module _ (t : List ℕ) (h : AllBytes t) where
  record_put_bytes : (i : ℕ) (r : Record) → AllBytes (record_bytes r) → AllBytes (record_put t i r)
  unfolding record_put
  record_put_bytes i r b = go (eqb i 0) (ltb 128 i)
    where
      go : (c d : Bool) → AllBytes (cond c t (cond d t (over t (32 * (i - 1)) (record_bytes r))))
      go true d = h
      go false true = h
      go false false = bytes_over t (32 * (i - 1)) (record_bytes r) h b

  entry_put_bytes : (j : ℕ) (e : Entry) → AllBytes (entry_bytes e) → AllBytes (entry_put t j e)
  unfolding entry_put
  entry_put_bytes j e b = go (ltb 127 j)
    where
      go : (c : Bool) → AllBytes (cond c t (over t (4096 + 32 * j) (entry_bytes e)))
      go true = h
      go false = bytes_over t (4096 + 32 * j) (entry_bytes e) h b

  pub added_record_bytes : (r : Record) → FitsBytes r → AllBytes (added_record t r)
  unfolding record_put_at
  added_record_bytes r f = go (free_record_place (records_of t)) refl
    where
      go : (p : Option ℕ) → free_record_place (records_of t) ≡ p → AllBytes (record_put_at t p r)
      go (Some i) e =
          let b : i < 1 + length (records_of t) = free_record_below (records_of t) i e in
          let m : length (records_of t) ≡ 128 = length_records t in
          record_put_bytes i (numbered i r) (record_bytes_lem (numbered i r) (omega arith) (record { kind_fits = f.kind_fits; opaque_fits = f.opaque_fits; mark_fits = f.mark_fits }))
      go None e = h

  pub added_entry_bytes : (e : Entry) → AllBytes (entry_bytes e) → AllBytes (added_entry t e)
  unfolding entry_put_at
  added_entry_bytes e b = go (free_entry_place (entries_of t))
    where
      go : (p : Option ℕ) → AllBytes (entry_put_at t p e)
      go (Some j) = entry_put_bytes j e b
      go None = h

  new_below : new_record t < 256
  unfolding record_number
  new_below = go (free_record_place (records_of t)) refl
    where
      go : (p : Option ℕ) → free_record_place (records_of t) ≡ p → record_number p < 256
      go (Some i) e =
          let b : i < 1 + length (records_of t) = free_record_below (records_of t) i e in
          let m : length (records_of t) ≡ 128 = length_records t in
          omega arith
      go None e = omega arith

-- a new record with its entry
pub add_new_bytes : (t : List ℕ) → AllBytes t → (d : ℕ) → d < 256 → (x : Name) → AllBytes x → (r : Record) → FitsBytes r → AllBytes (add_new d x r t)
unfolding add_new
add_new_bytes t h d b x y r f = added_entry_bytes (added_record t r) (added_record_bytes t h r f) (entry_naming d x (new_record t)) (naming_bytes d x (new_record t) b (new_below t h) y)

pub directory_like_bytes : (r : Record) → FitsBytes (directory_like r)
unfolding directory_like
directory_like_bytes r = record { kind_fits = omega arith; opaque_fits = omega arith; mark_fits = omega arith }

pub file_like_bytes : (r : Record) → r.kind < 256 → FitsBytes (file_like r)
unfolding file_like
file_like_bytes r k = record { kind_fits = k; opaque_fits = omega arith; mark_fits = omega arith }

-- ---- what is read from bytes

read_kind : (b : List ℕ) → AllBytes b → (record_of b).kind < 256
unfolding record_of AllBytes
read_kind b h = h 1

pub kind_byte : (t : List ℕ) → AllBytes t → (i : ℕ) → (record_at (records_of t) i).kind < 256
kind_byte t h i = go (ℕ_discrete i 0) (ltb 128 i) refl
  where
    go : Dec (i ≡ 0) → (b : Bool) → ltb 128 i ≡ b → (record_at (records_of t) i).kind < 256
    go (yes z) b e = rw z (omega arith)
    go (no z) true e = subst (λ (r : Record). r.kind < 256) (record_past t i free_record refl (ltb-true 128 i e)) (omega arith)
    go (no z) false e = subst (λ (r : Record). r.kind < 256) (sym (record_is t i z (ltb-false 128 i e))) (read_kind (part t (32 * (i - 1)) 32) (bytes_part t (32 * (i - 1)) 32 h))

read_name : (b : List ℕ) → AllBytes b → AllBytes (name_of (entry_of b))
unfolding entry_of
read_name b h = bytes_take (part b 4 28) (get_or b 2 0) (bytes_part b 4 28 h)

name_bytes : (t : List ℕ) → AllBytes t → (j : ℕ) → AllBytes (name_of (entry_at (entries_of t) j))
name_bytes t h j = go (ltb j 128) refl
  where
    go : (b : Bool) → ltb j 128 ≡ b → AllBytes (name_of (entry_at (entries_of t) j))
    go true e = subst (λ (r : Entry). AllBytes (name_of r)) (sym (entry_is t j (ltb-true j 128 e))) (read_name (part t (4096 + 32 * j) 32) (bytes_part t (4096 + 32 * j) 32 h))
    go false e = subst (λ (r : Entry). AllBytes (name_of r)) (entry_past t j free_entry refl (let o : 128 ≤ j = ltb-false j 128 e in omega arith)) (bytes_take free_entry.name free_entry.length (bytes_zeros 28))

-- a directory's number is a byte
pub walked_byte : (t : List ℕ) → Valid t → (d : ℕ) → is_walked t d ≡ true → d < 256
walked_byte t v d w =
    let k : (record_at (records_of t) d).kind ≡ 4 = eqb-true (record_at (records_of t) d).kind 4 (sym (directory_walked t 0 d v.size) ∙ w) in
    let b : (1 ≤ d) × (d ≤ 128) = present_below t d (directory_present t v d k) in
    let m : d ≤ 128 = b.1 in
    omega arith

-- the name of a node is one that a layer has
pub node_name_bytes : (t l s : List ℕ) → AllBytes t → AllBytes l → (g : Good t l s) (k : ℕ) → k < count_of s → (node_at (nodes_of s) k).number ≢ 1 → AllBytes (node_name (node_at (nodes_of s) k))
node_name_bytes t l s p q g k b other =
    let n : Node = node_at (nodes_of s) k in
    let x : Name = node_name (node_at (nodes_of s) k) in
    let ps : List Pair = stack_list (node_by (nodes_of s) (node_at (nodes_of s) k).parent) in
    let f : (r : List Pair) × (stack_list (node_at (nodes_of s) k) ≡ top_of (node_at (nodes_of s) k) ∷ r) = take_first (node_at (nodes_of s) k).depth (node_at (nodes_of s) k).stack (node_some t l s g k b other) in
    let w : Above t l x ps (top_of n) = stack_above t l x ps (subst (In (top_of (node_at (nodes_of s) k))) (sym f.1 ∙ node_stack t l s g k b other) (here refl)) in
    let e : (j : ℕ) × Used (entries_of (table_of t l w.at.layer)) j × ((entry_at (entries_of (table_of t l w.at.layer)) j).child ≡ named (entries_of (table_of t l w.at.layer)) w.at.number x) × ((entry_at (entries_of (table_of t l w.at.layer)) j).parent ≡ w.at.number) × (name_of (entry_at (entries_of (table_of t l w.at.layer)) j) ≡ x) =
    found_entry (entries_of (table_of t l w.at.layer)) w.at.number x (λ z. w.some (sym w.found ∙ z)) in
    subst AllBytes e.4 (name_bytes (table_of t l w.at.layer) (bytes_table t l p q w.at.layer) e.0)
