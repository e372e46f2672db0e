-- A creation keeps what holds between calls, whatever it answers. Assumes nothing.
use Rattle.std.specs.Prelude.{Option, Some, None, Result, Ok, Err, is_some}
use Rattle.merge.specs.declared.load.LoadError.{LoadError}
use Rattle.merge.specs.declared.load.LoadError.TheVariants.{NoRoom}
use mathlib.Core.Path.{◌≡◌, refl, sym, ap, ap₂, ◌∙◌, subst}
use mathlib.Core.Logic.{◌≢◌}
use Prim.Native.Nat.{ℕ, zero, suc, ◌+◌, ◌*◌, ◌-◌, ◌≤◌, ◌<◌}
use native.Mathlib.Omega.{arith}
use native.Mathlib.Nat.{zero-add}
use native.Mathlib.Decide.{ℕ_discrete}
use mathlib.Core.Bool.{Bool, true, false, not, cond}
use mathlib.Core.List.{List, [], ◌∷◌, ◌++◌}
use lib.Dec.{eqb, ltb}
use lib.ListN.{length}
use lib.Seq.{get_or-set_same, get_or-set_other}
use borrow.Author.Tests.{eqb-true, eq-eqb, ltb-true, ltb-false, not-false, le-ltb}
use Rattle.layers.specs.Bytes.{over, AllBytes}
use Rattle.layers.specs.Names.{Name, malformed_name}
use Rattle.layers.specs.Items.{records_of, entries_of, entry_at, free_record, free_entry, head_bytes, tail_bytes, record_bytes, entry_bytes, record_put, entry_put, FitsTail}
use Rattle.layers.specs.Search.{one, is_free, naming, names, search_of, free_entry_place, free_record_place, used_entries, used_records}
use Rattle.layers.specs.Change.{numbered, record_left, dropped_entry}
use Rattle.layers.specs.Rules.{Used, WellFormed, GoodRecord, Valid}
use Rattle.layers.specs.Kinds.{kind_number}
use Rattle.layers.specs.declared.items.Record.{Record}
use Rattle.layers.specs.declared.kinds.Kind.{Kind}
use Rattle.layers.specs.declared.kinds.Kind.TheVariants.{Fifo, Character, Directory, Block, Regular, Symlink, Socket}
use Rattle.layers.proofs.EveryLaws.{no_true}
use Rattle.layers.proofs.ItemLaws.{length_records}
use Rattle.layers.proofs.RuleLaws.{well_formed_exactly}
use Rattle.layers.proofs.ChangeLaws.{first_passes, free_record_from, free_record_below}
use Rattle.merge.specs.declared.node.Node.{Node}
use Rattle.merge.specs.declared.stacks.Pair.{Pair}
use Rattle.merge.specs.Nodes.{no_pair, no_node, node_name, key_of, capacity, count_of, nodes_of, node_at, FitsNode}
use Rattle.merge.specs.Heads.{next_of}
use Rattle.merge.specs.State.{find_number}
use Rattle.merge.specs.Methods.{with_loaded, with_stack, pushed, topped}
use Rattle.merge.specs.Changes.{put_bytes}
use Rattle.merge.specs.Seats.{middle, seat_in, seat_of, holder}
use Rattle.merge.specs.Tables.{table_of}
use Rattle.merge.specs.Classes.{is_whiteout, child_at, named}
use Rattle.merge.specs.Scan.{is_walked}
use Rattle.merge.specs.Stacks.{pair, stack_of}
use Rattle.merge.specs.Load.{stack_list, suffices, is_loaded, load_answer}
use Rattle.merge.proofs.MergeLaws.{Each}
use Rattle.merge.proofs.NamedLaws.{names_used}
use Rattle.merge.proofs.NodeFits.{bytes_append, bytes_zeros, bytes_number, bytes_over}
use Rattle.merge.proofs.NodesAfter.{length_put, count_put, next_put, nodes_put}
use Rattle.merge.proofs.StateLaws.{length_nodes}
use Rattle.merge.proofs.TableLaws.{table_upper}
use Rattle.calls.specs.Refusal.{Test, test, passed}
use Rattle.calls.specs.Lengths.{lengths_test}
use Rattle.calls.specs.Parents.{place_of, place_numbered, unknown, top_of, is_white, is_directory_node, is_refused, load_tests, loaded_state}
use Rattle.calls.specs.Lookup.{seat_named, name_in}
use Rattle.calls.specs.Upper.{Up, up, parent_place, in_upper, new_record, made_directory, made_upper, emptied, without_whiteout}
use Rattle.calls.specs.Room.{missing_from, missing, whiteout_entry, freed_records, overfull}
use Rattle.calls.specs.Writing.{has_upper, is_live_name, is_long, no_place, whiteout_in}
use Rattle.calls.specs.Creation.{parent_node, creation_before, creation_tests, filled, creation_behind, created, creation_spec}
use Rattle.calls.specs.declared.refusal.Refusal.TheVariants.{Eperm, Enoent, Enotdir, Einval, Enfile, Enospc, Erofs, Enametoolong}
use Rattle.demands.specs.Invariant.{node_in, node_by, Resident, Good}
use Rattle.demands.specs.Reads.{SoundLayers}
use Rattle.demands.specs.Sequences.{Creatable}
use Rattle.demands.proofs.InvariantNodes.{by_found, found_below, found_number, place_by, place_resident}
use Rattle.demands.proofs.InvariantKept.{marked_is, tidy_place}
use Rattle.demands.proofs.InvariantLoad.{Loaded, load_keeps, load_complete}
use Rattle.demands.proofs.PlacesCounted.{record_place_free, entry_place_free, dropped_entry_entries, dropped_entry_records, not_overfull, not_overfull_missing}
use Rattle.demands.proofs.UpperBytes.{FitsBytes, add_new_bytes, walked_byte}
use Rattle.demands.proofs.InvariantShare.{In, here, there, in_nil, Above, stack_above, valid_children}
use Rattle.demands.proofs.UpperFirst.{Lower, UpperFirst, node_first}
use Rattle.demands.proofs.MadeDirectory.{take_first, node_stack, node_some}
use Rattle.demands.proofs.MadePath.{Walked, MadePath, near_directory, made_path_lem}
use Rattle.demands.proofs.CopyUpKeeps.{Keeps, missing_fewer, found_inside}
use Rattle.demands.proofs.SoundUpper.{upper_valid}
use Rattle.demands.proofs.FilledNew.{filled_good, filled_sound}
use Rattle.demands.proofs.FilledOver.{held_place, filled_over_good, filled_over_sound}

-- ---- a new record's fields of one byte

kind_below : (k : Kind) → kind_number k < 256
kind_below Fifo = omega arith
kind_below Character = omega arith
kind_below Directory = omega arith
kind_below Block = omega arith
kind_below Regular = omega arith
kind_below Symlink = omega arith
kind_below Socket = omega arith

creatable_bytes : (r : Record) → Creatable r → FitsBytes r
creatable_bytes r c =
    let g : GoodRecord 1 (numbered 1 r) = c.good 1 (omega arith) (omega arith) in
    let k : (k : Kind) × (r.kind ≡ kind_number k) = g.kind_is (λ z. omega arith) in
    let o : r.opaque ≤ 1 = g.opaque_is in
    let m : r.mark ≡ 0 = g.mark_zero in
    record { kind_fits = subst (λ (n : ℕ). n < 256) (sym k.1) (kind_below k.0); opaque_fits = omega arith; mark_fits = omega arith }

-- a node that is not there is not changed
put_past : (s : List ℕ) (j c : ℕ) (n : Node) → c ≡ count_of s → c ≤ j → s ≡ put_bytes s j n
unfolding put_bytes
put_past s j c n q h = rw (← q, le-ltb j c h) refl

-- ---- what a made path leaves beside the stacks

-- nodes fit their bytes, room and numbers are as they were, and so is every loaded mark
record Beside (s w : List ℕ) : Type 0 where
  fits : (j : ℕ) → FitsNode (node_at (nodes_of w) j)
  capacity_same : capacity w ≡ capacity s
  count_same : count_of w ≡ count_of s
  next_same : next_of w ≡ next_of s
  loaded_same : (j : ℕ) → is_loaded (node_at (nodes_of w) j) ≡ is_loaded (node_at (nodes_of s) j)

topped_fits : (n : Node) (p : Pair) → FitsNode n → FitsNode (topped n p)
unfolding with_stack pushed
topped_fits n p f =
    record {
      numbers = record { number_fits = f.numbers.number_fits; parent_fits = f.numbers.parent_fits; count_fits = f.numbers.count_fits };
      arrays = record { stack_fits = refl; name_fits = f.arrays.name_fits };
    }

topped_loaded : (n : Node) (p : Pair) → is_loaded (topped n p) ≡ is_loaded n
unfolding with_stack is_loaded
topped_loaded n p = refl

capacity_long : (s w : List ℕ) → length w ≡ length s → capacity w ≡ capacity s
unfolding capacity
capacity_long s w e = rw e refl

module _ (s w : List ℕ) (h : Beside s w) (k : ℕ) (p : Pair) where
  abbrev a : Node
  a = topped (node_at (nodes_of w) k) p

  a_fits : FitsNode a
  a_fits = topped_fits (node_at (nodes_of w) k) p (h.fits k)

  other_is : (j : ℕ) → j ≢ k → node_at (nodes_of (put_bytes w k a)) j ≡ node_at (nodes_of w) j
  other_is j o = ap (λ (ns : List Node). node_at ns j) (nodes_put w k a a_fits) ∙ get_or-set_other (nodes_of w) k j a no_node o

  here_is : k < count_of w → node_at (nodes_of (put_bytes w k a)) k ≡ a
  here_is i = ap (λ (ns : List Node). node_at ns k) (nodes_put w k a a_fits) ∙ get_or-set_same (nodes_of w) k a no_node (rw (length_nodes w) i)

  each_fits : k < count_of w → (j : ℕ) → Dec (j ≡ k) → FitsNode (node_at (nodes_of (put_bytes w k a)) j)
  each_fits i j (yes o) = rw o (subst FitsNode (sym (here_is i)) a_fits)
  each_fits i j (no o) = subst FitsNode (sym (other_is j o)) (h.fits j)

  each_loaded : k < count_of w → (j : ℕ) → Dec (j ≡ k) → is_loaded (node_at (nodes_of (put_bytes w k a)) j) ≡ is_loaded (node_at (nodes_of w) j)
  each_loaded i j (yes o) = rw o (ap is_loaded (here_is i) ∙ topped_loaded (node_at (nodes_of w) k) p)
  each_loaded i j (no o) = ap is_loaded (other_is j o)

  beside_put : Beside s (put_bytes w k a)
  beside_put = go (ltb k (count_of w)) refl
    where
      go : (b : Bool) → ltb k (count_of w) ≡ b → Beside s (put_bytes w k a)
      go false e = subst (Beside s) (put_past w k (count_of w) a refl (ltb-false k (count_of w) e)) h
      go true e =
          record {
            fits = λ j. each_fits (ltb-true k (count_of w) e) j (ℕ_discrete j k);
            capacity_same = capacity_long w (put_bytes w k a) (length_put w k a a_fits) ∙ h.capacity_same;
            count_same = count_put w k a a_fits ∙ h.count_same;
            next_same = next_put w k a a_fits ∙ h.next_same;
            loaded_same = λ j. each_loaded (ltb-true k (count_of w) e) j (ℕ_discrete j k) ∙ h.loaded_same j;
          }

module _ (s l : List ℕ) where
  beside_made : (m k : ℕ) (u : Up) → Beside s u.state → Beside s (made_upper m l k u).state
  unfolding made_upper made_directory
  beside_made zero k u h = h
  beside_made (suc m) k u h = go (in_upper (node_at (nodes_of u.state) k)) (beside_made m (parent_place u.state k) u h)
    where
      go : (c : Bool) → Beside s (made_upper m l (parent_place u.state k) u).state → Beside s (cond c u (made_directory l k (made_upper m l (parent_place u.state k) u))).state
      go true q = h
      go false q = beside_put s (made_upper m l (parent_place u.state k) u).state q k (pair 0 (new_record (made_upper m l (parent_place u.state k) u).table))

-- ---- the seat of a name is as it was where the keys are

module _ (ns ms : List Node) (x : Name) (same : (j : ℕ) → key_of (node_at ms j) ≡ key_of (node_at ns j)) where
  seat_in_same : (m lo hi : ℕ) → seat_in m ms x lo hi ≡ seat_in m ns x lo hi
  unfolding seat_in
  seat_in_same zero lo hi = refl
  seat_in_same (suc m) lo hi =
      rw (same (middle lo hi), seat_in_same m lo (middle lo hi), seat_in_same m (suc (middle lo hi)) hi) refl

-- a child has a greater number than its parent
module _ (t l s : List ℕ) (g : Good t l s) (k : ℕ) (b : k < count_of s) (j : ℕ) (x : Name) (bj : j < count_of s) (key : key_of (node_at (nodes_of s) j) ≡ (node_at (nodes_of s) k).number ∷ x) where
  by_place : node_by (nodes_of s) (node_at (nodes_of s) j).number ≡ node_at (nodes_of s) j
  by_place = place_by (nodes_of s) g.nodes.once j (rw (length_nodes s) bj)

  parent_there : Resident (node_by (nodes_of s)) (node_at (nodes_of s) k).number
  parent_there = place_resident (nodes_of s) g.nodes.once k (rw (length_nodes s) b) g.nodes.none_zero

  child_there : Resident (node_by (nodes_of s)) (node_at (nodes_of s) j).number
  child_there = place_resident (nodes_of s) g.nodes.once j (rw (length_nodes s) bj) g.nodes.none_zero

  not_root : (node_at (nodes_of s) j).number ≢ 1
  not_root z =
      let e : (node_at (nodes_of s) k).number ∷ x ≡ 0 ∷ [] = sym key ∙ (ap key_of (sym by_place) ∙ (ap (λ (m : ℕ). key_of (node_by (nodes_of s) m)) z ∙ g.nodes.coherent.root_key)) in
      let o : (node_at (nodes_of s) k).number ≡ 0 = cc in
      parent_there.0 o

  parent_is : (node_at (nodes_of s) j).parent ≡ (node_at (nodes_of s) k).number
  parent_is = cc

  child_later : (node_at (nodes_of s) k).number < (node_at (nodes_of s) j).number
  child_later =
      subst (λ (m : ℕ). m < (node_at (nodes_of s) j).number) (ap (λ (n : Node). n.parent) by_place ∙ parent_is)
      (g.nodes.coherent.parent_less (node_at (nodes_of s) j).number (child_there, not_root))

-- ---- in the directory at place `k`, for whose path there is room

module _ (t l s : List ℕ) (v : Valid t) (sound : SoundLayers t l) (g : Good t l s) (upper_bytes : AllBytes t) (lower_bytes : AllBytes l) (k : ℕ) (b : k < count_of s) (w : Walked t l (node_at (nodes_of s) k))
    (x : Name) (short : length x ≤ 28) (name_bytes : AllBytes x) (r : Record) (c : Creatable r) (live : is_whiteout r ≡ false)
    (room_records : used_records (records_of t) + suc (length (missing s k)) ≤ 128) (room_entries : used_entries (entries_of t) + suc (length (missing s k)) ≤ 128)
  where
    abbrev u : Up
    u = made_upper 16 l k (up t s)

    fewer : length (missing_from 16 s k) ≤ length (missing_from 17 s k)
    fewer = missing_fewer s 16 k

    path : MadePath t l s k (length (missing_from 16 s k)) u
    path =
        let f : length (missing_from 16 s k) ≤ length (missing_from 17 s k) = fewer in
        made_path_lem t l s v sound g 16 k b w (near_directory t l s g sound k b w) (omega arith) (omega arith)

    beside : Beside s u.state
    beside =
        beside_made s l 16 k (up t s)
        (record { fits = λ j. (tidy_place t l (nodes_of s) (next_of s) g.nodes j).fits; capacity_same = refl; count_same = refl; next_same = refl; loaded_same = λ j. refl })

    b_now : k < count_of u.state
    b_now = rw path.count_same b

    walked_now : is_walked u.table (top_of (node_at (nodes_of u.state) k)).number ≡ true
    unfolding in_upper
    walked_now =
        ap (λ (m : List ℕ). is_walked m (top_of (node_at (nodes_of u.state) k)).number) (table_upper u.table l 0 refl path.valid.size)
        ∙ (ap (λ (m : ℕ). is_walked (table_of u.table l m) (top_of (node_at (nodes_of u.state) k)).number) (sym (eqb-true (top_of (node_at (nodes_of u.state) k)).layer 0 path.upper)) ∙ path.walked_still k w)

    free : (i : ℕ) × (free_record_place (records_of u.table) ≡ Some i)
    free =
        let f : length (missing_from 16 s k) ≤ length (missing_from 17 s k) = fewer in
        record_place_free u.table (let e : used_records (records_of u.table) ≡ used_records (records_of t) + length (missing_from 16 s k) = path.records in omega arith)

    room : (j : ℕ) × (free_entry_place (entries_of u.table) ≡ Some j)
    room =
        let f : length (missing_from 16 s k) ≤ length (missing_from 17 s k) = fewer in
        entry_place_free u.table (let e : used_entries (entries_of u.table) ≡ used_entries (entries_of t) + length (missing_from 16 s k) = path.entries in omega arith)

    record_good : GoodRecord free.0 (numbered free.0 r)
    record_good =
        let hi : free.0 < 1 + length (records_of u.table) = free_record_below (records_of u.table) free.0 free.1 in
        let m : length (records_of u.table) ≡ 128 = length_records u.table in
        c.good free.0 (free_record_from (records_of u.table) free.0 free.1) (omega arith)

    new_bytes_lem : (z : Result ℕ ℕ) → AllBytes (filled k z x r u).table
    unfolding filled
    new_bytes_lem z =
        add_new_bytes u.table (path.bytes upper_bytes lower_bytes) (top_of (node_at (nodes_of u.state) k)).number (walked_byte u.table path.valid (top_of (node_at (nodes_of u.state) k)).number walked_now) x name_bytes r (creatable_bytes r c)

    seat_now : seat_of (nodes_of u.state) (node_at (nodes_of u.state) k).number x ≡ seat_of (nodes_of s) (node_at (nodes_of s) k).number x
    seat_now =
        let n : length (nodes_of u.state) ≡ length (nodes_of s) = length_nodes u.state ∙ (path.count_same ∙ sym (length_nodes s)) in
        ap (λ (p : ℕ). seat_of (nodes_of u.state) p x) (path.number_same k)
        ∙ (ap (λ (m : ℕ). seat_in m (nodes_of u.state) ((node_at (nodes_of s) k).number ∷ x) 0 m) n
        ∙ seat_in_same (nodes_of s) (nodes_of u.state) ((node_at (nodes_of s) k).number ∷ x) path.key_same (length (nodes_of s)) 0 (length (nodes_of s)))

    enough_now : suffices s 1 ≡ true → suffices u.state 1 ≡ true
    unfolding suffices
    enough_now h = rw (beside.capacity_same, beside.count_same, beside.next_same) h

    -- a name that has no node
    pub open_keeps : WellFormed x → is_loaded (node_at (nodes_of s) k) ≡ true → suffices s 1 ≡ true → (q : ℕ) → seat_of (nodes_of s) (node_at (nodes_of s) k).number x ≡ Err q → Keeps l (filled k (Err q) x r u)
    open_keeps well loaded enough q seat =
        record {
          good = filled_good u.table l u.state path.valid path.good k b_now path.upper walked_now (beside.loaded_same k ∙ loaded) x well short q (seat_now ∙ seat) path.sound (enough_now enough) free.0 room.0 free.1 room.1 r record_good c.tail c.no_directory live;
          sound = filled_sound u.table l u.state path.valid path.good k b_now path.upper walked_now (beside.loaded_same k ∙ loaded) x well short q (seat_now ∙ seat) path.sound (enough_now enough) free.0 room.0 free.1 room.1 r record_good c.tail c.no_directory live;
          bytes = new_bytes_lem (Err q);
        }

    -- a name whose node is a lower whiteout's
    module _ (j : ℕ) (seat : seat_of (nodes_of s) (node_at (nodes_of s) k).number x ≡ Ok j) (white : is_white (node_at (nodes_of s) j) ≡ true) (low : in_upper (node_at (nodes_of s) j) ≡ false) where
      held : (j < count_of s) × (key_of (node_at (nodes_of s) j) ≡ (node_at (nodes_of s) k).number ∷ x)
      held = held_place t l s g (node_at (nodes_of s) k).number x j seat

      same : node_at (nodes_of u.state) j ≡ node_at (nodes_of s) j
      same = path.later_same j (child_later t l s g k b j x held.0 held.1)

      pub over_keeps : Keeps l (filled k (Ok j) x r u)
      over_keeps =
          record {
            good = filled_over_good u.table l u.state path.valid path.good path.sound k b_now path.upper walked_now j (rw path.count_same held.0) x (path.key_same j ∙ (held.1 ∙ ap (λ (p : ℕ). p ∷ x) (sym (path.number_same k)))) (ap is_white same ∙ white) (ap in_upper same ∙ low) free.0 room.0 free.1 room.1 r record_good c.tail c.no_directory live;
            sound = filled_over_sound u.table l u.state path.valid path.good path.sound k b_now path.upper walked_now j (rw path.count_same held.0) x (path.key_same j ∙ (held.1 ∙ ap (λ (p : ℕ). p ∷ x) (sym (path.number_same k)))) (ap is_white same ∙ white) (ap in_upper same ∙ low) free.0 room.0 free.1 room.1 r record_good c.tail c.no_directory live;
            bytes = new_bytes_lem (Ok j);
          }

-- ---- a table of bytes without an entry

free_record_bytes : AllBytes (record_bytes free_record)
unfolding record_bytes head_bytes tail_bytes
free_record_bytes =
    bytes_append _ _ (bytes_append _ _ (bytes_append _ _ (bytes_zeros 4) (bytes_number 2 0)) (bytes_number 2 0))
    (bytes_append _ _ (bytes_append _ _ (bytes_number 8 0) (bytes_number 8 0)) (bytes_number 8 0))

free_entry_bytes : AllBytes (entry_bytes free_entry)
unfolding entry_bytes
free_entry_bytes = bytes_append _ _ (bytes_zeros 4) (bytes_zeros 28)

module _ (t : List ℕ) (h : AllBytes t) where
  freed_record_bytes : (i : ℕ) → AllBytes (record_left t i)
  unfolding record_left record_put
  freed_record_bytes i = go (eqb (naming i (entries_of t)) 0) (eqb i 0) (ltb 128 i)
    where
      go : (a c d : Bool) → AllBytes (cond a (cond c t (cond d t (over t (32 * (i - 1)) (record_bytes free_record)))) t)
      go true true d = h
      go true false true = h
      go true false false = bytes_over t (32 * (i - 1)) (record_bytes free_record) h free_record_bytes
      go false c d = h

  freed_entry_bytes : (j : ℕ) → AllBytes (entry_put t j free_entry)
  unfolding entry_put
  freed_entry_bytes j = go (ltb 127 j)
    where
      go : (c : Bool) → AllBytes (cond c t (over t (4096 + 32 * j) (entry_bytes free_entry)))
      go true = h
      go false = bytes_over t (4096 + 32 * j) (entry_bytes free_entry) h free_entry_bytes

pub dropped_bytes : (t : List ℕ) → AllBytes t → (j : ℕ) → AllBytes (dropped_entry t j)
unfolding dropped_entry
dropped_bytes t h j = go (is_free (entry_at (entries_of t) j))
  where
    go : (c : Bool) → AllBytes (cond c t (record_left (entry_put t j free_entry) (entry_at (entries_of t) j).child))
    go true = h
    go false = freed_record_bytes (entry_put t j free_entry) (freed_entry_bytes t h j) (entry_at (entries_of t) j).child

-- ---- a name whose whiteout is in the upper layer

-- what is written over it keeps what holds between calls
abbrev pub InPlace : Type 0
InPlace =
    (t l s : List ℕ) → Valid t → Good t l s → SoundLayers t l → (k : ℕ) → k < count_of s → in_upper (node_at (nodes_of s) k) ≡ true → is_walked t (top_of (node_at (nodes_of s) k)).number ≡ true
    → (j : ℕ) → j < count_of s → (x : Name) → key_of (node_at (nodes_of s) j) ≡ (node_at (nodes_of s) k).number ∷ x → is_white (node_at (nodes_of s) j) ≡ true → (e : ℕ) → search_of (entries_of t) (top_of (node_at (nodes_of s) k)).number x ≡ Some e
    → (i m : ℕ) → free_record_place (records_of (dropped_entry t e)) ≡ Some i → free_entry_place (entries_of (dropped_entry t e)) ≡ Some m
    → (r : Record) → GoodRecord i (numbered i r) → FitsTail r → r.kind ≢ 4 → is_whiteout r ≡ false
    → Good (filled k (Ok j) x r (without_whiteout (Some e) (Some j) (up t s))).table l (filled k (Ok j) x r (without_whiteout (Some e) (Some j) (up t s))).state × SoundLayers (filled k (Ok j) x r (without_whiteout (Some e) (Some j) (up t s))).table l

-- an upper record of a stack is its first
each_lower : (ps : List Pair) (a : Pair) → Each Lower ps → In a ps → a.layer ≢ 0
each_lower [] a h i = absurd (in_nil i)
each_lower (p ∷ ps) a h (here e) = λ z. h.0 (ap (λ (y : Pair). y.layer) (sym e) ∙ z)
each_lower (p ∷ ps) a h (there i) = each_lower ps a h.1 i

first_upper : (ps : List Pair) (a : Pair) → UpperFirst ps → In a ps → a.layer ≡ 0 → (q : List Pair) × (ps ≡ a ∷ q)
first_upper [] a h i z = absurd (in_nil i)
first_upper (p ∷ ps) a h (here e) z = (ps, ap (λ (y : Pair). y ∷ ps) (sym e))
first_upper (p ∷ ps) a h (there i) z = absurd (each_lower ps a h i z)

bare_fits : (n : Node) → FitsNode n → FitsNode (with_stack n (no_pair ∷ no_pair ∷ no_pair ∷ no_pair ∷ []) 0)
unfolding with_stack
bare_fits n f =
    record {
      numbers = record { number_fits = f.numbers.number_fits; parent_fits = f.numbers.parent_fits; count_fits = f.numbers.count_fits };
      arrays = record { stack_fits = refl; name_fits = f.arrays.name_fits };
    }

made_nothing : (l : List ℕ) (m k : ℕ) (u : Up) → in_upper (node_at (nodes_of u.state) k) ≡ true → made_upper (suc m) l k u ≡ u
unfolding made_upper
made_nothing l m k u h = rw h refl

missing_none : (s : List ℕ) (m k : ℕ) → in_upper (node_at (nodes_of s) k) ≡ true → length (missing_from (suc m) s k) ≡ 0
unfolding missing_from
missing_none s m k h = rw h refl

module _ (t l s : List ℕ) (v : Valid t) (sound : SoundLayers t l) (g : Good t l s) (k : ℕ) (b : k < count_of s) (w : Walked t l (node_at (nodes_of s) k)) (x : Name)
    (j : ℕ) (bj : j < count_of s) (key : key_of (node_at (nodes_of s) j) ≡ (node_at (nodes_of s) k).number ∷ x) (high : in_upper (node_at (nodes_of s) j) ≡ true)
  where
    abbrev n : Node
    n = node_at (nodes_of s) j

    abbrev above : Node
    above = node_at (nodes_of s) k

    abbrev d : ℕ
    d = (top_of (node_at (nodes_of s) k)).number

    other : n.number ≢ 1
    other = not_root t l s g k b j x bj key

    first_n : (q : List Pair) × (stack_list n ≡ top_of n ∷ q)
    first_n = take_first n.depth n.stack (node_some t l s g j bj other)

    parent_by : node_by (nodes_of s) n.parent ≡ above
    parent_by = ap (node_by (nodes_of s)) (parent_is t l s g k b j x bj key) ∙ place_by (nodes_of s) g.nodes.once k (rw (length_nodes s) b)

    name_n : node_name n ≡ x
    name_n = cc

    stack_n : stack_list n ≡ stack_of t l (stack_list above) x
    stack_n = node_stack t l s g j bj other ∙ ap₂ (λ (m : Node) (y : Name). stack_of t l (stack_list m) y) parent_by name_n

    over_n : Above t l x (stack_list above) (top_of n)
    over_n = stack_above t l x (stack_list above) (subst (In (top_of n)) (sym first_n.1 ∙ stack_n) (here refl))

    layer_n : (top_of n).layer ≡ 0
    unfolding in_upper
    layer_n = eqb-true (top_of n).layer 0 high

    first_above : UpperFirst (stack_list above)
    first_above = subst (λ (m : Node). UpperFirst (stack_list m)) (place_by (nodes_of s) g.nodes.once k (rw (length_nodes s) b)) (node_first t l (node_by (nodes_of s)) g.nodes.coherent above.number (place_resident (nodes_of s) g.nodes.once k (rw (length_nodes s) b) g.nodes.none_zero))

    starts : (q : List Pair) × (stack_list above ≡ over_n.at ∷ q)
    starts = first_upper (stack_list above) over_n.at first_above over_n.within (over_n.layer_is ∙ layer_n)

    top_above : (q : List Pair) × (stack_list above ≡ top_of above ∷ q)
    top_above = take_first above.depth above.stack (λ z. let o : over_n.at ∷ starts.0 ≡ [] = sym starts.1 ∙ z in let y : ◌≡◌ {A = ℕ} 1 0 = cc in absurd (omega arith))

    top_is : top_of above ≡ over_n.at
    top_is = let o : top_of above ∷ top_above.0 ≡ over_n.at ∷ starts.0 = sym top_above.1 ∙ starts.1 in cc

    layer_above : (top_of above).layer ≡ 0
    layer_above = ap (λ (q : Pair). q.layer) top_is ∙ (over_n.layer_is ∙ layer_n)

    -- the directory is in the upper layer
    parent_upper : in_upper above ≡ true
    unfolding in_upper
    parent_upper = eq-eqb (top_of above).layer 0 layer_above

    upper_walked : is_walked t d ≡ true
    upper_walked = ap (λ (m : List ℕ). is_walked m d) (table_upper t l 0 refl v.size) ∙ (ap (λ (m : ℕ). is_walked (table_of t l m) d) (sym layer_above) ∙ w)

    named_n : named (entries_of t) d x ≢ 0
    named_n z =
        over_n.some
        (sym over_n.found
        ∙ (ap (λ (q : Pair). named (entries_of (table_of t l q.layer)) q.number x) (sym top_is)
        ∙ (ap (λ (m : ℕ). named (entries_of (table_of t l m)) d x) layer_above ∙ (ap (λ (m : List ℕ). named (entries_of m) d x) (sym (table_upper t l 0 refl v.size)) ∙ z))))

    -- and has the entry
    entry_there : (e : ℕ) × (search_of (entries_of t) d x ≡ Some e)
    unfolding child_at
    entry_there = go (search_of (entries_of t) d x) refl named_n
      where
        go : (f : Option ℕ) → search_of (entries_of t) d x ≡ f → child_at (entries_of t) f ≢ 0 → (e : ℕ) × (search_of (entries_of t) d x ≡ Some e)
        go (Some e) q z = (e, q)
        go None q z = absurd (z refl)

    module _ (upper_bytes : AllBytes t) (name_bytes : AllBytes x) (white : is_white (node_at (nodes_of s) j) ≡ true) (r : Record) (c : Creatable r) (live : is_whiteout r ≡ false) (in_place : InPlace)
        (e : ℕ) (at : search_of (entries_of t) (top_of (node_at (nodes_of s) k)).number x ≡ Some e) (fits : overfull t (Some e) (suc (length (missing s k))) (suc (length (missing s k))) ≡ false)
      where
        entry_used : Used (entries_of t) e
        entry_used = names_used d x (entry_at (entries_of t) e) (first_passes (names d x) free_entry 0 (entries_of t) e (at ∙ ap Some (sym (zero-add e))))

        none : length (missing s k) ≡ 0
        none = missing_none s 16 k parent_upper

        room_after : (used_records (records_of (dropped_entry t e)) < 128) × (used_entries (entries_of (dropped_entry t e)) < 128)
        unfolding one
        room_after =
            let a : (used_records (records_of t) + suc (length (missing s k)) ≤ 128 + freed_records t (Some e)) × (used_entries (entries_of t) + suc (length (missing s k)) ≤ 128 + 1) = not_overfull t (Some e) (suc (length (missing s k))) (suc (length (missing s k))) fits in
            let ar : used_records (records_of t) + suc (length (missing s k)) ≤ 128 + freed_records t (Some e) = a.0 in
            let ae : used_entries (entries_of t) + suc (length (missing s k)) ≤ 128 + 1 = a.1 in
            let h : used_records (records_of (dropped_entry t e)) + freed_records t (Some e) ≡ used_records (records_of t) = dropped_entry_records t e entry_used v in
            let i : used_entries (entries_of (dropped_entry t e)) + 1 ≡ used_entries (entries_of t) = dropped_entry_entries t e entry_used v.size in
            let z : length (missing s k) ≡ 0 = none in
            (omega arith, omega arith)

        free_after : (i : ℕ) × (free_record_place (records_of (dropped_entry t e)) ≡ Some i)
        free_after = record_place_free (dropped_entry t e) room_after.0

        open_after : (i : ℕ) × (free_entry_place (entries_of (dropped_entry t e)) ≡ Some i)
        open_after = entry_place_free (dropped_entry t e) room_after.1

        good_after : GoodRecord free_after.0 (numbered free_after.0 r)
        good_after =
            let hi : free_after.0 < 1 + length (records_of (dropped_entry t e)) = free_record_below (records_of (dropped_entry t e)) free_after.0 free_after.1 in
            let m : length (records_of (dropped_entry t e)) ≡ 128 = length_records (dropped_entry t e) in
            c.good free_after.0 (free_record_from (records_of (dropped_entry t e)) free_after.0 free_after.1) (omega arith)

        apart : k ≢ j
        apart z =
            let o : (node_at (nodes_of s) k).number < (node_at (nodes_of s) j).number = child_later t l s g k b j x bj key in
            let y : (node_at (nodes_of s) k).number ≡ (node_at (nodes_of s) j).number = ap (λ (m : ℕ). (node_at (nodes_of s) m).number) z in
            omega arith

        abbrev bare : Up
        bare = without_whiteout (Some e) (Some j) (up t s)

        same_above : node_at (nodes_of bare.state) k ≡ above
        unfolding without_whiteout emptied
        same_above =
            ap (λ (ns : List Node). node_at ns k) (nodes_put s j (with_stack n (no_pair ∷ no_pair ∷ no_pair ∷ no_pair ∷ []) 0) (bare_fits n (tidy_place t l (nodes_of s) (next_of s) g.nodes j).fits))
            ∙ get_or-set_other (nodes_of s) j k (with_stack n (no_pair ∷ no_pair ∷ no_pair ∷ no_pair ∷ []) 0) no_node apart

        path_same : made_upper 16 l k bare ≡ bare
        path_same = made_nothing l 15 k bare (ap in_upper same_above ∙ parent_upper)

        bytes_after : AllBytes (filled k (Ok j) x r bare).table
        unfolding filled without_whiteout
        bytes_after =
            add_new_bytes (dropped_entry t e) (dropped_bytes t upper_bytes e) (top_of (node_at (nodes_of bare.state) k)).number (subst (λ (m : Node). (top_of m).number < 256) (sym same_above) (walked_byte t v d upper_walked)) x name_bytes r (creatable_bytes r c)

        written : Good (filled k (Ok j) x r bare).table l (filled k (Ok j) x r bare).state × SoundLayers (filled k (Ok j) x r bare).table l
        written = in_place t l s v g sound k b parent_upper upper_walked j bj x key white e at free_after.0 open_after.0 free_after.1 open_after.1 r good_after c.tail c.no_directory live

        pub in_place_keeps : Keeps l (filled k (Ok j) x r (made_upper 16 l k bare))
        in_place_keeps = subst (λ (m : Up). Keeps l (filled k (Ok j) x r m)) (sym path_same) (record { good = written.0; sound = written.1; bytes = bytes_after })

-- ---- the call

first_passed : (t : Test) (ts : List Test) → passed (t ∷ ts) ≡ true → (t.fails ≡ false) × (passed ts ≡ true)
unfolding passed
first_passed t ts h = go t.fails refl h
  where
    go : (b : Bool) → t.fails ≡ b → cond b false (passed ts) ≡ true → (t.fails ≡ false) × (passed ts ≡ true)
    go true e h = no_true h
    go false e h = (e, h)

either_false : (a b : Bool) → cond a true b ≡ false → a ≡ false
either_false true b h = no_true (sym h)
either_false false b h = refl

-- a directory's first record is walked
directory_top : (t l : List ℕ) (n : Node) → is_directory_node t l n ≡ true → Walked t l n
unfolding is_directory_node
directory_top t l n = go (eqb n.depth 0)
  where
    go : (b : Bool) → cond b false (is_walked (table_of t l (top_of n).layer) (top_of n).number) ≡ true → Walked t l n
    go true h = no_true h
    go false h = h

loaded_walked : (t l : List ℕ) (n : Node) → Walked t l n → Walked t l (with_loaded n 1)
unfolding with_loaded
loaded_walked t l n h = h

accepted_done : (a : Result (Unit {0}) LoadError) → is_refused a ≡ false → a ≡ Ok tt
accepted_done (Ok tt) h = refl
accepted_done (Err NoRoom) h = no_true (sym h)

-- a loaded node has its place
record Placed (s : List ℕ) (x : ℕ) : Type 0 where
  inside : place_numbered s x < count_of s
  node_is : node_at (nodes_of s) (place_numbered s x) ≡ node_by (nodes_of s) x
  number_is : (node_at (nodes_of s) (place_numbered s x)).number ≡ x

placed : (s : List ℕ) (x : ℕ) → is_loaded (node_by (nodes_of s) x) ≡ true → Placed s x
unfolding node_in place_of is_loaded
placed s x h = go (find_number (nodes_of s) x) refl h
  where
    go : (f : Option ℕ) → find_number (nodes_of s) x ≡ f → is_loaded (node_in (nodes_of s) f) ≡ true → Placed s x
    go (Some k) e q =
        let p : place_numbered s x ≡ k = ap (place_of (nodes_of s)) e in
        record {
          inside = subst (λ (m : ℕ). m < count_of s) (sym p) (subst (λ (m : ℕ). k < m) (length_nodes s) (found_below (nodes_of s) x k e));
          node_is = ap (node_at (nodes_of s)) p ∙ sym (by_found (nodes_of s) x k e);
          number_is = ap (λ (m : ℕ). (node_at (nodes_of s) m).number) p ∙ found_number (nodes_of s) x k e;
        }
    go None e q = no_true q

known_number : (s : List ℕ) (x : ℕ) → is_some (find_number (nodes_of s) x) ≡ true → (node_at (nodes_of s) (place_numbered s x)).number ≡ x
unfolding place_of
known_number s x h = go (find_number (nodes_of s) x) refl h
  where
    go : (f : Option ℕ) → find_number (nodes_of s) x ≡ f → is_some f ≡ true → (node_at (nodes_of s) (place_of (nodes_of s) f)).number ≡ x
    go (Some k) e q = found_number (nodes_of s) x k e
    go None e q = no_true q

-- what passed the tests behind the load
record Allowed (t s : List ℕ) (k : ℕ) (f e : Option ℕ) (x : Name) (r : Record) : Type 0 where
  dead : is_live_name s f ≡ false
  live : is_whiteout r ≡ false
  short : length x ≤ 28
  place : no_place s f ≡ false
  room : overfull t e (suc (length (missing s k))) (suc (length (missing s k))) ≡ false

allowed : (t s : List ℕ) (k : ℕ) (f e : Option ℕ) (x : Name) (r : Record) → passed (creation_tests t s k f e x r) ≡ true → Allowed t s k f e x r
unfolding creation_tests
allowed t s k f e x r h =
    let a : (is_live_name s f ≡ false) × (passed (test (is_whiteout r) Eperm ∷ test (is_long x) Enametoolong ∷ test (no_place s f) Enfile ∷ test (overfull t e (suc (length (missing s k))) (suc (length (missing s k)))) Enospc ∷ []) ≡ true) = first_passed _ _ h in
    let b : (is_whiteout r ≡ false) × (passed (test (is_long x) Enametoolong ∷ test (no_place s f) Enfile ∷ test (overfull t e (suc (length (missing s k))) (suc (length (missing s k)))) Enospc ∷ []) ≡ true) = first_passed _ _ a.1 in
    let c : (is_long x ≡ false) × (passed (test (no_place s f) Enfile ∷ test (overfull t e (suc (length (missing s k))) (suc (length (missing s k)))) Enospc ∷ []) ≡ true) = first_passed _ _ b.1 in
    let d : (no_place s f ≡ false) × (passed (test (overfull t e (suc (length (missing s k))) (suc (length (missing s k)))) Enospc ∷ []) ≡ true) = first_passed _ _ c.1 in
    let o : (overfull t e (suc (length (missing s k))) (suc (length (missing s k))) ≡ false) × (passed [] ≡ true) = first_passed _ _ d.1 in
    record { dead = a.0; live = b.0; short = ltb-false 28 (length x) c.0; place = d.0; room = o.0 }

-- behind the load, in the loaded directory at place `k`
module _ (t l s : List ℕ) (v : Valid t) (sound : SoundLayers t l) (g : Good t l s) (upper_bytes : AllBytes t) (lower_bytes : AllBytes l) (k : ℕ) (b : k < count_of s) (w : Walked t l (node_at (nodes_of s) k)) (loaded : is_loaded (node_at (nodes_of s) k) ≡ true)
    (x : Name) (well : WellFormed x) (name_bytes : AllBytes x) (r : Record) (c : Creatable r) (in_place : InPlace)
  where
    abbrev Left : Result ℕ ℕ → Type 0
    Left z = Keeps l (filled k z x r (made_upper 16 l k (without_whiteout (whiteout_entry t s k (holder z) x) (holder z) (up t s))))

    open_left : (q : ℕ) → seat_of (nodes_of s) (node_at (nodes_of s) k).number x ≡ Err q → Allowed t s k (holder (Err q)) (whiteout_entry t s k (holder (Err q)) x) x r → Left (Err q)
    unfolding holder whiteout_entry without_whiteout no_place
    open_left q seat a =
        let m : (used_records (records_of t) + suc (length (missing s k)) ≤ 128) × (used_entries (entries_of t) + suc (length (missing s k)) ≤ 128) = not_overfull_missing t (suc (length (missing s k))) (suc (length (missing s k))) a.room in
        open_keeps t l s v sound g upper_bytes lower_bytes k b w x a.short name_bytes r c a.live m.0 m.1 well loaded (not-false (suffices s 1) a.place) q seat

    held_left : (j : ℕ) → seat_of (nodes_of s) (node_at (nodes_of s) k).number x ≡ Ok j → Allowed t s k (holder (Ok j)) (whiteout_entry t s k (holder (Ok j)) x) x r → Left (Ok j)
    unfolding holder whiteout_entry is_live_name
    held_left j seat a = go (in_upper (node_at (nodes_of s) j)) refl a
      where
        held : (j < count_of s) × (key_of (node_at (nodes_of s) j) ≡ (node_at (nodes_of s) k).number ∷ x)
        held = held_place t l s g (node_at (nodes_of s) k).number x j seat

        found : in_upper (node_at (nodes_of s) j) ≡ true → (f : Option ℕ) → search_of (entries_of t) (top_of (node_at (nodes_of s) k)).number x ≡ f → Allowed t s k (Some j) f x r
            → Keeps l (filled k (Ok j) x r (made_upper 16 l k (without_whiteout f (Some j) (up t s))))
        found h (Some e) q a =
            in_place_keeps t l s v sound g k b w x j held.0 held.1 h upper_bytes name_bytes (not-false (is_white (node_at (nodes_of s) j)) a.dead) r c a.live in_place e q a.room
        found h None q a =
            let y : (e : ℕ) × (search_of (entries_of t) (top_of (node_at (nodes_of s) k)).number x ≡ Some e) = entry_there t l s v sound g k b w x j held.0 held.1 h in
            let o : None ≡ Some y.0 = sym q ∙ y.1 in
            let z : ◌≡◌ {A = ℕ} 0 1 = cc in
            absurd (omega arith)

        go : (h : Bool) → in_upper (node_at (nodes_of s) j) ≡ h → Allowed t s k (Some j) (cond h (search_of (entries_of t) (top_of (node_at (nodes_of s) k)).number x) None) x r
            → Keeps l (filled k (Ok j) x r (made_upper 16 l k (without_whiteout (cond h (search_of (entries_of t) (top_of (node_at (nodes_of s) k)).number x) None) (Some j) (up t s))))
        go true h a = found h (search_of (entries_of t) (top_of (node_at (nodes_of s) k)).number x) refl a
        go false h a = unfold without_whiteout in
            let m : (used_records (records_of t) + suc (length (missing s k)) ≤ 128) × (used_entries (entries_of t) + suc (length (missing s k)) ≤ 128) = not_overfull_missing t (suc (length (missing s k))) (suc (length (missing s k))) a.room in
            over_keeps t l s v sound g upper_bytes lower_bytes k b w x a.short name_bytes r c a.live m.0 m.1 j seat (not-false (is_white (node_at (nodes_of s) j)) a.dead) h

    seat_left : (z : Result ℕ ℕ) → seat_of (nodes_of s) (node_at (nodes_of s) k).number x ≡ z → Allowed t s k (holder z) (whiteout_entry t s k (holder z) x) x r → Left z
    seat_left (Err q) = open_left q
    seat_left (Ok j) = held_left j

module _ (u l s : List ℕ) (g : Good u l s) (sound : SoundLayers u l) (upper_bytes : AllBytes u) (lower_bytes : AllBytes l) (bad : Bool) (p : ℕ) (x : Name) (name_bytes : AllBytes x) (r : Record) (c : Creatable r) (in_place : InPlace) where
  abbrev after : List ℕ
  after = loaded_state u l s p

  after_good : Good u l after
  after_good = load_keeps u l s g (valid_children u l sound.tables) (place_numbered s p)

  accepted_keeps : passed (creation_before u l s bad p x) ≡ true → passed (load_tests u l s (place_numbered s p) ++ creation_behind u after p x r) ≡ true → Keeps l (created u l after p x r)
  unfolding creation_before parent_node load_tests creation_behind created
  accepted_keeps h q =
      let a : (not (lengths_test s u l) ≡ false) × (passed (test (cond (malformed_name x) true bad) Einval ∷ test (unknown s p) Enoent ∷ test (not (has_upper u)) Erofs ∷ test (is_white (node_at (nodes_of s) (place_numbered s p))) Enoent ∷ test (not (is_directory_node u l (node_at (nodes_of s) (place_numbered s p)))) Enotdir ∷ []) ≡ true) = first_passed _ _ h in
      let d : (cond (malformed_name x) true bad ≡ false) × (passed (test (unknown s p) Enoent ∷ test (not (has_upper u)) Erofs ∷ test (is_white (node_at (nodes_of s) (place_numbered s p))) Enoent ∷ test (not (is_directory_node u l (node_at (nodes_of s) (place_numbered s p)))) Enotdir ∷ []) ≡ true) = first_passed _ _ a.1 in
      let e : (unknown s p ≡ false) × (passed (test (not (has_upper u)) Erofs ∷ test (is_white (node_at (nodes_of s) (place_numbered s p))) Enoent ∷ test (not (is_directory_node u l (node_at (nodes_of s) (place_numbered s p)))) Enotdir ∷ []) ≡ true) = first_passed _ _ d.1 in
      let f : (not (has_upper u) ≡ false) × (passed (test (is_white (node_at (nodes_of s) (place_numbered s p))) Enoent ∷ test (not (is_directory_node u l (node_at (nodes_of s) (place_numbered s p)))) Enotdir ∷ []) ≡ true) = first_passed _ _ e.1 in
      let i : (is_white (node_at (nodes_of s) (place_numbered s p)) ≡ false) × (passed (test (not (is_directory_node u l (node_at (nodes_of s) (place_numbered s p)))) Enotdir ∷ []) ≡ true) = first_passed _ _ f.1 in
      let j : (not (is_directory_node u l (node_at (nodes_of s) (place_numbered s p))) ≡ false) × (passed [] ≡ true) = first_passed _ _ i.1 in
      let o : (is_refused (load_answer u l s (place_numbered s p)) ≡ false) × (passed (creation_tests u after (place_numbered after p) (name_in after p x) (whiteout_in u after p x) x r) ≡ true) = first_passed _ _ q in
      let inside-was : place_numbered s p < count_of s = found_inside s p (not-false (is_some (find_number (nodes_of s) p)) e.0) in
      let number-was : (node_at (nodes_of s) (place_numbered s p)).number ≡ p = known_number s p (not-false (is_some (find_number (nodes_of s) p)) e.0) in
      let m : Loaded u l s (place_numbered s p) after = load_complete u l s g (valid_children u l sound.tables) (place_numbered s p) inside-was (accepted_done (load_answer u l s (place_numbered s p)) o.0) in
      let mark : node_by (nodes_of after) p ≡ with_loaded (node_at (nodes_of s) (place_numbered s p)) 1 = ap (node_by (nodes_of after)) (sym number-was) ∙ m.mark in
      let y : Placed after p = placed after p (ap is_loaded mark ∙ marked_is (node_at (nodes_of s) (place_numbered s p))) in
      let node : node_at (nodes_of after) (place_numbered after p) ≡ with_loaded (node_at (nodes_of s) (place_numbered s p)) 1 = y.node_is ∙ mark in
      let walked : Walked u l (node_at (nodes_of after) (place_numbered after p)) =
      subst (Walked u l) (sym node) (loaded_walked u l (node_at (nodes_of s) (place_numbered s p)) (directory_top u l (node_at (nodes_of s) (place_numbered s p)) (not-false (is_directory_node u l (node_at (nodes_of s) (place_numbered s p))) j.0))) in
      seat_left u l after (upper_valid u l sound (eqb-true (length u) 8192 (not-false (has_upper u) f.0))) sound after_good upper_bytes lower_bytes (place_numbered after p) y.inside walked (ap is_loaded node ∙ marked_is (node_at (nodes_of s) (place_numbered s p)))
      x ((well_formed_exactly x).sound (ap not (either_false (malformed_name x) bad d.0))) name_bytes r c in_place
      (seat_named after p x) (ap (λ (z : ℕ). seat_of (nodes_of after) z x) y.number_is) (allowed u after (place_numbered after p) (name_in after p x) (whiteout_in u after p x) x r o.1)

  -- refused or not
  call_keeps : Keeps l (up (creation_spec u l s bad p x r).upper (creation_spec u l s bad p x r).state)
  call_keeps = go (passed (creation_before u l s bad p x)) refl (passed (load_tests u l s (place_numbered s p) ++ creation_behind u after p x r)) refl
    where
      go : (a : Bool) → passed (creation_before u l s bad p x) ≡ a → (b : Bool) → passed (load_tests u l s (place_numbered s p) ++ creation_behind u after p x r) ≡ b
          → Keeps l (up (cond a (cond b (created u l after p x r).table u) u) (cond a (cond b (created u l after p x r).state after) s))
      go true h true q = accepted_keeps h q
      go true h false q = record { good = after_good; sound = sound; bytes = upper_bytes }
      go false h b q = record { good = g; sound = sound; bytes = upper_bytes }

  pub creation_keeps : Good (creation_spec u l s bad p x r).upper l (creation_spec u l s bad p x r).state × SoundLayers (creation_spec u l s bad p x r).upper l
  creation_keeps = (call_keeps.good, call_keeps.sound)

  pub creation_bytes : AllBytes (creation_spec u l s bad p x r).upper
  creation_bytes = call_keeps.bytes
