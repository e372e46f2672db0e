-- What a link does where no upper whiteout is deleted keeps what holds between calls. Assumes nothing.
use Rattle.std.specs.Prelude.{Option, Some, None, Result, Ok, Err}
use mathlib.Core.Path.{◌≡◌, refl, sym, ap, ◌∙◌, subst}
use mathlib.Core.Logic.{◌≢◌}
use Prim.Native.Nat.{ℕ, zero, suc, ◌+◌, ◌≤◌, ◌<◌}
use native.Mathlib.Omega.{arith}
use native.Mathlib.Nat.{add-zero}
use native.Mathlib.Decide.{ℕ_discrete}
use mathlib.Core.Bool.{Bool, true, false, not, cond}
use mathlib.Core.List.{List, [], ◌∷◌}
use lib.Dec.{eqb}
use lib.ListN.{length, take, set, length-set}
use lib.Seq.{get_or-set_same, get_or-set_other}
use borrow.Author.Tests.{eqb-true, eq-eqb, ne_eqb}
use Rattle.layers.specs.Bytes.{AllBytes}
use Rattle.layers.specs.Names.{Name}
use Rattle.layers.specs.Change.{entry_naming}
use Rattle.layers.specs.Items.{records_of, entries_of, FitsTail}
use Rattle.layers.specs.Search.{one, free_entry_place, free_record_place, used_entries, used_records}
use Rattle.layers.specs.Rules.{WellFormed, Valid}
use Rattle.layers.proofs.EveryLaws.{no_true}
use Rattle.layers.proofs.RuleFacts.{present_below}
use Rattle.merge.specs.declared.node.Node.{Node}
use Rattle.merge.specs.Seats.{middle, seat_in, seat_of}
use Rattle.merge.specs.declared.stacks.Pair.{Pair}
use Rattle.merge.specs.Nodes.{no_node, node_name, key_of, capacity, count_of, nodes_of, node_at}
use Rattle.merge.specs.Heads.{next_of}
use Rattle.merge.specs.State.{find_number}
use Rattle.merge.specs.Methods.{with_stack, alone}
use Rattle.merge.specs.Scan.{is_walked}
use Rattle.merge.specs.Stacks.{pair, whiteout_of}
use Rattle.merge.specs.Load.{stack_list, suffices, is_loaded}
use Rattle.merge.proofs.TableLaws.{table_upper}
use Rattle.merge.proofs.NodeLists.{number_changed}
use Rattle.merge.proofs.StateLaws.{length_nodes}
use Rattle.calls.specs.Parents.{place_numbered, top_of, is_white, is_directory_node}
use Rattle.calls.specs.Upper.{Up, up, parent_place, in_upper, top_record, made_path, made_upper, copied_file, copied_up, without_whiteout}
use Rattle.calls.specs.Room.{missing_from, missing, missing_either}
use Rattle.calls.specs.Link.{linkable, linked}
use Rattle.demands.specs.Invariant.{node_by, Good}
use Rattle.demands.specs.Reads.{SoundLayers}
use Rattle.demands.proofs.AgreeLaws.{lower_table}
use Rattle.demands.proofs.CopiedFile.{top_first, node_stack, node_white, node_some, copied_valid, copied_nodes, copied_length, copied_next, copied_plain, copied_still, copied_records, copied_entries}
use Rattle.demands.proofs.MadePath.{Walked, MadePath, near_directory, place_same, made_path_lem}
use Rattle.demands.proofs.PlacesCounted.{entry_place_free}
use Rattle.demands.proofs.UpperBytes.{added_entry_bytes, naming_bytes, node_name_bytes, walked_byte}
use Rattle.demands.proofs.FilledNew.{seated_as_new}
use Rattle.demands.proofs.FilledOver.{held_place, linked_over_sound, linked_over_good}
use Rattle.demands.proofs.InvariantNodes.{place_by}
use Rattle.demands.proofs.TopLaws.{top_walked, directory_live}
use Rattle.demands.proofs.LinkedNew.{source_there, linked_sound, linked_good}
use Rattle.demands.proofs.MissingEither.{missing_both, missing_first}
use Rattle.demands.proofs.CopyUpKeeps.{Keeps, missing_fewer, missing_parent, other, path, same, b_now, other_now, white_now, file_now, low_now, high_now, tail_now, free, room, file_keeps}

-- ---- a file copied up

-- the table and the state that the file at place `j` and the directories missing above it leave, `c` in all, where `t` and `s` were
pub record Copied (t l s : List ℕ) (j c : ℕ) (u : Up) : Type 0 where
  pub valid : Valid u.table
  pub sound : SoundLayers u.table l
  pub good : Good u.table l u.state
  pub bytes : AllBytes u.table
  -- the file is in the upper layer, and still no directory
  pub upper : in_upper (node_at (nodes_of u.state) j) ≡ true
  pub file : is_directory_node u.table l (node_at (nodes_of u.state) j) ≡ false
  -- every node has its place, number, parent and name
  pub count_same : count_of u.state ≡ count_of s
  pub found_same : (x : ℕ) → find_number (nodes_of u.state) x ≡ find_number (nodes_of s) x
  pub number_same : (i : ℕ) → (node_at (nodes_of u.state) i).number ≡ (node_at (nodes_of s) i).number
  pub key_same : (i : ℕ) → key_of (node_at (nodes_of u.state) i) ≡ key_of (node_at (nodes_of s) i)
  -- those in the upper layer still are, every directory is one, and another file is as it was
  pub upper_still : (i : ℕ) → in_upper (node_at (nodes_of s) i) ≡ true → in_upper (node_at (nodes_of u.state) i) ≡ true
  pub walked_still : (i : ℕ) → Walked t l (node_at (nodes_of s) i) → Walked u.table l (node_at (nodes_of u.state) i)
  pub plain_same : (i : ℕ) → i ≢ j → (Walked t l (node_at (nodes_of s) i) → ⊥) → node_at (nodes_of u.state) i ≡ node_at (nodes_of s) i
  -- no mark of a node changes, nor the state's length or its next number
  pub loaded_same : (i : ℕ) → is_loaded (node_at (nodes_of u.state) i) ≡ is_loaded (node_at (nodes_of s) i)
  pub white_same : (i : ℕ) → (node_at (nodes_of u.state) i).white ≡ (node_at (nodes_of s) i).white
  pub length_same : length u.state ≡ length s
  pub next_same : next_of u.state ≡ next_of s
  pub records : used_records (records_of u.table) ≡ used_records (records_of t) + c
  pub entries : used_entries (entries_of u.table) ≡ used_entries (entries_of t) + c

-- where the upper table's directories are directories still, so are the nodes
walked_there : (t w l : List ℕ) → length t ≡ 8192 → length w ≡ 8192 → ((q : ℕ) → is_walked t q ≡ true → is_walked w q ≡ true) → (n : Node) → Walked t l n → Walked w l n
walked_there t w l a b still n h = go (ℕ_discrete (top_of n).layer 0)
  where
    go : Dec ((top_of n).layer ≡ 0) → Walked w l n
    go (yes z) =
        ap (λ (m : List ℕ). is_walked m (top_of n).number) (sym (table_upper w l (top_of n).layer z b))
        ∙ still (top_of n).number (ap (λ (m : List ℕ). is_walked m (top_of n).number) (table_upper t l (top_of n).layer z a) ∙ h)
    go (no z) = ap (λ (m : List ℕ). is_walked m (top_of n).number) (lower_table w t l (top_of n).layer z) ∙ h

-- a node that has a stack and is no directory has none on top
file_top : (t l : List ℕ) (n : Node) → stack_list n ≢ [] → is_directory_node t l n ≡ false → Walked t l n → ⊥
unfolding is_directory_node
file_top t l n some file w =
    let deep : n.depth ≢ 0 = λ z. some (ap (λ (m : ℕ). take m n.stack) z) in
    no_true (sym (sym (rw (ne_eqb n.depth 0 deep) refl) ∙ file) ∙ w)

module _ (t l s : List ℕ) (v : Valid t) (sound : SoundLayers t l) (g : Good t l s) (upper_bytes : AllBytes t) (lower_bytes : AllBytes l) (j : ℕ) (b : j < count_of s)
    (room_records : used_records (records_of t) + length (missing s j) ≤ 128) (room_entries : used_entries (entries_of t) + length (missing s j) ≤ 128)
    (white : is_white (node_at (nodes_of s) j) ≡ false) (file : is_directory_node t l (node_at (nodes_of s) j) ≡ false)
  where
    module _ (low : in_upper (node_at (nodes_of s) j) ≡ false) where
      abbrev m : Up
      m = made_upper 16 l (parent_place s j) (up t s)

      abbrev after : Up
      after = copied_file l j (up m.table m.state)

      p : MadePath t l s (parent_place s j) (length (missing_from 16 s (parent_place s j))) m
      p = path t l s v sound g upper_bytes lower_bytes j b room_records room_entries white low file

      was : node_at (nodes_of m.state) j ≡ node_at (nodes_of s) j
      was = same t l s v sound g upper_bytes lower_bytes j b room_records room_entries white low file

      inside : j < count_of m.state
      inside = b_now t l s v sound g upper_bytes lower_bytes j b room_records room_entries white low file

      not_root : (node_at (nodes_of m.state) j).number ≢ 1
      not_root = other_now t l s v sound g upper_bytes lower_bytes j b room_records room_entries white low file

      white_m : is_white (node_at (nodes_of m.state) j) ≡ false
      white_m = white_now t l s v sound g upper_bytes lower_bytes j b room_records room_entries white low file

      file_m : is_directory_node m.table l (node_at (nodes_of m.state) j) ≡ false
      file_m = file_now t l s v sound g upper_bytes lower_bytes j b room_records room_entries white low file

      low_m : in_upper (node_at (nodes_of m.state) j) ≡ false
      low_m = low_now t l s v sound g upper_bytes lower_bytes j b room_records room_entries white low file

      high_m : in_upper (node_at (nodes_of m.state) (parent_place m.state j)) ≡ true
      high_m = high_now t l s v sound g upper_bytes lower_bytes j b room_records room_entries white low file

      keeps : Keeps l after
      keeps = file_keeps t l s v sound g upper_bytes lower_bytes j b room_records room_entries white low file

      fr : (i : ℕ) × (free_record_place (records_of m.table) ≡ Some i)
      fr = free t l s v sound g upper_bytes lower_bytes j b room_records room_entries white low file

      fe : (i : ℕ) × (free_entry_place (entries_of m.table) ≡ Some i)
      fe = room t l s v sound g upper_bytes lower_bytes j b room_records room_entries white low file

      tl : FitsTail (top_record m.table l (node_at (nodes_of m.state) j))
      tl = tail_now t l s v sound g upper_bytes lower_bytes j b room_records room_entries white low file

      valid_u : Valid after.table
      valid_u = copied_valid m.table l m.state p.valid p.good j inside not_root white_m file_m low_m high_m p.sound tl fr.0 fe.0 fr.1 fe.1

      abbrev a : Node
      a = alone (node_at (nodes_of m.state) j) (pair 0 fr.0)

      nodes_are : nodes_of after.state ≡ set (nodes_of m.state) j a
      nodes_are = copied_nodes m.table l m.state p.valid p.good j inside not_root white_m file_m low_m high_m p.sound tl fr.0 fe.0 fr.1 fe.1

      here_is : node_at (nodes_of after.state) j ≡ a
      here_is = ap (λ (ns : List Node). node_at ns j) nodes_are ∙ get_or-set_same (nodes_of m.state) j a no_node (rw (length_nodes m.state) inside)

      other_is : (i : ℕ) → i ≢ j → node_at (nodes_of after.state) i ≡ node_at (nodes_of m.state) i
      other_is i e = ap (λ (ns : List Node). node_at ns i) nodes_are ∙ get_or-set_other (nodes_of m.state) j i a no_node e

      upper_u : in_upper (node_at (nodes_of after.state) j) ≡ true
      unfolding in_upper with_stack
      upper_u = ap in_upper here_is

      file_u : is_directory_node after.table l (node_at (nodes_of after.state) j) ≡ false
      unfolding is_directory_node with_stack
      file_u =
          ap (is_directory_node after.table l) here_is
          ∙ (ap (λ (q : List ℕ). is_walked q fr.0) (sym (table_upper after.table l 0 refl valid_u.size))
          ∙ copied_plain m.table l m.state p.valid p.good j inside not_root white_m file_m low_m high_m p.sound tl fr.0 fe.0 fr.1 fe.1)

      -- what `alone` leaves of a node is as it was everywhere
      module _ {A : Type 0} (f : Node → A) (h : f (alone (node_at (nodes_of (made_upper 16 l (parent_place s j) (up t s)).state) j) (pair 0 fr.0)) ≡ f (node_at (nodes_of (made_upper 16 l (parent_place s j) (up t s)).state) j)) where
        each_same : (i : ℕ) → f (node_at (nodes_of after.state) i) ≡ f (node_at (nodes_of m.state) i)
        each_same i = go (ℕ_discrete i j)
          where
            go : Dec (i ≡ j) → f (node_at (nodes_of after.state) i) ≡ f (node_at (nodes_of m.state) i)
            go (yes e) = rw e (ap f here_is ∙ h)
            go (no e) = ap f (other_is i e)

      each_upper : (i : ℕ) → in_upper (node_at (nodes_of s) i) ≡ true → in_upper (node_at (nodes_of after.state) i) ≡ true
      each_upper i h = go (ℕ_discrete i j)
        where
          go : Dec (i ≡ j) → in_upper (node_at (nodes_of after.state) i) ≡ true
          go (yes e) = rw e upper_u
          go (no e) = ap in_upper (other_is i e) ∙ (ap in_upper (p.upper_same i h) ∙ h)

      each_walked : (i : ℕ) → Walked t l (node_at (nodes_of s) i) → Walked after.table l (node_at (nodes_of after.state) i)
      each_walked i h = go (ℕ_discrete i j)
        where
          go : Dec (i ≡ j) → Walked after.table l (node_at (nodes_of after.state) i)
          go (yes e) =
              absurd (file_top t l (node_at (nodes_of s) j) (node_some t l s v g j b (other t l s v sound g upper_bytes lower_bytes j b room_records room_entries white low file)) file
              (subst (λ (q : ℕ). Walked t l (node_at (nodes_of s) q)) e h))
          go (no e) =
              subst (Walked after.table l) (sym (other_is i e))
              (walked_there m.table after.table l p.valid.size valid_u.size
              (copied_still m.table l m.state p.valid p.good j inside not_root white_m file_m low_m high_m p.sound tl fr.0 fe.0 fr.1 fe.1)
              (node_at (nodes_of m.state) i) (p.walked_still i h))

      fewer_m : length (missing s j) ≡ suc (length (missing_from 16 s (parent_place s j)))
      fewer_m = missing_parent s 16 j low

      file_copied : Copied t l s j (length (missing s j)) after
      unfolding with_stack is_loaded
      file_copied =
          record {
            valid = valid_u;
            sound = keeps.sound;
            good = keeps.good;
            bytes = keeps.bytes;
            upper = upper_u;
            file = file_u;
            count_same = sym (length_nodes after.state) ∙ (ap length nodes_are ∙ (length-set (nodes_of m.state) j a ∙ (length_nodes m.state ∙ p.count_same)));
            found_same = λ x. ap (λ (ns : List Node). find_number ns x) nodes_are ∙ (number_changed (nodes_of m.state) j a refl x ∙ p.found_same x);
            number_same = λ i. each_same (λ n. n.number) refl i ∙ p.number_same i;
            key_same = λ i. each_same key_of refl i ∙ p.key_same i;
            upper_still = each_upper;
            walked_still = each_walked;
            plain_same = λ i e h. other_is i e ∙ p.plain_same i h;
            loaded_same = λ i. each_same is_loaded refl i ∙ p.loaded_same i;
            white_same = λ i. each_same (λ n. n.white) refl i ∙ p.white_same i;
            length_same = copied_length m.table l m.state p.valid p.good j inside not_root white_m file_m low_m high_m p.sound tl fr.0 fe.0 fr.1 fe.1 ∙ p.length_same;
            next_same = copied_next m.table l m.state p.valid p.good j inside not_root white_m file_m low_m high_m p.sound tl fr.0 fe.0 fr.1 fe.1 ∙ p.next_same;
            records =
                let e : used_records (records_of m.table) ≡ used_records (records_of t) + length (missing_from 16 s (parent_place s j)) = p.records in
                let h : used_records (records_of after.table) ≡ suc (used_records (records_of m.table)) =
                copied_records m.table l m.state p.valid p.good j inside not_root white_m file_m low_m high_m p.sound tl fr.0 fe.0 fr.1 fe.1 in
                let k : length (missing_from 17 s j) ≡ suc (length (missing_from 16 s (parent_place s j))) = fewer_m in
                omega arith;
            entries =
                let e : used_entries (entries_of m.table) ≡ used_entries (entries_of t) + length (missing_from 16 s (parent_place s j)) = p.entries in
                let h : used_entries (entries_of after.table) ≡ suc (used_entries (entries_of m.table)) =
                copied_entries m.table l m.state p.valid p.good j inside not_root white_m file_m low_m high_m p.sound tl fr.0 fe.0 fr.1 fe.1 in
                let k : length (missing_from 17 s j) ≡ suc (length (missing_from 16 s (parent_place s j))) = fewer_m in
                omega arith;
          }

    -- a file in the upper layer stays
    none_copied : (h : in_upper (node_at (nodes_of s) j) ≡ true) → Copied t l s j (length (missing s j)) (up t s)
    unfolding missing_from
    none_copied h =
        let z : length (missing_from 17 s j) ≡ 0 = rw h refl in
        record {
          valid = v;
          sound = sound;
          good = g;
          bytes = upper_bytes;
          upper = h;
          file = file;
          count_same = refl;
          found_same = λ x. refl;
          number_same = λ i. refl;
          key_same = λ i. refl;
          upper_still = λ i e. e;
          walked_still = λ i w. w;
          plain_same = λ i _ _. refl;
          loaded_same = λ i. refl;
          white_same = λ i. refl;
          length_same = refl;
          next_same = refl;
          records = sym (ap (λ (q : ℕ). used_records (records_of t) + q) z ∙ add-zero (used_records (records_of t)));
          entries = sym (ap (λ (q : ℕ). used_entries (entries_of t) + q) z ∙ add-zero (used_entries (entries_of t)));
        }

    -- where there is room, the file is copied up
    pub copied_up_lem : Copied t l s j (length (missing s j)) (copied_up l j (up t s))
    unfolding copied_up
    copied_up_lem = go (in_upper (node_at (nodes_of s) j)) refl
      where
        go : (c : Bool) → in_upper (node_at (nodes_of s) j) ≡ c
            → Copied t l s j (length (missing s j)) (cond c (up t s) (cond (is_directory_node t l (node_at (nodes_of s) j)) (made_path l j (up t s)) (copied_file l j (made_path l (parent_place s j) (up t s)))))
        go true e = none_copied e
        go false e = rw file (file_copied e)

-- ---- the seat and the room of a state that has the same keys

seat_in_same : (m : ℕ) (ns ms : List Node) → ((i : ℕ) → key_of (node_at ns i) ≡ key_of (node_at ms i)) → (x : Name) (lo hi : ℕ) → seat_in m ns x lo hi ≡ seat_in m ms x lo hi
unfolding seat_in
seat_in_same zero ns ms e x lo hi = refl
seat_in_same (suc m) ns ms e x lo hi = rw (e (middle lo hi), seat_in_same m ns ms e x lo (middle lo hi), seat_in_same m ns ms e x (suc (middle lo hi)) hi) refl

seat_same : (s w : List ℕ) → count_of w ≡ count_of s → ((i : ℕ) → key_of (node_at (nodes_of w) i) ≡ key_of (node_at (nodes_of s) i)) → (p : ℕ) (x : Name) → seat_of (nodes_of w) p x ≡ seat_of (nodes_of s) p x
seat_same s w c e p x =
    let n : length (nodes_of w) ≡ length (nodes_of s) = length_nodes w ∙ (c ∙ sym (length_nodes s)) in
    ap (λ (m : ℕ). seat_in m (nodes_of w) (p ∷ x) 0 m) n ∙ seat_in_same (length (nodes_of s)) (nodes_of w) (nodes_of s) e (p ∷ x) 0 (length (nodes_of s))

suffices_same : (s w : List ℕ) → length w ≡ length s → count_of w ≡ count_of s → next_of w ≡ next_of s → (m : ℕ) → suffices w m ≡ suffices s m
unfolding suffices capacity
suffices_same s w a c n m = rw (a, c, n) refl

-- ---- a whiteout's node

module _ (t l s : List ℕ) (v : Valid t) (g : Good t l s) (f : ℕ) (b : f < count_of s) (white : is_white (node_at (nodes_of s) f) ≡ true) where
  marked_not : (node_at (nodes_of s) f).white ≢ 0
  unfolding is_white
  marked_not z = no_true (sym (ap not (eq-eqb (node_at (nodes_of s) f).white 0 z)) ∙ white)

  -- is not the root
  white_other : (node_at (nodes_of s) f).number ≢ 1
  white_other z = marked_not (ap (λ (n : Node). n.white) (sym (place_by (nodes_of s) g.nodes.once f (rw (length_nodes s) b)) ∙ ap (node_by (nodes_of s)) z) ∙ g.nodes.coherent.root_white)

  -- and is no directory
  white_plain : Walked t l (node_at (nodes_of s) f) → ⊥
  unfolding top_walked one
  white_plain h =
      let p : (q : List Pair) × (stack_list (node_at (nodes_of s) f) ≡ top_of (node_at (nodes_of s) f) ∷ q) = top_first (node_at (nodes_of s) f) (node_some t l s v g f b white_other) in
      let a : top_walked t l (stack_list (node_at (nodes_of s) f)) ≡ true = ap (top_walked t l) p.1 ∙ h in
      let c : whiteout_of t l (stack_list (node_at (nodes_of s) (parent_place s f))) (node_name (node_at (nodes_of s) f)) ≡ false = directory_live t l (stack_list (node_at (nodes_of s) (parent_place s f))) (node_name (node_at (nodes_of s) f)) (ap (top_walked t l) (sym (node_stack t l s v g f b white_other)) ∙ a) in
      marked_not (node_white t l s v g f b white_other ∙ ap one c)

-- ---- after it the link's parent

module _ (t l s : List ℕ) (v : Valid t) (sound : SoundLayers t l) (g : Good t l s) (upper_bytes : AllBytes t) (lower_bytes : AllBytes l) (j : ℕ) (bj : j < count_of s) (white : is_white (node_at (nodes_of s) j) ≡ false) (file : is_directory_node t l (node_at (nodes_of s) j) ≡ false)
    (k : ℕ) (bk : k < count_of s) (dir : Walked t l (node_at (nodes_of s) k)) (room_records : used_records (records_of t) + missing_either s j k ≤ 128) (room_entries : used_entries (entries_of t) + suc (missing_either s j k) ≤ 128)
  where
    abbrev u : Up
    u = copied_up l j (up t s)

    abbrev w : Up
    w = made_path l k (copied_up l j (up t s))

    q : Copied t l s j (length (missing s j)) u
    q = let f : length (missing_from 17 s j) ≤ missing_either s j k = missing_first t l s v g j k bj in copied_up_lem t l s v sound g upper_bytes lower_bytes j bj (omega arith) (omega arith) white file

    parent_same : (i : ℕ) → parent_place u.state i ≡ parent_place s i
    parent_same i =
        let e : key_of (node_at (nodes_of u.state) i) ≡ key_of (node_at (nodes_of s) i) = q.key_same i in
        let f : (node_at (nodes_of u.state) i).parent ≡ (node_at (nodes_of s) i).parent = cc in
        ap (place_numbered u.state) f ∙ place_same s u.state q.count_same (node_at (nodes_of s) i).parent (q.found_same (node_at (nodes_of s) i).parent)

    both : length (missing u.state k) + length (missing s j) ≤ missing_either s j k
    both = missing_both t l s v g u.table u.state q.valid q.good q.count_same q.number_same parent_same q.upper_still j k bj q.upper

    bk_u : k < count_of u.state
    bk_u = rw q.count_same bk

    r : MadePath u.table l u.state k (length (missing_from 16 u.state k)) w
    r =
        let a : length (missing_from 17 u.state k) + length (missing_from 17 s j) ≤ missing_either s j k = both in
        let c : length (missing_from 16 u.state k) ≤ length (missing_from 17 u.state k) = missing_fewer u.state 16 k in
        let d : used_records (records_of u.table) ≡ used_records (records_of t) + length (missing_from 17 s j) = q.records in
        let e : used_entries (entries_of u.table) ≡ used_entries (entries_of t) + length (missing_from 17 s j) = q.entries in
        made_path_lem u.table l u.state q.valid q.sound q.good 16 k bk_u (q.walked_still k dir) (near_directory u.table l u.state q.good q.sound k bk_u (q.walked_still k dir)) (omega arith) (omega arith)

    bytes_w : AllBytes w.table
    bytes_w = r.bytes q.bytes lower_bytes

    count_w : count_of w.state ≡ count_of s
    count_w = r.count_same ∙ q.count_same

    bj_w : j < count_of w.state
    bj_w = rw count_w bj

    bk_w : k < count_of w.state
    bk_w = rw count_w bk

    upper_j : in_upper (node_at (nodes_of w.state) j) ≡ true
    upper_j = ap in_upper (r.upper_same j q.upper) ∙ q.upper

    file_j : is_directory_node w.table l (node_at (nodes_of w.state) j) ≡ false
    file_j = r.file_still j (rw q.count_same bj) q.upper q.file

    white_j : is_white (node_at (nodes_of w.state) j) ≡ false
    unfolding is_white
    white_j = ap (λ (m : ℕ). not (eqb m 0)) (r.white_same j ∙ q.white_same j) ∙ white

    walked_k : is_walked w.table (top_of (node_at (nodes_of w.state) k)).number ≡ true
    unfolding in_upper
    walked_k =
        ap (λ (m : List ℕ). is_walked m (top_of (node_at (nodes_of w.state) k)).number) (table_upper w.table l (top_of (node_at (nodes_of w.state) k)).layer (eqb-true (top_of (node_at (nodes_of w.state) k)).layer 0 r.upper) r.valid.size)
        ∙ r.walked_still k (q.walked_still k dir)

    number_k : (node_at (nodes_of w.state) k).number ≡ (node_at (nodes_of s) k).number
    number_k = r.number_same k ∙ q.number_same k

    free_entry_lem : (i : ℕ) × (free_entry_place (entries_of w.table) ≡ Some i)
    free_entry_lem =
        let a : length (missing_from 17 u.state k) + length (missing_from 17 s j) ≤ missing_either s j k = both in
        let c : length (missing_from 16 u.state k) ≤ length (missing_from 17 u.state k) = missing_fewer u.state 16 k in
        let e : used_entries (entries_of u.table) ≡ used_entries (entries_of t) + length (missing_from 17 s j) = q.entries in
        let f : used_entries (entries_of w.table) ≡ used_entries (entries_of u.table) + length (missing_from 16 u.state k) = r.entries in
        entry_place_free w.table (omega arith)

    seat_w : (x : Name) → seat_of (nodes_of w.state) (node_at (nodes_of w.state) k).number x ≡ seat_of (nodes_of s) (node_at (nodes_of s) k).number x
    seat_w x = ap (λ (p : ℕ). seat_of (nodes_of w.state) p x) number_k ∙ seat_same s w.state count_w (λ i. r.key_same i ∙ q.key_same i) (node_at (nodes_of s) k).number x

    linked_bytes : (z : Result ℕ ℕ) (x : Name) → AllBytes x → AllBytes (linked j k z x w).table
    unfolding linked
    linked_bytes z x h =
        let c : (1 ≤ (top_of (node_at (nodes_of w.state) j)).number) × ((top_of (node_at (nodes_of w.state) j)).number ≤ 128) = present_below w.table (top_of (node_at (nodes_of w.state) j)).number (source_there w.table l w.state r.valid r.good j bj_w upper_j file_j) in
        let d : (top_of (node_at (nodes_of w.state) j)).number ≤ 128 = c.1 in
        added_entry_bytes w.table bytes_w (entry_naming (top_of (node_at (nodes_of w.state) k)).number x (top_of (node_at (nodes_of w.state) j)).number)
        (naming_bytes (top_of (node_at (nodes_of w.state) k)).number x (top_of (node_at (nodes_of w.state) j)).number (walked_byte w.table r.valid (top_of (node_at (nodes_of w.state) k)).number walked_k) (omega arith) h)

    without : (f : Option ℕ) → linkable l j k f None (up t s) ≡ w
    unfolding without_whiteout
    without f = refl

    -- a name without a node gets one
    module _ (loaded : is_loaded (node_at (nodes_of s) k) ≡ true) (x : Name) (name_bytes : AllBytes x) (well : WellFormed x) (short : length x ≤ 28) (z : ℕ) (seat : seat_of (nodes_of s) (node_at (nodes_of s) k).number x ≡ Err z) (more : suffices s 1 ≡ true) where
      loaded_w : is_loaded (node_at (nodes_of w.state) k) ≡ true
      loaded_w = r.loaded_same k ∙ (q.loaded_same k ∙ loaded)

      open_w : seat_of (nodes_of w.state) (node_at (nodes_of w.state) k).number x ≡ Err z
      open_w = seat_w x ∙ seat

      more_w : suffices w.state 1 ≡ true
      more_w = suffices_same s w.state (r.length_same ∙ q.length_same) count_w (r.next_same ∙ q.next_same) 1 ∙ more

      new_keeps : Keeps l (linked j k (Err z) x (up w.table w.state))
      new_keeps =
          record {
            good = linked_good w.table l w.state r.valid r.good j bj_w upper_j file_j k bk_w r.upper walked_k loaded_w x well short z open_w free_entry_lem.0 free_entry_lem.1 white_j more_w
                (seated_as_new w.state r.good.nodes.sorted (node_at (nodes_of w.state) k).number x short z open_w (top_of (node_at (nodes_of w.state) j)).number);
            sound = linked_sound w.table l w.state r.valid r.good j bj_w upper_j file_j k bk_w r.upper walked_k loaded_w x well short z open_w free_entry_lem.0 free_entry_lem.1 r.sound;
            bytes = linked_bytes (Err z) x name_bytes;
          }

      pub link_new_keeps : (f : Option ℕ) → Keeps l (linked j k (Err z) x (linkable l j k f None (up t s)))
      link_new_keeps f = subst (λ (y : Up). Keeps l (linked j k (Err z) x y)) (sym (without f)) new_keeps

    -- the node of a name that has one, a whiteout's of a lower layer, gets the record
    module _ (x : Name) (z : ℕ) (seat : seat_of (nodes_of s) (node_at (nodes_of s) k).number x ≡ Ok z) (marked : is_white (node_at (nodes_of s) z) ≡ true) (lower : in_upper (node_at (nodes_of s) z) ≡ false) where
      held_s : (z < count_of s) × (key_of (node_at (nodes_of s) z) ≡ (node_at (nodes_of s) k).number ∷ x)
      held_s = held_place t l s g (node_at (nodes_of s) k).number x z seat

      held_w : (z < count_of w.state) × (key_of (node_at (nodes_of w.state) z) ≡ (node_at (nodes_of w.state) k).number ∷ x)
      held_w = held_place w.table l w.state r.good (node_at (nodes_of w.state) k).number x z (seat_w x ∙ seat)

      same_u : node_at (nodes_of u.state) z ≡ node_at (nodes_of s) z
      same_u = q.plain_same z (λ e. no_true (sym white ∙ (ap (λ (i : ℕ). is_white (node_at (nodes_of s) i)) (sym e) ∙ marked))) (white_plain t l s v g z held_s.0 marked)

      lower_u : in_upper (node_at (nodes_of u.state) z) ≡ false
      lower_u = ap in_upper same_u ∙ lower

      marked_u : is_white (node_at (nodes_of u.state) z) ≡ true
      marked_u = ap is_white same_u ∙ marked

      same_w : node_at (nodes_of w.state) z ≡ node_at (nodes_of u.state) z
      same_w = r.plain_same z (white_plain u.table l u.state q.valid q.good z (rw q.count_same held_s.0) marked_u)

      lower_w : in_upper (node_at (nodes_of w.state) z) ≡ false
      lower_w = ap in_upper same_w ∙ lower_u

      marked_w : is_white (node_at (nodes_of w.state) z) ≡ true
      marked_w = ap is_white same_w ∙ marked_u

      name_w : AllBytes x
      name_w =
          let e : key_of (node_at (nodes_of w.state) z) ≡ (node_at (nodes_of w.state) k).number ∷ x = held_w.1 in
          let y : node_name (node_at (nodes_of w.state) z) ≡ x = cc in
          subst AllBytes y (node_name_bytes w.table l w.state bytes_w lower_bytes r.good z held_w.0 (white_other w.table l w.state r.valid r.good z held_w.0 marked_w))

      over_keeps : Keeps l (linked j k (Ok z) x (up w.table w.state))
      over_keeps =
          record {
            good = linked_over_good w.table l w.state r.valid r.good r.sound k bk_w r.upper walked_k z held_w.0 x held_w.1 marked_w lower_w j bj_w upper_j file_j free_entry_lem.0 free_entry_lem.1 white_j;
            sound = linked_over_sound w.table l w.state r.valid r.good r.sound k bk_w r.upper walked_k z held_w.0 x held_w.1 marked_w lower_w j bj_w upper_j file_j free_entry_lem.0 free_entry_lem.1;
            bytes = linked_bytes (Ok z) x name_w;
          }

      pub link_over_keeps : (f : Option ℕ) → Keeps l (linked j k (Ok z) x (linkable l j k f None (up t s)))
      link_over_keeps f = subst (λ (y : Up). Keeps l (linked j k (Ok z) x y)) (sym (without f)) over_keeps
