-- A copy-up keeps what holds between calls, whatever it answers. Assumes nothing.
use Rattle.std.specs.Prelude.{Option, Some, None, is_some}
use mathlib.Core.Path.{◌≡◌, refl, sym, ap, ◌∙◌, subst}
use mathlib.Core.Logic.{◌≢◌}
use Prim.Native.Nat.{ℕ, zero, suc, ◌+◌, ◌≤◌, ◌<◌}
use native.Mathlib.Omega.{arith}
use mathlib.Core.Bool.{Bool, true, false, not, cond}
use mathlib.Core.List.{List, [], ◌∷◌, ◌++◌}
use lib.Dec.{eqb}
use lib.ListN.{length}
use borrow.Author.Tests.{eqb-true, eqb-false, not-false}
use Rattle.layers.specs.Bytes.{AllBytes}
use Rattle.layers.specs.Items.{records_of, entries_of, record_at, FitsTail}
use Rattle.layers.specs.Search.{free_entry_place, free_record_place, used_entries, used_records}
use Rattle.layers.specs.Rules.{Valid}
use Rattle.layers.proofs.EveryLaws.{no_true}
use Rattle.merge.specs.declared.node.Node.{Node}
use Rattle.merge.specs.Nodes.{node_name, count_of, nodes_of, node_at}
use Rattle.merge.specs.State.{find_number}
use Rattle.merge.specs.Tables.{table_of}
use Rattle.merge.specs.Scan.{is_walked}
use Rattle.merge.proofs.StateLaws.{length_nodes}
use Rattle.calls.specs.Refusal.{Test, test, passed}
use Rattle.calls.specs.Lengths.{lengths_test}
use Rattle.calls.specs.Parents.{place_of, place_numbered, numbered, unknown, top_of, is_white, is_directory_node}
use Rattle.calls.specs.Upper.{Up, up, parent_place, in_upper, top_record, file_like, made_path, made_upper, copied_file, copied_up}
use Rattle.calls.specs.Room.{missing_from, missing, overfull}
use Rattle.calls.specs.Writing.{has_upper}
use Rattle.calls.specs.CopyUp.{copy_up_before, copy_up_tests, copy_up_spec}
use Rattle.calls.specs.declared.refusal.Refusal.TheVariants.{Enoent, Enospc, Erofs}
use Rattle.demands.specs.Invariant.{Good}
use Rattle.demands.specs.Reads.{SoundLayers}
use Rattle.demands.proofs.AgreeLaws.{lower_table}
use Rattle.demands.proofs.InvariantNodes.{found_below}
use Rattle.demands.proofs.RecordFits.{bytes_table, top_fits}
use Rattle.demands.proofs.PlacesCounted.{record_place_free, entry_place_free, not_overfull_missing}
use Rattle.demands.proofs.MadeDirectory.{parent_earlier, parent_inside, parent_walked}
use Rattle.demands.proofs.UpperBytes.{add_new_bytes, file_like_bytes, kind_byte, node_name_bytes}
use Rattle.demands.proofs.CopiedFile.{copied_valid, copied_good}
use Rattle.demands.proofs.MadePath.{Walked, MadePath, near_directory, root_upper, place_same, upper_byte, made_path_lem}
use Rattle.demands.proofs.SoundUpper.{sound_changed, upper_valid}

-- what a writing call leaves: the invariant, layers that keep every rule, and an upper table of bytes
pub record Keeps (l : List ℕ) (u : Up) : Type 0 where
  pub good : Good u.table l u.state
  pub sound : SoundLayers u.table l
  pub bytes : AllBytes u.table

-- fewer steps find fewer missing
pub missing_fewer : (s : List ℕ) (m k : ℕ) → length (missing_from m s k) ≤ length (missing_from (suc m) s k)
unfolding missing_from
missing_fewer s zero k = omega arith
missing_fewer s (suc m) k = go (in_upper (node_at (nodes_of s) k)) (missing_fewer s m (parent_place s k))
  where
    go : (c : Bool) → length (missing_from m s (parent_place s k)) ≤ length (missing_from (suc m) s (parent_place s k)) → length (cond c [] (k ∷ missing_from m s (parent_place s k))) ≤ length (cond c [] (k ∷ missing_from (suc m) s (parent_place s k)))
    go true h = omega arith
    go false h = omega arith

pub missing_parent : (s : List ℕ) (m k : ℕ) → in_upper (node_at (nodes_of s) k) ≡ false → length (missing_from (suc m) s k) ≡ suc (length (missing_from m s (parent_place s k)))
unfolding missing_from
missing_parent s m k e = rw e refl

-- a directory's first record is walked
directory_top : (t l : List ℕ) (n : Node) → is_directory_node t l n ≡ true → Walked t l n
unfolding is_directory_node
directory_top t l n = go (eqb n.depth 0)
  where
    go : (b : Bool) → cond b false (is_walked (table_of t l (top_of n).layer) (top_of n).number) ≡ true → Walked t l n
    go true h = no_true h
    go false h = h

-- the upper layer changed, a node on a lower record is the directory it was, or none
directory_same : (t w l : List ℕ) (n : Node) → (top_of n).layer ≢ 0 → is_directory_node w l n ≡ is_directory_node t l n
unfolding is_directory_node
directory_same t w l n h = ap (λ (m : List ℕ). cond (eqb n.depth 0) false (is_walked m (top_of n).number)) (lower_table w t l (top_of n).layer h)

-- ---- a node copied up

module _ (t l s : List ℕ) (v : Valid t) (sound : SoundLayers t l) (g : Good t l s) (upper_bytes : AllBytes t) (lower_bytes : AllBytes l) (k : ℕ) (b : k < count_of s)
    (room_records : used_records (records_of t) + length (missing s k) ≤ 128) (room_entries : used_entries (entries_of t) + length (missing s k) ≤ 128)
  where
    directory_keeps : is_directory_node t l (node_at (nodes_of s) k) ≡ true → Keeps l (made_path l k (up t s))
    directory_keeps d =
        let w : Walked t l (node_at (nodes_of s) k) = directory_top t l (node_at (nodes_of s) k) d in
        let f : length (missing_from 16 s k) ≤ length (missing_from 17 s k) = missing_fewer s 16 k in
        let p : MadePath t l s k (length (missing_from 16 s k)) (made_upper 16 l k (up t s)) = made_path_lem t l s v sound g 16 k b w (near_directory t l s g sound k b w) (omega arith) (omega arith) in
        record { good = p.good; sound = p.sound; bytes = p.bytes upper_bytes lower_bytes }

    module _ (white : is_white (node_at (nodes_of s) k) ≡ false) (low : in_upper (node_at (nodes_of s) k) ≡ false) (file : is_directory_node t l (node_at (nodes_of s) k) ≡ false) where
      pub other : (node_at (nodes_of s) k).number ≢ 1
      other z = no_true (sym low ∙ root_upper t l s g v.size k b z)

      abbrev u : Up
      u = made_upper 16 l (parent_place s k) (up t s)

      fewer : length (missing_from 17 s k) ≡ suc (length (missing_from 16 s (parent_place s k)))
      fewer = missing_parent s 16 k low

      pub path : MadePath t l s (parent_place s k) (length (missing_from 16 s (parent_place s k))) u
      path =
          let f : length (missing_from 17 s k) ≡ suc (length (missing_from 16 s (parent_place s k))) = fewer in
          made_path_lem t l s v sound g 16 (parent_place s k) (parent_inside t l s g k b other) (parent_walked t l s g k b other)
          (near_directory t l s g sound (parent_place s k) (parent_inside t l s g k b other) (parent_walked t l s g k b other)) (omega arith) (omega arith)

      pub same : node_at (nodes_of u.state) k ≡ node_at (nodes_of s) k
      same = path.later_same k (parent_earlier t l s g k b other)

      top_lower : (top_of (node_at (nodes_of s) k)).layer ≢ 0
      unfolding in_upper
      top_lower = eqb-false (top_of (node_at (nodes_of s) k)).layer 0 low

      pub b_now : k < count_of u.state
      b_now = rw path.count_same b

      pub other_now : (node_at (nodes_of u.state) k).number ≢ 1
      other_now = rw same other

      pub white_now : is_white (node_at (nodes_of u.state) k) ≡ false
      white_now = ap is_white same ∙ white

      pub file_now : is_directory_node u.table l (node_at (nodes_of u.state) k) ≡ false
      file_now = ap (is_directory_node u.table l) same ∙ (directory_same t u.table l (node_at (nodes_of s) k) top_lower ∙ file)

      pub low_now : in_upper (node_at (nodes_of u.state) k) ≡ false
      low_now = ap in_upper same ∙ low

      pub high_now : in_upper (node_at (nodes_of u.state) (parent_place u.state k)) ≡ true
      high_now =
          ap (λ (j : ℕ). in_upper (node_at (nodes_of u.state) j)) (ap (λ (n : Node). place_numbered u.state n.parent) same ∙ place_same s u.state path.count_same (node_at (nodes_of s) k).parent (path.found_same (node_at (nodes_of s) k).parent))
          ∙ path.upper

      -- the file's record is a lower one, as it was
      pub tail_now : FitsTail (top_record u.table l (node_at (nodes_of u.state) k))
      tail_now =
          subst (λ (n : Node). FitsTail (top_record u.table l n)) (sym same)
          (subst (λ (m : List ℕ). FitsTail (record_at (records_of m) (top_of (node_at (nodes_of s) k)).number)) (lower_table t u.table l (top_of (node_at (nodes_of s) k)).layer top_lower) (top_fits t l upper_bytes lower_bytes (node_at (nodes_of s) k)))

      pub free : (i : ℕ) × (free_record_place (records_of u.table) ≡ Some i)
      free =
          let f : length (missing_from 17 s k) ≡ suc (length (missing_from 16 s (parent_place s k))) = fewer in
          record_place_free u.table (let e : used_records (records_of u.table) ≡ used_records (records_of t) + length (missing_from 16 s (parent_place s k)) = path.records in omega arith)

      pub room : (j : ℕ) × (free_entry_place (entries_of u.table) ≡ Some j)
      room =
          let f : length (missing_from 17 s k) ≡ suc (length (missing_from 16 s (parent_place s k))) = fewer in
          entry_place_free u.table (let e : used_entries (entries_of u.table) ≡ used_entries (entries_of t) + length (missing_from 16 s (parent_place s k)) = path.entries in omega arith)

      -- the copy's bytes
      now_bytes : AllBytes u.table
      now_bytes = path.bytes upper_bytes lower_bytes

      file_bytes : AllBytes (copied_file l k (up u.table u.state)).table
      unfolding copied_file
      file_bytes =
          add_new_bytes u.table now_bytes (top_of (node_at (nodes_of u.state) (parent_place u.state k))).number
          (upper_byte u.table l path.valid (node_at (nodes_of u.state) (parent_place u.state k)) high_now (parent_walked u.table l u.state path.good k b_now other_now))
          (node_name (node_at (nodes_of u.state) k)) (node_name_bytes u.table l u.state now_bytes lower_bytes path.good k b_now other_now) (file_like (top_record u.table l (node_at (nodes_of u.state) k)))
          (file_like_bytes (top_record u.table l (node_at (nodes_of u.state) k))
          (kind_byte (table_of u.table l (top_of (node_at (nodes_of u.state) k)).layer) (bytes_table u.table l now_bytes lower_bytes (top_of (node_at (nodes_of u.state) k)).layer) (top_of (node_at (nodes_of u.state) k)).number))

      pub file_keeps : Keeps l (copied_file l k (up u.table u.state))
      file_keeps =
          record {
            good = copied_good u.table l u.state path.valid path.good k b_now other_now white_now file_now low_now high_now path.sound tail_now free.0 room.0 free.1 room.1;
            sound = sound_changed u.table _ l path.sound
                (copied_valid u.table l u.state path.valid path.good k b_now other_now white_now file_now low_now high_now path.sound tail_now free.0 room.0 free.1 room.1);
            bytes = file_bytes;
          }

    -- whatever the node is, where it is no whiteout and there is room
    pub copied_keeps : is_white (node_at (nodes_of s) k) ≡ false → Keeps l (copied_up l k (up t s))
    unfolding copied_up
    copied_keeps white = go (in_upper (node_at (nodes_of s) k)) refl (is_directory_node t l (node_at (nodes_of s) k)) refl
      where
        go : (a : Bool) → in_upper (node_at (nodes_of s) k) ≡ a → (d : Bool) → is_directory_node t l (node_at (nodes_of s) k) ≡ d
            → Keeps l (cond a (up t s) (cond d (made_path l k (up t s)) (copied_file l k (made_path l (parent_place s k) (up t s)))))
        go true e d h = record { good = g; sound = sound; bytes = upper_bytes }
        go false e true h = directory_keeps h
        go false e false h = file_keeps white e h

-- ---- the call

-- a known number has its place among the nodes
pub found_inside : (s : List ℕ) (x : ℕ) → is_some (find_number (nodes_of s) x) ≡ true → place_numbered s x < count_of s
unfolding place_of
found_inside s x h = go (find_number (nodes_of s) x) refl h
  where
    go : (f : Option ℕ) → find_number (nodes_of s) x ≡ f → is_some f ≡ true → place_of (nodes_of s) f < count_of s
    go (Some j) e q = subst (λ (m : ℕ). j < m) (length_nodes s) (found_below (nodes_of s) x j e)
    go None e q = no_true q

first_passed : (t : Test) (ts : List Test) → passed (t ∷ ts) ≡ true → (t.fails ≡ false) × (passed ts ≡ true)
unfolding passed
first_passed t ts h = go t.fails refl h
  where
    go : (b : Bool) → t.fails ≡ b → cond b false (passed ts) ≡ true → (t.fails ≡ false) × (passed ts ≡ true)
    go true e h = no_true h
    go false e h = (e, h)

module _ (u l s : List ℕ) (g : Good u l s) (sound : SoundLayers u l) (upper_bytes : AllBytes u) (lower_bytes : AllBytes l) (x : ℕ) where
  abbrev k : ℕ
  k = place_numbered s x

  abbrev tests : List Test
  tests = copy_up_before u l s x ++ copy_up_tests u s k

  passed_keeps : passed tests ≡ true → Keeps l (copied_up l k (up u s))
  unfolding copy_up_before copy_up_tests
  passed_keeps h =
      let a : (not (lengths_test s u l) ≡ false) × (passed (test (unknown s x) Enoent ∷ test (not (has_upper u)) Erofs ∷ test (is_white (numbered s x)) Enoent ∷ test (overfull u None (length (missing s k)) (length (missing s k))) Enospc ∷ []) ≡ true) = first_passed _ _ h in
      let c : (unknown s x ≡ false) × (passed (test (not (has_upper u)) Erofs ∷ test (is_white (numbered s x)) Enoent ∷ test (overfull u None (length (missing s k)) (length (missing s k))) Enospc ∷ []) ≡ true) = first_passed _ _ a.1 in
      let d : (not (has_upper u) ≡ false) × (passed (test (is_white (numbered s x)) Enoent ∷ test (overfull u None (length (missing s k)) (length (missing s k))) Enospc ∷ []) ≡ true) = first_passed _ _ c.1 in
      let e : (is_white (numbered s x) ≡ false) × (passed (test (overfull u None (length (missing s k)) (length (missing s k))) Enospc ∷ []) ≡ true) = first_passed _ _ d.1 in
      let f : (overfull u None (length (missing s k)) (length (missing s k)) ≡ false) × (passed [] ≡ true) = first_passed _ _ e.1 in
      let r : (used_records (records_of u) + length (missing s k) ≤ 128) × (used_entries (entries_of u) + length (missing s k) ≤ 128) = not_overfull_missing u (length (missing s k)) (length (missing s k)) f.0 in
      copied_keeps u l s (upper_valid u l sound (eqb-true (length u) 8192 (not-false (has_upper u) d.0))) sound g upper_bytes lower_bytes k (found_inside s x (not-false (is_some (find_number (nodes_of s) x)) c.0)) r.0 r.1 e.0

  -- refused or not
  call_keeps : Keeps l (up (copy_up_spec u l s x).upper (copy_up_spec u l s x).state)
  call_keeps = go (passed tests) refl
    where
      go : (b : Bool) → passed tests ≡ b → Keeps l (up (cond b (copied_up l k (up u s)).table u) (cond b (copied_up l k (up u s)).state s))
      go true e = passed_keeps e
      go false e = record { good = g; sound = sound; bytes = upper_bytes }

  pub copy_up_keeps : Good (copy_up_spec u l s x).upper l (copy_up_spec u l s x).state × SoundLayers (copy_up_spec u l s x).upper l
  copy_up_keeps = (call_keeps.good, call_keeps.sound)

  pub copy_up_bytes : AllBytes (copy_up_spec u l s x).upper
  copy_up_bytes = call_keeps.bytes
