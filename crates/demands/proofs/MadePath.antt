-- The missing directories of a path made in the upper layer keep what holds between calls. Assumes nothing.
use Rattle.std.specs.Prelude.{Option, Some, None}
use mathlib.Core.Path.{◌≡◌, refl, sym, ap, ◌∙◌, subst}
use mathlib.Core.Logic.{◌≢◌}
use Prim.Native.Nat.{ℕ, zero, suc, ◌+◌, ◌≤◌, ◌<◌}
use native.Mathlib.Omega.{arith}
use native.Mathlib.Nat.{add-zero}
use native.Mathlib.Decide.{ℕ_discrete}
use mathlib.Core.Bool.{Bool, true, false, cond}
use mathlib.Core.List.{List, [], ◌∷◌}
use lib.Dec.{eqb}
use lib.ListN.{length, set, length-set}
use lib.Seq.{get_or-set_same, get_or-set_other}
use borrow.Author.Tests.{eqb-true, eq-eqb}
use Rattle.layers.specs.Bytes.{AllBytes}
use Rattle.layers.specs.Items.{records_of, entries_of, record_at}
use Rattle.layers.specs.Search.{free_entry_place, free_record_place, used_entries, used_records}
use Rattle.layers.specs.Rules.{Reaches, at_root, Present, Valid}
use Rattle.layers.proofs.EveryLaws.{no_true}
use Rattle.merge.specs.declared.node.Node.{Node}
use Rattle.merge.specs.declared.stacks.Pair.{Pair}
use Rattle.merge.specs.Nodes.{no_node, node_name, key_of, count_of, nodes_of, node_at}
use Rattle.merge.specs.State.{find_number}
use Rattle.merge.specs.Methods.{with_stack, topped}
use Rattle.merge.specs.Tables.{table_of}
use Rattle.merge.specs.Scan.{is_walked}
use Rattle.merge.specs.Stacks.{pair, stack_of}
use Rattle.merge.specs.Fresh.{roots_from, root_stack}
use Rattle.merge.specs.Load.{stack_list, is_loaded}
use Rattle.merge.specs.Heads.{next_of}
use Rattle.merge.proofs.TableLaws.{table_upper}
use Rattle.merge.proofs.ClassLaws.{walked_long, directory_walked}
use Rattle.merge.proofs.NodeLists.{number_changed}
use Rattle.merge.proofs.StateLaws.{length_nodes}
use Rattle.calls.specs.Parents.{place_of, place_numbered, top_of, is_directory_node}
use Rattle.calls.specs.Upper.{Up, up, parent_place, in_upper, top_record, directory_like, made_directory, made_upper}
use Rattle.calls.specs.Room.{missing_from}
use Rattle.demands.specs.Invariant.{node_by, Good}
use Rattle.demands.specs.Reads.{SoundLayers}
use Rattle.demands.proofs.AgreeLaws.{lower_table}
use Rattle.demands.proofs.InvariantNodes.{place_by}
use Rattle.demands.proofs.InvariantShare.{In, here, root_one}
use Rattle.demands.proofs.StackSteps.{Steps, steps_once, steps_below}
use Rattle.demands.proofs.PlacesCounted.{record_place_free, entry_place_free}
use Rattle.demands.proofs.UpperBytes.{add_new_bytes, directory_like_bytes, walked_byte, node_name_bytes}
use Rattle.demands.proofs.MadeDirectory.{take_first, node_stack, node_some, parent_node_lem, parent_earlier, parent_inside, parent_walked, made_directory_valid, made_directory_sound, made_directory_good, made_directory_nodes, made_directory_top, made_directory_walked, made_directory_still, made_directory_kept, made_directory_length, made_directory_next, made_directory_records, made_directory_entries}
use Rattle.demands.proofs.LinkedNew.{source_there}

-- ---- the way from a node to the root

-- a node is a directory
abbrev pub Walked : List ℕ → List ℕ → Node → Type 0
Walked t l n = is_walked (table_of t l (top_of n).layer) (top_of n).number ≡ true

-- so many steps up lead to the root
unfoldable pub Near : List ℕ → ℕ → ℕ → Type 0
Near s zero k = (node_at (nodes_of s) k).number ≡ 1
Near s (suc m) k = (node_at (nodes_of s) k).number ≢ 1 → Near s m (parent_place s k)

near_more : (s : List ℕ) (m n k : ℕ) → m ≤ n → Near s m k → Near s n k
unfolding Near
near_more s zero zero k h r = r
near_more s zero (suc n) k h r = λ e. absurd (e r)
near_more s (suc m) zero k h r = absurd (omega arith)
near_more s (suc m) (suc n) k h r = λ e. near_more s m n (parent_place s k) (omega arith) (r e)

-- the upper layer's root is the first of the roots
roots_upper : (t l : List ℕ) → length t ≡ 8192 → (q : List Pair) × (root_stack t l ≡ pair 0 1 ∷ q)
unfolding root_stack roots_from
roots_upper t l h = (roots_from t l 1 3, rw (eq-eqb (length (table_of t l 0)) 8192 (sym (ap length (table_upper t l 0 refl h)) ∙ h)) refl)

module _ (t l s : List ℕ) (g : Good t l s) where
  root_holds : (k : ℕ) → k < count_of s → (node_at (nodes_of s) k).number ≡ 1 → stack_list (node_at (nodes_of s) k) ≡ root_stack t l
  root_holds k b e =
      ap stack_list (sym (place_by (nodes_of s) g.nodes.once k (rw (length_nodes s) b)) ∙ ap (node_by (nodes_of s)) e) ∙ g.nodes.coherent.root_stack

  -- "The root's stack holds every layer's root": it is in the upper layer, where there is one
  pub root_upper : length t ≡ 8192 → (k : ℕ) → k < count_of s → (node_at (nodes_of s) k).number ≡ 1 → in_upper (node_at (nodes_of s) k) ≡ true
  unfolding in_upper
  root_upper h k b e =
      let r : (q : List Pair) × (root_stack t l ≡ pair 0 1 ∷ q) = roots_upper t l h in
      let w : stack_list (node_at (nodes_of s) k) ≡ pair 0 1 ∷ r.0 = root_holds k b e ∙ r.1 in
      let f : (q : List Pair) × (stack_list (node_at (nodes_of s) k) ≡ top_of (node_at (nodes_of s) k) ∷ q) = take_first (node_at (nodes_of s) k).depth (node_at (nodes_of s) k).stack (λ z. let o : pair 0 1 ∷ r.0 ≡ [] = sym w ∙ z in let y : ◌≡◌ {A = ℕ} 0 1 = cc in absurd (omega arith)) in
      let o : top_of (node_at (nodes_of s) k) ∷ f.0 ≡ pair 0 1 ∷ r.0 = sym f.1 ∙ w in
      let y : top_of (node_at (nodes_of s) k) ≡ pair 0 1 = cc in
      eq-eqb (top_of (node_at (nodes_of s) k)).layer 0 (ap (λ (a : Pair). a.layer) y)

  -- a node's records reach their roots in as many steps as the node
  near_steps : (b k : ℕ) → k < count_of s → (node_at (nodes_of s) k).number < b → (h : ℕ) × Steps t l h (stack_list (node_at (nodes_of s) k)) × Near s h k
  unfolding Near
  near_steps zero k i c = absurd (omega arith)
  near_steps (suc b) k i c = go (ℕ_discrete (node_at (nodes_of s) k).number 1) (near_steps b (parent_place s k))
    where
      go : Dec ((node_at (nodes_of s) k).number ≡ 1)
          → (parent_place s k < count_of s → (node_at (nodes_of s) (parent_place s k)).number < b → (h : ℕ) × Steps t l h (stack_list (node_at (nodes_of s) (parent_place s k))) × Near s h (parent_place s k))
          → (h : ℕ) × Steps t l h (stack_list (node_at (nodes_of s) k)) × Near s h k
      go (yes e) ih = (0, (λ a j. at_root (root_one t l (subst (In a) (root_holds k i e) j))), e)
      go (no e) ih =
          let a : (node_at (nodes_of s) (parent_place s k)).number < (node_at (nodes_of s) k).number = parent_earlier t l s g k i e in
          let p : (h : ℕ) × Steps t l h (stack_list (node_at (nodes_of s) (parent_place s k))) × Near s h (parent_place s k) = ih (parent_inside t l s g k i e) (omega arith) in
          let q : stack_of t l (stack_list (node_at (nodes_of s) (parent_place s k))) (node_name (node_at (nodes_of s) k)) ≡ stack_list (node_at (nodes_of s) k) =
          ap (λ (m : Node). stack_of t l (stack_list m) (node_name (node_at (nodes_of s) k))) (parent_node_lem t l s g k i e) ∙ sym (node_stack t l s g k i e) in
          (suc p.0, subst (Steps t l (suc p.0)) q (steps_below t l p.0 (stack_list (node_at (nodes_of s) (parent_place s k))) (node_name (node_at (nodes_of s) k)) p.1), λ _. p.2)

  -- "each directory reaches the root in at most 16 steps"
  pub near_directory : SoundLayers t l → (k : ℕ) → k < count_of s → Walked t l (node_at (nodes_of s) k) → Near s 16 k
  unfolding Near
  near_directory sound k i w = go (ℕ_discrete (node_at (nodes_of s) k).number 1)
    where
      go : Dec ((node_at (nodes_of s) k).number ≡ 1) → Near s 16 k
      go (yes e) = near_more s 0 16 k (omega arith) e
      go (no e) =
          let v : Valid (table_of t l (top_of (node_at (nodes_of s) k)).layer) = sound.tables (top_of (node_at (nodes_of s) k)).layer (walked_long (table_of t l (top_of (node_at (nodes_of s) k)).layer) (top_of (node_at (nodes_of s) k)).number true (sym w) refl) in
          let d : (record_at (records_of (table_of t l (top_of (node_at (nodes_of s) k)).layer)) (top_of (node_at (nodes_of s) k)).number).kind ≡ 4 = eqb-true (record_at (records_of (table_of t l (top_of (node_at (nodes_of s) k)).layer)) (top_of (node_at (nodes_of s) k)).number).kind 4 (sym (directory_walked (table_of t l (top_of (node_at (nodes_of s) k)).layer) 0 (top_of (node_at (nodes_of s) k)).number v.size) ∙ w) in
          let f : (q : List Pair) × (stack_list (node_at (nodes_of s) k) ≡ top_of (node_at (nodes_of s) k) ∷ q) = take_first (node_at (nodes_of s) k).depth (node_at (nodes_of s) k).stack (node_some t l s g k i e) in
          let p : (h : ℕ) × Steps t l h (stack_list (node_at (nodes_of s) k)) × Near s h k = near_steps (suc (node_at (nodes_of s) k).number) k i (omega arith) in
          let c : (c : ℕ) × (c ≤ 16) × Reaches (entries_of (table_of t l (top_of (node_at (nodes_of s) k)).layer)) c (top_of (node_at (nodes_of s) k)).number = v.reach (top_of (node_at (nodes_of s) k)).number d in
          let o : p.0 ≡ c.0 = steps_once (table_of t l (top_of (node_at (nodes_of s) k)).layer) v d (p.1 (top_of (node_at (nodes_of s) k)) (subst (In (top_of (node_at (nodes_of s) k))) (sym f.1) (here refl))) c.2 in
          let m : c.0 ≤ 16 = c.1 in
          near_more s p.0 16 k (omega arith) p.2

-- ---- the path made

-- the table and the state that the directory at place `k` and those missing above it leave, `c` in all, where `t` and `s` were
pub record MadePath (t l s : List ℕ) (k c : ℕ) (u : Up) : Type 0 where
  pub valid : Valid u.table
  pub sound : SoundLayers u.table l
  pub good : Good u.table l u.state
  -- tables of bytes stay so
  pub bytes : AllBytes t → AllBytes l → AllBytes u.table
  -- the directory is in the upper layer
  pub upper : in_upper (node_at (nodes_of u.state) k) ≡ true
  -- every node has its place, number, parent and name
  pub count_same : count_of u.state ≡ count_of s
  pub found_same : (x : ℕ) → find_number (nodes_of u.state) x ≡ find_number (nodes_of s) x
  pub number_same : (j : ℕ) → (node_at (nodes_of u.state) j).number ≡ (node_at (nodes_of s) j).number
  pub key_same : (j : ℕ) → key_of (node_at (nodes_of u.state) j) ≡ key_of (node_at (nodes_of s) j)
  -- those in the upper layer, and those that came after the directory, are as they were
  pub upper_same : (j : ℕ) → in_upper (node_at (nodes_of s) j) ≡ true → node_at (nodes_of u.state) j ≡ node_at (nodes_of s) j
  pub later_same : (j : ℕ) → (node_at (nodes_of s) k).number < (node_at (nodes_of s) j).number → node_at (nodes_of u.state) j ≡ node_at (nodes_of s) j
  -- and so is what is no directory
  pub plain_same : (j : ℕ) → (Walked t l (node_at (nodes_of s) j) → ⊥) → node_at (nodes_of u.state) j ≡ node_at (nodes_of s) j
  -- every directory is one
  pub walked_still : (j : ℕ) → Walked t l (node_at (nodes_of s) j) → Walked u.table l (node_at (nodes_of u.state) j)
  -- and every file of the upper layer
  pub file_still : (j : ℕ) → j < count_of s → in_upper (node_at (nodes_of s) j) ≡ true → is_directory_node t l (node_at (nodes_of s) j) ≡ false → is_directory_node u.table l (node_at (nodes_of u.state) j) ≡ false
  -- no mark of a node changes, nor the state's length or its next number
  pub loaded_same : (j : ℕ) → is_loaded (node_at (nodes_of u.state) j) ≡ is_loaded (node_at (nodes_of s) j)
  pub white_same : (j : ℕ) → (node_at (nodes_of u.state) j).white ≡ (node_at (nodes_of s) j).white
  pub length_same : length u.state ≡ length s
  pub next_same : next_of u.state ≡ next_of s
  pub records : used_records (records_of u.table) ≡ used_records (records_of t) + c
  pub entries : used_entries (entries_of u.table) ≡ used_entries (entries_of t) + c

-- where the directory is there already
none_made : (t l s : List ℕ) → Valid t → SoundLayers t l → Good t l s → (k : ℕ) → in_upper (node_at (nodes_of s) k) ≡ true → MadePath t l s k 0 (up t s)
none_made t l s v sound g k h =
    record {
      valid = v;
      sound = sound;
      good = g;
      bytes = λ a _. a;
      upper = h;
      count_same = refl;
      found_same = λ x. refl;
      number_same = λ j. refl;
      key_same = λ j. refl;
      upper_same = λ j _. refl;
      later_same = λ j _. refl;
      plain_same = λ j _. refl;
      walked_still = λ j w. w;
      file_still = λ j _ _ d. d;
      loaded_same = λ j. refl;
      white_same = λ j. refl;
      length_same = refl;
      next_same = refl;
      records = sym (add-zero (used_records (records_of t)));
      entries = sym (add-zero (used_entries (entries_of t)));
    }

-- the place of a number is as it was
pub place_same : (s w : List ℕ) → count_of w ≡ count_of s → (x : ℕ) → find_number (nodes_of w) x ≡ find_number (nodes_of s) x → place_numbered w x ≡ place_numbered s x
unfolding place_of
place_same s w c x e = ap (place_of (nodes_of w)) e ∙ go (find_number (nodes_of s) x)
  where
    go : (f : Option ℕ) → place_of (nodes_of w) f ≡ place_of (nodes_of s) f
    go (Some j) = refl
    go None = length_nodes w ∙ (c ∙ sym (length_nodes s))

-- the number of an upper directory's record is a byte
pub upper_byte : (t l : List ℕ) → Valid t → (n : Node) → in_upper n ≡ true → Walked t l n → (top_of n).number < 256
unfolding in_upper
upper_byte t l v n h w =
    walked_byte t v (top_of n).number
    (ap (λ (m : List ℕ). is_walked m (top_of n).number) (table_upper t l 0 refl v.size) ∙ (ap (λ (m : ℕ). is_walked (table_of t l m) (top_of n).number) (sym (eqb-true (top_of n).layer 0 h)) ∙ w))

-- a node of the upper layer is the directory it was, or none, where its record is
upper_kept : (t w l : List ℕ) → length t ≡ 8192 → length w ≡ 8192 → (n : Node) → in_upper n ≡ true → is_walked w (top_of n).number ≡ is_walked t (top_of n).number → is_directory_node w l n ≡ is_directory_node t l n
unfolding is_directory_node in_upper
upper_kept t w l a b n h e =
    let z : (top_of n).layer ≡ 0 = eqb-true (top_of n).layer 0 h in
    ap (λ (c : Bool). cond (eqb n.depth 0) false c)
    (ap (λ (m : List ℕ). is_walked m (top_of n).number) (sym (table_upper w l (top_of n).layer z b)) ∙ (e ∙ ap (λ (m : List ℕ). is_walked m (top_of n).number) (table_upper t l (top_of n).layer z a)))

-- one more below a made path
module _ (t l s : List ℕ) (g : Good t l s) (k : ℕ) (b : k < count_of s) (other : (node_at (nodes_of s) k).number ≢ 1) (dir : Walked t l (node_at (nodes_of s) k)) (low : in_upper (node_at (nodes_of s) k) ≡ false) (c : ℕ) (u : Up) (p : MadePath t l s (parent_place s k) c u)
    (room_records : used_records (records_of t) + suc c ≤ 128) (room_entries : used_entries (entries_of t) + suc c ≤ 128)
  where
    same : node_at (nodes_of u.state) k ≡ node_at (nodes_of s) k
    same = p.later_same k (parent_earlier t l s g k b other)

    b_now : k < count_of u.state
    b_now = rw p.count_same b

    other_now : (node_at (nodes_of u.state) k).number ≢ 1
    other_now = rw same other

    low_now : in_upper (node_at (nodes_of u.state) k) ≡ false
    low_now = ap in_upper same ∙ low

    dir_now : Walked u.table l (node_at (nodes_of u.state) k)
    dir_now = p.walked_still k dir

    high_now : in_upper (node_at (nodes_of u.state) (parent_place u.state k)) ≡ true
    high_now =
        ap (λ (j : ℕ). in_upper (node_at (nodes_of u.state) j)) (ap (λ (n : Node). place_numbered u.state n.parent) same ∙ place_same s u.state p.count_same (node_at (nodes_of s) k).parent (p.found_same (node_at (nodes_of s) k).parent))
        ∙ p.upper

    free : (i : ℕ) × (free_record_place (records_of u.table) ≡ Some i)
    free = record_place_free u.table (let e : used_records (records_of u.table) ≡ used_records (records_of t) + c = p.records in omega arith)

    room : (j : ℕ) × (free_entry_place (entries_of u.table) ≡ Some j)
    room = entry_place_free u.table (let e : used_entries (entries_of u.table) ≡ used_entries (entries_of t) + c = p.entries in omega arith)

    abbrev made : Up
    made = made_directory l k (up u.table u.state)

    abbrev a : Node
    a = topped (node_at (nodes_of u.state) k) (pair 0 free.0)

    nodes_are : nodes_of made.state ≡ set (nodes_of u.state) k a
    nodes_are = made_directory_nodes u.table l u.state p.good k b_now other_now p.valid p.sound low_now dir_now high_now free.0 free.1 room.0 room.1

    top_is : top_of (node_at (nodes_of made.state) k) ≡ pair 0 free.0
    top_is = made_directory_top u.table l u.state p.good k b_now other_now p.valid p.sound low_now dir_now high_now free.0 free.1 room.0 room.1

    here_is : node_at (nodes_of made.state) k ≡ a
    here_is = ap (λ (ns : List Node). node_at ns k) nodes_are ∙ get_or-set_same (nodes_of u.state) k a no_node (rw (length_nodes u.state) b_now)

    other_is : (j : ℕ) → j ≢ k → node_at (nodes_of made.state) j ≡ node_at (nodes_of u.state) j
    other_is j e = ap (λ (ns : List Node). node_at ns j) nodes_are ∙ get_or-set_other (nodes_of u.state) k j a no_node e

    made_valid : Valid made.table
    made_valid = made_directory_valid u.table l u.state p.good k b_now other_now p.valid p.sound low_now dir_now high_now free.0 free.1 room.0 room.1

    each_number : (j : ℕ) → (node_at (nodes_of made.state) j).number ≡ (node_at (nodes_of s) j).number
    unfolding with_stack
    each_number j = go (ℕ_discrete j k)
      where
        go : Dec (j ≡ k) → (node_at (nodes_of made.state) j).number ≡ (node_at (nodes_of s) j).number
        go (yes e) = rw e (ap (λ (n : Node). n.number) here_is ∙ ap (λ (n : Node). n.number) same)
        go (no e) = ap (λ (n : Node). n.number) (other_is j e) ∙ p.number_same j

    each_key : (j : ℕ) → key_of (node_at (nodes_of made.state) j) ≡ key_of (node_at (nodes_of s) j)
    unfolding with_stack
    each_key j = go (ℕ_discrete j k)
      where
        go : Dec (j ≡ k) → key_of (node_at (nodes_of made.state) j) ≡ key_of (node_at (nodes_of s) j)
        go (yes e) = rw e (ap key_of here_is ∙ ap key_of same)
        go (no e) = ap key_of (other_is j e) ∙ p.key_same j

    each_loaded : (j : ℕ) → is_loaded (node_at (nodes_of made.state) j) ≡ is_loaded (node_at (nodes_of s) j)
    unfolding with_stack is_loaded
    each_loaded j = go (ℕ_discrete j k)
      where
        go : Dec (j ≡ k) → is_loaded (node_at (nodes_of made.state) j) ≡ is_loaded (node_at (nodes_of s) j)
        go (yes e) = rw e (ap is_loaded here_is ∙ ap is_loaded same)
        go (no e) = ap is_loaded (other_is j e) ∙ p.loaded_same j

    each_white : (j : ℕ) → (node_at (nodes_of made.state) j).white ≡ (node_at (nodes_of s) j).white
    unfolding with_stack
    each_white j = go (ℕ_discrete j k)
      where
        go : Dec (j ≡ k) → (node_at (nodes_of made.state) j).white ≡ (node_at (nodes_of s) j).white
        go (yes e) = rw e (ap (λ (n : Node). n.white) here_is ∙ ap (λ (n : Node). n.white) same)
        go (no e) = ap (λ (n : Node). n.white) (other_is j e) ∙ p.white_same j

    each_file : (j : ℕ) → j < count_of s → in_upper (node_at (nodes_of s) j) ≡ true → is_directory_node t l (node_at (nodes_of s) j) ≡ false → is_directory_node made.table l (node_at (nodes_of made.state) j) ≡ false
    each_file j i h d =
        let x : node_at (nodes_of u.state) j ≡ node_at (nodes_of s) j = p.upper_same j h in
        let y : in_upper (node_at (nodes_of u.state) j) ≡ true = ap in_upper x ∙ h in
        let e : is_directory_node u.table l (node_at (nodes_of u.state) j) ≡ false = p.file_still j i h d in
        let c : Present (records_of u.table) (top_of (node_at (nodes_of u.state) j)).number = source_there u.table l u.state p.valid p.good j (rw p.count_same i) y e in
        ap (is_directory_node made.table l) (other_is j (λ z. no_true (sym low ∙ (ap (λ (m : ℕ). in_upper (node_at (nodes_of s) m)) (sym z) ∙ h))))
        ∙ (upper_kept u.table made.table l p.valid.size made_valid.size (node_at (nodes_of u.state) j) y
        (made_directory_kept u.table l u.state p.good k b_now other_now p.valid p.sound low_now dir_now high_now free.0 free.1 room.0 room.1 (top_of (node_at (nodes_of u.state) j)).number c)
        ∙ e)

    each_found : (x : ℕ) → find_number (nodes_of made.state) x ≡ find_number (nodes_of s) x
    unfolding with_stack
    each_found x = ap (λ (ns : List Node). find_number ns x) nodes_are ∙ (number_changed (nodes_of u.state) k a refl x ∙ p.found_same x)

    count_is : count_of made.state ≡ count_of s
    count_is = sym (length_nodes made.state) ∙ (ap length nodes_are ∙ (length-set (nodes_of u.state) k a ∙ (length_nodes u.state ∙ p.count_same)))

    each_walked : (j : ℕ) → Walked t l (node_at (nodes_of s) j) → Walked made.table l (node_at (nodes_of made.state) j)
    each_walked j h = go (ℕ_discrete j k)
      where
        in_made : made.table ≡ table_of made.table l 0
        in_made = table_upper made.table l 0 refl made_valid.size

        in_was : u.table ≡ table_of u.table l 0
        in_was = table_upper u.table l 0 refl p.valid.size

        there : (q : Pair) → is_walked (table_of u.table l q.layer) q.number ≡ true → Dec (q.layer ≡ 0) → is_walked (table_of made.table l q.layer) q.number ≡ true
        there q o (yes z) =
            let y : is_walked u.table q.number ≡ true = ap (λ (m : List ℕ). is_walked m q.number) in_was ∙ (ap (λ (m : ℕ). is_walked (table_of u.table l m) q.number) (sym z) ∙ o) in
            ap (λ (m : ℕ). is_walked (table_of made.table l m) q.number) z
            ∙ (ap (λ (m : List ℕ). is_walked m q.number) (sym in_made)
            ∙ made_directory_still u.table l u.state p.good k b_now other_now p.valid p.sound low_now dir_now high_now free.0 free.1 room.0 room.1 q.number y)
        there q o (no z) = ap (λ (m : List ℕ). is_walked m q.number) (lower_table made.table u.table l q.layer z) ∙ o

        go : Dec (j ≡ k) → Walked made.table l (node_at (nodes_of made.state) j)
        go (yes e) =
            rw e
            (subst (λ (q : Pair). is_walked (table_of made.table l q.layer) q.number ≡ true) (sym top_is)
            (subst (λ (m : List ℕ). is_walked m free.0 ≡ true) in_made
            (made_directory_walked u.table l u.state p.good k b_now other_now p.valid p.sound low_now dir_now high_now free.0 free.1 room.0 room.1)))
        go (no e) = subst (Walked made.table l) (sym (other_is j e)) (there (top_of (node_at (nodes_of u.state) j)) (p.walked_still j h) (ℕ_discrete (top_of (node_at (nodes_of u.state) j)).layer 0))

    parent_byte : (top_of (node_at (nodes_of u.state) (parent_place u.state k))).number < 256
    parent_byte = upper_byte u.table l p.valid (node_at (nodes_of u.state) (parent_place u.state k)) high_now (parent_walked u.table l u.state p.good k b_now other_now)

    made_bytes : AllBytes t → AllBytes l → AllBytes made.table
    unfolding made_directory
    made_bytes a h =
        add_new_bytes u.table (p.bytes a h) (top_of (node_at (nodes_of u.state) (parent_place u.state k))).number parent_byte (node_name (node_at (nodes_of u.state) k))
        (node_name_bytes u.table l u.state (p.bytes a h) h p.good k b_now other_now)
        (directory_like (top_record u.table l (node_at (nodes_of u.state) k))) (directory_like_bytes (top_record u.table l (node_at (nodes_of u.state) k)))

    one_more : MadePath t l s k (suc c) made
    unfolding in_upper
    one_more =
        record {
          valid = made_valid;
          sound = made_directory_sound u.table l u.state p.good k b_now other_now p.valid p.sound low_now dir_now high_now free.0 free.1 room.0 room.1;
          good = made_directory_good u.table l u.state p.good k b_now other_now p.valid p.sound low_now dir_now high_now free.0 free.1 room.0 room.1;
          bytes = made_bytes;
          upper = eq-eqb (top_of (node_at (nodes_of made.state) k)).layer 0 (ap (λ (q : Pair). q.layer) top_is);
          count_same = count_is;
          found_same = each_found;
          number_same = each_number;
          key_same = each_key;
          upper_same = λ j h. other_is j (λ e. no_true (sym low ∙ (ap (λ (m : ℕ). in_upper (node_at (nodes_of s) m)) (sym e) ∙ h))) ∙ p.upper_same j h;
          later_same = λ j h.
              let o : (node_at (nodes_of s) (parent_place s k)).number < (node_at (nodes_of s) k).number = parent_earlier t l s g k b other in
              other_is j (λ e. let y : (node_at (nodes_of s) j).number ≡ (node_at (nodes_of s) k).number = ap (λ (m : ℕ). (node_at (nodes_of s) m).number) e in omega arith) ∙ p.later_same j (omega arith);
          plain_same = λ j h. other_is j (λ e. h (subst (λ (m : ℕ). Walked t l (node_at (nodes_of s) m)) (sym e) dir)) ∙ p.plain_same j h;
          walked_still = each_walked;
          file_still = each_file;
          loaded_same = each_loaded;
          white_same = each_white;
          length_same = made_directory_length u.table l u.state p.good k b_now other_now p.valid p.sound low_now dir_now high_now free.0 free.1 room.0 room.1 ∙ p.length_same;
          next_same = made_directory_next u.table l u.state p.good k b_now other_now p.valid p.sound low_now dir_now high_now free.0 free.1 room.0 room.1 ∙ p.next_same;
          records =
              let e : used_records (records_of u.table) ≡ used_records (records_of t) + c = p.records in
              let h : used_records (records_of made.table) ≡ suc (used_records (records_of u.table)) =
              made_directory_records u.table l u.state p.good k b_now other_now p.valid p.sound low_now dir_now high_now free.0 free.1 room.0 room.1 in
              omega arith;
          entries =
              let e : used_entries (entries_of u.table) ≡ used_entries (entries_of t) + c = p.entries in
              let h : used_entries (entries_of made.table) ≡ suc (used_entries (entries_of u.table)) =
              made_directory_entries u.table l u.state p.good k b_now other_now p.valid p.sound low_now dir_now high_now free.0 free.1 room.0 room.1 in
              omega arith;
        }

-- where there is room for what is missing, the path is made
module _ (t l s : List ℕ) (v : Valid t) (sound : SoundLayers t l) (g : Good t l s) where
  pub made_path_lem : (m k : ℕ) → k < count_of s → Walked t l (node_at (nodes_of s) k) → Near s m k → used_records (records_of t) + length (missing_from m s k) ≤ 128 → used_entries (entries_of t) + length (missing_from m s k) ≤ 128
      → MadePath t l s k (length (missing_from m s k)) (made_upper m l k (up t s))
  unfolding made_upper missing_from Near
  made_path_lem zero k b w near rs es = none_made t l s v sound g k (root_upper t l s g v.size k b near)
  made_path_lem (suc m) k b w near rs es = go (in_upper (node_at (nodes_of s) k)) refl (made_path_lem m (parent_place s k)) rs es
    where
      go : (c : Bool) → in_upper (node_at (nodes_of s) k) ≡ c
          → (parent_place s k < count_of s → Walked t l (node_at (nodes_of s) (parent_place s k)) → Near s m (parent_place s k) → used_records (records_of t) + length (missing_from m s (parent_place s k)) ≤ 128 → used_entries (entries_of t) + length (missing_from m s (parent_place s k)) ≤ 128
          → MadePath t l s (parent_place s k) (length (missing_from m s (parent_place s k))) (made_upper m l (parent_place s k) (up t s)))
          → used_records (records_of t) + length (cond c [] (k ∷ missing_from m s (parent_place s k))) ≤ 128
          → used_entries (entries_of t) + length (cond c [] (k ∷ missing_from m s (parent_place s k))) ≤ 128
          → MadePath t l s k (length (cond c [] (k ∷ missing_from m s (parent_place s k)))) (cond c (up t s) (made_directory l k (made_upper m l (parent_place s k) (up t s))))
      go true e ih rs es = none_made t l s v sound g k e
      go false e ih rs es =
          let other : (node_at (nodes_of s) k).number ≢ 1 = λ z. no_true (sym e ∙ root_upper t l s g v.size k b z) in
          one_more t l s g k b other w e (length (missing_from m s (parent_place s k))) (made_upper m l (parent_place s k) (up t s))
          (ih (parent_inside t l s g k b other) (parent_walked t l s g k b other) (near other) (omega arith) (omega arith)) rs es
