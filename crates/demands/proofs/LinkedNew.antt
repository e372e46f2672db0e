-- What a link writes for a name that has no node: the upper table stays valid, and what holds between calls is kept. Assumes nothing.
use Rattle.std.specs.Prelude.{Some, None, Err, Option}
use Rattle.merge.specs.declared.stacks.Class.{Class}
use mathlib.Core.Path.{◌≡◌, refl, sym, ap, ap₂, ◌∙◌, subst}
use mathlib.Core.Logic.{◌≢◌}
use Prim.Native.Nat.{ℕ, zero, suc, ◌≤◌, ◌<◌}
use native.Mathlib.Omega.{arith}
use mathlib.Core.Bool.{true, false}
use mathlib.Core.List.{List, [], ◌∷◌}
use lib.Dec.{eqb}
use lib.ListN.{length, take}
use borrow.Author.Tests.{eqb-true, eqb-false, eq-eqb, ne_eqb, not-false, lt-leb}
use Rattle.layers.specs.Names.{Name}
use Rattle.layers.specs.Items.{records_of, entries_of, record_at}
use Rattle.layers.specs.Search.{one, names, search_of, free_entry_place}
use Rattle.layers.specs.Change.{entry_naming, added_entry, AddEntry}
use Rattle.layers.specs.Rules.{Present, WellFormed, Valid}
use Rattle.layers.specs.declared.items.Record.{Record}
use Rattle.layers.specs.declared.items.Entry.{Entry}
use Rattle.layers.proofs.EveryLaws.{no_true}
use Rattle.layers.proofs.RuleDistinct.{names_exactly}
use Rattle.layers.proofs.RuleFacts.{directory_present}
use Rattle.layers.proofs.ChangeBytes.{added_entry_lem}
use Rattle.layers.proofs.Padded.{naming_name, naming_named}
use Rattle.merge.specs.Nodes.{no_pair, node_name, key_of, capacity, count_of, nodes_of, node_at}
use Rattle.merge.specs.Heads.{next_of, full, room_of, numbers_left}
use Rattle.merge.specs.State.{find_child}
use Rattle.merge.specs.Changes.{new_bytes, seated_bytes}
use Rattle.merge.specs.Seats.{seat_of, holder}
use Rattle.merge.specs.Tables.{table_of}
use Rattle.merge.specs.Classes.{is_whiteout, is_directory, class_of, class_at, named, seen_of}
use Rattle.merge.specs.Scan.{is_walked}
use Rattle.merge.specs.Stacks.{pair, stack_of, whiteout_of}
use Rattle.merge.specs.Fresh.{roots_from, root_stack}
use Rattle.merge.specs.Load.{stack_list, suffices, is_loaded}
use Rattle.merge.specs.Tidy.{Tidy}
use Rattle.merge.specs.declared.node.Node.{Node}
use Rattle.merge.specs.declared.stacks.Pair.{Pair}
use Rattle.merge.specs.declared.stacks.Class.TheVariants.{Other}
use Rattle.merge.proofs.StateLaws.{length_nodes}
use Rattle.merge.proofs.TableLaws.{table_upper}
use Rattle.merge.proofs.ClassLaws.{seen_there, directory_walked}
use Rattle.merge.proofs.NewNodes.{new_parent, new_name, new_stack, new_white, new_loaded, new_tidy}
use Rattle.calls.specs.Parents.{top_of, is_white, is_directory_node}
use Rattle.calls.specs.Upper.{up, parent_place, in_upper, upper_alone, named_state}
use Rattle.calls.specs.Link.{linked}
use Rattle.demands.specs.Invariant.{node_by, Resident, Good}
use Rattle.demands.specs.Reads.{SoundLayers}
use Rattle.demands.proofs.NameChanges.{ChangedAt, added_named, added_named_other}
use Rattle.demands.proofs.UpperLaws.{scan_agree}
use Rattle.demands.proofs.TopLaws.{stack_alone, whiteout_top}
use Rattle.demands.proofs.InvariantNodes.{place_by, place_resident, child_unknown}
use Rattle.demands.proofs.InvariantKept.{tidy_place}
use Rattle.demands.proofs.InvariantLoad.{suffices_both}
use Rattle.demands.proofs.InvariantShare.{In, here, Above, stack_above, root_one}
use Rattle.demands.proofs.InvariantChange.{New, new_good}
use Rattle.demands.proofs.InvariantUpper.{change_new}
use Rattle.demands.proofs.SeatOrder.{seat_child}
use Rattle.demands.proofs.ValidAdded.{valid_linked}
use Rattle.demands.proofs.CopiedFile.{top_first, other_class, top_live, named_stands, unseen_missing, one_zero, pair_is, node_stack, node_some, node_white}
use Rattle.demands.proofs.MadeDirectory.{walked_kind, seen_starts}
use Rattle.demands.proofs.SoundUpper.{sound_changed}

-- ---- the record `c`, which is there and no directory, under the name `x` of the directory `d`, which has it not

module _ (t : List ℕ) (v : Valid t) (d : ℕ) (walked : is_walked t d ≡ true) (x : Name) (well : WellFormed x) (short : length x ≤ 28) (absent : search_of (entries_of t) d x ≡ None) (c : ℕ) (there : Present (records_of t) c) (file : is_directory (record_at (records_of t) c) ≡ false) (i : ℕ) (free : free_entry_place (entries_of t) ≡ Some i) where
  abbrev link : List ℕ
  link = added_entry t (entry_naming d x c)

  pub link_valid : Valid link
  link_valid = valid_linked t v d c x (walked_kind t v d walked) there (eqb-false (record_at (records_of t) c).kind 4 file) well short absent i free

  entry_part : AddEntry t (entry_naming d x c) (free_entry_place (entries_of t)) link
  entry_part = added_entry_lem t (entry_naming d x c) (naming_name d x c) v.size

  -- no record changes
  pub link_record : (q : ℕ) → record_at (records_of t) q ≡ record_at (records_of link) q
  link_record q = sym (ap (λ (rs : List Record). record_at rs q) entry_part.records)

  directory_some : d ≢ 0
  directory_some z = directory_present t v d (walked_kind t v d walked) (ap (λ (q : ℕ). (record_at (records_of t) q).number) z)

  entry_names : names d x (entry_naming d x c) ≡ true
  unfolding entry_naming
  entry_names = (names_exactly d x (entry_naming d x c)).whole (directory_some, (refl, naming_named d x c short))

  -- the table differs at that name only
  pub link_changed : ChangedAt t link d x
  link_changed =
      record {
        others = λ q y e. ap (λ (es : List Entry). named es q y) entry_part.entries ∙ added_named_other (entries_of t) (entry_naming d x c) d x entry_names q y e;
        stay = λ q y _. sym (link_record (named (entries_of t) q y));
      }

  link_walked : is_walked link d ≡ true
  link_walked = sym (scan_agree t link d (v.size ∙ sym link_valid.size) (link_record d)).0 ∙ walked

  link_named : named (entries_of link) d x ≡ c
  unfolding entry_naming
  link_named = ap (λ (es : List Entry). named es d x) entry_part.entries ∙ added_named (entries_of t) (entry_naming d x c) d x entry_names i free absent

  -- the other layers are as they were
  pub link_sound : (l : List ℕ) → SoundLayers t l → SoundLayers link l
  link_sound l sound = sound_changed t link l sound link_valid

  -- where the record is no whiteout, the name's stack is the record alone
  module _ (live : is_whiteout (record_at (records_of t) c) ≡ false) where
    link_seen : seen_of link d x ≡ Some (Other, c)
    unfolding class_at
    link_seen =
        sym (seen_there link d x c (sym link_named) (λ z. there (ap (λ (q : ℕ). (record_at (records_of t) q).number) z)) Other
        (sym (ap class_of (sym (link_record c)) ∙ other_class (record_at (records_of t) c) live file)))

    module _ (l : List ℕ) (ps : List Pair) where
      in_link : table_of link l 0 ≡ link
      in_link = sym (table_upper link l 0 refl link_valid.size)

      top_walked_lem : is_walked (table_of link l 0) d ≡ true
      top_walked_lem = ap (λ (w : List ℕ). is_walked w d) in_link ∙ link_walked

      top_seen : seen_of (table_of link l 0) d x ≡ Some (Other, c)
      top_seen = ap (λ (w : List ℕ). seen_of w d x) in_link ∙ link_seen

      pub link_stack : stack_of link l (pair 0 d ∷ ps) x ≡ pair 0 c ∷ []
      link_stack = stack_alone link l (pair 0 d) ps top_walked_lem x Other c top_seen refl

      pub link_mark : whiteout_of link l (pair 0 d ∷ ps) x ≡ false
      link_mark = whiteout_top link l (pair 0 d) ps top_walked_lem x Other c top_seen

-- ---- the source: a node that stands on an upper record, and is no directory and not marked white

root_some : (t l : List ℕ) → length t ≡ 8192 → root_stack t l ≢ []
unfolding root_stack roots_from
root_some t l n z =
    let e : eqb (length (table_of t l 0)) 8192 ≡ true = eq-eqb (length (table_of t l 0)) 8192 (sym (ap length (table_upper t l 0 refl n)) ∙ n) in
    let r : pair 0 1 ∷ roots_from t l 1 3 ≡ [] = sym (rw e refl) ∙ z in
    let o : ◌≡◌ {A = ℕ} 0 1 = cc in
    omega arith

module _ (t l s : List ℕ) (v : Valid t) (g : Good t l s) (j : ℕ) (b : j < count_of s) (upper : in_upper (node_at (nodes_of s) j) ≡ true) (no_directory : is_directory_node t l (node_at (nodes_of s) j) ≡ false) where
  abbrev source : Node
  source = node_at (nodes_of s) j

  abbrev c : ℕ
  c = (top_of (node_at (nodes_of s) j)).number

  source_layer : (top_of source).layer ≡ 0
  unfolding in_upper
  source_layer = eqb-true (top_of source).layer 0 upper

  source_table : t ≡ table_of t l (top_of source).layer
  source_table = table_upper t l (top_of source).layer source_layer v.size

  -- where it has a stack, the record is no directory
  not_walked : stack_list source ≢ [] → is_walked t c ≡ false
  unfolding is_directory_node
  not_walked h = ap (λ (w : List ℕ). is_walked w c) source_table ∙ (sym (rw (ne_eqb source.depth 0 deep) refl) ∙ no_directory)
    where
      deep : source.depth ≢ 0
      deep z = h (ap (λ (m : ℕ). take m source.stack) z)

  -- so it is not the root
  source_not_root : source.number ≢ 1
  source_not_root z = no_true (sym (not_walked some) ∙ (ap (is_walked t) first ∙ (directory_walked t 0 1 v.size ∙ eq-eqb (record_at (records_of t) 1).kind 4 v.root.1)))
    where
      by : node_by (nodes_of s) 1 ≡ source
      by = ap (node_by (nodes_of s)) (sym z) ∙ place_by (nodes_of s) g.nodes.once j (rw (length_nodes s) b)

      roots : stack_list source ≡ root_stack t l
      roots = sym (ap stack_list by) ∙ g.nodes.coherent.root_stack

      some : stack_list source ≢ []
      some e = root_some t l v.size (sym roots ∙ e)

      first : c ≡ 1
      first = root_one t l (subst (In (top_of source)) (sym (top_first source some).1 ∙ roots) (here refl))

  source_some : stack_list source ≢ []
  source_some = node_some t l s v g j b source_not_root

  pub source_file : is_directory (record_at (records_of t) c) ≡ false
  source_file = sym (directory_walked t 0 c v.size) ∙ not_walked source_some

  source_stack : stack_of t l (stack_list (node_at (nodes_of s) (parent_place s j))) (node_name source) ≡ top_of source ∷ (top_first source source_some).0
  source_stack = sym (node_stack t l s v g j b source_not_root) ∙ (top_first source source_some).1

  source_above : Above t l (node_name source) (stack_list (node_at (nodes_of s) (parent_place s j))) (top_of source)
  source_above = stack_above t l (node_name source) (stack_list (node_at (nodes_of s) (parent_place s j))) (subst (In (top_of source)) (sym source_stack) (here refl))

  pub source_there : Present (records_of t) c
  source_there =
      (named_stands t v source_above.at.number (node_name source) c
      (ap (λ (w : List ℕ). named (entries_of w) source_above.at.number (node_name source)) (table_upper t l source_above.at.layer (source_above.layer_is ∙ source_layer) v.size) ∙ source_above.found) source_above.some).present

  pub source_live : is_white source ≡ false → is_whiteout (record_at (records_of t) c) ≡ false
  unfolding is_white
  source_live h =
      let z : source.white ≡ 0 = eqb-true source.white 0 (not-false (eqb source.white 0) h) in
      let m : whiteout_of t l (stack_list (node_at (nodes_of s) (parent_place s j))) (node_name source) ≡ false = one_zero (whiteout_of t l (stack_list (node_at (nodes_of s) (parent_place s j))) (node_name source)) (sym (node_white t l s v g j b source_not_root) ∙ z) in
      ap (λ (w : List ℕ). is_whiteout (record_at (records_of w) c)) source_table
      ∙ top_live t l (stack_list (node_at (nodes_of s) (parent_place s j))) (node_name source) (top_of source) (top_first source source_some).0 source_stack m

some_taken : (m : ℕ) (ps : List Pair) → m ≢ 0 → length ps ≡ 4 → take m ps ≢ []
some_taken zero ps z n e = z refl
some_taken (suc m) [] z n e = omega arith
some_taken (suc m) (a ∷ ps) z n e = let o : suc (length (take m ps)) ≡ 0 = ap length e in omega arith

-- ---- the parent: a loaded node that stands on an upper directory, and has no node of the name `x`

module _ (t l s : List ℕ) (v : Valid t) (g : Good t l s) (k : ℕ) (b : k < count_of s) (upper : in_upper (node_at (nodes_of s) k) ≡ true) (walked : is_walked t (top_of (node_at (nodes_of s) k)).number ≡ true) where
  abbrev parent : Node
  parent = node_at (nodes_of s) k

  abbrev d : ℕ
  d = (top_of (node_at (nodes_of s) k)).number

  abbrev p : ℕ
  p = (node_at (nodes_of s) k).number

  abbrev f : ℕ → Node
  f = node_by (nodes_of s)

  parent_by : f p ≡ parent
  parent_by = place_by (nodes_of s) g.nodes.once k (rw (length_nodes s) b)

  pub parent_there : Resident f p
  parent_there = place_resident (nodes_of s) g.nodes.once k (rw (length_nodes s) b) g.nodes.none_zero

  parent_deep : parent.depth ≢ 0
  parent_deep z =
      let e : top_of parent ≡ no_pair = (tidy_place t l (nodes_of s) (next_of s) g.nodes k).stack_unused 0 (omega (arith, z)) in
      directory_present t v d (walked_kind t v d walked) (ap (λ (q : Pair). (record_at (records_of t) q.number).number) e)

  parent_some : stack_list parent ≢ []
  parent_some = some_taken parent.depth parent.stack parent_deep (tidy_place t l (nodes_of s) (next_of s) g.nodes k).fits.arrays.stack_fits

  pub parent_stack : (ps : List Pair) × (stack_list (f p) ≡ pair 0 d ∷ ps)
  unfolding in_upper
  parent_stack =
      let q : (q : List Pair) × (stack_list parent ≡ top_of parent ∷ q) = top_first parent parent_some in
      (q.0, ap stack_list parent_by ∙ (q.1 ∙ ap (λ (a : Pair). a ∷ q.0) (pair_is (top_of parent) 0 d (eqb-true (top_of parent).layer 0 upper) refl)))

  module _ (loaded : is_loaded (node_at (nodes_of s) k) ≡ true) (x : Name) (missing : find_child (nodes_of s) (node_at (nodes_of s) k).number x ≡ None) where
    parent_unseen : seen_of t d x ≡ None
    parent_unseen = go (seen_of t d x) refl
      where
        go : (e : Option (Class × ℕ)) → seen_of t d x ≡ e → e ≡ None
        go None e = refl
        go (Some (a, m)) e =
            let u : t ≡ table_of t l 0 = table_upper t l 0 refl v.size in
            let q : (q : List Pair) × (stack_of t l (pair 0 d ∷ parent_stack.0) x ≡ pair 0 m ∷ q) =
            seen_starts t l d parent_stack.0 x a m (subst (λ (w : List ℕ). is_walked w d ≡ true) u walked) (subst (λ (w : List ℕ). seen_of w d x ≡ Some (a, m)) u e) in
            let n : (i : ℕ) × Resident f i × (key_of (f i) ≡ p ∷ x) =
            g.complete p parent_there (ap is_loaded parent_by ∙ loaded) x (λ z. let y : pair 0 m ∷ q.0 ≡ [] = sym q.1 ∙ (sym (ap (λ (ps : List Pair). stack_of t l ps x) parent_stack.1) ∙ z) in let o : suc (length q.0) ≡ 0 = ap length y in omega arith) in
            absurd (child_unknown (nodes_of s) p x missing n.0 n.1 n.2)

    -- the directory has not the name
    pub parent_absent : search_of (entries_of t) d x ≡ None
    parent_absent = unseen_missing t v d x parent_unseen

-- ---- the link

module _ (t l s : List ℕ) (v : Valid t) (g : Good t l s) (j : ℕ) (bj : j < count_of s) (upper_j : in_upper (node_at (nodes_of s) j) ≡ true) (no_directory : is_directory_node t l (node_at (nodes_of s) j) ≡ false)
    (k : ℕ) (bk : k < count_of s) (upper_k : in_upper (node_at (nodes_of s) k) ≡ true) (directory : is_walked t (top_of (node_at (nodes_of s) k)).number ≡ true) (loaded : is_loaded (node_at (nodes_of s) k) ≡ true)
    (x : Name) (well : WellFormed x) (short : length x ≤ 28) (q : ℕ) (seat : seat_of (nodes_of s) (node_at (nodes_of s) k).number x ≡ Err q) (i : ℕ) (free : free_entry_place (entries_of t) ≡ Some i)
  where
    abbrev dir : ℕ
    dir = (top_of (node_at (nodes_of s) k)).number

    abbrev num : ℕ
    num = (node_at (nodes_of s) k).number

    abbrev rec : ℕ
    rec = (top_of (node_at (nodes_of s) j)).number

    abbrev w : List ℕ
    w = added_entry t (entry_naming (top_of (node_at (nodes_of s) k)).number x (top_of (node_at (nodes_of s) j)).number)

    abbrev new : Node
    new = upper_alone (node_at (nodes_of s) k).number x (top_of (node_at (nodes_of s) j)).number

    no_node : find_child (nodes_of s) num x ≡ None
    unfolding holder
    no_node = sym (sym (ap holder seat) ∙ seat_child (nodes_of s) g.nodes.sorted num x)

    no_entry : search_of (entries_of t) dir x ≡ None
    no_entry = parent_absent t l s v g k bk upper_k directory loaded x no_node

    rec_there : Present (records_of t) rec
    rec_there = source_there t l s v g j bj upper_j no_directory

    rec_file : is_directory (record_at (records_of t) rec) ≡ false
    rec_file = source_file t l s v g j bj upper_j no_directory

    linked_table : (linked j k (Err q) x (up t s)).table ≡ w
    unfolding linked
    linked_table = refl

    w_valid : Valid w
    w_valid = link_valid t v dir directory x well short no_entry rec rec_there rec_file i free

    -- the upper table keeps every rule
    pub linked_valid : Valid (linked j k (Err q) x (up t s)).table
    linked_valid = subst Valid (sym linked_table) w_valid

    -- and so does every layer's
    pub linked_sound : SoundLayers t l → SoundLayers (linked j k (Err q) x (up t s)).table l
    linked_sound sound = subst (λ (y : List ℕ). SoundLayers y l) (sym linked_table) (link_sound t v dir directory x well short no_entry rec rec_there rec_file i free l sound)

    module _ (live : is_white (node_at (nodes_of s) j) ≡ false) (room : suffices s 1 ≡ true)
        (seated : seated_bytes s (upper_alone (node_at (nodes_of s) k).number x (top_of (node_at (nodes_of s) j)).number) q ≡ new_bytes s (upper_alone (node_at (nodes_of s) k).number x (top_of (node_at (nodes_of s) j)).number))
      where
        rec_live : is_whiteout (record_at (records_of t) rec) ≡ false
        rec_live = source_live t l s v g j bj upper_j no_directory live

        held : (ps : List Pair) × (stack_list (node_by (nodes_of s) num) ≡ pair 0 dir ∷ ps)
        held = parent_stack t l s v g k bk upper_k directory

        num_there : Resident (node_by (nodes_of s)) num
        num_there = parent_there t l s v g k bk upper_k directory

        few : length (pair 0 rec ∷ []) ≤ 4
        few = omega arith

        parent_is : new.parent ≡ num
        parent_is = new_parent num (pair 0 rec ∷ []) false x short few

        name_is : node_name new ≡ x
        name_is = new_name num (pair 0 rec ∷ []) false x short few

        stack_is : stack_list new ≡ pair 0 rec ∷ []
        stack_is = new_stack num (pair 0 rec ∷ []) false x short few

        tidy_is : Tidy new
        tidy_is = let a : num < next_of s = g.nodes.below_next num num_there in let m : next_of s ≤ 4294967296 = g.nodes.next_most in new_tidy num (pair 0 rec ∷ []) false x short few (omega arith)

        stack_after : stack_of w l (stack_list (node_by (nodes_of s) num)) x ≡ pair 0 rec ∷ []
        stack_after = ap (λ (ps : List Pair). stack_of w l ps x) held.1 ∙ link_stack t v dir directory x well short no_entry rec rec_there rec_file i free rec_live l held.0

        mark_after : whiteout_of w l (stack_list (node_by (nodes_of s) num)) x ≡ false
        mark_after = ap (λ (ps : List Pair). whiteout_of w l ps x) held.1 ∙ link_mark t v dir directory x well short no_entry rec rec_there rec_file i free rec_live l held.0

        is_new : New t w l (node_by (nodes_of s)) new
        is_new =
            change_new t l s g v w w_valid.size dir x (link_changed t v dir directory x well short no_entry rec rec_there rec_file i free)
            (link_record t v dir directory x well short no_entry rec rec_there rec_file i free 1) num num_there directory (subst (In (pair 0 dir)) (sym held.1) (here refl))
            new (ap₂ ◌∷◌ parent_is name_is) no_node (stack_is ∙ sym stack_after)
            (λ z. let y : pair 0 rec ∷ [] ≡ [] = sym stack_is ∙ z in let o : ◌≡◌ {A = ℕ} 1 0 = ap length y in omega arith)
            (new_white num (pair 0 rec ∷ []) false x short few ∙ ap one (sym mark_after))
            (new_loaded num (pair 0 rec ∷ []) false x short few)

        not_full : full s ≡ false
        unfolding full
        not_full = let a : 1 ≤ room_of s = (suffices_both s 1 room).0 in lt-leb (capacity s) (count_of s) (omega arith)

        numbers : next_of s ≤ 4294967295
        numbers = let a : 1 ≤ numbers_left s = (suffices_both s 1 room).1 in omega arith

        pub linked_state : (linked j k (Err q) x (up t s)).state ≡ new_bytes s (upper_alone (node_at (nodes_of s) k).number x (top_of (node_at (nodes_of s) j)).number)
        unfolding linked named_state
        linked_state = seated

        -- what holds between calls holds of the table and the state
        pub linked_good : Good (linked j k (Err q) x (up t s)).table l (linked j k (Err q) x (up t s)).state
        linked_good =
            subst (λ (y : List ℕ). Good (linked j k (Err q) x (up t s)).table l y) (sym linked_state)
            (subst (λ (y : List ℕ). Good y l (new_bytes s new)) (sym linked_table)
            (new_good t w l s g.nodes new tidy_is is_new (ap₂ (find_child (nodes_of s)) parent_is name_is ∙ no_node) not_full numbers g.blank g.complete))
