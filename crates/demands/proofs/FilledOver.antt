-- What a creation or a link writes over a whiteout of a lower layer keeps what holds between calls. Assumes nothing.
use Rattle.std.specs.Prelude.{Option, Some, None, Ok}
use Rattle.merge.specs.declared.stacks.Class.{Class}
use mathlib.Core.Path.{◌≡◌, refl, sym, ap, ap₂, ◌∙◌, subst}
use mathlib.Core.Logic.{◌≢◌}
use Prim.Native.Nat.{ℕ, ◌≤◌, ◌<◌}
use native.Mathlib.Omega.{arith}
use mathlib.Core.Bool.{Bool, true, false, not}
use mathlib.Core.List.{List, [], ◌∷◌}
use lib.Dec.{eqb}
use lib.ListN.{length}
use borrow.Author.Tests.{eqb-false, eq-eqb, ne_eqb}
use Rattle.layers.specs.Names.{Name}
use Rattle.layers.specs.Items.{records_of, entries_of, record_at, FitsTail}
use Rattle.layers.specs.Search.{one, search_of, free_entry_place, free_record_place}
use Rattle.layers.specs.Change.{entry_naming, numbered, added_entry, added_record}
use Rattle.layers.specs.Rules.{Present, WellFormed, GoodRecord, Valid}
use Rattle.layers.specs.declared.items.Record.{Record}
use Rattle.layers.proofs.EveryLaws.{no_true}
use Rattle.merge.specs.Nodes.{node_name, key_of, count_of, nodes_of, node_at}
use Rattle.merge.specs.Methods.{with_white, alone}
use Rattle.merge.specs.Heads.{next_of}
use Rattle.merge.specs.Seats.{seat_of, holder}
use Rattle.merge.specs.Tables.{table_of}
use Rattle.merge.specs.Classes.{is_whiteout, is_directory, seen_of}
use Rattle.merge.specs.Scan.{is_walked}
use Rattle.merge.specs.Stacks.{pair, stack_of, whiteout_of}
use Rattle.merge.specs.Load.{stack_list, is_loaded}
use Rattle.merge.specs.declared.node.Node.{Node}
use Rattle.merge.specs.declared.stacks.Pair.{Pair}
use Rattle.merge.proofs.StateLaws.{length_nodes}
use Rattle.merge.proofs.TableLaws.{table_upper}
use Rattle.merge.proofs.ClassLaws.{directory_walked, walked_long}
use Rattle.calls.specs.Parents.{top_of, is_white, is_directory_node}
use Rattle.calls.specs.Upper.{up, in_upper, record_number, add_new, given_record, named_state}
use Rattle.calls.specs.Creation.{filled}
use Rattle.calls.specs.Link.{linked}
use Rattle.demands.specs.Invariant.{node_by, Resident, Good}
use Rattle.demands.specs.Reads.{SoundLayers}
use Rattle.demands.proofs.NameChanges.{ChangedAt}
use Rattle.demands.proofs.TopLaws.{top_walked, stack_none, directory_live}
use Rattle.demands.proofs.InvariantNodes.{place_by, place_resident, child_place}
use Rattle.demands.proofs.InvariantKept.{tidy_place}
use Rattle.demands.proofs.InvariantMoves.{Step}
use Rattle.demands.proofs.InvariantShare.{In, here, Above, stack_above}
use Rattle.demands.proofs.InvariantChange.{step_good}
use Rattle.demands.proofs.InvariantUpper.{child_not_root, change_step}
use Rattle.demands.proofs.SeatOrder.{seat_child}
use Rattle.demands.proofs.MadeDirectory.{seen_starts}
use Rattle.demands.proofs.CopiedFile.{top_first, mark_none, named_stands, unseen_missing, node_some, node_short}
use Rattle.demands.proofs.FilledNew.{Makeable, made_valid, made_here, made_root, made_changed, made_stack, made_mark}
use Rattle.demands.proofs.LinkedNew.{link_valid, link_record, link_changed, link_sound, link_stack, link_mark, source_file, source_there, source_live, parent_there, parent_stack}
use Rattle.demands.proofs.SoundUpper.{sound_changed}
use Rattle.demands.proofs.GivenNode.{given_key, given_number, given_white, given_loaded, given_stack, given_tidy}

marked_one : (b : Bool) (m : ℕ) → m ≡ one b → not (eqb m 0) ≡ true → b ≡ true
unfolding one
marked_one true m e h = refl
marked_one false m e h = no_true (sym (ap not (eq-eqb m 0 e)) ∙ h)

-- the node at a name's seat is the name's
pub held_place : (t l s : List ℕ) → Good t l s → (p : ℕ) (x : Name) (j : ℕ) → seat_of (nodes_of s) p x ≡ Ok j → (j < count_of s) × (key_of (node_at (nodes_of s) j) ≡ p ∷ x)
unfolding holder
held_place t l s g p x j seat =
    let e : (j < length (nodes_of s)) × (key_of (node_at (nodes_of s) j) ≡ p ∷ x) = child_place (nodes_of s) p x j (sym (seat_child (nodes_of s) g.nodes.sorted p x) ∙ ap holder seat) in
    (subst (λ (m : ℕ). j < m) (length_nodes s) e.0, e.1)

-- ---- the node at place `j` has the name `x` below the node at place `k`, which stands on an upper directory; it is marked white, and its whiteout is in a lower layer

module _ (t l s : List ℕ) (v : Valid t) (g : Good t l s) (sound : SoundLayers t l)
    (k : ℕ) (bk : k < count_of s) (upper : in_upper (node_at (nodes_of s) k) ≡ true) (walked : is_walked t (top_of (node_at (nodes_of s) k)).number ≡ true)
    (j : ℕ) (bj : j < count_of s) (x : Name) (key : key_of (node_at (nodes_of s) j) ≡ (node_at (nodes_of s) k).number ∷ x) (white : is_white (node_at (nodes_of s) j) ≡ true) (lower : in_upper (node_at (nodes_of s) j) ≡ false)
  where
    abbrev f : ℕ → Node
    f = node_by (nodes_of s)

    abbrev n : Node
    n = node_at (nodes_of s) j

    abbrev p : ℕ
    p = (node_at (nodes_of s) k).number

    abbrev d : ℕ
    d = (top_of (node_at (nodes_of s) k)).number

    by_place : f n.number ≡ n
    by_place = place_by (nodes_of s) g.nodes.once j (rw (length_nodes s) bj)

    node_there : Resident f n.number
    node_there = place_resident (nodes_of s) g.nodes.once j (rw (length_nodes s) bj) g.nodes.none_zero

    above_there : Resident f p
    above_there = parent_there t l s v g k bk upper walked

    held : (ps : List Pair) × (stack_list (f p) ≡ pair 0 d ∷ ps)
    held = parent_stack t l s v g k bk upper walked

    parent_n : n.parent ≡ p
    parent_n = cc

    name_n : node_name n ≡ x
    name_n = cc

    not_root : n.number ≢ 1
    not_root = child_not_root t l s g v p x n.number above_there (ap key_of by_place ∙ key)

    some_n : stack_list n ≢ []
    some_n = node_some t l s v g j bj not_root

    stack_n : stack_list n ≡ stack_of t l (pair 0 d ∷ held.0) x
    stack_n =
        subst (λ (m : Node). stack_list m ≡ stack_of t l (stack_list (f m.parent)) (node_name m)) by_place (g.nodes.coherent.stack_is n.number (node_there, not_root))
        ∙ (ap₂ (λ (i : ℕ) (y : Name). stack_of t l (stack_list (f i)) y) parent_n name_n ∙ ap (λ (ps : List Pair). stack_of t l ps x) held.1)

    white_n : n.white ≡ one (whiteout_of t l (pair 0 d ∷ held.0) x)
    white_n =
        subst (λ (m : Node). m.white ≡ one (whiteout_of t l (stack_list (f m.parent)) (node_name m))) by_place (g.nodes.coherent.white_is n.number (node_there, not_root))
        ∙ (ap₂ (λ (i : ℕ) (y : Name). one (whiteout_of t l (stack_list (f i)) y)) parent_n name_n ∙ ap (λ (ps : List Pair). one (whiteout_of t l ps x)) held.1)

    first_n : (r : List Pair) × (stack_list n ≡ top_of n ∷ r)
    first_n = top_first n some_n

    starts : stack_of t l (pair 0 d ∷ held.0) x ≡ top_of n ∷ first_n.0
    starts = sym stack_n ∙ first_n.1

    marked : whiteout_of t l (pair 0 d ∷ held.0) x ≡ true
    unfolding is_white
    marked = marked_one (whiteout_of t l (pair 0 d ∷ held.0) x) n.white white_n white

    -- a whiteout is no directory
    no_walk : top_walked t l (stack_list n) ≡ false
    no_walk = go (top_walked t l (stack_list n)) refl
      where
        go : (b : Bool) → top_walked t l (stack_list n) ≡ b → b ≡ false
        go true e = no_true (sym (directory_live t l (pair 0 d ∷ held.0) x (ap (top_walked t l) (sym stack_n) ∙ e)) ∙ marked)
        go false e = refl

    -- and the upper directory has not the name
    unseen : seen_of t d x ≡ None
    unfolding in_upper
    unseen = go (seen_of t d x) refl
      where
        go : (e : Option (Class × ℕ)) → seen_of t d x ≡ e → e ≡ None
        go None e = refl
        go (Some (a, m)) e =
            let u : t ≡ table_of t l 0 = table_upper t l 0 refl v.size in
            let q : (q : List Pair) × (stack_of t l (pair 0 d ∷ held.0) x ≡ pair 0 m ∷ q) =
            seen_starts t l d held.0 x a m (subst (λ (w : List ℕ). is_walked w d ≡ true) u walked) (subst (λ (w : List ℕ). seen_of w d x ≡ Some (a, m)) u e) in
            let y : top_of n ∷ first_n.0 ≡ pair 0 m ∷ q.0 = sym starts ∙ q.1 in
            let z : top_of n ≡ pair 0 m = cc in
            absurd (eqb-false (top_of n).layer 0 lower (ap (λ (b : Pair). b.layer) z))

    absent : search_of (entries_of t) d x ≡ None
    absent = unseen_missing t v d x unseen

    -- the name is one that a table has
    above : Above t l x (pair 0 d ∷ held.0) (top_of n)
    above = stack_above t l x (pair 0 d ∷ held.0) (subst (In (top_of n)) (sym starts) (here refl))

    well : WellFormed x
    well =
        (named_stands (table_of t l above.at.layer) (sound.tables above.at.layer (walked_long (table_of t l above.at.layer) above.at.number true (sym above.walked) refl))
        above.at.number x (top_of n).number above.found above.some).well_formed

    short : length x ≤ 28
    short = subst (λ (y : Name). length y ≤ 28) name_n (node_short t l s v g j bj not_root)

    -- ---- the upper table becomes `w`, in which the name has the record `c`, a file's

    module _ (w : List ℕ) (valid : Valid w) (change : ChangedAt t w (top_of (node_at (nodes_of s) k)).number x) (root_stays : record_at (records_of t) 1 ≡ record_at (records_of w) 1) (c : ℕ) (file : is_walked w c ≡ false)
        (stack : (ps : List Pair) → stack_of w l (pair 0 (top_of (node_at (nodes_of s) k)).number ∷ ps) x ≡ pair 0 c ∷ []) (mark : (ps : List Pair) → whiteout_of w l (pair 0 (top_of (node_at (nodes_of s) k)).number ∷ ps) x ≡ false)
      where
        abbrev a : Node
        a = with_white (alone (node_at (nodes_of s) j) (pair 0 c)) 0

        given_top : top_walked w l (pair 0 c ∷ []) ≡ false
        unfolding top_walked
        given_top = ap (λ (y : List ℕ). is_walked y c) (sym (table_upper w l 0 refl valid.size)) ∙ file

        given_below : (y : Name) → stack_of w l (stack_list a) y ≡ stack_of t l (stack_list (f n.number)) y
        given_below y =
            ap (λ (q : List Pair). stack_of w l q y) (given_stack n (pair 0 c))
            ∙ (stack_none w l (pair 0 c ∷ []) y given_top
            ∙ sym (ap (λ (m : Node). stack_of t l (stack_list m) y) by_place ∙ stack_none t l (stack_list n) y no_walk))

        given_below_mark : (y : Name) → whiteout_of w l (stack_list a) y ≡ whiteout_of t l (stack_list (f n.number)) y
        given_below_mark y =
            ap (λ (q : List Pair). whiteout_of w l q y) (given_stack n (pair 0 c))
            ∙ (mark_none w l (pair 0 c ∷ []) y given_top
            ∙ sym (ap (λ (m : Node). whiteout_of t l (stack_list m) y) by_place ∙ mark_none t l (stack_list n) y no_walk))

        given_holds : stack_list a ≡ stack_of w l (stack_list (f p)) x
        given_holds = given_stack n (pair 0 c) ∙ sym (ap (λ (q : List Pair). stack_of w l q x) held.1 ∙ stack held.0)

        given_some : stack_list a ≢ []
        given_some z = let y : pair 0 c ∷ [] ≡ [] = sym (given_stack n (pair 0 c)) ∙ z in let o : ◌≡◌ {A = ℕ} 1 0 = ap length y in omega arith

        given_live : a.white ≡ one (whiteout_of w l (stack_list (f p)) x)
        unfolding one
        given_live = given_white n (pair 0 c) ∙ sym (ap one (ap (λ (q : List Pair). whiteout_of w l q x) held.1 ∙ mark held.0))

        given_step : Step t w l f n.number a
        given_step =
            change_step t l s g v w valid.size d x change root_stays p above_there walked (subst (In (pair 0 d)) (sym held.1) (here refl))
            n.number node_there (ap key_of by_place ∙ key) a (given_number n (pair 0 c)) (given_key n (pair 0 c) ∙ key) (λ h. ap is_loaded by_place ∙ (sym (given_loaded n (pair 0 c)) ∙ h))
            given_below given_below_mark given_holds given_some given_live

        given_good : Good w l (given_record s j c)
        unfolding given_record
        given_good = step_good t w l s g j bj a (given_tidy n (pair 0 c) (tidy_place t l (nodes_of s) (next_of s) g.nodes j)) not_root given_step

    -- ---- a creation

    module _ (i m : ℕ) (hr : free_record_place (records_of t) ≡ Some i) (he : free_entry_place (entries_of t) ≡ Some m) (r : Record) (good : GoodRecord i (numbered i r)) (tail : FitsTail r) (no_directory : r.kind ≢ 4) (no_whiteout : is_whiteout r ≡ false) where
      makeable : Makeable t d x r i
      makeable = record { walked = walked; unseen = unseen; well_formed = well; short = short; good = good; tail = tail; no_directory = no_directory; no_whiteout = no_whiteout }

      abbrev made : List ℕ
      made = added_entry (added_record t r) (entry_naming (top_of (node_at (nodes_of s) k)).number x i)

      table_is : (filled k (Ok j) x r (up t s)).table ≡ made
      unfolding filled add_new record_number
      table_is = ap (λ (q : Option ℕ). added_entry (added_record t r) (entry_naming d x (record_number q))) hr

      state_is : (filled k (Ok j) x r (up t s)).state ≡ given_record s j i
      unfolding filled named_state record_number
      state_is = ap (λ (q : Option ℕ). given_record s j (record_number q)) hr

      valid_after : Valid made
      valid_after = made_valid t v d x r i makeable m hr he

      file_after : is_walked made i ≡ false
      file_after = directory_walked made 0 i valid_after.size ∙ (ap is_directory (made_here t v d x r i makeable m hr he) ∙ ne_eqb r.kind 4 no_directory)

      -- the upper table keeps every rule
      pub filled_over_valid : Valid (filled k (Ok j) x r (up t s)).table
      filled_over_valid = subst Valid (sym table_is) valid_after

      -- and so does every layer's
      pub filled_over_sound : SoundLayers (filled k (Ok j) x r (up t s)).table l
      filled_over_sound = subst (λ (z : List ℕ). SoundLayers z l) (sym table_is) (sound_changed t made l sound valid_after)

      -- what holds between calls holds of the table and the state
      pub filled_over_good : Good (filled k (Ok j) x r (up t s)).table l (filled k (Ok j) x r (up t s)).state
      filled_over_good =
          rw (table_is, state_is)
          (given_good made valid_after (made_changed t v d x r i makeable m hr he) (made_root t v d x r i makeable m hr he) i file_after
          (made_stack t v d x r i makeable m hr he l) (made_mark t v d x r i makeable m hr he l))

    -- ---- a link of the node at place `h`, which stands on an upper record, and is no directory and not marked white

    module _ (h : ℕ) (bh : h < count_of s) (upper_h : in_upper (node_at (nodes_of s) h) ≡ true) (no_directory : is_directory_node t l (node_at (nodes_of s) h) ≡ false) (i : ℕ) (free : free_entry_place (entries_of t) ≡ Some i) where
      abbrev rec : ℕ
      rec = (top_of (node_at (nodes_of s) h)).number

      abbrev link : List ℕ
      link = added_entry t (entry_naming (top_of (node_at (nodes_of s) k)).number x (top_of (node_at (nodes_of s) h)).number)

      rec_there : Present (records_of t) rec
      rec_there = source_there t l s v g h bh upper_h no_directory

      rec_file : is_directory (record_at (records_of t) rec) ≡ false
      rec_file = source_file t l s v g h bh upper_h no_directory

      link_is : (linked h k (Ok j) x (up t s)).table ≡ link
      unfolding linked
      link_is = refl

      valid_link : Valid link
      valid_link = link_valid t v d walked x well short absent rec rec_there rec_file i free

      file_link : is_walked link rec ≡ false
      file_link = directory_walked link 0 rec valid_link.size ∙ (sym (ap is_directory (link_record t v d walked x well short absent rec rec_there rec_file i free rec)) ∙ rec_file)

      -- the upper table keeps every rule
      pub linked_over_valid : Valid (linked h k (Ok j) x (up t s)).table
      linked_over_valid = subst Valid (sym link_is) valid_link

      -- and so does every layer's
      pub linked_over_sound : SoundLayers (linked h k (Ok j) x (up t s)).table l
      linked_over_sound = subst (λ (z : List ℕ). SoundLayers z l) (sym link_is) (link_sound t v d walked x well short absent rec rec_there rec_file i free l sound)

      module _ (live : is_white (node_at (nodes_of s) h) ≡ false) where
        rec_live : is_whiteout (record_at (records_of t) rec) ≡ false
        rec_live = source_live t l s v g h bh upper_h no_directory live

        state_link : (linked h k (Ok j) x (up t s)).state ≡ given_record s j rec
        unfolding linked named_state
        state_link = refl

        -- what holds between calls holds of the table and the state
        pub linked_over_good : Good (linked h k (Ok j) x (up t s)).table l (linked h k (Ok j) x (up t s)).state
        linked_over_good =
            rw (link_is, state_link)
            (given_good link valid_link (link_changed t v d walked x well short absent rec rec_there rec_file i free) (link_record t v d walked x well short absent rec rec_there rec_file i free 1) rec file_link
            (link_stack t v d walked x well short absent rec rec_there rec_file i free rec_live l) (link_mark t v d walked x well short absent rec rec_there rec_file i free rec_live l))
