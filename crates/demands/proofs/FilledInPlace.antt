-- What a creation writes over a whiteout of the upper layer keeps what holds between calls. Assumes nothing.
use Rattle.std.specs.Prelude.{Option, Some, None, Ok}
use mathlib.Core.Path.{◌≡◌, refl, sym, ap, ap₂, ◌∙◌, subst}
use mathlib.Core.Logic.{◌≢◌}
use Prim.Native.Nat.{ℕ, zero, suc, ◌+◌, ◌*◌, ◌≤◌, ◌<◌}
use native.Mathlib.Omega.{arith}
use native.Mathlib.Nat.{zero-add}
use native.Mathlib.Decide.{ℕ_discrete}
use mathlib.Core.Bool.{Bool, true, false, cond}
use mathlib.Core.List.{List, [], ◌∷◌, ◌++◌}
use lib.Dec.{eqb, ltb}
use lib.ListN.{length, take, drop, set}
use lib.Seq.{get_or-set_same, get_or-set_other}
use borrow.Author.Tests.{eqb-true, eqb-false, eq-eqb, ne_eqb, not-true, lt-ltb}
use Rattle.layers.specs.Names.{Name}
use Rattle.layers.specs.Bytes.{over}
use Rattle.layers.specs.Items.{records_of, entries_of, record_at, entry_at, free_entry, FitsTail}
use Rattle.layers.specs.Search.{one, name_of, is_free, names, naming, search_of, free_entry_place, free_record_place}
use Rattle.layers.specs.Change.{entry_naming, numbered, added_entry, added_record, records_left, entries_left, dropped_entry, DropEntry}
use Rattle.layers.specs.Rules.{Present, Used, WellFormed, GoodRecord, Valid}
use Rattle.layers.specs.declared.items.Record.{Record}
use Rattle.layers.specs.declared.items.Entry.{Entry}
use Rattle.layers.proofs.EveryLaws.{no_true}
use Rattle.layers.proofs.ChangeLaws.{first_passes, left_search, records_left_named, records_left_unnamed, records_left_other, freed_here}
use Rattle.layers.proofs.ChangeBytes.{dropped_entry_lem}
use Rattle.layers.proofs.Runs.{take_over, drop_over_end}
use Rattle.merge.specs.declared.node.Node.{Node}
use Rattle.merge.specs.declared.stacks.Pair.{Pair}
use Rattle.merge.specs.declared.stacks.Class.{Class}
use Rattle.merge.specs.declared.stacks.Class.TheVariants.{Whiteout, Other, Plain, Opaque}
use Rattle.merge.specs.Nodes.{no_pair, no_node, node_bytes, node_name, key_of, count_of, nodes_of, node_at, FitsNode}
use Rattle.merge.specs.Heads.{next_of}
use Rattle.merge.specs.Methods.{with_stack, with_white, alone}
use Rattle.merge.specs.Changes.{put_bytes}
use Rattle.merge.specs.Tables.{table_of}
use Rattle.merge.specs.Classes.{is_whiteout, is_directory, is_opaque, class_at, child_at, named, seen_of}
use Rattle.merge.specs.Scan.{is_walked}
use Rattle.merge.specs.Stacks.{pair, is_mark, stack_of, whiteout_of}
use Rattle.merge.specs.Pushes.{ends_merge}
use Rattle.merge.specs.Load.{stack_list, is_loaded}
use Rattle.merge.specs.Tidy.{Tidy}
use Rattle.merge.proofs.MergeLaws.{Each}
use Rattle.merge.proofs.ClassLaws.{directory_class, directory_walked}
use Rattle.merge.proofs.NamedLaws.{names_used}
use Rattle.merge.proofs.NodeLaws.{length_node}
use Rattle.merge.proofs.HeadLaws.{in_memory}
use Rattle.merge.proofs.NodesAfter.{count_put, nodes_put}
use Rattle.merge.proofs.StateLaws.{length_nodes}
use Rattle.merge.proofs.TableLaws.{table_upper}
use Rattle.calls.specs.Parents.{top_of, is_white}
use Rattle.calls.specs.Upper.{up, in_upper, record_number, new_record, add_new, made_upper, emptied, without_whiteout, given_record, named_state}
use Rattle.calls.specs.Creation.{prepared, filled}
use Rattle.demands.specs.Invariant.{node_by, Resident, Good}
use Rattle.demands.specs.Reads.{SoundLayers}
use Rattle.demands.proofs.NameChanges.{Elsewhere, ChangedAt, names_parts, left_named_other}
use Rattle.demands.proofs.UpperLaws.{scan_agree}
use Rattle.demands.proofs.TopLaws.{top_walked, stack_alone, stack_none, whiteout_top}
use Rattle.demands.proofs.InvariantNodes.{place_by, place_resident}
use Rattle.demands.proofs.InvariantKept.{tidy_place}
use Rattle.demands.proofs.InvariantMoves.{Step}
use Rattle.demands.proofs.InvariantChange.{step_good}
use Rattle.demands.proofs.InvariantShare.{In, here, there, in_nil, Above, stack_above}
use Rattle.demands.proofs.InvariantUpper.{child_not_root, change_step}
use Rattle.demands.proofs.UpperFirst.{Lower, UpperFirst, node_first}
use Rattle.demands.proofs.ValidDropped.{valid_dropped}
use Rattle.demands.proofs.MadeDirectory.{walked_kind}
use Rattle.demands.proofs.CopiedFile.{top_first, named_stands, mark_none}
use Rattle.demands.proofs.FilledNew.{Makeable, made_valid, made_here, made_root, made_changed, made_stack, made_mark}
use Rattle.demands.proofs.LinkedNew.{parent_there, parent_stack}
use Rattle.demands.proofs.SoundUpper.{sound_changed}
use Rattle.demands.proofs.GivenNode.{given, given_key, given_number, given_white, given_loaded, given_stack, given_tidy}

-- ---- two changes at one name

pub changed_then : (t u w : List ℕ) (d : ℕ) (x : Name) → ChangedAt t u d x → ChangedAt u w d x → ChangedAt t w d x
changed_then t u w d x a b =
    record {
      others = λ m y e. b.others m y e ∙ a.others m y e;
      stay = λ m y e. subst (λ (q : ℕ). record_at (records_of w) q ≡ record_at (records_of u) q) (a.others m y e) (b.stay m y e) ∙ a.stay m y e;
    }

-- ---- the table `t` without the entry at `e`, which has the name `x` in the directory `d`

module _ (t : List ℕ) (v : Valid t) (d : ℕ) (x : Name) (e : ℕ) (at : search_of (entries_of t) d x ≡ Some e) where
  abbrev c : ℕ
  c = (entry_at (entries_of t) e).child

  entry_names : names d x (entry_at (entries_of t) e) ≡ true
  entry_names = first_passes (names d x) free_entry 0 (entries_of t) e (at ∙ ap Some (sym (zero-add e)))

  entry_used : Used (entries_of t) e
  entry_used = names_used d x (entry_at (entries_of t) e) entry_names

  child_there : Present (records_of t) c
  child_there = (v.ends e).child_exists entry_used

  child_some : c ≢ 0
  child_some z = child_there (ap (λ (i : ℕ). (record_at (records_of t) i).number) z)

  entry_well_formed : WellFormed x
  entry_well_formed = subst WellFormed (names_parts d x (entry_at (entries_of t) e) entry_names).1 ((v.entries e).well_formed entry_used)

  entry_seen : seen_of t d x ≡ Some (class_at t d c, c)
  unfolding seen_of child_at
  entry_seen = rw (at, ne_eqb c 0 child_some) refl

  -- no other entry has the name
  entry_only : (i : ℕ) → i ≢ e → names d x (entry_at (entries_of t) i) ≡ false
  entry_only i n = go (names d x (entry_at (entries_of t) i)) refl
    where
      go : (b : Bool) → names d x (entry_at (entries_of t) i) ≡ b → b ≡ false
      go true h =
          let a : ((entry_at (entries_of t) i).parent ≡ d) × (name_of (entry_at (entries_of t) i) ≡ x) = names_parts d x (entry_at (entries_of t) i) h in
          let b : ((entry_at (entries_of t) e).parent ≡ d) × (name_of (entry_at (entries_of t) e) ≡ x) = names_parts d x (entry_at (entries_of t) e) entry_names in
          absurd (n (v.distinct i e (names_used d x (entry_at (entries_of t) i) h) entry_used (a.0 ∙ sym b.0) (a.1 ∙ sym b.1)))
      go false h = refl

  module _ (no_directory : (record_at (records_of t) (entry_at (entries_of t) e).child).kind ≢ 4) where
    abbrev u : List ℕ
    u = dropped_entry t e

    pub drop_valid : Valid (dropped_entry t e)
    drop_valid = valid_dropped t v e entry_used no_directory

    drop_is : DropEntry t e u
    drop_is = dropped_entry_lem t e v.size

    not_free : is_free (entry_at (entries_of t) e) ≡ false
    unfolding is_free
    not_free = ne_eqb (entry_at (entries_of t) e).parent 0 entry_used

    drop_entries : entries_of u ≡ entries_left (entries_of t) e
    drop_entries = drop_is.entries ∙ rw not_free refl

    drop_records : records_of u ≡ records_left (records_of t) (entries_left (entries_of t) e) c
    drop_records = drop_is.records ∙ rw not_free refl

    -- the name is gone
    pub drop_missing : search_of (entries_of (dropped_entry t e)) d x ≡ None
    drop_missing = ap (λ (es : List Entry). search_of es d x) drop_entries ∙ left_search (entries_of t) e d x entry_only

    drop_unseen : seen_of (dropped_entry t e) d x ≡ None
    unfolding seen_of child_at
    drop_unseen = rw drop_missing refl

    -- every other record stands as it did
    drop_kept : (q : ℕ) → q ≢ c → record_at (records_of u) q ≡ record_at (records_of t) q
    drop_kept q n = ap (λ (rs : List Record). record_at rs q) drop_records ∙ records_left_other (records_of t) (entries_left (entries_of t) e) c q n

    -- and so does the entry's own where it is still there
    drop_stays : Present (records_of u) c → record_at (records_of u) c ≡ record_at (records_of t) c
    drop_stays p = go (ℕ_discrete (naming c (entries_left (entries_of t) e)) 0)
      where
        go : Dec (naming c (entries_left (entries_of t) e) ≡ 0) → record_at (records_of u) c ≡ record_at (records_of t) c
        go (yes z) = absurd (p (ap (λ (rs : List Record). (record_at rs c).number) (drop_records ∙ records_left_unnamed (records_of t) (entries_left (entries_of t) e) c z) ∙ ap (λ (r : Record). r.number) (freed_here (records_of t) c)))
        go (no z) = ap (λ (rs : List Record). record_at rs c) (drop_records ∙ records_left_named (records_of t) (entries_left (entries_of t) e) c z)

    drop_others : (m : ℕ) (y : Name) → Elsewhere d x m y → named (entries_of u) m y ≡ named (entries_of t) m y
    drop_others m y n = ap (λ (es : List Entry). named es m y) drop_entries ∙ left_named_other (entries_of t) e d x entry_names m y n

    pub drop_changed : ChangedAt t (dropped_entry t e) d x
    drop_changed = record { others = drop_others; stay = λ m y n. go m y n (ℕ_discrete (named (entries_of t) m y) c) }
      where
        go : (m : ℕ) (y : Name) → Elsewhere d x m y → Dec (named (entries_of t) m y ≡ c) → record_at (records_of u) (named (entries_of t) m y) ≡ record_at (records_of t) (named (entries_of t) m y)
        go m y n (yes q) = subst (λ (i : ℕ). record_at (records_of u) i ≡ record_at (records_of t) i) (sym q) (drop_stays (named_stands u drop_valid m y c (drop_others m y n ∙ q) child_some).present)
        go m y n (no q) = drop_kept (named (entries_of t) m y) q

    pub drop_root : record_at (records_of t) 1 ≡ record_at (records_of (dropped_entry t e)) 1
    drop_root = sym (drop_kept 1 (λ z. (v.ends e).child_not_root entry_used (sym z)))

    pub drop_walked : is_walked t d ≡ true → is_walked (dropped_entry t e) d ≡ true
    drop_walked w = (scan_agree u t d (drop_valid.size ∙ sym v.size) (drop_kept d (λ z. no_directory (ap (λ (q : ℕ). (record_at (records_of t) q).kind) (sym z) ∙ walked_kind t v d w)))).0 ∙ w

    -- ---- and with the record `r` under that name

    module _ (walked : is_walked t d ≡ true) (short : length x ≤ 28) (i m : ℕ) (hr : free_record_place (records_of (dropped_entry t e)) ≡ Some i) (he : free_entry_place (entries_of (dropped_entry t e)) ≡ Some m)
        (r : Record) (good : GoodRecord i (numbered i r)) (tail : FitsTail r) (no_directory_r : r.kind ≢ 4) (no_whiteout : is_whiteout r ≡ false)
      where
        abbrev w : List ℕ
        w = added_entry (added_record (dropped_entry t e) r) (entry_naming d x i)

        refillable : Makeable u d x r i
        refillable = record { walked = drop_walked walked; unseen = drop_unseen; well_formed = entry_well_formed; short = short; good = good; tail = tail; no_directory = no_directory_r; no_whiteout = no_whiteout }

        refilled_valid : Valid w
        refilled_valid = made_valid u drop_valid d x r i refillable m hr he

        refilled_changed : ChangedAt t w d x
        refilled_changed = changed_then t u w d x drop_changed (made_changed u drop_valid d x r i refillable m hr he)

        refilled_root : record_at (records_of t) 1 ≡ record_at (records_of w) 1
        refilled_root = drop_root ∙ made_root u drop_valid d x r i refillable m hr he

        refilled_sound : (l : List ℕ) → SoundLayers t l → SoundLayers w l
        refilled_sound l sound = sound_changed t w l sound refilled_valid

        refilled_file : is_walked w i ≡ false
        refilled_file = directory_walked w 0 i refilled_valid.size ∙ (ap is_directory (made_here u drop_valid d x r i refillable m hr he) ∙ ne_eqb r.kind 4 no_directory_r)

        module _ (l : List ℕ) where
          refilled_stack : (ps : List Pair) → stack_of w l (pair 0 d ∷ ps) x ≡ pair 0 i ∷ []
          refilled_stack ps = made_stack u drop_valid d x r i refillable m hr he l ps

          refilled_mark : (ps : List Pair) → whiteout_of w l (pair 0 d ∷ ps) x ≡ false
          refilled_mark ps = made_mark u drop_valid d x r i refillable m hr he l ps

          -- nothing lies below the record
          refilled_top : top_walked w l (pair 0 i ∷ []) ≡ false
          unfolding top_walked
          refilled_top = ap (λ (y : List ℕ). is_walked y i) (sym (table_upper w l 0 refl refilled_valid.size)) ∙ refilled_file

-- ---- a node written twice at one place

over_again : (s : List ℕ) (a : ℕ) (x y : List ℕ) → length x ≡ length y → a + length x ≤ length s → over (over s a x) a y ≡ over s a y
over_again s a x y e h =
    ap₂ (λ (p q : List ℕ). p ++ y ++ q) (take_over s a x h a (omega arith))
    (ap (λ (n : ℕ). drop (a + n) (over s a x)) (sym e) ∙ (drop_over_end s a x h ∙ ap (λ (n : ℕ). drop (a + n) s) e))

pub put_again : (s : List ℕ) (j : ℕ) (m a : Node) → FitsNode m → FitsNode a → j < count_of s → put_bytes (put_bytes s j m) j a ≡ put_bytes s j a
unfolding put_bytes
put_again s j m a f g b =
    let lm : length (node_bytes m) ≡ 52 = length_node m f.arrays in
    let la : length (node_bytes a) ≡ 52 = length_node a g.arrays in
    let o : ltb j (count_of s) ≡ true = lt-ltb j (count_of s) b in
    let n : count_of (over s (12 + 52 * j) (node_bytes m)) ≡ count_of s = ap count_of (sym (rw o refl)) ∙ count_put s j m f in
    rw (o, n, o) (over_again s (12 + 52 * j) (node_bytes m) (node_bytes a) (lm ∙ sym la) (omega (arith, in_memory s j b)))

-- ---- the node of the new record: "The node keeps number and count; its stack becomes the new record."

module _ (n : Node) where
  abbrev bare : Node
  bare = with_stack n (no_pair ∷ no_pair ∷ no_pair ∷ no_pair ∷ []) 0

  bare_fits : FitsNode n → FitsNode bare
  unfolding with_stack
  bare_fits f = record { numbers = record { number_fits = f.numbers.number_fits; parent_fits = f.numbers.parent_fits; count_fits = f.numbers.count_fits }; arrays = record { stack_fits = refl; name_fits = f.arrays.name_fits } }

module _ (n : Node) (p : Pair) where
  given_bare : with_white (alone (bare n) p) 0 ≡ given n p
  unfolding with_white with_stack
  given_bare = refl

-- ---- the whiteout's class

mark_ends : (c : Class) → is_mark c ≡ true → ends_merge c ≡ true
mark_ends Whiteout h = refl
mark_ends Other h = no_true h
mark_ends Plain h = no_true h
mark_ends Opaque h = no_true h

mark_no_directory : (t : List ℕ) (d n : ℕ) → is_mark (class_at t d n) ≡ true → (record_at (records_of t) n).kind ≢ 4
mark_no_directory t d n h z = no_true (sym (go (is_opaque (record_at (records_of t) n))) ∙ (sym (ap is_mark (directory_class t d n (eq-eqb (record_at (records_of t) n).kind 4 z))) ∙ h))
  where
    go : (b : Bool) → is_mark (cond b Opaque Plain) ≡ false
    go true = refl
    go false = refl

one_some : (b : Bool) → one b ≢ 0 → b ≡ true
unfolding one
one_some true h = refl
one_some false h = absurd (h refl)

take_short : {A : Type 0} (d : ℕ) (xs : List A) → length (take d xs) ≤ d
take_short zero xs = omega arith
take_short (suc d) [] = omega arith
take_short (suc d) (x ∷ xs) = let h : length (take d xs) ≤ d = take_short d xs in omega arith

-- ---- a stack's record of the upper layer stands first

lower_in : {a : Pair} (s : List Pair) → Each Lower s → In a s → a.layer ≢ 0
lower_in [] h i z = absurd (in_nil i)
lower_in (b ∷ s) h (here e) z = h.0 (ap (λ (q : Pair). q.layer) (sym e) ∙ z)
lower_in (b ∷ s) h (there i) z = lower_in s h.1 i z

upper_in : (a b : Pair) (s : List Pair) → Each Lower s → a.layer ≡ 0 → In a (b ∷ s) → a ≡ b
upper_in a b s h z (here e) = e
upper_in a b s h z (there i) = absurd (lower_in s h i z)

-- ---- the upper directory at place `k`, and the node at place `j` of its name `x`

module _ (t l s : List ℕ) (v : Valid t) (g : Good t l s) (k : ℕ) (bk : k < count_of s) (high : in_upper (node_at (nodes_of s) k) ≡ true) (walked : is_walked t (top_of (node_at (nodes_of s) k)).number ≡ true)
    (j : ℕ) (bj : j < count_of s) (x : Name) (key : key_of (node_at (nodes_of s) j) ≡ (node_at (nodes_of s) k).number ∷ x)
  where
    abbrev f : ℕ → Node
    f = node_by (nodes_of s)

    abbrev n : Node
    n = node_at (nodes_of s) j

    abbrev p : ℕ
    p = (node_at (nodes_of s) k).number

    abbrev d : ℕ
    d = (top_of (node_at (nodes_of s) k)).number

    by_place : f n.number ≡ n
    by_place = place_by (nodes_of s) g.nodes.once j (rw (length_nodes s) bj)

    node_there : Resident f n.number
    node_there = place_resident (nodes_of s) g.nodes.once j (rw (length_nodes s) bj) g.nodes.none_zero

    above_there : Resident f p
    above_there = parent_there t l s v g k bk high walked

    above_stack : (ps : List Pair) × (stack_list (f p) ≡ pair 0 d ∷ ps)
    above_stack = parent_stack t l s v g k bk high walked

    key_by : key_of (f n.number) ≡ p ∷ x
    key_by = ap key_of by_place ∙ key

    other : n.number ≢ 1
    other = child_not_root t l s g v p x n.number above_there key_by

    parent_is : (f n.number).parent ≡ p
    parent_is = let h : key_of (f n.number) ≡ p ∷ x = key_by in cc

    name_is : node_name (f n.number) ≡ x
    name_is = let h : key_of (f n.number) ≡ p ∷ x = key_by in cc

    -- the parent is another node
    apart : k ≢ j
    apart z =
        let a : (f n.number).parent < n.number = g.nodes.coherent.parent_less n.number (node_there, other) in
        let b : (node_at (nodes_of s) k).number ≡ n.number = ap (λ (i : ℕ). (node_at (nodes_of s) i).number) z in
        omega (arith, parent_is)

    tidy : Tidy n
    tidy = tidy_place t l (nodes_of s) (next_of s) g.nodes j

    short : length x ≤ 28
    short =
        let a : n.length ≤ 28 = tidy.length_fits in
        let b : length (take n.length n.name) ≤ n.length = take_short n.length n.name in
        let o : length (take n.length n.name) ≡ length x = ap length (ap node_name (sym by_place) ∙ name_is) in
        omega arith

    in_upper_lem : table_of t l 0 ≡ t
    in_upper_lem = sym (table_upper t l 0 refl v.size)

    top_walked_lem : is_walked (table_of t l 0) d ≡ true
    top_walked_lem = ap (λ (y : List ℕ). is_walked y d) in_upper_lem ∙ walked

    -- ---- the name's upper entry, where its node's top record is upper

    pub upper_entry : in_upper (node_at (nodes_of s) j) ≡ true → (e : ℕ) × (search_of (entries_of t) (top_of (node_at (nodes_of s) k)).number x ≡ Some e)
    unfolding in_upper child_at
    upper_entry low = go (search_of (entries_of t) d x) refl
      where
        filled_stack : stack_list n ≢ []
        filled_stack = subst (λ (m : Node). stack_list m ≢ []) by_place (g.nodes.coherent.stack_some n.number (node_there, other))

        rest : (ps : List Pair) × (stack_list n ≡ top_of n ∷ ps)
        rest = top_first n filled_stack

        merged : stack_of t l (pair 0 d ∷ above_stack.0) x ≡ top_of n ∷ rest.0
        merged =
            sym (g.nodes.coherent.stack_is n.number (node_there, other) ∙ (ap₂ (λ (i : ℕ) (y : Name). stack_of t l (stack_list (f i)) y) parent_is name_is ∙ ap (λ (ps : List Pair). stack_of t l ps x) above_stack.1))
            ∙ (ap stack_list by_place ∙ rest.1)

        above : Above t l x (pair 0 d ∷ above_stack.0) (top_of n)
        above = stack_above t l x (pair 0 d ∷ above_stack.0) (subst (In (top_of n)) (sym merged) (here refl))

        lower : Each Lower above_stack.0
        lower = subst UpperFirst above_stack.1 (node_first t l f g.nodes.coherent p above_there)

        above_is : above.at ≡ pair 0 d
        above_is = upper_in above.at (pair 0 d) above_stack.0 lower (above.layer_is ∙ eqb-true (top_of n).layer 0 low) above.within

        found : named (entries_of t) d x ≡ (top_of n).number
        found = ap (λ (y : List ℕ). named (entries_of y) d x) (sym in_upper_lem) ∙ subst (λ (q : Pair). named (entries_of (table_of t l q.layer)) q.number x ≡ (top_of n).number) above_is above.found

        go : (y : Option ℕ) → search_of (entries_of t) d x ≡ y → (e : ℕ) × (y ≡ Some e)
        go (Some e) h = (e, refl)
        go None h = absurd (above.some (sym found ∙ ap (child_at (entries_of t)) h))

    -- ---- the state in which the node has no record

    abbrev bare_state : List ℕ
    bare_state = put_bytes s j (with_stack (node_at (nodes_of s) j) (no_pair ∷ no_pair ∷ no_pair ∷ no_pair ∷ []) 0)

    bare_nodes : nodes_of bare_state ≡ set (nodes_of s) j (bare n)
    bare_nodes = nodes_put s j (bare n) (bare_fits n tidy.fits)

    bare_parent : node_at (nodes_of bare_state) k ≡ node_at (nodes_of s) k
    bare_parent = ap (λ (ns : List Node). node_at ns k) bare_nodes ∙ get_or-set_other (nodes_of s) j k (bare n) no_node apart

    bare_node : node_at (nodes_of bare_state) j ≡ bare n
    bare_node = ap (λ (ns : List Node). node_at ns j) bare_nodes ∙ get_or-set_same (nodes_of s) j (bare n) no_node (rw (length_nodes s) bj)

    -- the parent's path is there
    pub replaced_prepared : (e : ℕ) → prepared l k (Some j) (Some e) (up t s) ≡ without_whiteout (Some e) (Some j) (up t s)
    unfolding without_whiteout emptied made_upper
    replaced_prepared e = rw (ap in_upper bare_parent ∙ high) refl

    -- ---- the node is a whiteout, whose upper entry stands at `e`

    module _ (white : is_white (node_at (nodes_of s) j) ≡ true) (e : ℕ) (at : search_of (entries_of t) (top_of (node_at (nodes_of s) k)).number x ≡ Some e) where
      abbrev old : ℕ
      old = (entry_at (entries_of t) e).child

      top_seen : seen_of (table_of t l 0) d x ≡ Some (class_at t d old, old)
      top_seen = ap (λ (y : List ℕ). seen_of y d x) in_upper_lem ∙ entry_seen t v d x e at

      marked : is_mark (class_at t d old) ≡ true
      unfolding is_white
      marked =
          let a : (f n.number).white ≡ one (whiteout_of t l (stack_list (f (f n.number).parent)) (node_name (f n.number))) = g.nodes.coherent.white_is n.number (node_there, other) in
          let b : whiteout_of t l (stack_list (f (f n.number).parent)) (node_name (f n.number)) ≡ is_mark (class_at t d old) =
          ap₂ (λ (i : ℕ) (y : Name). whiteout_of t l (stack_list (f i)) y) parent_is name_is ∙ (ap (λ (ps : List Pair). whiteout_of t l ps x) above_stack.1 ∙ whiteout_top t l (pair 0 d) above_stack.0 top_walked_lem x (class_at t d old) old top_seen) in
          one_some (is_mark (class_at t d old)) (λ z. eqb-false n.white 0 (not-true (eqb n.white 0) white) (sym (ap (λ (m : Node). m.white) by_place) ∙ (a ∙ (ap one b ∙ z))))

      no_directory : (record_at (records_of t) old).kind ≢ 4
      no_directory = mark_no_directory t d old marked

      -- the node's stack is the whiteout alone
      node_stack : stack_list (f n.number) ≡ pair 0 old ∷ []
      node_stack =
          g.nodes.coherent.stack_is n.number (node_there, other)
          ∙ (ap₂ (λ (i : ℕ) (y : Name). stack_of t l (stack_list (f i)) y) parent_is name_is
          ∙ (ap (λ (ps : List Pair). stack_of t l ps x) above_stack.1 ∙ stack_alone t l (pair 0 d) above_stack.0 top_walked_lem x (class_at t d old) old top_seen (mark_ends (class_at t d old) marked)))

      -- and nothing lies below it
      node_top : top_walked t l (stack_list (f n.number)) ≡ false
      unfolding top_walked
      node_top = ap (top_walked t l) node_stack ∙ (ap (λ (y : List ℕ). is_walked y old) in_upper_lem ∙ (directory_walked t 0 old v.size ∙ ne_eqb (record_at (records_of t) old).kind 4 no_directory))

      module _ (i m : ℕ) (hr : free_record_place (records_of (dropped_entry t e)) ≡ Some i) (he : free_entry_place (entries_of (dropped_entry t e)) ≡ Some m)
          (r : Record) (good : GoodRecord i (numbered i r)) (tail : FitsTail r) (no_directory_r : r.kind ≢ 4) (no_whiteout : is_whiteout r ≡ false)
        where
          abbrev new : List ℕ
          new = added_entry (added_record (dropped_entry t e) r) (entry_naming d x i)

          abbrev a : Node
          a = with_white (alone (node_at (nodes_of s) j) (pair 0 i)) 0

          w_valid : Valid new
          w_valid = refilled_valid t v d x e at no_directory walked short i m hr he r good tail no_directory_r no_whiteout

          stack_w : stack_of new l (stack_list (f p)) x ≡ pair 0 i ∷ []
          stack_w = ap (λ (ps : List Pair). stack_of new l ps x) above_stack.1 ∙ refilled_stack t v d x e at no_directory walked short i m hr he r good tail no_directory_r no_whiteout l above_stack.0

          mark_w : whiteout_of new l (stack_list (f p)) x ≡ false
          mark_w = ap (λ (ps : List Pair). whiteout_of new l ps x) above_stack.1 ∙ refilled_mark t v d x e at no_directory walked short i m hr he r good tail no_directory_r no_whiteout l above_stack.0

          top_w : top_walked new l (pair 0 i ∷ []) ≡ false
          top_w = refilled_top t v d x e at no_directory walked short i m hr he r good tail no_directory_r no_whiteout l

          below_w : (y : Name) → stack_of new l (stack_list a) y ≡ stack_of t l (stack_list (f n.number)) y
          below_w y = ap (λ (ps : List Pair). stack_of new l ps y) (given_stack n (pair 0 i)) ∙ (stack_none new l (pair 0 i ∷ []) y top_w ∙ sym (stack_none t l (stack_list (f n.number)) y node_top))

          below_mark_w : (y : Name) → whiteout_of new l (stack_list a) y ≡ whiteout_of t l (stack_list (f n.number)) y
          below_mark_w y = ap (λ (ps : List Pair). whiteout_of new l ps y) (given_stack n (pair 0 i)) ∙ (mark_none new l (pair 0 i ∷ []) y top_w ∙ sym (mark_none t l (stack_list (f n.number)) y node_top))

          some_w : stack_list a ≢ []
          some_w z = let o : pair 0 i ∷ [] ≡ [] = sym (given_stack n (pair 0 i)) ∙ z in let b : ◌≡◌ {A = ℕ} 1 0 = ap length o in absurd (omega arith)

          white_w : a.white ≡ one (whiteout_of new l (stack_list (f p)) x)
          unfolding one
          white_w = given_white n (pair 0 i) ∙ ap one (sym mark_w)

          step : Step t new l f n.number a
          step =
              change_step t l s g v new w_valid.size d x (refilled_changed t v d x e at no_directory walked short i m hr he r good tail no_directory_r no_whiteout)
              (refilled_root t v d x e at no_directory walked short i m hr he r good tail no_directory_r no_whiteout) p above_there walked (subst (In (pair 0 d)) (sym above_stack.1) (here refl))
              n.number node_there key_by a (given_number n (pair 0 i)) (given_key n (pair 0 i) ∙ key) (λ h. ap is_loaded by_place ∙ (sym (given_loaded n (pair 0 i)) ∙ h))
              below_w below_mark_w (given_stack n (pair 0 i) ∙ sym stack_w) some_w white_w

          -- ---- as the call writes it

          new_number_lem : new_record (dropped_entry t e) ≡ i
          unfolding record_number
          new_number_lem = ap record_number hr

          table_is : (filled k (Ok j) x r (without_whiteout (Some e) (Some j) (up t s))).table ≡ new
          unfolding filled without_whiteout emptied add_new
          table_is = ap₂ (λ (q : Node) (o : ℕ). added_entry (added_record (dropped_entry t e) r) (entry_naming (top_of q).number x o)) bare_parent new_number_lem

          state_is : (filled k (Ok j) x r (without_whiteout (Some e) (Some j) (up t s))).state ≡ put_bytes s j a
          unfolding filled without_whiteout emptied named_state given_record
          state_is =
              ap₂ (λ (q : Node) (o : ℕ). put_bytes bare_state j (with_white (alone q (pair 0 o)) 0)) bare_node new_number_lem
              ∙ (ap (put_bytes bare_state j) (given_bare n (pair 0 i)) ∙ put_again s j (bare n) a (bare_fits n tidy.fits) (given_tidy n (pair 0 i) tidy).fits bj)

          -- the upper table keeps every rule
          pub replaced_valid : Valid (filled k (Ok j) x r (without_whiteout (Some e) (Some j) (up t s))).table
          replaced_valid = subst Valid (sym table_is) w_valid

          -- and so does every layer's
          pub replaced_sound : SoundLayers t l → SoundLayers (filled k (Ok j) x r (without_whiteout (Some e) (Some j) (up t s))).table l
          replaced_sound sound = subst (λ (y : List ℕ). SoundLayers y l) (sym table_is) (refilled_sound t v d x e at no_directory walked short i m hr he r good tail no_directory_r no_whiteout l sound)

          -- what holds between calls holds of the table and the state
          pub replaced_good : Good (filled k (Ok j) x r (without_whiteout (Some e) (Some j) (up t s))).table l (filled k (Ok j) x r (without_whiteout (Some e) (Some j) (up t s))).state
          replaced_good =
              subst (λ (y : List ℕ). Good (filled k (Ok j) x r (without_whiteout (Some e) (Some j) (up t s))).table l y) (sym state_is)
              (subst (λ (y : List ℕ). Good y l (put_bytes s j a)) (sym table_is) (step_good t new l s g j bj a (given_tidy n (pair 0 i) tidy) other step))
