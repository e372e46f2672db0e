-- What a creation writes for a name that has no node keeps what holds between calls. Assumes nothing.
use Rattle.std.specs.Prelude.{Option, Some, None, Err}
use mathlib.Core.Path.{◌≡◌, refl, sym, ap, ap₂, ◌∙◌, subst}
use mathlib.Core.Logic.{◌≢◌}
use Prim.Native.Nat.{ℕ, zero, suc, ◌+◌, ◌≤◌, ◌<◌}
use native.Mathlib.Omega.{arith}
use native.Mathlib.Nat.{zero-add}
use mathlib.Core.Bool.{Bool, true, false, cond}
use mathlib.Core.List.{List, [], ◌∷◌}
use lib.Dec.{leb}
use lib.ListN.{length, take, get_or}
use borrow.Author.Tests.{eqb-true, ne_eqb, le-ltb, lt-leb, leb-true}
use Rattle.layers.specs.Names.{Name}
use Rattle.layers.specs.Items.{records_of, entries_of, record_at, entry_at, free_entry, FitsTail}
use Rattle.layers.specs.Search.{one, no_record, names, search_of, free_entry_place, free_record_place}
use Rattle.layers.specs.Change.{entry_naming, numbered, added_entry, added_record, AddEntry, AddRecord, entry_added, record_added}
use Rattle.layers.specs.Rules.{Present, WellFormed, GoodRecord, Valid}
use Rattle.layers.specs.Sorted.{Sorted}
use Rattle.layers.specs.declared.items.Record.{Record}
use Rattle.layers.specs.declared.items.Entry.{Entry}
use Rattle.layers.proofs.EveryLaws.{no_true}
use Rattle.layers.proofs.RuleDistinct.{names_exactly}
use Rattle.layers.proofs.RuleFacts.{directory_present, root_present}
use Rattle.layers.proofs.ChangeLaws.{first_passes, free_record_from, free_record_free, record_added_here, record_added_other}
use Rattle.layers.proofs.ChangeBytes.{added_entry_lem, length_added_record, added_record_lem}
use Rattle.layers.proofs.Padded.{naming_name, naming_named}
use Rattle.merge.specs.declared.node.Node.{Node}
use Rattle.merge.specs.declared.stacks.Pair.{Pair}
use Rattle.merge.specs.declared.stacks.Class.{Class}
use Rattle.merge.specs.declared.stacks.Class.TheVariants.{Other}
use Rattle.merge.specs.Nodes.{no_pair, node_name, key_of, capacity, count_of, nodes_of, node_at}
use Rattle.merge.specs.Heads.{next_of, full, room_of, numbers_left}
use Rattle.merge.specs.State.{find_child, place_for}
use Rattle.merge.specs.Changes.{spot_for, new_spot, new_bytes, seat_spot, seated_bytes}
use Rattle.merge.specs.Seats.{seat_of}
use Rattle.merge.specs.Tables.{table_of}
use Rattle.merge.specs.Classes.{is_whiteout, class_of, class_at, child_at, named, seen_of}
use Rattle.merge.specs.Scan.{is_walked, scanned}
use Rattle.merge.specs.Stacks.{pair, seen_then, collect, reals_of, stack_of, whiteout_of, merge_errno}
use Rattle.merge.specs.Load.{stack_list, suffices, is_loaded}
use Rattle.merge.specs.Tidy.{Tidy}
use Rattle.merge.proofs.ChangeLaws.{spot_below}
use Rattle.merge.proofs.ClassLaws.{seen_there, directory_walked}
use Rattle.merge.proofs.NamedLaws.{names_used}
use Rattle.merge.proofs.NewNodes.{new_parent, new_name, new_stack, new_white, new_loaded, new_tidy}
use Rattle.merge.proofs.NodeLists.{missing_where_free}
use Rattle.merge.proofs.StateLaws.{length_nodes}
use Rattle.merge.proofs.TableLaws.{table_upper}
use Rattle.calls.specs.Parents.{top_of}
use Rattle.calls.specs.Upper.{up, in_upper, record_number, add_new, upper_alone, named_state}
use Rattle.calls.specs.Creation.{filled}
use Rattle.demands.specs.Invariant.{node_by, Resident, Good}
use Rattle.demands.specs.Reads.{SoundLayers}
use Rattle.demands.proofs.NameChanges.{ChangedAt, added_named, added_named_other}
use Rattle.demands.proofs.UpperLaws.{scan_agree}
use Rattle.demands.proofs.TopLaws.{stack_alone, whiteout_top, errno_stack}
use Rattle.demands.proofs.InvariantNodes.{place_by, place_resident, child_unknown}
use Rattle.demands.proofs.InvariantKept.{tidy_place}
use Rattle.demands.proofs.InvariantChange.{New, new_good}
use Rattle.demands.proofs.InvariantShare.{In, here}
use Rattle.demands.proofs.InvariantUpper.{change_new}
use Rattle.demands.proofs.SeatOrder.{seat_free}
use Rattle.demands.proofs.ValidAdded.{valid_made}
use Rattle.demands.proofs.SoundUpper.{sound_changed}

-- ---- the node at the name's seat is a node put in at its place

module _ (s : List ℕ) (sorted : Sorted key_of (nodes_of s)) (p : ℕ) (x : Name) (short : length x ≤ 28) (q : ℕ) (seat : seat_of (nodes_of s) p x ≡ Err q) where
  seat_place : place_for (nodes_of s) p x ≡ Some q
  seat_place = seat_free (nodes_of s) sorted p x q seat

  seat_inside : q ≤ count_of s
  seat_inside = let z : q ≤ 0 + length (nodes_of s) = spot_below key_of (p ∷ x) 0 (nodes_of s) q seat_place in omega (arith, length_nodes s)

  module _ (c : ℕ) where
    alone_parent : (upper_alone p x c).parent ≡ p
    alone_parent = new_parent p (pair 0 c ∷ []) false x short (omega arith)

    alone_name : node_name (upper_alone p x c) ≡ x
    alone_name = new_name p (pair 0 c ∷ []) false x short (omega arith)

    seat_spot_lem : seat_spot s q ≡ new_spot s (upper_alone p x c)
    unfolding seat_spot new_spot spot_for
    seat_spot_lem = rw (le-ltb (count_of s) q seat_inside, ap₂ (place_for (nodes_of s)) alone_parent alone_name ∙ seat_place) refl

    pub seated_as_new : seated_bytes s (upper_alone p x c) q ≡ new_bytes s (upper_alone p x c)
    seated_as_new = rw seat_spot_lem refl

-- ---- the upper table with the record `r` under the name `x` of the directory `d`

other_class : (r : Record) → is_whiteout r ≡ false → r.kind ≢ 4 → (i : ℕ) → class_of (numbered i r) ≡ Other
unfolding class_of is_whiteout
other_class r w d i = rw (w, ne_eqb r.kind 4 d) refl

module _ (t : List ℕ) (v : Valid t) where
  walked_kind : (d : ℕ) → is_walked t d ≡ true → (record_at (records_of t) d).kind ≡ 4
  walked_kind d w = eqb-true (record_at (records_of t) d).kind 4 (sym (directory_walked t 0 d v.size) ∙ w)

  at_present : (d : ℕ) (x : Name) (j : ℕ) → search_of (entries_of t) d x ≡ Some j → Present (records_of t) (entry_at (entries_of t) j).child
  at_present d x j e = (v.ends j).child_exists (names_used d x (entry_at (entries_of t) j) (first_passes (names d x) free_entry 0 (entries_of t) j (e ∙ ap Some (sym (zero-add j)))))

  -- no entry names record 0
  unseen_missing : (d : ℕ) (x : Name) → seen_of t d x ≡ None → search_of (entries_of t) d x ≡ None
  unfolding seen_of child_at
  unseen_missing d x h = go (search_of (entries_of t) d x) refl
    where
      go : (f : Option ℕ) → search_of (entries_of t) d x ≡ f → f ≡ None
      go (Some j) e =
          let c : (entry_at (entries_of t) j).child ≢ 0 = λ z. at_present d x j e (ap (λ (i : ℕ). (record_at (records_of t) i).number) z) in
          absurd (let w : ◌≡◌ {A = Option (Class × ℕ)} (Some (class_at t d (entry_at (entries_of t) j).child, (entry_at (entries_of t) j).child)) None = sym (rw (e, ne_eqb (entry_at (entries_of t) j).child 0 c) refl) ∙ h in let z : ◌≡◌ {A = ℕ} 0 1 = cc in omega arith)
      go None e = refl

  module _ (i : ℕ) (hr : free_record_place (records_of t) ≡ Some i) where
    -- a record that is there is another than the free one
    there_other : (c : ℕ) → Present (records_of t) c → c ≢ i
    unfolding no_record
    there_other c p e = p (ap (λ (j : ℕ). (record_at (records_of t) j).number) e ∙ eqb-true (record_at (records_of t) i).number 0 (free_record_free (records_of t) i hr))

    -- and so is every record that a name has
    named_other : (c : ℕ) (y : Name) → named (entries_of t) c y ≢ i
    unfolding child_at
    named_other c y = go (search_of (entries_of t) c y) refl
      where
        go : (f : Option ℕ) → search_of (entries_of t) c y ≡ f → child_at (entries_of t) f ≢ i
        go (Some j) e = there_other (entry_at (entries_of t) j).child (at_present c y j e)
        go None e = λ z. let o : 1 ≤ i = free_record_from (records_of t) i hr in absurd (omega arith)

-- the record `r`, which is no directory, can be made at the place `i` under the name `x` of the upper directory `d`
pub record Makeable (t : List ℕ) (d : ℕ) (x : Name) (r : Record) (i : ℕ) : Type 0 where
  pub walked : is_walked t d ≡ true
  pub unseen : seen_of t d x ≡ None
  pub well_formed : WellFormed x
  pub short : length x ≤ 28
  pub good : GoodRecord i (numbered i r)
  pub tail : FitsTail r
  pub no_directory : r.kind ≢ 4
  pub no_whiteout : is_whiteout r ≡ false

module _ (t : List ℕ) (v : Valid t) (d : ℕ) (x : Name) (r : Record) (i : ℕ) (c : Makeable t d x r i) (j : ℕ) (hr : free_record_place (records_of t) ≡ Some i) (he : free_entry_place (entries_of t) ≡ Some j) where
  abbrev made : List ℕ
  made = added_entry (added_record t r) (entry_naming d x i)

  made_missing : search_of (entries_of t) d x ≡ None
  made_missing = unseen_missing t v d x c.unseen

  pub made_valid : Valid made
  made_valid = valid_made t v d x r (walked_kind t v d c.walked) (λ k. absurd (c.no_directory k)) c.well_formed c.short made_missing i hr c.good c.tail j he

  record_new : AddRecord t r (free_record_place (records_of t)) (added_record t r)
  record_new =
      added_record_lem t r v.size
      (record { permissions_fit = (let y : r.permissions ≤ 4095 = c.good.permissions_fit in omega arith); links_fit = (let y : r.links ≡ 0 = c.good.links_zero in omega arith) })
      c.tail

  entry_new : AddEntry (added_record t r) (entry_naming d x i) (free_entry_place (entries_of (added_record t r))) made
  entry_new = added_entry_lem (added_record t r) (entry_naming d x i) (naming_name d x i) (length_added_record t r v.size ∙ v.size)

  made_records : records_of made ≡ record_added (records_of t) r
  made_records = entry_new.records ∙ record_new.records

  made_entries : entries_of made ≡ entry_added (entries_of t) (entry_naming d x i)
  made_entries = entry_new.entries ∙ ap (λ (es : List Entry). entry_added es (entry_naming d x i)) record_new.entries

  -- every other record stands as it did
  record_kept : (m : ℕ) → m ≢ i → record_at (records_of made) m ≡ record_at (records_of t) m
  record_kept m n = ap (λ (rs : List Record). record_at rs m) made_records ∙ record_added_other (records_of t) r i hr m n

  pub made_here : record_at (records_of made) i ≡ numbered i r
  made_here = ap (λ (rs : List Record). record_at rs i) made_records ∙ record_added_here (records_of t) r i hr

  pub made_root : record_at (records_of t) 1 ≡ record_at (records_of made) 1
  made_root = sym (record_kept 1 (there_other t v i hr 1 (root_present t v)))

  d_there : Present (records_of t) d
  d_there = directory_present t v d (walked_kind t v d c.walked)

  entry_named : names d x (entry_naming d x i) ≡ true
  unfolding entry_naming
  entry_named = (names_exactly d x (entry_naming d x i)).whole ((λ z. d_there (ap (λ (m : ℕ). (record_at (records_of t) m).number) z)), (refl, naming_named d x i c.short))

  pub made_changed : ChangedAt t made d x
  made_changed =
      record {
        others = λ m y e. ap (λ (es : List Entry). named es m y) made_entries ∙ added_named_other (entries_of t) (entry_naming d x i) d x entry_named m y e;
        stay = λ m y _. record_kept (named (entries_of t) m y) (named_other t v i hr m y);
      }

  made_walked : is_walked made d ≡ true
  made_walked = (scan_agree made t d (made_valid.size ∙ sym v.size) (record_kept d (there_other t v i hr d d_there))).0 ∙ c.walked

  made_named : named (entries_of made) d x ≡ i
  unfolding entry_naming
  made_named = ap (λ (es : List Entry). named es d x) made_entries ∙ added_named (entries_of t) (entry_naming d x i) d x entry_named j he made_missing

  made_seen : seen_of made d x ≡ Some (Other, i)
  unfolding class_at
  made_seen =
      let o : 1 ≤ i = free_record_from (records_of t) i hr in
      sym (seen_there made d x i (sym made_named) (λ z. absurd (omega arith)) Other (sym (ap class_of made_here ∙ other_class r c.no_whiteout c.no_directory i)))

  -- the name's stack is the new record alone
  module _ (l : List ℕ) (ps : List Pair) where
    in_made : table_of made l 0 ≡ made
    in_made = sym (table_upper made l 0 refl made_valid.size)

    pub made_stack : stack_of made l (pair 0 d ∷ ps) x ≡ pair 0 i ∷ []
    made_stack = stack_alone made l (pair 0 d) ps (ap (λ (w : List ℕ). is_walked w d) in_made ∙ made_walked) x Other i (ap (λ (w : List ℕ). seen_of w d x) in_made ∙ made_seen) refl

    pub made_mark : whiteout_of made l (pair 0 d ∷ ps) x ≡ false
    made_mark = whiteout_top made l (pair 0 d) ps (ap (λ (w : List ℕ). is_walked w d) in_made ∙ made_walked) x Other i (ap (λ (w : List ℕ). seen_of w d x) in_made ∙ made_seen)

-- ---- a name that the directory on top has is merged

seen_some : (t l : List ℕ) → length t ≡ 8192 → (d : ℕ) (ps : List Pair) (x : Name) (c : Class) (m : ℕ) → is_walked t d ≡ true → seen_of t d x ≡ Some (c, m) → stack_of t l (pair 0 d ∷ ps) x ≢ []
unfolding scanned collect seen_then merge_errno
seen_some t l n d ps x c m w h z =
    let is_upper : table_of t l 0 ≡ t = sym (table_upper t l 0 refl n) in
    let a : is_walked (table_of t l 0) d ≡ true = ap (λ (y : List ℕ). is_walked y d) is_upper ∙ w in
    let b : seen_of (table_of t l 0) d x ≡ Some (c, m) = ap (λ (y : List ℕ). seen_of y d x) is_upper ∙ h in
    let e : merge_errno (reals_of t l (pair 0 d ∷ ps) x) ≡ 0 = rw (a, b) refl in
    let o : ◌≡◌ {A = ℕ} 22 0 = sym (ap merge_errno z) ∙ (errno_stack t l (pair 0 d ∷ ps) x ∙ e) in
    absurd (omega arith)

top_first : (m : ℕ) (ps : List Pair) → m ≢ 0 → length ps ≡ 4 → (r : List Pair) × (take m ps ≡ get_or ps 0 no_pair ∷ r)
top_first zero ps h n = absurd (h refl)
top_first (suc m) [] h n = absurd (omega arith)
top_first (suc m) (p ∷ ps) h n = (take m ps, refl)

suffices_one : (s : List ℕ) → suffices s 1 ≡ true → (1 ≤ room_of s) × (1 ≤ numbers_left s)
unfolding suffices
suffices_one s h = go (leb 1 (room_of s)) refl h
  where
    go : (b : Bool) → leb 1 (room_of s) ≡ b → cond b (leb 1 (numbers_left s)) false ≡ true → (1 ≤ room_of s) × (1 ≤ numbers_left s)
    go true e h = (leb-true 1 (room_of s) e, leb-true 1 (numbers_left s) h)
    go false e h = no_true h

-- ---- the directory at place `k`, loaded and upper, has no node of the name `x`, whose seat is `q`

module _ (t l s : List ℕ) (v : Valid t) (g : Good t l s) (k : ℕ) (b : k < count_of s) (high : in_upper (node_at (nodes_of s) k) ≡ true) (walked : is_walked t (top_of (node_at (nodes_of s) k)).number ≡ true) (loaded : is_loaded (node_at (nodes_of s) k) ≡ true)
    (x : Name) (well : WellFormed x) (short : length x ≤ 28) (q : ℕ) (seat : seat_of (nodes_of s) (node_at (nodes_of s) k).number x ≡ Err q)
  where
    abbrev f : ℕ → Node
    f = node_by (nodes_of s)

    abbrev n : Node
    n = node_at (nodes_of s) k

    abbrev p : ℕ
    p = (node_at (nodes_of s) k).number

    abbrev d : ℕ
    d = (top_of (node_at (nodes_of s) k)).number

    by_place : f p ≡ n
    by_place = place_by (nodes_of s) g.nodes.once k (rw (length_nodes s) b)

    there : Resident f p
    there = place_resident (nodes_of s) g.nodes.once k (rw (length_nodes s) b) g.nodes.none_zero

    tidy : Tidy n
    tidy = tidy_place t l (nodes_of s) (next_of s) g.nodes k

    top_upper : top_of n ≡ pair 0 d
    unfolding in_upper
    top_upper = ap (λ (m : ℕ). pair m d) (eqb-true (top_of n).layer 0 high)

    -- record 0 is no directory
    deep : n.depth ≢ 0
    deep z =
        let e : top_of n ≡ no_pair = tidy.stack_unused 0 (omega arith) in
        let o : ◌≡◌ {A = ℕ} 0 4 = ap (λ (a : Pair). (record_at (records_of t) a.number).kind) (sym e) ∙ walked_kind t v d walked in
        omega arith

    first : (r : List Pair) × (stack_list n ≡ top_of n ∷ r)
    first = top_first n.depth n.stack deep tidy.fits.arrays.stack_fits

    stack_p : stack_list (f p) ≡ pair 0 d ∷ first.0
    stack_p = ap stack_list by_place ∙ (first.1 ∙ ap (λ (a : Pair). a ∷ first.0) top_upper)

    absent : find_child (nodes_of s) p x ≡ None
    absent = missing_where_free p x q (nodes_of s) g.nodes.sorted (seat_place s g.nodes.sorted p x short q seat)

    -- nor has its upper record the name
    unseen : seen_of t d x ≡ None
    unseen = go (seen_of t d x) refl
      where
        go : (e : Option (Class × ℕ)) → seen_of t d x ≡ e → e ≡ None
        go None e = refl
        go (Some (c, m)) e =
            let a : (i : ℕ) × Resident f i × (key_of (f i) ≡ p ∷ x) = g.complete p there (ap is_loaded by_place ∙ loaded) x (λ z. seen_some t l v.size d first.0 x c m walked e (sym (ap (λ (y : List Pair). stack_of t l y x) stack_p) ∙ z)) in
            absurd (child_unknown (nodes_of s) p x absent a.0 a.1 a.2)

    module _ (sound : SoundLayers t l) (enough : suffices s 1 ≡ true) (i j : ℕ) (hr : free_record_place (records_of t) ≡ Some i) (he : free_entry_place (entries_of t) ≡ Some j) (r : Record) (good : GoodRecord i (numbered i r)) (tail : FitsTail r) (no_directory : r.kind ≢ 4) (no_whiteout : is_whiteout r ≡ false) where
      makeable : Makeable t d x r i
      makeable = record { walked = walked; unseen = unseen; well_formed = well; short = short; good = good; tail = tail; no_directory = no_directory; no_whiteout = no_whiteout }

      abbrev w : List ℕ
      w = added_entry (added_record t r) (entry_naming d x i)

      abbrev a : Node
      a = upper_alone p x i

      w_valid : Valid w
      w_valid = made_valid t v d x r i makeable j hr he

      table_is : (filled k (Err q) x r (up t s)).table ≡ w
      unfolding filled add_new record_number
      table_is = ap (λ (m : Option ℕ). added_entry (added_record t r) (entry_naming d x (record_number m))) hr

      state_is : (filled k (Err q) x r (up t s)).state ≡ new_bytes s a
      unfolding filled named_state record_number
      state_is = ap (λ (m : Option ℕ). seated_bytes s (upper_alone p x (record_number m)) q) hr ∙ seated_as_new s g.nodes.sorted p x short q seat i

      parent_a : a.parent ≡ p
      parent_a = new_parent p (pair 0 i ∷ []) false x short (omega arith)

      name_a : node_name a ≡ x
      name_a = new_name p (pair 0 i ∷ []) false x short (omega arith)

      stack_a : stack_list a ≡ pair 0 i ∷ []
      stack_a = new_stack p (pair 0 i ∷ []) false x short (omega arith)

      tidy_a : Tidy a
      tidy_a = let e : p < next_of s = g.nodes.below_next p there in let m : next_of s ≤ 4294967296 = g.nodes.next_most in new_tidy p (pair 0 i ∷ []) false x short (omega arith) (omega arith)

      stack_w : stack_of w l (stack_list (f p)) x ≡ pair 0 i ∷ []
      stack_w = ap (λ (y : List Pair). stack_of w l y x) stack_p ∙ made_stack t v d x r i makeable j hr he l first.0

      mark_w : whiteout_of w l (stack_list (f p)) x ≡ false
      mark_w = ap (λ (y : List Pair). whiteout_of w l y x) stack_p ∙ made_mark t v d x r i makeable j hr he l first.0

      filled_new : New t w l f a
      filled_new =
          change_new t l s g v w w_valid.size d x (made_changed t v d x r i makeable j hr he) (made_root t v d x r i makeable j hr he) p there walked (subst (In (pair 0 d)) (sym stack_p) (here refl)) a
          (ap₂ ◌∷◌ parent_a name_a) absent (stack_a ∙ sym stack_w) (λ z. let o : pair 0 i ∷ [] ≡ [] = sym stack_a ∙ z in let e : ◌≡◌ {A = ℕ} 1 0 = ap length o in absurd (omega arith))
          (new_white p (pair 0 i ∷ []) false x short (omega arith) ∙ ap one (sym mark_w)) (new_loaded p (pair 0 i ∷ []) false x short (omega arith))

      missing_a : find_child (nodes_of s) a.parent (node_name a) ≡ None
      missing_a = ap₂ (find_child (nodes_of s)) parent_a name_a ∙ absent

      not_full : full s ≡ false
      unfolding full
      not_full = let o : 1 ≤ room_of s = (suffices_one s enough).0 in lt-leb (capacity s) (count_of s) (omega arith)

      left : next_of s ≤ 4294967295
      left = let o : 1 ≤ numbers_left s = (suffices_one s enough).1 in omega arith

      -- the upper table keeps every rule
      pub filled_valid : Valid (filled k (Err q) x r (up t s)).table
      filled_valid = subst Valid (sym table_is) w_valid

      -- and so does every layer's
      pub filled_sound : SoundLayers (filled k (Err q) x r (up t s)).table l
      filled_sound = subst (λ (z : List ℕ). SoundLayers z l) (sym table_is) (sound_changed t w l sound w_valid)

      -- what holds between calls holds of the table and the state
      pub filled_good : Good (filled k (Err q) x r (up t s)).table l (filled k (Err q) x r (up t s)).state
      filled_good = rw (table_is, state_is) (new_good t w l s g.nodes a tidy_a filled_new missing_a not_full left g.blank g.complete)
