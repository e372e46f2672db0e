-- One missing directory made in the upper layer keeps what holds between calls. Assumes nothing.
use Rattle.std.specs.Prelude.{Option, Some, None}
use mathlib.Core.Path.{◌≡◌, refl, sym, ap, ◌∙◌, subst}
use mathlib.Core.Logic.{◌≢◌}
use Prim.Native.Nat.{ℕ, zero, suc, ◌≤◌, ◌<◌}
use native.Mathlib.Omega.{arith}
use native.Mathlib.Nat.{zero-add}
use native.Mathlib.Decide.{ℕ_discrete}
use mathlib.Core.Bool.{Bool, true, false, cond}
use mathlib.Core.List.{List, [], ◌∷◌, map}
use lib.Dec.{eqb}
use lib.ListN.{length, take, get_or, set, length-take}
use lib.Seq.{get_or-set_same}
use borrow.Author.Tests.{eqb-true, eqb-false, lt-ltb}
use Rattle.layers.specs.Names.{Name}
use Rattle.layers.specs.Items.{records_of, entries_of, record_at, entry_at, free_entry, FitsHead, FitsTail}
use Rattle.layers.specs.Search.{one, name_of, names, search_of, no_record, free_entry_place, free_record_place, used_entries, used_records}
use Rattle.layers.specs.Change.{entry_naming, numbered, added_entry, added_record, AddEntry, AddRecord, entry_added, record_added}
use Rattle.layers.specs.Rules.{Present, Used, WellFormed, GoodRecord, Reaches, Valid}
use Rattle.layers.specs.declared.items.Record.{Record}
use Rattle.layers.specs.declared.items.Entry.{Entry}
use Rattle.layers.specs.declared.kinds.Kind.TheVariants.{Directory}
use Rattle.layers.proofs.Padded.{naming_name, naming_named}
use Rattle.layers.proofs.RuleDistinct.{names_exactly}
use Rattle.layers.proofs.RuleFacts.{directory_present, root_present, parent_present, used_below}
use Rattle.layers.proofs.ChangeLaws.{first_passes, free_record_from, free_record_free, record_added_here, record_added_other}
use Rattle.layers.proofs.ChangeBytes.{length_added_entry, added_entry_lem, length_added_record, added_record_lem}
use Rattle.merge.specs.declared.node.Node.{Node}
use Rattle.merge.specs.declared.stacks.Pair.{Pair}
use Rattle.merge.specs.declared.stacks.Class.{Class}
use Rattle.merge.specs.declared.stacks.Class.TheVariants.{Whiteout, Other, Plain, Opaque}
use Rattle.merge.specs.Nodes.{no_pair, no_node, node_name, key_of, count_of, nodes_of, node_at}
use Rattle.merge.specs.State.{find_number}
use Rattle.merge.specs.Methods.{with_stack, deeper, pushed, topped}
use Rattle.merge.specs.Changes.{put_bytes}
use Rattle.merge.specs.Heads.{next_of}
use Rattle.merge.specs.Tables.{table_of}
use Rattle.merge.specs.Classes.{is_whiteout, class_of, class_at, child_at, named, seen_of}
use Rattle.merge.specs.Scan.{is_walked, ends_scan}
use Rattle.merge.specs.Stacks.{pair, Real, seen_then, collect, reals_of, later, first_step, merge, stack_of, whiteout_of}
use Rattle.merge.specs.Load.{stack_list, is_loaded}
use Rattle.merge.specs.Tidy.{Tidy}
use Rattle.merge.proofs.TableLaws.{table_upper}
use Rattle.merge.proofs.ClassLaws.{walked_long, directory_walked, plain_walked, seen_none, seen_there}
use Rattle.merge.proofs.MergeLaws.{Each}
use Rattle.merge.proofs.MethodLaws.{topped_stack, topped_unused}
use Rattle.merge.proofs.NewNodes.{entry_name_length}
use Rattle.merge.proofs.NodesAfter.{length_put, next_put, nodes_put}
use Rattle.merge.proofs.StackLaws.{length_stack}
use Rattle.merge.proofs.StateLaws.{length_nodes}
use Rattle.calls.specs.Parents.{place_of, top_of}
use Rattle.calls.specs.Upper.{up, parent_place, in_upper, record_number, add_new, top_record, directory_like, made_directory}
use Rattle.demands.specs.Invariant.{node_by, Resident, NonRoot, Good}
use Rattle.demands.specs.Reads.{SoundLayers}
use Rattle.demands.proofs.AgreeLaws.{scanned_opaque, reals_front, reals_there, reals_alone, stack_of_reals, SameName, lower_table, lower_same, stack_front, whiteout_front, stack_agree}
use Rattle.demands.proofs.NameChanges.{ChangedAt, added_named, added_named_other}
use Rattle.demands.proofs.UpperLaws.{scan_agree}
use Rattle.demands.proofs.TopLaws.{top_walked, stack_made, whiteout_top, directory_first, directory_live, stack_none}
use Rattle.demands.proofs.InvariantMoves.{Step}
use Rattle.demands.proofs.InvariantNodes.{by_found, found_below, resident_found, place_by, place_resident}
use Rattle.demands.proofs.InvariantKept.{tidy_place}
use Rattle.demands.proofs.InvariantChange.{step_good}
use Rattle.demands.proofs.InvariantShare.{In, here, Above, stack_above}
use Rattle.demands.proofs.InvariantUpper.{change_step}
use Rattle.demands.proofs.ValidAdded.{valid_made}
use Rattle.demands.proofs.PlacesCounted.{added_record_records, added_record_entries, added_entry_records, added_entry_entries}
use Rattle.demands.proofs.StackSteps.{found_entry, Steps, steps_once, steps_below, node_steps}
use Rattle.demands.proofs.UpperFirst.{Lower, UpperFirst, node_first}
use Rattle.demands.proofs.SoundUpper.{sound_changed}

true_false : {A : Type 0} → true ≡ false → A
true_false e = absurd (let z : ◌≡◌ {A = ℕ} 0 1 = cc in omega arith)

-- ---- what a name has in a table

seen_nothing : (t : List ℕ) (d : ℕ) (x : Name) → seen_of t d x ≡ None → named (entries_of t) d x ≡ 0
unfolding seen_of
seen_nothing t d x = go (eqb (named (entries_of t) d x) 0) refl
  where
    go : (b : Bool) → eqb (named (entries_of t) d x) 0 ≡ b → cond {A = Option (Class × ℕ)} b None (Some (class_at t d (named (entries_of t) d x), named (entries_of t) d x)) ≡ None → named (entries_of t) d x ≡ 0
    go true e h = eqb-true (named (entries_of t) d x) 0 e
    go false e h = absurd (let z : ◌≡◌ {A = ℕ} 0 1 = cc in omega arith)

module _ (t : List ℕ) (v : Valid t) where
  -- "children exist"
  named_missing : (d : ℕ) (x : Name) → named (entries_of t) d x ≡ 0 → search_of (entries_of t) d x ≡ None
  unfolding child_at
  named_missing d x = go (search_of (entries_of t) d x) refl
    where
      go : (f : Option ℕ) → search_of (entries_of t) d x ≡ f → child_at (entries_of t) f ≡ 0 → f ≡ None
      go (Some j) e z =
          let p : (entry_at (entries_of t) j).parent ≡ 0 → ⊥ = ((names_exactly d x (entry_at (entries_of t) j)).sound (first_passes (names d x) free_entry 0 (entries_of t) j (e ∙ ap Some (sym (zero-add j))))).0 in
          absurd ((v.ends j).child_exists p (ap (λ (i : ℕ). (record_at (records_of t) i).number) z))
      go None e z = refl

  pub walked_kind : (d : ℕ) → is_walked t d ≡ true → (record_at (records_of t) d).kind ≡ 4
  walked_kind d w = eqb-true (record_at (records_of t) d).kind 4 (sym (directory_walked t 0 d v.size) ∙ w)

  -- a free record place is named by no entry, and holds none
  module _ (i : ℕ) (free : free_record_place (records_of t) ≡ Some i) where
    free_number : (record_at (records_of t) i).number ≡ 0
    unfolding no_record
    free_number = eqb-true (record_at (records_of t) i).number 0 (free_record_free (records_of t) i free)

    free_other : (q : ℕ) → Present (records_of t) q → q ≢ i
    free_other q p e = p (ap (λ (j : ℕ). (record_at (records_of t) j).number) e ∙ free_number)

    free_unnamed : (c : ℕ) (y : Name) → named (entries_of t) c y ≢ i
    free_unnamed c y e =
        let l : 1 ≤ i = free_record_from (records_of t) i free in
        let f : (j : ℕ) × Used (entries_of t) j × ((entry_at (entries_of t) j).child ≡ named (entries_of t) c y) × ((entry_at (entries_of t) j).parent ≡ c) × (name_of (entry_at (entries_of t) j) ≡ y) = found_entry (entries_of t) c y (λ z. omega arith) in
        free_other (entry_at (entries_of t) f.0).child ((v.ends f.0).child_exists f.1) (f.2 ∙ e)

    free_empty : (y : Name) → named (entries_of t) i y ≡ 0
    free_empty y = go (ℕ_discrete (named (entries_of t) i y) 0)
      where
        go : Dec (named (entries_of t) i y ≡ 0) → named (entries_of t) i y ≡ 0
        go (yes z) = z
        go (no z) =
            let f : (j : ℕ) × Used (entries_of t) j × ((entry_at (entries_of t) j).child ≡ named (entries_of t) i y) × ((entry_at (entries_of t) j).parent ≡ i) × (name_of (entry_at (entries_of t) j) ≡ y) = found_entry (entries_of t) i y z in
            absurd (free_other (entry_at (entries_of t) f.0).parent (parent_present t v f.0 f.1) f.3)

-- ---- the table with the new directory `i`, of the permissions of `q`, under the name `x` of the directory `d`

module _ (t : List ℕ) (v : Valid t) (d : ℕ) (walked : is_walked t d ≡ true) (x : Name) (well : WellFormed x) (short : length x ≤ 28) (absent : named (entries_of t) d x ≡ 0) (q : Record) (permitted : q.permissions ≤ 4095) (i : ℕ) (free : free_record_place (records_of t) ≡ Some i) (j : ℕ) (room : free_entry_place (entries_of t) ≡ Some j) where
  abbrev made : List ℕ
  made = added_entry (added_record t (directory_like q)) (entry_naming d x i)

  like_good : GoodRecord i (numbered i (directory_like q))
  unfolding directory_like
  like_good =
      let l : 1 ≤ i = free_record_from (records_of t) i free in
      record {
        free = λ z. absurd (omega arith);
        number_is = λ _. refl;
        kind_is = λ _. (Directory, refl);
        permissions_fit = permitted;
        mark_zero = refl;
        links_zero = refl;
        opaque_is = omega arith;
        opaque_directory = λ z. absurd (z refl);
        device_is = λ _ _. refl;
      }

  like_fits : FitsTail (directory_like q)
  unfolding directory_like
  like_fits = record { device_fit = omega arith; size_fit = omega arith; content_fit = omega arith }

  like_head : FitsHead (directory_like q)
  unfolding directory_like
  like_head = record { permissions_fit = omega arith; links_fit = omega arith }

  made_valid : (n : ℕ) × (n ≤ 15) × Reaches (entries_of t) n d → Valid made
  made_valid near =
      valid_made t v d x (directory_like q) (walked_kind t v d walked) (λ _. near) well short (named_missing t v d x absent) i free like_good like_fits j room

  long_record : length (added_record t (directory_like q)) ≡ 8192
  long_record = length_added_record t (directory_like q) v.size ∙ v.size

  made_long : length made ≡ 8192
  made_long = length_added_entry (added_record t (directory_like q)) (entry_naming d x i) (naming_name d x i) long_record ∙ long_record

  record_part : AddRecord t (directory_like q) (free_record_place (records_of t)) (added_record t (directory_like q))
  record_part = added_record_lem t (directory_like q) v.size like_head like_fits

  entry_part : AddEntry (added_record t (directory_like q)) (entry_naming d x i) (free_entry_place (entries_of (added_record t (directory_like q)))) made
  entry_part = added_entry_lem (added_record t (directory_like q)) (entry_naming d x i) (naming_name d x i) long_record

  made_records : records_of made ≡ record_added (records_of t) (directory_like q)
  made_records = entry_part.records ∙ record_part.records

  made_entries : entries_of made ≡ entry_added (entries_of t) (entry_naming d x i)
  made_entries = entry_part.entries ∙ ap (λ (es : List Entry). entry_added es (entry_naming d x i)) record_part.entries

  record_here : record_at (records_of made) i ≡ numbered i (directory_like q)
  record_here = ap (λ (rs : List Record). record_at rs i) made_records ∙ record_added_here (records_of t) (directory_like q) i free

  record_other : (c : ℕ) → c ≢ i → record_at (records_of made) c ≡ record_at (records_of t) c
  record_other c n = ap (λ (rs : List Record). record_at rs c) made_records ∙ record_added_other (records_of t) (directory_like q) i free c n

  root_same : record_at (records_of t) 1 ≡ record_at (records_of made) 1
  root_same = sym (record_other 1 (free_other t v i free 1 (root_present t v)))

  d_there : Present (records_of t) d
  d_there = directory_present t v d (walked_kind t v d walked)

  d_other : d ≢ i
  d_other = free_other t v i free d d_there

  d_some : d ≢ 0
  d_some z = d_there (ap (λ (c : ℕ). (record_at (records_of t) c).number) z)

  entry_names : names d x (entry_naming d x i) ≡ true
  unfolding entry_naming
  entry_names = (names_exactly d x (entry_naming d x i)).whole (d_some, (refl, naming_named d x i short))

  -- it differs at that name only
  made_change : ChangedAt t made d x
  made_change =
      record {
        others = λ c y n. ap (λ (es : List Entry). named es c y) made_entries ∙ added_named_other (entries_of t) (entry_naming d x i) d x entry_names c y n;
        stay = λ c y n. record_other (named (entries_of t) c y) (free_unnamed t v i free c y);
      }

  made_named : named (entries_of made) d x ≡ i
  unfolding entry_naming
  made_named = ap (λ (es : List Entry). named es d x) made_entries ∙ added_named (entries_of t) (entry_naming d x i) d x entry_names j room (named_missing t v d x absent)

  made_class : class_at made d i ≡ Plain
  unfolding class_at
  made_class = ap class_of record_here ∙ (unfold class_of is_whiteout directory_like in refl)

  made_seen : seen_of made d x ≡ Some (Plain, i)
  made_seen =
      let l : 1 ≤ i = free_record_from (records_of t) i free in
      sym (seen_there made d x i (sym made_named) (λ z. omega arith) Plain (sym made_class))

  -- and the new directory is walked, not opaque and empty
  made_walked : (is_walked made i ≡ true) × (ends_scan made i ≡ false)
  made_walked = plain_walked made d i made_long made_class

  made_empty : (y : Name) → seen_of made i y ≡ None
  made_empty y = sym (seen_none made i y 0 (sym (made_change.others i y (λ e _. d_other (sym e)) ∙ free_empty t v i free y)) refl)

  -- one record and one entry more are used
  made_used_records : used_records (records_of made) ≡ suc (used_records (records_of t))
  made_used_records =
      added_entry_records (added_record t (directory_like q)) (entry_naming d x i) (naming_name d x i) long_record ∙ added_record_records t (directory_like q) v.size like_head like_fits i free

  made_used_entries : used_entries (entries_of made) ≡ suc (used_entries (entries_of t))
  unfolding entry_naming
  made_used_entries =
      added_entry_entries (added_record t (directory_like q)) (entry_naming d x i) (naming_name d x i) long_record d_some j (ap (λ (es : List Entry). free_entry_place es) record_part.entries ∙ room)
      ∙ ap suc (added_record_entries t (directory_like q) v.size like_head like_fits)

  -- a directory that was there is there
  still_directory : (c : ℕ) → is_walked t c ≡ true → is_walked made c ≡ true
  still_directory c w = sym (scan_agree t made c (v.size ∙ sym made_long) (sym (record_other c (free_other t v i free c (directory_present t v c (walked_kind t v c w)))))).0 ∙ w

  kept_directory : (c : ℕ) → Present (records_of t) c → is_walked made c ≡ is_walked t c
  kept_directory c h = sym (scan_agree t made c (v.size ∙ sym made_long) (sym (record_other c (free_other t v i free c h)))).0

  d_scan : (is_walked t d ≡ is_walked made d) × (ends_scan t d ≡ ends_scan made d)
  d_scan = scan_agree t made d (v.size ∙ sym made_long) (sym (record_other d d_other))

  -- ---- the stacks, `rest` being what the parent's stack has below `d`

  module _ (l : List ℕ) (rest : List Pair) (lower : Each Lower rest) (ends : ends_scan t d ≡ false) where
    upper_t : t ≡ table_of t l 0
    upper_t = table_upper t l 0 refl v.size

    upper_made : made ≡ table_of made l 0
    upper_made = table_upper made l 0 refl made_long

    lower_each : (y : Name) (s : List Pair) → Each Lower s → Each (SameName t made l y) s
    lower_each y [] h = tt
    lower_each y (a ∷ s) h = (lower_same t made l y a h.0, lower_each y s h.1)

    -- the name had what the lower layers have
    stack_was : seen_of t d x ≡ None → stack_of t l (pair 0 d ∷ rest) x ≡ stack_of t l rest x
    stack_was n =
        stack_of_reals t t l (pair 0 d ∷ rest) rest x
        (reals_front t l (pair 0 d) rest (subst (λ (w : List ℕ). is_walked w d ≡ true) upper_t walked) x (subst (λ (w : List ℕ). ends_scan w d ≡ false) upper_t ends) (subst (λ (w : List ℕ). seen_of w d x ≡ None) upper_t n))

    made_d_walked : is_walked (table_of made l 0) d ≡ true
    made_d_walked = subst (λ (w : List ℕ). is_walked w d ≡ true) upper_made (sym d_scan.0 ∙ walked)

    made_d_seen : seen_of (table_of made l 0) d x ≡ Some (Plain, i)
    made_d_seen = subst (λ (w : List ℕ). seen_of w d x ≡ Some (Plain, i)) upper_made made_seen

    -- and has the new directory in front of that
    stack_becomes : top_walked made l (stack_of t l rest x) ≡ true → stack_of made l (pair 0 d ∷ rest) x ≡ pair 0 i ∷ stack_of t l rest x
    stack_becomes w =
        let e : stack_of t l rest x ≡ stack_of made l rest x = stack_agree t made l x rest (lower_each x rest lower) in
        stack_made made l (pair 0 d) rest made_d_walked x Plain i made_d_seen refl (subst (λ (w : List ℕ). ends_scan w d ≡ false) upper_made (sym d_scan.1 ∙ ends))
        (directory_first made l rest x (ap (top_walked made l) (sym e) ∙ w))
        ∙ ap (λ (s : List Pair). pair 0 i ∷ s) (sym e)

    mark_becomes : whiteout_of made l (pair 0 d ∷ rest) x ≡ false
    mark_becomes = whiteout_top made l (pair 0 d) rest made_d_walked x Plain i made_d_seen

    -- every name below keeps its stack and its mark
    module _ (y : Name) (s : List Pair) (h : Each Lower s) where
      below_stack : stack_of made l (pair 0 i ∷ s) y ≡ stack_of t l s y
      below_stack =
          stack_front t made l y (pair 0 i) s (subst (λ (w : List ℕ). is_walked w i ≡ true) upper_made made_walked.0) (subst (λ (w : List ℕ). ends_scan w i ≡ false) upper_made made_walked.1)
          (subst (λ (w : List ℕ). seen_of w i y ≡ None) upper_made (made_empty y)) (lower_each y s h)

      below_mark : whiteout_of made l (pair 0 i ∷ s) y ≡ whiteout_of t l s y
      below_mark =
          whiteout_front t made l y (pair 0 i) s (subst (λ (w : List ℕ). is_walked w i ≡ true) upper_made made_walked.0) (subst (λ (w : List ℕ). ends_scan w i ≡ false) upper_made made_walked.1)
          (subst (λ (w : List ℕ). seen_of w i y ≡ None) upper_made (made_empty y)) (lower_each y s h)

-- ---- how a stack begins

abbrev classes : Real → Class
classes r = r.class

stack_starts : (u l : List ℕ) (s : List Pair) (x : Name) (r : Real) (rs : List Real) → reals_of u l s x ≡ r ∷ rs → (q : List Pair) × (stack_of u l s x ≡ r.place ∷ q)
unfolding stack_of merge first_step
stack_starts u l s x r rs e = subst (λ (z : List Real). (q : List Pair) × (map (λ r. r.place) (merge classes z) ≡ r.place ∷ q)) (sym e) (go r.class)
  where
    go : (c : Class) → (q : List Pair) × (map (λ r. r.place) (first_step c r (later classes rs)) ≡ r.place ∷ q)
    go Whiteout = ([], refl)
    go Other = ([], refl)
    go Plain = (map (λ r. r.place) (later classes rs), refl)
    go Opaque = ([], refl)

-- a list that is not empty begins with its first
pub take_first : (m : ℕ) (ps : List Pair) → take m ps ≢ [] → (q : List Pair) × (take m ps ≡ get_or ps 0 no_pair ∷ q)
take_first zero ps n = absurd (n refl)
take_first (suc m) [] n = absurd (n refl)
take_first (suc m) (a ∷ ps) n = (take m ps, refl)

-- a name that an upper directory has stands on an upper record
pub seen_starts : (t l : List ℕ) (d : ℕ) (rest : List Pair) (x : Name) (c : Class) (m : ℕ) → is_walked (table_of t l 0) d ≡ true → seen_of (table_of t l 0) d x ≡ Some (c, m) → (q : List Pair) × (stack_of t l (pair 0 d ∷ rest) x ≡ pair 0 m ∷ q)
seen_starts t l d rest x c m w h = go (ends_scan (table_of t l 0) d) refl
  where
    go : (b : Bool) → ends_scan (table_of t l 0) d ≡ b → (q : List Pair) × (stack_of t l (pair 0 d ∷ rest) x ≡ pair 0 m ∷ q)
    go true e = stack_starts t l (pair 0 d ∷ rest) x (record { place = pair 0 m; class = c }) [] (reals_alone t l (pair 0 d) rest w x e c m h)
    go false e = stack_starts t l (pair 0 d ∷ rest) x (record { place = pair 0 m; class = c }) (reals_of t l rest x) (reals_there t l (pair 0 d) rest w x e c m h)

-- a name that an opaque directory has not stands on nothing
opaque_none : (t l : List ℕ) (a : Pair) (rest : List Pair) (x : Name) → is_walked (table_of t l a.layer) a.number ≡ true → ends_scan (table_of t l a.layer) a.number ≡ true → seen_of (table_of t l a.layer) a.number x ≡ None → stack_of t l (a ∷ rest) x ≡ []
unfolding stack_of merge collect seen_then
opaque_none t l a rest x w e n = rw (scanned_opaque t l a rest w e, n) refl

-- ---- a node and its parent

module _ (t l s : List ℕ) (g : Good t l s) (k : ℕ) (b : k < count_of s) (other : (node_at (nodes_of s) k).number ≢ 1) where
  abbrev f : ℕ → Node
  f = node_by (nodes_of s)

  abbrev n : Node
  n = node_at (nodes_of s) k

  abbrev p : ℕ
  p = (node_at (nodes_of s) k).parent

  abbrev x : Name
  x = node_name (node_at (nodes_of s) k)

  inside : k < length (nodes_of s)
  inside = rw (length_nodes s) b

  at_n : f n.number ≡ n
  at_n = place_by (nodes_of s) g.nodes.once k inside

  there_n : NonRoot f n.number
  there_n = (place_resident (nodes_of s) g.nodes.once k inside g.nodes.none_zero, other)

  there_p : Resident f p
  there_p = subst (λ (a : Node). Resident f a.parent) at_n (g.nodes.coherent.parent_there n.number there_n)

  pub node_stack : stack_list n ≡ stack_of t l (stack_list (f p)) x
  node_stack = subst (λ (a : Node). stack_list a ≡ stack_of t l (stack_list (f a.parent)) (node_name a)) at_n (g.nodes.coherent.stack_is n.number there_n)

  pub node_some : stack_list n ≢ []
  node_some = subst (λ (a : Node). stack_list a ≢ []) at_n (g.nodes.coherent.stack_some n.number there_n)

  white_n : n.white ≡ one (whiteout_of t l (stack_list (f p)) x)
  white_n = subst (λ (a : Node). a.white ≡ one (whiteout_of t l (stack_list (f a.parent)) (node_name a))) at_n (g.nodes.coherent.white_is n.number there_n)

  -- the parent's first record is a directory
  walked_p : top_walked t l (stack_list (f p)) ≡ true
  walked_p = go (top_walked t l (stack_list (f p))) refl
    where
      go : (b : Bool) → top_walked t l (stack_list (f p)) ≡ b → b ≡ true
      go true e = refl
      go false e = absurd (node_some (node_stack ∙ stack_none t l (stack_list (f p)) x e))

  first_p : (q : List Pair) × (stack_list (f p) ≡ top_of (f p) ∷ q)
  first_p = take_first (f p).depth (f p).stack (λ e. true_false (sym walked_p ∙ (ap (top_walked t l) e ∙ (unfold top_walked in refl))))

  pub parent_node_lem : node_at (nodes_of s) (parent_place s k) ≡ f p
  unfolding place_of
  parent_node_lem = let j : (j : ℕ) × (find_number (nodes_of s) p ≡ Some j) = resident_found (nodes_of s) p there_p in ap (λ (w : Option ℕ). node_at (nodes_of s) (place_of (nodes_of s) w)) j.1 ∙ sym (by_found (nodes_of s) p j.0 j.1)

  -- whose number is smaller
  pub parent_earlier : (node_at (nodes_of s) (parent_place s k)).number < (node_at (nodes_of s) k).number
  parent_earlier =
      let e : (node_at (nodes_of s) (parent_place s k)).number ≡ p = ap (λ (a : Node). a.number) parent_node_lem ∙ there_p.1 in
      let h : p < n.number = subst (λ (a : Node). a.parent < n.number) at_n (g.nodes.coherent.parent_less n.number there_n) in
      omega arith

  -- so a copy-up finds it among the nodes, and a directory
  pub parent_inside : parent_place s k < count_of s
  unfolding place_of
  parent_inside = let j : (j : ℕ) × (find_number (nodes_of s) p ≡ Some j) = resident_found (nodes_of s) p there_p in subst (λ (m : ℕ). parent_place s k < m) (length_nodes s) (subst (λ (w : Option ℕ). place_of (nodes_of s) w < length (nodes_of s)) (sym j.1) (found_below (nodes_of s) p j.0 j.1))

  pub parent_walked : is_walked (table_of t l (top_of (node_at (nodes_of s) (parent_place s k))).layer) (top_of (node_at (nodes_of s) (parent_place s k))).number ≡ true
  unfolding top_walked
  parent_walked = ap (λ (m : Node). is_walked (table_of t l (top_of m).layer) (top_of m).number) parent_node_lem ∙ (sym (ap (top_walked t l) first_p.1) ∙ walked_p)

  -- ---- the parent is in the upper layer, and the node a directory that is not

  module _ (v : Valid t) (sound : SoundLayers t l) (low : in_upper (node_at (nodes_of s) k) ≡ false) (dir : is_walked (table_of t l (top_of (node_at (nodes_of s) k)).layer) (top_of (node_at (nodes_of s) k)).number ≡ true)
      (high : in_upper (node_at (nodes_of s) (parent_place s k)) ≡ true)
    where
      abbrev d : ℕ
      d = (top_of (node_at (nodes_of s) (parent_place s k))).number

      first_n : (q : List Pair) × (stack_list n ≡ top_of n ∷ q)
      first_n = take_first n.depth n.stack node_some

      top_lower : (top_of n).layer ≢ 0
      unfolding in_upper
      top_lower = eqb-false (top_of n).layer 0 low

      abbrev rest : List Pair
      rest = first_p.0

      top_p : top_of (f p) ≡ pair 0 d
      unfolding in_upper
      top_p = sym (ap top_of parent_node_lem) ∙ ap (λ (m : ℕ). pair m d) (eqb-true (top_of (node_at (nodes_of s) (parent_place s k))).layer 0 high)

      stack_p : stack_list (f p) ≡ pair 0 d ∷ rest
      stack_p = first_p.1 ∙ ap (λ (a : Pair). a ∷ rest) top_p

      walked_zero : is_walked (table_of t l 0) d ≡ true
      unfolding top_walked
      walked_zero = sym (ap (top_walked t l) stack_p) ∙ walked_p

      zero_is : table_of t l 0 ≡ t
      zero_is = sym (table_upper t l 0 refl v.size)

      walked_d : is_walked t d ≡ true
      walked_d = subst (λ (w : List ℕ). is_walked w d ≡ true) zero_is walked_zero

      rest_lower : Each Lower rest
      rest_lower = subst UpperFirst stack_p (node_first t l f g.nodes.coherent p there_p)

      stack_lower : Each Lower (stack_list n)
      stack_lower = subst (Each Lower) (sym first_n.1) (top_lower, subst UpperFirst first_n.1 (subst (λ (a : Node). UpperFirst (stack_list a)) at_n (node_first t l f g.nodes.coherent n.number there_n.0)))

      stack_d : stack_list n ≡ stack_of t l (pair 0 d ∷ rest) x
      stack_d = node_stack ∙ ap (λ (q : List Pair). stack_of t l q x) stack_p

      -- which has not the name, and is not opaque
      seen_d : seen_of (table_of t l 0) d x ≡ None
      seen_d = go (seen_of (table_of t l 0) d x) refl
        where
          go : (e : Option (Class × ℕ)) → seen_of (table_of t l 0) d x ≡ e → e ≡ None
          go None h = refl
          go (Some (c, m)) h =
              let q : (q : List Pair) × (stack_of t l (pair 0 d ∷ rest) x ≡ pair 0 m ∷ q) = seen_starts t l d rest x c m walked_zero h in
              let e : top_of n ∷ first_n.0 ≡ pair 0 m ∷ q.0 = sym first_n.1 ∙ (stack_d ∙ q.1) in
              let z : top_of n ≡ pair 0 m = cc in
              absurd (top_lower (ap (λ (a : Pair). a.layer) z))

      ends_d : ends_scan t d ≡ false
      ends_d = go (ends_scan (table_of t l 0) d) refl
        where
          go : (b : Bool) → ends_scan (table_of t l 0) d ≡ b → ends_scan t d ≡ false
          go true h = absurd (node_some (stack_d ∙ opaque_none t l (pair 0 d) rest x walked_zero h seen_d))
          go false h = subst (λ (w : List ℕ). ends_scan w d ≡ false) zero_is h

      seen_t : seen_of t d x ≡ None
      seen_t = subst (λ (w : List ℕ). seen_of w d x ≡ None) zero_is seen_d

      absent : named (entries_of t) d x ≡ 0
      absent = seen_nothing t d x seen_t

      -- the node's first record, and its name
      top_valid : Valid (table_of t l (top_of n).layer)
      top_valid = sound.tables (top_of n).layer (walked_long (table_of t l (top_of n).layer) (top_of n).number true (sym dir) refl)

      permitted : (top_record t l n).permissions ≤ 4095
      permitted = (top_valid.records (top_of n).number).permissions_fit

      within_n : In (top_of n) (stack_of t l (stack_list (f p)) x)
      within_n = subst (In (top_of n)) (sym first_n.1 ∙ node_stack) (here refl)

      name_good : WellFormed x × (length x ≤ 28)
      name_good =
          let w : Above t l x (stack_list (f p)) (top_of n) = stack_above t l x (stack_list (f p)) within_n in
          let e : (j : ℕ) × Used (entries_of (table_of t l w.at.layer)) j × ((entry_at (entries_of (table_of t l w.at.layer)) j).child ≡ named (entries_of (table_of t l w.at.layer)) w.at.number x) × ((entry_at (entries_of (table_of t l w.at.layer)) j).parent ≡ w.at.number) × (name_of (entry_at (entries_of (table_of t l w.at.layer)) j) ≡ x) =
          found_entry (entries_of (table_of t l w.at.layer)) w.at.number x (λ z. w.some (sym w.found ∙ z)) in
          let y : Valid (table_of t l w.at.layer) = sound.tables w.at.layer (walked_long (table_of t l w.at.layer) w.at.number true (sym w.walked) refl) in (
            subst WellFormed e.4 ((y.entries e.0).well_formed e.1),
            subst (λ (z : Name). length z ≤ 28) e.4 (entry_name_length (table_of t l w.at.layer) e.0 (used_below (table_of t l w.at.layer) e.0 e.1)),
          )

      -- the parent reaches the root in one step less than the node's first record
      near : (m : ℕ) × (m ≤ 15) × Reaches (entries_of t) m d
      near =
          let m : (m : ℕ) × Steps t l m (stack_list (f p)) = node_steps t l f g.nodes.coherent p there_p in
          let c : (c : ℕ) × (c ≤ 16) × Reaches (entries_of (table_of t l (top_of n).layer)) c (top_of n).number = top_valid.reach (top_of n).number (walked_kind (table_of t l (top_of n).layer) top_valid (top_of n).number dir) in
          let e : suc m.0 ≡ c.0 =
          steps_once (table_of t l (top_of n).layer) top_valid (walked_kind (table_of t l (top_of n).layer) top_valid (top_of n).number dir) (steps_below t l m.0 (stack_list (f p)) x m.1 (top_of n) within_n) c.2 in
          let h : c.0 ≤ 16 = c.1 in
          (m.0, omega arith, subst (λ (w : List ℕ). Reaches (entries_of w) m.0 d) zero_is (m.1 (pair 0 d) (subst (In (pair 0 d)) (sym stack_p) (here refl))))

      -- ---- the directory made at the free record place `i`, its entry at the free entry place `j`

      module _ (i : ℕ) (free : free_record_place (records_of t) ≡ Some i) (j : ℕ) (room : free_entry_place (entries_of t) ≡ Some j) where
        abbrev w : List ℕ
        w = made t v d walked_d x name_good.0 name_good.1 absent (top_record t l n) permitted i free j room

        abbrev a : Node
        a = topped n (pair 0 i)

        table_is : (made_directory l k (up t s)).table ≡ w
        unfolding made_directory add_new record_number
        table_is = ap (λ (q : Option ℕ). added_entry (added_record t (directory_like (top_record t l n))) (entry_naming d x (record_number q))) free

        state_is : (made_directory l k (up t s)).state ≡ put_bytes s k a
        unfolding made_directory record_number
        state_is = ap (λ (q : Option ℕ). put_bytes s k (topped n (pair 0 (record_number q)))) free

        w_valid : Valid w
        w_valid = made_valid t v d walked_d x name_good.0 name_good.1 absent (top_record t l n) permitted i free j room near

        -- the new stack of the node's name
        still_walked : top_walked w l (stack_list n) ≡ true
        unfolding top_walked
        still_walked = ap (top_walked w l) first_n.1 ∙ (ap (λ (z : List ℕ). is_walked z (top_of n).number) (lower_table w t l (top_of n).layer top_lower) ∙ dir)

        stack_rest : stack_of t l rest x ≡ stack_list n
        stack_rest = sym (stack_d ∙ stack_was t v d walked_d x name_good.0 name_good.1 absent (top_record t l n) permitted i free j room l rest rest_lower ends_d seen_t)

        stack_w : stack_of w l (stack_list (f p)) x ≡ pair 0 i ∷ stack_list n
        stack_w =
            ap (λ (q : List Pair). stack_of w l q x) stack_p
            ∙ (stack_becomes t v d walked_d x name_good.0 name_good.1 absent (top_record t l n) permitted i free j room l rest rest_lower ends_d (ap (top_walked w l) stack_rest ∙ still_walked)
            ∙ ap (λ (q : List Pair). pair 0 i ∷ q) stack_rest)

        mark_w : whiteout_of w l (stack_list (f p)) x ≡ false
        mark_w =
            ap (λ (q : List Pair). whiteout_of w l q x) stack_p
            ∙ mark_becomes t v d walked_d x name_good.0 name_good.1 absent (top_record t l n) permitted i free j room l rest rest_lower ends_d

        mark_was : whiteout_of t l (stack_list (f p)) x ≡ false
        mark_was =
            directory_live t l (stack_list (f p)) x (ap (top_walked t l) (sym node_stack ∙ first_n.1) ∙ (unfold top_walked in dir))

        -- the node's stack has a place for it
        tidy_n : Tidy n
        tidy_n = tidy_place t l (nodes_of s) (next_of s) g.nodes k

        deep : n.depth < 4
        deep =
            let y : length (stack_of w l (stack_list (f p)) x) ≤ length (stack_list (f p)) = length_stack w l (stack_list (f p)) x in
            let z : length (stack_of w l (stack_list (f p)) x) ≡ suc (length (stack_list n)) = ap length stack_w in
            let h : length n.stack ≡ 4 = tidy_n.fits.arrays.stack_fits in
            let c : n.depth ≤ 4 = tidy_n.depth_fits in
            let q : length (stack_list n) ≡ n.depth = simp length-take (omega arith) in
            let o : (f p).depth ≤ 4 = (g.nodes.tidy p).depth_fits in
            let e : length (stack_list (f p)) ≤ 4 = simp length-take (omega arith) in
            omega arith

        stack_a : stack_list a ≡ pair 0 i ∷ stack_list n
        unfolding with_stack
        stack_a = topped_stack (pair 0 i) n.stack n.depth tidy_n.fits.arrays.stack_fits deep

        tidy_a : Tidy a
        unfolding with_stack
        tidy_a =
            record {
              fits = record { numbers = record { number_fits = tidy_n.fits.numbers.number_fits; parent_fits = tidy_n.fits.numbers.parent_fits; count_fits = tidy_n.fits.numbers.count_fits }; arrays = record { stack_fits = (unfold pushed in refl); name_fits = tidy_n.fits.arrays.name_fits } };
              white_mark = tidy_n.white_mark;
              loaded_mark = tidy_n.loaded_mark;
              depth_fits = (unfold deeper in rw (lt-ltb n.depth 4 deep) (let h : n.depth < 4 = deep in omega arith));
              length_fits = tidy_n.length_fits;
              stack_unused = topped_unused (pair 0 i) n.stack n.depth deep tidy_n.stack_unused;
              name_unused = tidy_n.name_unused;
            }

        made_step : Step t w l f n.number a
        unfolding with_stack
        made_step =
            change_step t l s g v w w_valid.size d x (made_change t v d walked_d x name_good.0 name_good.1 absent (top_record t l n) permitted i free j room)
            (root_same t v d walked_d x name_good.0 name_good.1 absent (top_record t l n) permitted i free j room) p there_p walked_d (subst (In (pair 0 d)) (sym stack_p) (here refl)) n.number there_n.0 (ap key_of at_n) a refl refl
            (λ h. ap is_loaded at_n ∙ (unfold is_loaded in h))
            (λ y. ap (λ (q : List Pair). stack_of w l q y) stack_a ∙ (below_stack t v d walked_d x name_good.0 name_good.1 absent (top_record t l n) permitted i free j room l rest rest_lower ends_d y (stack_list n) stack_lower ∙ ap (λ (m : Node). stack_of t l (stack_list m) y) (sym at_n)))
            (λ y. ap (λ (q : List Pair). whiteout_of w l q y) stack_a ∙ (below_mark t v d walked_d x name_good.0 name_good.1 absent (top_record t l n) permitted i free j room l rest rest_lower ends_d y (stack_list n) stack_lower ∙ ap (λ (m : Node). whiteout_of t l (stack_list m) y) (sym at_n)))
            (stack_a ∙ sym stack_w) (λ z. let o : pair 0 i ∷ stack_list n ≡ [] = sym stack_a ∙ z in let e : suc (length (stack_list n)) ≡ 0 = ap length o in omega arith)
            (white_n ∙ ap one (mark_was ∙ sym mark_w))

        -- the upper table keeps every rule
        pub made_directory_valid : Valid (made_directory l k (up t s)).table
        made_directory_valid = subst Valid (sym table_is) w_valid

        -- and so does every layer's
        pub made_directory_sound : SoundLayers (made_directory l k (up t s)).table l
        made_directory_sound = subst (λ (z : List ℕ). SoundLayers z l) (sym table_is) (sound_changed t w l sound w_valid)

        -- what holds between calls holds of the table and the state
        pub made_directory_good : Good (made_directory l k (up t s)).table l (made_directory l k (up t s)).state
        made_directory_good = rw (table_is, state_is) (step_good t w l s g k b a tidy_a other made_step)

        -- the node at place `k` changes alone, and has the new directory first
        pub made_directory_nodes : nodes_of (made_directory l k (up t s)).state ≡ set (nodes_of s) k (topped (node_at (nodes_of s) k) (pair 0 i))
        made_directory_nodes = ap nodes_of state_is ∙ nodes_put s k a tidy_a.fits

        pub made_directory_top : top_of (node_at (nodes_of (made_directory l k (up t s)).state) k) ≡ pair 0 i
        unfolding with_stack pushed
        made_directory_top = ap (λ (ns : List Node). top_of (node_at ns k)) made_directory_nodes ∙ ap top_of (get_or-set_same (nodes_of s) k a no_node inside)

        -- it is a directory, as every one that was there
        pub made_directory_walked : is_walked (made_directory l k (up t s)).table i ≡ true
        made_directory_walked = rw table_is (made_walked t v d walked_d x name_good.0 name_good.1 absent (top_record t l n) permitted i free j room).0

        pub made_directory_still : (c : ℕ) → is_walked t c ≡ true → is_walked (made_directory l k (up t s)).table c ≡ true
        made_directory_still c h = rw table_is (still_directory t v d walked_d x name_good.0 name_good.1 absent (top_record t l n) permitted i free j room c h)

        -- and every record that was there is the one it was
        pub made_directory_kept : (c : ℕ) → Present (records_of t) c → is_walked (made_directory l k (up t s)).table c ≡ is_walked t c
        made_directory_kept c h = rw table_is (kept_directory t v d walked_d x name_good.0 name_good.1 absent (top_record t l n) permitted i free j room c h)

        pub made_directory_length : length (made_directory l k (up t s)).state ≡ length s
        made_directory_length = ap length state_is ∙ length_put s k a tidy_a.fits

        pub made_directory_next : next_of (made_directory l k (up t s)).state ≡ next_of s
        made_directory_next = ap next_of state_is ∙ next_put s k a tidy_a.fits

        -- one record and one entry more are used
        pub made_directory_records : used_records (records_of (made_directory l k (up t s)).table) ≡ suc (used_records (records_of t))
        made_directory_records = ap (λ (z : List ℕ). used_records (records_of z)) table_is ∙ made_used_records t v d walked_d x name_good.0 name_good.1 absent (top_record t l n) permitted i free j room

        pub made_directory_entries : used_entries (entries_of (made_directory l k (up t s)).table) ≡ suc (used_entries (entries_of t))
        made_directory_entries = ap (λ (z : List ℕ). used_entries (entries_of z)) table_is ∙ made_used_entries t v d walked_d x name_good.0 name_good.1 absent (top_record t l n) permitted i free j room
