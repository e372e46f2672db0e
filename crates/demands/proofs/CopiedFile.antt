-- A file copied up leaves a valid upper table, and keeps what holds between calls. Assumes nothing.
use Rattle.std.specs.Prelude.{Option, Some, None}
use mathlib.Core.Path.{◌≡◌, refl, sym, ap, ◌∙◌, subst}
use mathlib.Core.Logic.{◌≢◌}
use Prim.Native.Nat.{ℕ, zero, suc, ◌≤◌, ◌<◌}
use native.Mathlib.Omega.{arith}
use native.Mathlib.Nat.{zero-add}
use mathlib.Core.Bool.{Bool, true, false, cond}
use mathlib.Core.List.{List, [], ◌∷◌, map}
use lib.Dec.{eqb}
use lib.ListN.{length, take, get_or, set, get_or-eq_default}
use borrow.Author.Tests.{eqb-true, eqb-false, ne_eqb, not-false}
use Rattle.layers.specs.Names.{Name}
use Rattle.layers.specs.Items.{records_of, entries_of, record_at, entry_at, free_entry, FitsHead, FitsTail}
use Rattle.layers.specs.Search.{one, no_record, names, search_of, free_entry_place, free_record_place, used_entries, used_records}
use Rattle.layers.specs.Change.{entry_naming, numbered, added_entry, added_record, AddEntry, AddRecord, entry_added, record_added}
use Rattle.layers.specs.Rules.{Present, WellFormed, GoodRecord, Valid}
use Rattle.layers.specs.declared.items.Record.{Record}
use Rattle.layers.specs.declared.items.Entry.{Entry}
use Rattle.layers.proofs.EveryLaws.{no_true}
use Rattle.layers.proofs.RuleDistinct.{names_exactly}
use Rattle.layers.proofs.ChangeLaws.{first_passes, free_record_from, free_record_free, record_added_here, record_added_other}
use Rattle.layers.proofs.ChangeBytes.{added_entry_lem, length_added_record, added_record_lem}
use Rattle.layers.proofs.Padded.{get_or_all, naming_name, naming_named}
use Rattle.layers.proofs.RuleFacts.{directory_present, root_present}
use Rattle.merge.specs.Nodes.{no_pair, no_node, node_name, key_of, count_of, nodes_of, node_at}
use Rattle.merge.specs.Tidy.{Tidy}
use Rattle.merge.specs.Methods.{with_stack, only_pair, alone}
use Rattle.merge.specs.Changes.{put_bytes}
use Rattle.merge.specs.Heads.{next_of}
use Rattle.merge.specs.State.{find_number}
use Rattle.merge.specs.Tables.{table_of}
use Rattle.merge.specs.Classes.{is_whiteout, is_directory, is_opaque, class_of, class_at, child_at, named, seen_of}
use Rattle.merge.specs.Scan.{is_walked, ends_scan, scanned}
use Rattle.merge.specs.Stacks.{pair, Real, seen_then, collect, reals_of, later, first_step, merge, is_mark, marks, stack_of, whiteout_of}
use Rattle.merge.specs.Load.{stack_list, is_loaded}
use Rattle.merge.specs.declared.node.Node.{Node}
use Rattle.merge.specs.declared.stacks.Pair.{Pair}
use Rattle.merge.specs.declared.stacks.Class.{Class}
use Rattle.merge.specs.declared.stacks.Class.TheVariants.{Whiteout, Other, Plain, Opaque}
use Rattle.merge.proofs.MergeLaws.{Each}
use Rattle.merge.proofs.StateLaws.{length_nodes}
use Rattle.merge.proofs.TableLaws.{table_upper}
use Rattle.merge.proofs.ClassLaws.{seen_there, directory_walked, walked_long}
use Rattle.merge.proofs.NamedLaws.{names_used}
use Rattle.merge.proofs.NodesAfter.{length_put, next_put, nodes_put}
use Rattle.calls.specs.Parents.{place_of, top_of, is_white, is_directory_node}
use Rattle.calls.specs.Upper.{up, parent_place, in_upper, record_number, new_record, add_new, top_record, file_like, copied_file}
use Rattle.demands.specs.Invariant.{node_in, node_by, Resident, Good}
use Rattle.demands.specs.Reads.{SoundLayers}
use Rattle.demands.proofs.TopLaws.{Classed, reals_classed, top_walked, scanned_none, stack_none, stack_alone, whiteout_top}
use Rattle.demands.proofs.InvariantNodes.{place_by, place_resident}
use Rattle.demands.proofs.InvariantKept.{tidy_place}
use Rattle.demands.proofs.InvariantShare.{In, here, Above, stack_above}
use Rattle.demands.proofs.NameChanges.{names_parts, added_named, added_named_other, ChangedAt}
use Rattle.demands.proofs.UpperLaws.{scan_agree}
use Rattle.demands.proofs.InvariantMoves.{Step}
use Rattle.demands.proofs.InvariantChange.{step_good}
use Rattle.demands.proofs.InvariantUpper.{change_step}
use Rattle.demands.proofs.ValidAdded.{valid_made}
use Rattle.demands.proofs.PlacesCounted.{added_record_entries, added_record_records, added_entry_records, added_entry_entries}

-- ---- the topmost record of a stack

take_first : (d : ℕ) (ps : List Pair) → take d ps ≢ [] → (r : List Pair) × (take d ps ≡ get_or ps 0 no_pair ∷ r)
take_first zero ps h = absurd (h refl)
take_first (suc d) [] h = absurd (h refl)
take_first (suc d) (p ∷ ps) h = (take d ps, refl)

-- a node whose stack is not empty has its top record first in it
pub top_first : (n : Node) → stack_list n ≢ [] → (r : List Pair) × (stack_list n ≡ top_of n ∷ r)
top_first n h = take_first n.depth n.stack h

-- the first of the records that were merged
record First (rs : List Real) (a : Pair) : Type 0 where
  real : Real
  rest : List Real
  is_first : rs ≡ real ∷ rest
  at_place : real.place ≡ a

first_real : (rs : List Real) (a : Pair) (q : List Pair) → map (λ r. r.place) (merge (λ r. r.class) rs) ≡ a ∷ q → First rs a
unfolding merge first_step
first_real [] a q h = absurd (let z : ◌≡◌ {A = ℕ} 0 1 = cc in omega arith)
first_real (r ∷ rs) a q h = record { real = r; rest = rs; is_first = refl; at_place = go r.class h }
  where
    go : (c : Class) → map (λ (p : Real). p.place) (first_step c r (later (λ p. p.class) rs)) ≡ a ∷ q → r.place ≡ a
    go Whiteout h = cc
    go Other h = cc
    go Plain h = cc
    go Opaque h = cc

no_mark : (r : Record) → is_mark (class_of r) ≡ false → is_whiteout r ≡ false
unfolding class_of
no_mark r = go (is_whiteout r)
  where
    go : (b : Bool) → is_mark (cond b Whiteout (cond (is_directory r) (cond (is_opaque r) Opaque Plain) Other)) ≡ false → b ≡ false
    go true h = no_true (sym h)
    go false h = refl

pub other_class : (r : Record) → is_whiteout r ≡ false → is_directory r ≡ false → class_of r ≡ Other
unfolding class_of
other_class r w d = rw (w, d) refl

module _ (u l : List ℕ) (s : List Pair) (x : Name) (a : Pair) (q : List Pair) (h : stack_of u l s x ≡ a ∷ q) where
  stack_first : First (reals_of u l s x) a
  unfolding stack_of
  stack_first = first_real (reals_of u l s x) a q h

  -- where the name is marked no whiteout, that record is none
  pub top_live : whiteout_of u l s x ≡ false → is_whiteout (record_at (records_of (table_of u l a.layer)) a.number) ≡ false
  unfolding whiteout_of marks class_at
  top_live m =
      let f : First (reals_of u l s x) a = stack_first in
      let c : Classed u l f.real × Each (Classed u l) f.rest = subst (Each (Classed u l)) f.is_first (reals_classed u l s x) in
      let k : is_mark f.real.class ≡ false = sym (ap (marks (λ (r : Real). r.class)) f.is_first) ∙ m in
      let j : is_mark (class_of (record_at (records_of (table_of u l f.real.place.layer)) f.real.place.number)) ≡ false = sym (ap is_mark c.0.agrees) ∙ k in
      subst (λ (p : Pair). is_whiteout (record_at (records_of (table_of u l p.layer)) p.number) ≡ false) f.at_place (no_mark (record_at (records_of (table_of u l f.real.place.layer)) f.real.place.number) j)

-- ---- what a valid table has under a name

pub record Stands (t : List ℕ) (x : Name) (c : ℕ) : Type 0 where
  pub present : Present (records_of t) c
  pub well_formed : WellFormed x

module _ (t : List ℕ) (v : Valid t) (d : ℕ) (x : Name) where
  at_stands : (j : ℕ) → search_of (entries_of t) d x ≡ Some j → Stands t x (entry_at (entries_of t) j).child
  at_stands j e =
      let p : names d x (entry_at (entries_of t) j) ≡ true = first_passes (names d x) free_entry 0 (entries_of t) j (e ∙ ap Some (sym (zero-add j))) in
      let z : (entry_at (entries_of t) j).parent ≢ 0 = names_used d x (entry_at (entries_of t) j) p in
      record { present = (v.ends j).child_exists z; well_formed = subst WellFormed (names_parts d x (entry_at (entries_of t) j) p).1 ((v.entries j).well_formed z) }

  pub named_stands : (c : ℕ) → named (entries_of t) d x ≡ c → c ≢ 0 → Stands t x c
  unfolding child_at
  named_stands c h z = go (search_of (entries_of t) d x) refl h
    where
      go : (f : Option ℕ) → search_of (entries_of t) d x ≡ f → child_at (entries_of t) f ≡ c → Stands t x c
      go (Some j) e q = subst (Stands t x) q (at_stands j e)
      go None e q = absurd (z (sym q))

  -- no entry of it names record 0
  pub unseen_missing : seen_of t d x ≡ None → search_of (entries_of t) d x ≡ None
  unfolding seen_of child_at
  unseen_missing h = go (search_of (entries_of t) d x) refl
    where
      go : (f : Option ℕ) → search_of (entries_of t) d x ≡ f → f ≡ None
      go (Some j) e =
          let c : (entry_at (entries_of t) j).child ≢ 0 = λ z. (at_stands j e).present (ap (λ (i : ℕ). (record_at (records_of t) i).number) z) in
          absurd (let w : ◌≡◌ {A = Option (Class × ℕ)} (Some (class_at t d (entry_at (entries_of t) j).child, (entry_at (entries_of t) j).child)) None = sym (rw (e, ne_eqb (entry_at (entries_of t) j).child 0 c) refl) ∙ h in let z : ◌≡◌ {A = ℕ} 0 1 = cc in omega arith)
      go None e = refl

-- a name whose topmost record is no upper one has no entry in the upper directory on top
unseen_upper : (t l : List ℕ) → length t ≡ 8192 → (d : ℕ) (s : List Pair) (x : Name) (a : Pair) (q : List Pair) → is_walked t d ≡ true → stack_of t l (pair 0 d ∷ s) x ≡ a ∷ q → a.layer ≢ 0 → seen_of t d x ≡ None
unfolding scanned collect seen_then
unseen_upper t l n d s x a q w h z = go (seen_of t d x) refl
  where
    is_upper : table_of t l 0 ≡ t
    is_upper = sym (table_upper t l 0 refl n)

    f : First (reals_of t l (pair 0 d ∷ s) x) a
    f = stack_first t l (pair 0 d ∷ s) x a q h

    go : (e : Option (Class × ℕ)) → seen_of t d x ≡ e → e ≡ None
    go None e = refl
    go (Some (c, m)) e =
        let o : is_walked (table_of t l 0) d ≡ true = ap (λ (y : List ℕ). is_walked y d) is_upper ∙ w in
        let n : seen_of (table_of t l 0) d x ≡ Some (c, m) = ap (λ (y : List ℕ). seen_of y d x) is_upper ∙ e in
        let r : reals_of t l (pair 0 d ∷ s) x ≡ record { place = pair 0 m; class = c } ∷ collect t l x (cond (ends_scan (table_of t l 0) d) [] (scanned t l s)) = rw (o, n) refl in
        let y : record { place = pair 0 m; class = c } ∷ collect t l x (cond (ends_scan (table_of t l 0) d) [] (scanned t l s)) ≡ f.real ∷ f.rest = sym r ∙ f.is_first in
        let p : pair 0 m ≡ f.real.place = cc in
        absurd (z (sym (ap (λ (b : Pair). b.layer) (p ∙ f.at_place))))

-- ---- the record of the copy

module _ (r : Record) where
  like_class : is_whiteout r ≡ false → is_directory r ≡ false → (i : ℕ) → class_of (numbered i (file_like r)) ≡ Other
  unfolding file_like is_whiteout
  like_class w d i = other_class (numbered i (file_like r)) w d

  like_tail : FitsTail r → FitsTail (file_like r)
  unfolding file_like
  like_tail f = record { device_fit = f.device_fit; size_fit = f.size_fit; content_fit = f.content_fit }

  like_good : (q : ℕ) → GoodRecord q r → r.number ≢ 0 → (i : ℕ) → 1 ≤ i → GoodRecord i (numbered i (file_like r))
  unfolding file_like
  like_good q g p i l =
      record {
        free = λ (z : i ≡ 0). absurd (omega arith);
        number_is = λ _. refl;
        kind_is = λ _. g.kind_is p;
        permissions_fit = g.permissions_fit;
        mark_zero = refl;
        links_zero = refl;
        opaque_is = omega arith;
        opaque_directory = λ z. absurd (z refl);
        device_is = g.device_is;
      }

-- ---- the upper table with the copy

module _ (t : List ℕ) (v : Valid t) (i : ℕ) (hr : free_record_place (records_of t) ≡ Some i) where
  -- a record that is there is another than the free one
  there_other : (q : ℕ) → Present (records_of t) q → q ≢ i
  unfolding no_record
  there_other q p e = p (ap (λ (j : ℕ). (record_at (records_of t) j).number) e ∙ eqb-true (record_at (records_of t) i).number 0 (free_record_free (records_of t) i hr))

  -- and so is every record that a name has
  named_other_record : (c : ℕ) (y : Name) → named (entries_of t) c y ≢ i
  unfolding child_at
  named_other_record c y = go (search_of (entries_of t) c y) refl
    where
      go : (f : Option ℕ) → search_of (entries_of t) c y ≡ f → child_at (entries_of t) f ≢ i
      go (Some j) e = there_other (entry_at (entries_of t) j).child (at_stands t v c y j e).present
      go None e = λ z. let o : 1 ≤ i = free_record_from (records_of t) i hr in absurd (omega arith)

-- the record `r`, a file's, can be copied into the upper directory `d` under the name `x`
record Copyable (t : List ℕ) (d : ℕ) (x : Name) (r : Record) : Type 0 where
  walked : is_walked t d ≡ true
  unseen : seen_of t d x ≡ None
  well_formed : WellFormed x
  short : length x ≤ 28
  good : (i : ℕ) → 1 ≤ i → GoodRecord i (numbered i (file_like r))
  no_directory : is_directory r ≡ false
  no_whiteout : is_whiteout r ≡ false

module _ (t : List ℕ) (v : Valid t) (d : ℕ) (x : Name) (r : Record) (c : Copyable t d x r) (tail : FitsTail r) (i j : ℕ) (hr : free_record_place (records_of t) ≡ Some i) (he : free_entry_place (entries_of t) ≡ Some j) where
  abbrev copy : List ℕ
  copy = added_entry (added_record t (file_like r)) (entry_naming d x i)

  parent_directory : (record_at (records_of t) d).kind ≡ 4
  parent_directory = eqb-true (record_at (records_of t) d).kind 4 (sym (directory_walked t 0 d v.size) ∙ c.walked)

  copy_missing : search_of (entries_of t) d x ≡ None
  copy_missing = unseen_missing t v d x c.unseen

  copy_valid : Valid copy
  unfolding file_like
  copy_valid =
      valid_made t v d x (file_like r) parent_directory (λ k. absurd (eqb-false r.kind 4 c.no_directory k)) c.well_formed c.short copy_missing i hr
      (c.good i (free_record_from (records_of t) i hr)) (like_tail r tail) j he

  -- what it has besides

  record_new : AddRecord t (file_like r) (free_record_place (records_of t)) (added_record t (file_like r))
  unfolding file_like
  record_new =
      added_record_lem t (file_like r) v.size (record { permissions_fit = (let y : r.permissions ≤ 4095 = (c.good 1 (omega arith)).permissions_fit in omega arith); links_fit = omega arith })
      (like_tail r tail)

  entry_new : AddEntry (added_record t (file_like r)) (entry_naming d x i) (free_entry_place (entries_of (added_record t (file_like r)))) copy
  entry_new = added_entry_lem (added_record t (file_like r)) (entry_naming d x i) (naming_name d x i) (length_added_record t (file_like r) v.size ∙ v.size)

  copy_records : records_of copy ≡ record_added (records_of t) (file_like r)
  copy_records = entry_new.records ∙ record_new.records

  copy_entries : entries_of copy ≡ entry_added (entries_of t) (entry_naming d x i)
  copy_entries = entry_new.entries ∙ ap (λ (es : List Entry). entry_added es (entry_naming d x i)) record_new.entries

  -- every other record stands as it did
  record_kept : (q : ℕ) → q ≢ i → record_at (records_of copy) q ≡ record_at (records_of t) q
  record_kept q n = ap (λ (rs : List Record). record_at rs q) copy_records ∙ record_added_other (records_of t) (file_like r) i hr q n

  copy_here : record_at (records_of copy) i ≡ numbered i (file_like r)
  copy_here = ap (λ (rs : List Record). record_at rs i) copy_records ∙ record_added_here (records_of t) (file_like r) i hr

  copy_root : record_at (records_of t) 1 ≡ record_at (records_of copy) 1
  copy_root = sym (record_kept 1 (there_other t v i hr 1 (root_present t v)))

  entry_named : names d x (entry_naming d x i) ≡ true
  unfolding entry_naming
  entry_named = (names_exactly d x (entry_naming d x i)).whole (used, (refl, naming_named d x i c.short))
    where
      used : d ≢ 0
      used z = let e : ◌≡◌ {A = ℕ} 0 4 = ap (λ (q : ℕ). (record_at (records_of t) q).kind) (sym z) ∙ parent_directory in omega arith

  copy_changed : ChangedAt t copy d x
  copy_changed =
      record {
        others = λ q y e. ap (λ (es : List Entry). named es q y) copy_entries ∙ added_named_other (entries_of t) (entry_naming d x i) d x entry_named q y e;
        stay = λ q y _. record_kept (named (entries_of t) q y) (named_other_record t v i hr q y);
      }

  copy_walked : is_walked copy d ≡ true
  copy_walked = (scan_agree copy t d (copy_valid.size ∙ sym v.size) (record_kept d (there_other t v i hr d (directory_present t v d parent_directory)))).0 ∙ c.walked

  copy_named : named (entries_of copy) d x ≡ i
  unfolding entry_naming
  copy_named = ap (λ (es : List Entry). named es d x) copy_entries ∙ added_named (entries_of t) (entry_naming d x i) d x entry_named j he copy_missing

  copy_seen : seen_of copy d x ≡ Some (Other, i)
  unfolding class_at
  copy_seen =
      let o : 1 ≤ i = free_record_from (records_of t) i hr in
      sym (seen_there copy d x i (sym copy_named) (λ z. absurd (omega arith)) Other (sym (ap class_of copy_here ∙ like_class r c.no_whiteout c.no_directory i)))

  copy_file : is_walked copy i ≡ false
  unfolding file_like
  copy_file = directory_walked copy 0 i copy_valid.size ∙ (ap is_directory copy_here ∙ c.no_directory)

  copy_kept : (q : ℕ) → Present (records_of t) q → is_walked copy q ≡ is_walked t q
  copy_kept q h = (scan_agree copy t q (copy_valid.size ∙ sym v.size) (record_kept q (there_other t v i hr q h))).0

  copy_still : (q : ℕ) → is_walked t q ≡ true → is_walked copy q ≡ true
  copy_still q h = copy_kept q (directory_present t v q (eqb-true (record_at (records_of t) q).kind 4 (sym (directory_walked t 0 q v.size) ∙ h))) ∙ h

  copy_head : FitsHead (file_like r)
  unfolding file_like
  copy_head = record { permissions_fit = (let y : r.permissions ≤ 4095 = (c.good 1 (omega arith)).permissions_fit in omega arith); links_fit = omega arith }

  copy_long : length (added_record t (file_like r)) ≡ 8192
  copy_long = length_added_record t (file_like r) v.size ∙ v.size

  copy_used_records : used_records (records_of copy) ≡ suc (used_records (records_of t))
  copy_used_records = added_entry_records (added_record t (file_like r)) (entry_naming d x i) (naming_name d x i) copy_long ∙ added_record_records t (file_like r) v.size copy_head (like_tail r tail) i hr

  copy_used_entries : used_entries (entries_of copy) ≡ suc (used_entries (entries_of t))
  unfolding entry_naming
  copy_used_entries =
      added_entry_entries (added_record t (file_like r)) (entry_naming d x i) (naming_name d x i) copy_long
      (λ z. let e : ◌≡◌ {A = ℕ} 0 4 = ap (λ (q : ℕ). (record_at (records_of t) q).kind) (sym z) ∙ parent_directory in omega arith) j
      (ap (λ (es : List Entry). free_entry_place es) record_new.entries ∙ he)
      ∙ ap suc (added_record_entries t (file_like r) v.size copy_head (like_tail r tail))

  module _ (l : List ℕ) where
    in_copy : table_of copy l 0 ≡ copy
    in_copy = sym (table_upper copy l 0 refl copy_valid.size)

    -- the name's stack is the copy alone
    module _ (ps : List Pair) where
      copy_stack : stack_of copy l (pair 0 d ∷ ps) x ≡ pair 0 i ∷ []
      copy_stack = stack_alone copy l (pair 0 d) ps (ap (λ (w : List ℕ). is_walked w d) in_copy ∙ copy_walked) x Other i (ap (λ (w : List ℕ). seen_of w d x) in_copy ∙ copy_seen) refl

      copy_mark : whiteout_of copy l (pair 0 d ∷ ps) x ≡ false
      copy_mark = whiteout_top copy l (pair 0 d) ps (ap (λ (w : List ℕ). is_walked w d) in_copy ∙ copy_walked) x Other i (ap (λ (w : List ℕ). seen_of w d x) in_copy ∙ copy_seen)

    -- and nothing lies below it
    copy_top : top_walked copy l (pair 0 i ∷ []) ≡ false
    unfolding top_walked
    copy_top = ap (λ (w : List ℕ). is_walked w i) in_copy ∙ copy_file

-- ---- nothing is marked below what is no directory

pub mark_none : (u l : List ℕ) (s : List Pair) (x : Name) → top_walked u l s ≡ false → whiteout_of u l s x ≡ false
unfolding whiteout_of marks collect
mark_none u l s x w = rw (scanned_none u l s w) refl

-- ---- a node with one record alone

module _ (n : Node) (p : Pair) where
  alone_key : key_of (alone n p) ≡ key_of n
  unfolding with_stack
  alone_key = refl

  alone_number : (alone n p).number ≡ n.number
  unfolding with_stack
  alone_number = refl

  alone_white : (alone n p).white ≡ n.white
  unfolding with_stack
  alone_white = refl

  alone_loaded : is_loaded (alone n p) ≡ is_loaded n
  unfolding with_stack is_loaded
  alone_loaded = refl

  alone_stack : stack_list (alone n p) ≡ p ∷ []
  unfolding with_stack
  alone_stack = refl

  alone_past : (i : ℕ) → 1 ≤ i → get_or (only_pair p) i no_pair ≡ no_pair
  alone_past zero l = absurd (omega arith)
  alone_past (suc i) l = get_or_all 3 i no_pair

  pub alone_tidy : Tidy n → Tidy (alone n p)
  unfolding with_stack
  alone_tidy t =
      record {
        fits = record { numbers = record { number_fits = t.fits.numbers.number_fits; parent_fits = t.fits.numbers.parent_fits; count_fits = t.fits.numbers.count_fits }; arrays = record { stack_fits = refl; name_fits = t.fits.arrays.name_fits } };
        white_mark = t.white_mark;
        loaded_mark = t.loaded_mark;
        depth_fits = omega arith;
        length_fits = t.length_fits;
        stack_unused = alone_past;
        name_unused = t.name_unused;
      }

-- ---- the node that is copied up

take_short : {A : Type 0} (d : ℕ) (xs : List A) → length (take d xs) ≤ d
take_short zero xs = omega arith
take_short (suc d) [] = omega arith
take_short (suc d) (x ∷ xs) = let h : length (take d xs) ≤ d = take_short d xs in omega arith

pub one_zero : (b : Bool) → one b ≡ 0 → b ≡ false
unfolding one
one_zero true h = absurd (let z : ◌≡◌ {A = ℕ} 1 0 = h in omega arith)
one_zero false h = refl

pub pair_is : (a : Pair) (k d : ℕ) → a.layer ≡ k → a.number ≡ d → a ≡ pair k d
pair_is a k d p q = λ j. record { layer = p j; number = q j }

module _ (t l s : List ℕ) (v : Valid t) (g : Good t l s) (k : ℕ) (b : k < count_of s) (other : (node_at (nodes_of s) k).number ≢ 1) where
  abbrev f : ℕ → Node
  f = node_by (nodes_of s)

  abbrev n : Node
  n = node_at (nodes_of s) k

  -- its parent's node, and the records that it has
  abbrev pn : Node
  pn = node_at (nodes_of s) (parent_place s k)

  by_place : f n.number ≡ n
  by_place = place_by (nodes_of s) g.nodes.once k (rw (length_nodes s) b)

  node_there : Resident f n.number
  node_there = place_resident (nodes_of s) g.nodes.once k (rw (length_nodes s) b) g.nodes.none_zero

  parent_there : Resident f n.parent
  parent_there = subst (λ (m : Node). Resident f m.parent) by_place (g.nodes.coherent.parent_there n.number (node_there, other))

  parent_by : f n.parent ≡ pn
  unfolding node_in place_of
  parent_by = go (find_number (nodes_of s) n.parent)
    where
      go : (q : Option ℕ) → node_in (nodes_of s) q ≡ node_at (nodes_of s) (place_of (nodes_of s) q)
      go (Some j) = refl
      go None = sym (get_or-eq_default (nodes_of s) no_node {n = length (nodes_of s)} (omega arith))

  pub node_stack : stack_list n ≡ stack_of t l (stack_list pn) (node_name n)
  node_stack = subst (λ (m : Node). stack_list m ≡ stack_of t l (stack_list (f m.parent)) (node_name m)) by_place (g.nodes.coherent.stack_is n.number (node_there, other)) ∙ ap (λ (m : Node). stack_of t l (stack_list m) (node_name n)) parent_by

  pub node_some : stack_list n ≢ []
  node_some = subst (λ (m : Node). stack_list m ≢ []) by_place (g.nodes.coherent.stack_some n.number (node_there, other))

  pub node_white : n.white ≡ one (whiteout_of t l (stack_list pn) (node_name n))
  node_white = subst (λ (m : Node). m.white ≡ one (whiteout_of t l (stack_list (f m.parent)) (node_name m))) by_place (g.nodes.coherent.white_is n.number (node_there, other)) ∙ ap (λ (m : Node). one (whiteout_of t l (stack_list m) (node_name n))) parent_by

  -- a node's parent is a directory
  parent_walked : top_walked t l (stack_list pn) ≡ true
  parent_walked = go (top_walked t l (stack_list pn)) refl
    where
      go : (c : Bool) → top_walked t l (stack_list pn) ≡ c → c ≡ true
      go true e = refl
      go false e = absurd (node_some (node_stack ∙ stack_none t l (stack_list pn) (node_name n) e))

  parent_some : stack_list pn ≢ []
  unfolding top_walked
  parent_some z = no_true (sym (ap (top_walked t l) z) ∙ parent_walked)

  pub node_short : length (node_name n) ≤ 28
  node_short =
      let a : n.length ≤ 28 = (tidy_place t l (nodes_of s) (next_of s) g.nodes k).length_fits in
      let c : length (take n.length n.name) ≤ n.length = take_short n.length n.name in
      omega arith

  module _ (white : is_white n ≡ false) (file : is_directory_node t l n ≡ false) (lower : in_upper n ≡ false) (upper : in_upper pn ≡ true) where
    abbrev d : ℕ
    d = (top_of pn).number

    rest : (r : List Pair) × (stack_list pn ≡ top_of pn ∷ r)
    rest = top_first pn parent_some

    parent_upper : top_of pn ≡ pair 0 d
    unfolding in_upper
    parent_upper = pair_is (top_of pn) 0 d (eqb-true (top_of pn).layer 0 upper) refl

    parent_stack : stack_list pn ≡ pair 0 d ∷ rest.0
    parent_stack = rest.1 ∙ ap (λ (p : Pair). p ∷ rest.0) parent_upper

    directory_above : is_walked t d ≡ true
    unfolding top_walked
    directory_above = sym (ap (λ (w : List ℕ). is_walked w d) (sym (table_upper t l 0 refl v.size))) ∙ (sym (ap (top_walked t l) parent_stack) ∙ parent_walked)

    under : (r : List Pair) × (stack_list n ≡ top_of n ∷ r)
    under = top_first n node_some

    merged : stack_of t l (pair 0 d ∷ rest.0) (node_name n) ≡ top_of n ∷ under.0
    merged = sym (ap (λ (p : List Pair). stack_of t l p (node_name n)) parent_stack) ∙ (sym node_stack ∙ under.1)

    not_upper : (top_of n).layer ≢ 0
    unfolding in_upper
    not_upper = eqb-false (top_of n).layer 0 lower

    not_white : n.white ≡ 0
    unfolding is_white
    not_white = eqb-true n.white 0 (not-false (eqb n.white 0) white)

    not_walked : is_walked (table_of t l (top_of n).layer) (top_of n).number ≡ false
    unfolding is_directory_node
    not_walked = sym (rw (ne_eqb n.depth 0 deep) refl) ∙ file
      where
        deep : n.depth ≢ 0
        deep z = node_some (ap (λ (m : ℕ). take m n.stack) z)

    live : whiteout_of t l (pair 0 d ∷ rest.0) (node_name n) ≡ false
    live = sym (ap (λ (p : List Pair). whiteout_of t l p (node_name n)) parent_stack) ∙ one_zero (whiteout_of t l (stack_list pn) (node_name n)) (sym node_white ∙ not_white)

    above : Above t l (node_name n) (pair 0 d ∷ rest.0) (top_of n)
    above = stack_above t l (node_name n) (pair 0 d ∷ rest.0) (subst (In (top_of n)) (sym merged) (here refl))

    module _ (sound : SoundLayers t l) where
      long : length (table_of t l (top_of n).layer) ≡ 8192
      long = subst (λ (i : ℕ). length (table_of t l i) ≡ 8192) above.layer_is (walked_long (table_of t l above.at.layer) above.at.number true (sym above.walked) refl)

      layer_valid : Valid (table_of t l (top_of n).layer)
      layer_valid = sound.tables (top_of n).layer long

      stands : Stands (table_of t l (top_of n).layer) (node_name n) (top_of n).number
      stands =
          named_stands (table_of t l (top_of n).layer) layer_valid above.at.number (node_name n) (top_of n).number
          (subst (λ (i : ℕ). named (entries_of (table_of t l i)) above.at.number (node_name n) ≡ (top_of n).number) above.layer_is above.found) above.some

      copyable : Copyable t d (node_name n) (top_record t l n)
      copyable =
          record {
            walked = directory_above;
            unseen = unseen_upper t l v.size d rest.0 (node_name n) (top_of n) under.0 directory_above merged not_upper;
            well_formed = stands.well_formed;
            short = node_short;
            good = like_good (top_record t l n) (top_of n).number (layer_valid.records (top_of n).number) stands.present;
            no_directory = sym (directory_walked (table_of t l (top_of n).layer) 0 (top_of n).number long) ∙ not_walked;
            no_whiteout = top_live t l (pair 0 d ∷ rest.0) (node_name n) (top_of n) under.0 merged live;
          }

      module _ (tail : FitsTail (top_record t l n)) (i j : ℕ) (hr : free_record_place (records_of t) ≡ Some i) (he : free_entry_place (entries_of t) ≡ Some j) where
        new_number_lem : new_record t ≡ i
        unfolding record_number
        new_number_lem = ap record_number hr

        copied_table : (copied_file l k (up t s)).table ≡ added_entry (added_record t (file_like (top_record t l n))) (entry_naming d (node_name n) i)
        unfolding copied_file add_new
        copied_table = ap (λ (m : ℕ). added_entry (added_record t (file_like (top_record t l n))) (entry_naming d (node_name n) m)) new_number_lem

        pub copied_valid : Valid (copied_file l k (up t s)).table
        copied_valid = subst Valid (sym copied_table) (copy_valid t v d (node_name n) (top_record t l n) copyable tail i j hr he)

        abbrev w : List ℕ
        w = added_entry (added_record t (file_like (top_record t l n))) (entry_naming d (node_name n) i)

        abbrev a : Node
        a = alone n (pair 0 i)

        parent_holds : stack_list (f n.parent) ≡ pair 0 d ∷ rest.0
        parent_holds = ap stack_list parent_by ∙ parent_stack

        file_top : top_walked t l (stack_list n) ≡ false
        unfolding top_walked
        file_top = ap (top_walked t l) under.1 ∙ not_walked

        copied_below : (y : Name) → stack_of w l (stack_list a) y ≡ stack_of t l (stack_list (f n.number)) y
        copied_below y =
            ap (λ (q : List Pair). stack_of w l q y) (alone_stack n (pair 0 i))
            ∙ (stack_none w l (pair 0 i ∷ []) y (copy_top t v d (node_name n) (top_record t l n) copyable tail i j hr he l)
            ∙ sym (ap (λ (m : Node). stack_of t l (stack_list m) y) by_place ∙ stack_none t l (stack_list n) y file_top))

        copied_below_mark : (y : Name) → whiteout_of w l (stack_list a) y ≡ whiteout_of t l (stack_list (f n.number)) y
        copied_below_mark y =
            ap (λ (q : List Pair). whiteout_of w l q y) (alone_stack n (pair 0 i))
            ∙ (mark_none w l (pair 0 i ∷ []) y (copy_top t v d (node_name n) (top_record t l n) copyable tail i j hr he l)
            ∙ sym (ap (λ (m : Node). whiteout_of t l (stack_list m) y) by_place ∙ mark_none t l (stack_list n) y file_top))

        copied_stack : stack_list a ≡ stack_of w l (stack_list (f n.parent)) (node_name n)
        copied_stack =
            alone_stack n (pair 0 i)
            ∙ sym (ap (λ (q : List Pair). stack_of w l q (node_name n)) parent_holds ∙ copy_stack t v d (node_name n) (top_record t l n) copyable tail i j hr he l rest.0)

        copied_some : stack_list a ≢ []
        copied_some z = absurd (let y : pair 0 i ∷ [] ≡ [] = sym (alone_stack n (pair 0 i)) ∙ z in let o : ◌≡◌ {A = ℕ} 0 1 = cc in omega arith)

        copied_white : a.white ≡ one (whiteout_of w l (stack_list (f n.parent)) (node_name n))
        unfolding one
        copied_white =
            alone_white n (pair 0 i)
            ∙ (not_white ∙ sym (ap one (ap (λ (q : List Pair). whiteout_of w l q (node_name n)) parent_holds ∙ copy_mark t v d (node_name n) (top_record t l n) copyable tail i j hr he l rest.0)))

        copied_step : Step t w l f n.number a
        copied_step =
            change_step t l s g v w (copy_valid t v d (node_name n) (top_record t l n) copyable tail i j hr he).size d (node_name n) (copy_changed t v d (node_name n) (top_record t l n) copyable tail i j hr he)
            (copy_root t v d (node_name n) (top_record t l n) copyable tail i j hr he) n.parent parent_there directory_above (subst (In (pair 0 d)) (sym parent_holds) (here refl))
            n.number node_there (ap key_of by_place) a (alone_number n (pair 0 i)) (alone_key n (pair 0 i)) (λ h. ap is_loaded by_place ∙ (sym (alone_loaded n (pair 0 i)) ∙ h))
            copied_below copied_below_mark copied_stack copied_some copied_white

        copied_state : (copied_file l k (up t s)).state ≡ put_bytes s k a
        unfolding copied_file
        copied_state = ap (λ (m : ℕ). put_bytes s k (alone n (pair 0 m))) new_number_lem

        pub copied_good : Good (copied_file l k (up t s)).table l (copied_file l k (up t s)).state
        copied_good =
            subst (λ (y : List ℕ). Good (copied_file l k (up t s)).table l y) (sym copied_state)
            (subst (λ (y : List ℕ). Good y l (put_bytes s k a)) (sym copied_table)
            (step_good t w l s g k b a (alone_tidy n (pair 0 i) (tidy_place t l (nodes_of s) (next_of s) g.nodes k)) other copied_step))

        -- the node at place `k` changes alone, and has the copy alone
        pub copied_nodes : nodes_of (copied_file l k (up t s)).state ≡ set (nodes_of s) k (alone (node_at (nodes_of s) k) (pair 0 i))
        copied_nodes = ap nodes_of copied_state ∙ nodes_put s k a (alone_tidy n (pair 0 i) (tidy_place t l (nodes_of s) (next_of s) g.nodes k)).fits

        pub copied_length : length (copied_file l k (up t s)).state ≡ length s
        copied_length = ap length copied_state ∙ length_put s k a (alone_tidy n (pair 0 i) (tidy_place t l (nodes_of s) (next_of s) g.nodes k)).fits

        pub copied_next : next_of (copied_file l k (up t s)).state ≡ next_of s
        copied_next = ap next_of copied_state ∙ next_put s k a (alone_tidy n (pair 0 i) (tidy_place t l (nodes_of s) (next_of s) g.nodes k)).fits

        -- the copy is no directory, and every directory is one
        pub copied_plain : is_walked (copied_file l k (up t s)).table i ≡ false
        copied_plain = rw copied_table (copy_file t v d (node_name n) (top_record t l n) copyable tail i j hr he)

        pub copied_still : (q : ℕ) → is_walked t q ≡ true → is_walked (copied_file l k (up t s)).table q ≡ true
        copied_still q h = rw copied_table (copy_still t v d (node_name n) (top_record t l n) copyable tail i j hr he q h)

        -- one record and one entry more are used
        pub copied_records : used_records (records_of (copied_file l k (up t s)).table) ≡ suc (used_records (records_of t))
        copied_records = ap (λ (y : List ℕ). used_records (records_of y)) copied_table ∙ copy_used_records t v d (node_name n) (top_record t l n) copyable tail i j hr he

        pub copied_entries : used_entries (entries_of (copied_file l k (up t s)).table) ≡ suc (used_entries (entries_of t))
        copied_entries = ap (λ (y : List ℕ). used_entries (entries_of y)) copied_table ∙ copy_used_entries t v d (node_name n) (top_record t l n) copyable tail i j hr he
