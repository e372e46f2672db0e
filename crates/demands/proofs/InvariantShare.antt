-- No two nodes share an upper directory, so that a change of the upper layer at one name concerns one node. Assumes nothing.
use Rattle.std.specs.Prelude.{Option, Some, None}
use mathlib.Core.Path.{◌≡◌, refl, sym, ap, ap₂, ◌∙◌, subst}
use mathlib.Core.Logic.{◌≢◌}
use Prim.Native.Nat.{ℕ, zero, suc, ◌<◌}
use native.Mathlib.Omega.{arith}
use native.Mathlib.Nat.{zero-add}
use native.Mathlib.Decide.{ℕ_discrete}
use mathlib.Core.Bool.{Bool, true, false, cond}
use mathlib.Core.List.{List, [], ◌∷◌, map}
use lib.Dec.{eqb}
use lib.ListN.{length}
use borrow.Author.Tests.{eqb-true, eqb-false, eq-eqb}
use Rattle.layers.specs.Names.{Name}
use Rattle.layers.specs.Items.{entries_of, records_of, entry_at, record_at, free_entry}
use Rattle.layers.specs.Search.{name_of, names, search_of}
use Rattle.layers.specs.Rules.{Used, Valid}
use Rattle.layers.specs.declared.items.Entry.{Entry}
use Rattle.layers.proofs.ChangeLaws.{first_passes}
use Rattle.layers.proofs.RuleFacts.{directory_once}
use Rattle.merge.specs.declared.stacks.Pair.{Pair}
use Rattle.merge.specs.declared.stacks.Class.{Class}
use Rattle.merge.specs.declared.stacks.Class.TheVariants.{Whiteout, Other, Plain, Opaque}
use Rattle.merge.specs.declared.node.Node.{Node}
use Rattle.merge.specs.Nodes.{node_name, key_of}
use Rattle.merge.specs.Tables.{table_of}
use Rattle.merge.specs.Classes.{class_at, child_at, named, seen_of}
use Rattle.merge.specs.Scan.{is_walked, ends_scan, scanned}
use Rattle.merge.specs.Stacks.{pair, Real, seen_then, collect, reals_of, later_step, later, first_step, merge, stack_of, whiteout_of}
use Rattle.merge.specs.Fresh.{roots_from, root_stack}
use Rattle.merge.specs.Load.{stack_list}
use Rattle.demands.specs.Invariant.{Resident, NonRoot, Coherent}
use Rattle.merge.proofs.TableLaws.{table_upper, table_no_upper}
use Rattle.merge.proofs.MergeLaws.{Each}
use Rattle.merge.proofs.NamedLaws.{names_used, ChildrenExist, children_exist}
use Rattle.demands.proofs.NameChanges.{names_parts, ChangedAt}
use Rattle.demands.proofs.AgreeLaws.{lower_table}
use Rattle.demands.proofs.UpperLaws.{Untouched, stack_elsewhere, whiteout_elsewhere}

-- ---- membership

pub data In {A : Type 0} (r : A) : List A → Type 0 where
  here : {q : A} {s : List A} → r ≡ q → In r (q ∷ s)
  there : {q : A} {s : List A} → In r s → In r (q ∷ s)

pub in_nil : {A : Type 0} {r : A} → In r [] → ⊥
in_nil h = elim h [ ]

pub each_in : {A : Type 0} (P : A → Type 0) (s : List A) → ((r : A) → In r s → P r) → Each P s
each_in P [] h = tt
each_in P (x ∷ s) h = (h x (here refl), each_in P s (λ r i. h r (there i)))

in_map : {A B : Type 0} (f : A → B) (s : List A) {r : B} → In r (map f s) → (q : A) × In q s × (r ≡ f q)
in_map f [] i = absurd (in_nil i)
in_map f (q ∷ s) {r} (here e) = (q, here refl, e)
in_map {A} f (q ∷ s) {r} (there i) = let t : (p : A) × In p s × (r ≡ f p) = in_map f s i in (t.0, there t.1, t.2)

-- ---- where a record of a stack comes from

module _ {A : Type 0} (c : A → Class) where
  later_sub : (s : List A) {r : A} → In r (later c s) → In r s
  unfolding later later_step
  later_sub [] i = i
  later_sub (q ∷ s) {r} i = go (c q) i (λ j. later_sub s j)
    where
      go : (k : Class) → In r (later_step k q (later c s)) → (In r (later c s) → In r s) → In r (q ∷ s)
      go Whiteout j f = absurd (in_nil j)
      go Other j f = absurd (in_nil j)
      go Plain (here e) f = here e
      go Plain (there j) f = there (f j)
      go Opaque (here e) f = here e
      go Opaque (there j) f = absurd (in_nil j)

  merge_sub : (s : List A) {r : A} → In r (merge c s) → In r s
  unfolding merge first_step
  merge_sub [] i = i
  merge_sub (q ∷ s) {r} i = go (c q) i
    where
      go : (k : Class) → In r (first_step k q (later c s)) → In r (q ∷ s)
      go Whiteout (here e) = here e
      go Whiteout (there j) = absurd (in_nil j)
      go Other (here e) = here e
      go Other (there j) = absurd (in_nil j)
      go Plain (here e) = here e
      go Plain (there j) = there (later_sub s j)
      go Opaque (here e) = here e
      go Opaque (there j) = absurd (in_nil j)

seen_named : (t : List ℕ) (d : ℕ) (x : Name) (c : Class) (n : ℕ) → seen_of t d x ≡ Some (c, n) → (named (entries_of t) d x ≡ n) × (n ≢ 0)
unfolding seen_of
seen_named t d x c n = go (eqb (named (entries_of t) d x) 0) refl
  where
    go : (b : Bool) → eqb (named (entries_of t) d x) 0 ≡ b → cond {A = Option (Class × ℕ)} b None (Some (class_at t d (named (entries_of t) d x), named (entries_of t) d x)) ≡ Some (c, n) → (named (entries_of t) d x ≡ n) × (n ≢ 0)
    go true e h = absurd (let z : ◌≡◌ {A = ℕ} 0 1 = cc in omega arith)
    go false e h =
        let w : ◌≡◌ {A = Class × ℕ} (class_at t d (named (entries_of t) d x), named (entries_of t) d x) (c, n) = cc in
        let z : named (entries_of t) d x ≡ n = ap (λ (p : Class × ℕ). p.1) w in
        (z, λ q. eqb-false (named (entries_of t) d x) 0 e (z ∙ q))

module _ (u l : List ℕ) where
  -- the scan walks directories of the stack
  scanned_in : (s : List Pair) {a : Pair} → In a (scanned u l s) → In a s × (is_walked (table_of u l a.layer) a.number ≡ true)
  unfolding scanned
  scanned_in [] i = absurd (in_nil i)
  scanned_in (q ∷ s) {a} i = go (is_walked (table_of u l q.layer) q.number) refl (ends_scan (table_of u l q.layer) q.number) i (λ j. scanned_in s j)
    where
      go : (b : Bool) → is_walked (table_of u l q.layer) q.number ≡ b → (e : Bool) → In a (cond b (q ∷ cond e [] (scanned u l s)) []) → (In a (scanned u l s) → In a s × (is_walked (table_of u l a.layer) a.number ≡ true)) → In a (q ∷ s) × (is_walked (table_of u l a.layer) a.number ≡ true)
      go true w e (here p) f = (here p, ap (λ (z : Pair). is_walked (table_of u l z.layer) z.number) p ∙ w)
      go true w true (there j) f = absurd (in_nil j)
      go true w false (there j) f = (there (f j).0, (f j).1)
      go false w e j f = absurd (in_nil j)

  -- a directory of the stack `s` whose layer has `r` under the name `x` there
  pub record Above (x : Name) (s : List Pair) (r : Pair) : Type 0 where
    pub at : Pair
    pub within : In at s
    pub walked : is_walked (table_of u l at.layer) at.number ≡ true
    pub layer_is : at.layer ≡ r.layer
    pub found : named (entries_of (table_of u l at.layer)) at.number x ≡ r.number
    pub some : r.number ≢ 0

  abbrev From : Name → List Pair → Pair → Type 0
  From x s r = (q : Pair) × In q s × (q.layer ≡ r.layer) × (named (entries_of (table_of u l q.layer)) q.number x ≡ r.number) × (r.number ≢ 0)

  collect_from : (x : Name) (s : List Pair) {r : Real} → In r (collect u l x s) → From x s r.place
  unfolding collect seen_then
  collect_from x [] i = absurd (in_nil i)
  collect_from x (q ∷ s) {r} i = go (seen_of (table_of u l q.layer) q.number x) refl i (λ j. collect_from x s j)
    where
      up : From x s r.place → From x (q ∷ s) r.place
      up f = (f.0, there f.1, f.2, f.3, f.4)

      go : (k : Option (Class × ℕ)) → seen_of (table_of u l q.layer) q.number x ≡ k → In r (seen_then q.layer k (collect u l x s)) → (In r (collect u l x s) → From x s r.place) → From x (q ∷ s) r.place
      go None e j f = up (f j)
      go (Some (c, n)) e (here p) f =
          let t : (named (entries_of (table_of u l q.layer)) q.number x ≡ n) × (n ≢ 0) = seen_named (table_of u l q.layer) q.number x c n e in
          (q, here refl, ap (λ (z : Real). z.place.layer) (sym p), t.0 ∙ ap (λ (z : Real). z.place.number) (sym p), λ z. t.1 (ap (λ (z : Real). z.place.number) (sym p) ∙ z))
      go (Some (c, n)) e (there j) f = up (f j)

  pub stack_above : (x : Name) (s : List Pair) {r : Pair} → In r (stack_of u l s x) → Above x s r
  unfolding stack_of
  stack_above x s {r} i =
      let m : (q : Real) × In q (merge (λ p. p.class) (reals_of u l s x)) × (r ≡ q.place) = in_map (λ (p : Real). p.place) (merge (λ p. p.class) (reals_of u l s x)) i in
      let f : From x (scanned u l s) m.0.place = collect_from x (scanned u l s) (merge_sub (λ (p : Real). p.class) (reals_of u l s x) m.1) in
      let w : In f.0 s × (is_walked (table_of u l f.0.layer) f.0.number ≡ true) = scanned_in s f.1 in
      subst (Above x s) (sym m.2) (record { at = f.0; within = w.0; walked = w.1; layer_is = f.2; found = f.3; some = f.4 })

  -- the root's stack holds every layer's record 1
  roots_one : (k n : ℕ) {r : Pair} → In r (roots_from u l k n) → r.number ≡ 1
  unfolding roots_from
  roots_one k zero i = absurd (in_nil i)
  roots_one k (suc n) {r} i = go (eqb (length (table_of u l k)) 8192) i (λ j. roots_one (suc k) n j)
    where
      go : (b : Bool) → In r (cond b (pair k 1 ∷ roots_from u l (suc k) n) (roots_from u l (suc k) n)) → (In r (roots_from u l (suc k) n) → r.number ≡ 1) → r.number ≡ 1
      go true (here e) f = ap (λ (z : Pair). z.number) e
      go true (there j) f = f j
      go false j f = f j

  pub root_one : {r : Pair} → In r (root_stack u l) → r.number ≡ 1
  unfolding root_stack
  root_one i = roots_one 0 4 i

-- ---- what the upper table's rules give

-- an entry found has the directory and the name that it was searched by
pub found_parts : (es : List Entry) (d : ℕ) (x : Name) (c : ℕ) → named es d x ≡ c → c ≢ 0 → (j : ℕ) × Used es j × ((entry_at es j).child ≡ c) × ((entry_at es j).parent ≡ d) × (name_of (entry_at es j) ≡ x)
unfolding child_at
found_parts es d x c h z = go (search_of es d x) refl h
  where
    go : (f : Option ℕ) → search_of es d x ≡ f → child_at es f ≡ c → (j : ℕ) × Used es j × ((entry_at es j).child ≡ c) × ((entry_at es j).parent ≡ d) × (name_of (entry_at es j) ≡ x)
    go (Some j) e q =
        let p : names d x (entry_at es j) ≡ true = first_passes (names d x) free_entry 0 es j (e ∙ ap Some (sym (zero-add j))) in
        let t : ((entry_at es j).parent ≡ d) × (name_of (entry_at es j) ≡ x) = names_parts d x (entry_at es j) p in
        (j, names_used d x (entry_at es j) p, q, t.0, t.1)
    go None e q = absurd (z (sym q))

-- "children exist": no entry of a valid table names record 0
pub valid_children : (u l : List ℕ) → ((k : ℕ) → length (table_of u l k) ≡ 8192 → Valid (table_of u l k)) → (k : ℕ) → ChildrenExist (entries_of (table_of u l k))
valid_children u l v = children_exist u l (λ k e j p z. ((v k e).ends j).child_exists p (ap (λ (i : ℕ). (record_at (records_of (table_of u l k)) i).number) z))

module _ (u : List ℕ) (v : Valid u) where
  walked_directory : (d : ℕ) → is_walked u d ≡ true → (record_at (records_of u) d).kind ≡ 4
  unfolding is_walked
  walked_directory d h = eqb-true (record_at (records_of u) d).kind 4 (sym (rw (eq-eqb (length u) 8192 v.size) refl) ∙ h)

  -- a directory has one entry
  entry_once : (d e : ℕ) (x y : Name) (c : ℕ) → c ≢ 0 → is_walked u c ≡ true → named (entries_of u) d x ≡ c → named (entries_of u) e y ≡ c → (d ≡ e) × (x ≡ y)
  entry_once d e x y c z w p q =
      let a : (j : ℕ) × Used (entries_of u) j × ((entry_at (entries_of u) j).child ≡ c) × ((entry_at (entries_of u) j).parent ≡ d) × (name_of (entry_at (entries_of u) j) ≡ x) = found_parts (entries_of u) d x c p z in
      let b : (j : ℕ) × Used (entries_of u) j × ((entry_at (entries_of u) j).child ≡ c) × ((entry_at (entries_of u) j).parent ≡ e) × (name_of (entry_at (entries_of u) j) ≡ y) = found_parts (entries_of u) e y c q z in
      let s : a.0 ≡ b.0 = directory_once u v c a.0 b.0 (walked_directory c w) (a.1, a.2) (b.1, b.2) in
      (sym a.3 ∙ (ap (λ (j : ℕ). (entry_at (entries_of u) j).parent) s ∙ b.3), sym a.4 ∙ (ap (λ (j : ℕ). name_of (entry_at (entries_of u) j)) s ∙ b.4))

  -- no entry names the root
  not_root : (d : ℕ) (x : Name) → named (entries_of u) d x ≢ 1
  not_root d x h =
      let a : (j : ℕ) × Used (entries_of u) j × ((entry_at (entries_of u) j).child ≡ 1) × ((entry_at (entries_of u) j).parent ≡ d) × (name_of (entry_at (entries_of u) j) ≡ x) = found_parts (entries_of u) d x 1 h (λ z. omega arith) in
      (v.ends a.0).child_not_root a.1 a.2

pair_is : (a : Pair) (k d : ℕ) → a.layer ≡ k → a.number ≡ d → a ≡ pair k d
pair_is a k d p q = λ j. record { layer = p j; number = q j }

-- ---- no two nodes share an upper directory

module _ (u l : List ℕ) (v : Valid u) (f : ℕ → Node) (c : Coherent u l f) (unique : (i k : ℕ) → Resident f i → Resident f k → key_of (f i) ≡ key_of (f k) → i ≡ k) where
  upper : (k : ℕ) → k ≡ 0 → table_of u l k ≡ u
  upper k e = sym (table_upper u l k e v.size)

  record Over (n d : ℕ) : Type 0 where
    e : ℕ
    in_e : In (pair 0 e) (stack_list (f (f n).parent))
    dir_e : is_walked u e ≡ true
    finds : named (entries_of u) e (node_name (f n)) ≡ d
    some : d ≢ 0

  -- an upper record of a node's stack stands in an upper directory of its parent's
  over : (n d : ℕ) → NonRoot f n → In (pair 0 d) (stack_list (f n)) → Over n d
  over n d r i =
      let t : Above u l (node_name (f n)) (stack_list (f (f n).parent)) (pair 0 d) = stack_above u l (node_name (f n)) (stack_list (f (f n).parent)) (subst (In (pair 0 d)) (c.stack_is n r) i) in
      record {
        e = t.at.number;
        in_e = subst (λ (a : Pair). In a (stack_list (f (f n).parent))) (pair_is t.at 0 t.at.number t.layer_is refl) t.within;
        dir_e = subst (λ (w : List ℕ). is_walked w t.at.number ≡ true) (upper t.at.layer t.layer_is) t.walked;
        finds = subst (λ (w : List ℕ). named (entries_of w) t.at.number (node_name (f n)) ≡ d) (upper t.at.layer t.layer_is) t.found;
        some = t.some;
      }

  not_one : (n : ℕ) → NonRoot f n → In (pair 0 1) (stack_list (f n)) → ⊥
  not_one n r i = not_root u v (over n 1 r i).e (node_name (f n)) (over n 1 r i).finds

  abbrev Share : ℕ → Type 0
  Share b = (n k d : ℕ) → n < b → Resident f n → Resident f k → is_walked u d ≡ true → In (pair 0 d) (stack_list (f n)) → In (pair 0 d) (stack_list (f k)) → n ≡ k

  share_below : (b : ℕ) → Share b
  share_below zero n k d lt rn rk w i j = absurd (omega arith)
  share_below (suc b) n k d lt rn rk w i j = go (ℕ_discrete n 1) (ℕ_discrete k 1) (share_below b)
    where
      is_one : (m : ℕ) → m ≡ 1 → In (pair 0 d) (stack_list (f m)) → d ≡ 1
      is_one m e q = root_one u l (subst (In (pair 0 d)) c.root_stack (subst (λ (z : ℕ). In (pair 0 d) (stack_list (f z))) e q))

      as_one : (m : ℕ) → In (pair 0 d) (stack_list (f m)) → d ≡ 1 → In (pair 0 1) (stack_list (f m))
      as_one m q e = subst (λ (z : ℕ). In (pair 0 z) (stack_list (f m))) e q

      go : Dec (n ≡ 1) → Dec (k ≡ 1) → Share b → n ≡ k
      go (yes p) (yes q) ih = p ∙ sym q
      go (yes p) (no q) ih = absurd (not_one k (rk, q) (as_one k j (is_one n p i)))
      go (no p) (yes q) ih = absurd (not_one n (rn, p) (as_one n i (is_one k q j)))
      go (no p) (no q) ih =
          let a : Over n d = over n d (rn, p) i in
          let t : Over k d = over k d (rk, q) j in
          let o : (a.e ≡ t.e) × (node_name (f n) ≡ node_name (f k)) = entry_once u v a.e t.e (node_name (f n)) (node_name (f k)) d a.some w a.finds t.finds in
          let less : (f n).parent < n = c.parent_less n (rn, p) in
          let m : (f n).parent ≡ (f k).parent = ih (f n).parent (f k).parent a.e (omega arith) (c.parent_there n (rn, p)) (c.parent_there k (rk, q)) a.dir_e a.in_e (subst (λ (z : ℕ). In (pair 0 z) (stack_list (f (f k).parent))) (sym o.0) t.in_e) in
          unique n k rn rk (ap₂ ◌∷◌ m o.1)

  pub share : (n k d : ℕ) → Resident f n → Resident f k → is_walked u d ≡ true → In (pair 0 d) (stack_list (f n)) → In (pair 0 d) (stack_list (f k)) → n ≡ k
  share n k d = share_below (suc n) n k d (omega arith)

  -- ---- the upper layer changes at the name `x` of its directory `d`, which the node `p` holds

  module _ (w : List ℕ) (lw : length w ≡ 8192) (d : ℕ) (x : Name) (change : ChangedAt u w d x) (root_stays : record_at (records_of u) 1 ≡ record_at (records_of w) 1) (p : ℕ) (rp : Resident f p) (walked : is_walked u d ≡ true) (ind : In (pair 0 d) (stack_list (f p))) where
    -- a node other than that name's keeps its records
    records_stay : (q : ℕ) → Resident f q → key_of (f q) ≢ p ∷ x → (n : ℕ) → In (pair 0 n) (stack_list (f q)) → record_at (records_of u) n ≡ record_at (records_of w) n
    records_stay q rq away n i = go (ℕ_discrete q 1)
      where
        go : Dec (q ≡ 1) → record_at (records_of u) n ≡ record_at (records_of w) n
        go (yes e) =
            let o : n ≡ 1 = root_one u l (subst (In (pair 0 n)) c.root_stack (subst (λ (z : ℕ). In (pair 0 n) (stack_list (f z))) e i)) in
            rw o root_stays
        go (no e) =
            let t : Over q n = over q n (rq, e) i in
            let s : record_at (records_of w) (named (entries_of u) t.e (node_name (f q))) ≡ record_at (records_of u) (named (entries_of u) t.e (node_name (f q))) =
            change.stay t.e (node_name (f q)) (λ a b. away (ap₂ ◌∷◌ (share (f q).parent p d (c.parent_there q (rq, e)) rp walked (subst (λ (z : ℕ). In (pair 0 z) (stack_list (f (f q).parent))) a t.in_e) ind) b)) in
            sym (subst (λ (z : ℕ). record_at (records_of w) z ≡ record_at (records_of u) z) t.finds s)

    untouched : (q : ℕ) → Resident f q → key_of (f q) ≢ p ∷ x → (y : Name) → (q ≡ p → y ≡ x → ⊥) → Each (Untouched u w l d x change v.size lw y) (stack_list (f q))
    untouched q rq away y n = each_in (Untouched u w l d x change v.size lw y) (stack_list (f q)) (λ a i z.
        let j : In (pair 0 a.number) (stack_list (f q)) = subst (λ (b : Pair). In b (stack_list (f q))) (pair_is a 0 a.number z refl) i in
        (records_stay q rq away a.number j, λ e h. n (share q p d rq rp walked (subst (λ (m : ℕ). In (pair 0 m) (stack_list (f q))) e j) ind) h))

    -- every other name below every other node keeps its stack and its mark
    pub stack_stays : (q : ℕ) → Resident f q → key_of (f q) ≢ p ∷ x → (y : Name) → (q ≡ p → y ≡ x → ⊥) → stack_of w l (stack_list (f q)) y ≡ stack_of u l (stack_list (f q)) y
    stack_stays q rq away y n = sym (stack_elsewhere u w l d x change v.size lw y (stack_list (f q)) (untouched q rq away y n))

    pub mark_stays : (q : ℕ) → Resident f q → key_of (f q) ≢ p ∷ x → (y : Name) → (q ≡ p → y ≡ x → ⊥) → whiteout_of w l (stack_list (f q)) y ≡ whiteout_of u l (stack_list (f q)) y
    mark_stays q rq away y n = sym (whiteout_elsewhere u w l d x change v.size lw y (stack_list (f q)) (untouched q rq away y n))

-- layers of the same lengths have the same roots
module _ (u w l : List ℕ) (e : length u ≡ length w) where
  table_lengths : (k : ℕ) → length (table_of w l k) ≡ length (table_of u l k)
  table_lengths k = go (ℕ_discrete k 0)
    where
      go : Dec (k ≡ 0) → length (table_of w l k) ≡ length (table_of u l k)
      go (yes z) = by (ℕ_discrete (length u) 8192)
        where
          by : Dec (length u ≡ 8192) → length (table_of w l k) ≡ length (table_of u l k)
          by (yes q) = sym (ap length (table_upper w l k z (sym e ∙ q))) ∙ (sym e ∙ ap length (table_upper u l k z q))
          by (no q) = sym (ap length (table_no_upper w l k z (λ h. q (e ∙ h)))) ∙ ap length (table_no_upper u l k z q)
      go (no z) = ap length (lower_table w u l k z)

  roots_alike : (k n : ℕ) → roots_from w l k n ≡ roots_from u l k n
  unfolding roots_from
  roots_alike k zero = refl
  roots_alike k (suc n) = rw (table_lengths k, roots_alike (suc k) n) refl

  pub roots_stay : root_stack w l ≡ root_stack u l
  unfolding root_stack
  roots_stay = roots_alike 0 4
