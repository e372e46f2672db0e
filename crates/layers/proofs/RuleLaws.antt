-- Each test of one item is true exactly where its rules hold. Assumes nothing.
use mathlib.Core.Path.{◌≡◌, refl, sym, ap, ◌∙◌, subst}
use Prim.Native.Nat.{ℕ, zero, suc, ◌+◌, ◌-◌, ◌≤◌, ◌<◌}
use native.Mathlib.Omega.{arith}
use mathlib.Core.Bool.{Bool, true, false, not, cond}
use mathlib.Core.List.{List, [], ◌∷◌}
use lib.Dec.{eqb, ltb}
use Rattle.std.specs.Prelude.{Option, Some, None, is_some}
use lib.ListN.{length, take, drop, get_or, replicate}
use lib.Seq.{get_or-drop}
use borrow.Author.Tests.{eqb-true, eqb-false, ltb-true, lt-ltb}
use Rattle.layers.specs.Names.{Name, same_name, holds, malformed_name}
use Rattle.layers.specs.Kinds.{kind_number, kind_of}
use Rattle.layers.specs.Items.{record_at, entry_at, free_record, free_entry}
use Rattle.layers.specs.Search.{names_record, naming}
use Rattle.layers.specs.Rules.{Exactly, free_record_test, kind_test, device_test, opaque_test, GoodRecord, settings_test, record_test, free_entry_test, all_zero, WellFormed, GoodEntry, name_test, entry_test, RootIsDirectory, root_test, GoodEnds, ends_test, NamesAt, NamedOnce, DirectoryIsNamedOnce, once_named_test, OtherIsNamed, named_test, GoodNaming, count_test, naming_test}
use Rattle.layers.proofs.NameLaws.{same_true, same_refl}
use Rattle.layers.proofs.EveryLaws.{no_true, eqb_exactly, leb_exactly, both, again, sure, never, refuted, split}
use Rattle.layers.proofs.CountLaws.{count_one, one_count, some_count, count_some}
use Rattle.layers.specs.declared.items.Record.{Record}
use Rattle.layers.specs.declared.items.Entry.{Entry}
use Rattle.layers.specs.declared.kinds.Kind.{Kind}
use Rattle.layers.specs.declared.kinds.Kind.TheVariants.{Fifo, Character, Directory, Block, Regular, Symlink, Socket}

-- ---- one record

abbrev Zeros : Record → Type 0
Zeros r = (r.kind ≡ 0) × ((r.opaque ≡ 0) × ((r.mark ≡ 0) × ((r.permissions ≡ 0) × ((r.links ≡ 0) × ((r.device ≡ 0) × ((r.size ≡ 0) × (r.content ≡ 0)))))))

zero_record : (n k o m p l d s c : ℕ) → n ≡ 0 → k ≡ 0 → o ≡ 0 → m ≡ 0 → p ≡ 0 → l ≡ 0 → d ≡ 0 → s ≡ 0 → c ≡ 0
    → record { number = n; kind = k; opaque = o; mark = m; permissions = p; links = l; device = d; size = s; content = c } ≡ free_record
zero_record n k o m p l d s c e₁ e₂ e₃ e₄ e₅ e₆ e₇ e₈ e₉ = rw (e₁, e₂, e₃, e₄, e₅, e₆, e₇, e₈, e₉) refl

pub free_record_exactly : (r : Record) → r.number ≡ 0 → Exactly (free_record_test r) (r ≡ free_record)
unfolding free_record_test
free_record_exactly r n = again zeros (λ z. blank z) (λ e. rw e (refl, (refl, (refl, (refl, (refl, (refl, (refl, refl))))))))
  where
    zeros : Exactly (cond (eqb r.kind 0) (cond (eqb r.opaque 0) (cond (eqb r.mark 0) (cond (eqb r.permissions 0) (cond (eqb r.links 0) (cond (eqb r.device 0) (cond (eqb r.size 0) (eqb r.content 0) false) false) false) false) false) false) false) (Zeros r)
    zeros =
        both (eqb_exactly r.kind 0) (λ _. both (eqb_exactly r.opaque 0) (λ _. both (eqb_exactly r.mark 0) (λ _. both (eqb_exactly r.permissions 0) (λ _. both (eqb_exactly r.links 0) (λ _. both (eqb_exactly r.device 0) (λ _. both (eqb_exactly r.size 0) (λ _. eqb_exactly r.content 0)))))))

    blank : Zeros r → r ≡ free_record
    blank z =
        zero_record r.number r.kind r.opaque r.mark r.permissions r.links r.device r.size r.content n z.0 z.1.0 z.1.1.0 z.1.1.1.0 z.1.1.1.1.0 z.1.1.1.1.1.0 z.1.1.1.1.1.1.0 z.1.1.1.1.1.1.1

kind_step : (n m : ℕ) (k : Kind) (x : Option Kind) → kind_number k ≡ m → ((j : Kind) → x ≡ Some j → n ≡ kind_number j) → (j : Kind) → cond (eqb n m) (Some k) x ≡ Some j → n ≡ kind_number j
kind_step n m k x e f = go (eqb n m) refl
  where
    go : (b : Bool) → eqb n m ≡ b → (j : Kind) → cond b (Some k) x ≡ Some j → n ≡ kind_number j
    go true q j h = let i : k ≡ j = cc in eqb-true n m q ∙ sym e ∙ ap kind_number i
    go false q j h = f j h

kind_number_lem : (n : ℕ) (j : Kind) → kind_of n ≡ Some j → n ≡ kind_number j
unfolding kind_of
kind_number_lem n =
    kind_step n 1 Fifo _ refl
    (kind_step n 2 Character _ refl
    (kind_step n 4 Directory _ refl
    (kind_step n 6 Block _ refl
    (kind_step n 8 Regular _ refl
    (kind_step n 10 Symlink _ refl (kind_step n 12 Socket None refl (λ j h. absurd (let z : ◌≡◌ {A = Option Kind} None (Some j) = h in cc))))))))

kind_is_kind : (k : Kind) → is_some (kind_of (kind_number k)) ≡ true
unfolding kind_of
kind_is_kind Fifo = refl
kind_is_kind Character = refl
kind_is_kind Directory = refl
kind_is_kind Block = refl
kind_is_kind Regular = refl
kind_is_kind Symlink = refl
kind_is_kind Socket = refl

pub kind_exactly : (n : ℕ) → Exactly (kind_test n) ((k : Kind) × (n ≡ kind_number k))
kind_exactly n =
    record {
      sound = found (kind_of n) refl;
      whole = λ k. rw k.1 (kind_is_kind k.0);
    }
  where
    found : (x : Option Kind) → kind_of n ≡ x → is_some x ≡ true → (k : Kind) × (n ≡ kind_number k)
    found (Some k) e h = (k, kind_number_lem n k e)
    found None e h = no_true h

pub opaque_exactly : (o k : ℕ) → Exactly (opaque_test o k) ((o ≡ 0 → ⊥) → k ≡ 4)
unfolding opaque_test
opaque_exactly o k = split o 0 (λ z. sure (λ n. absurd (n z))) (λ n. again (eqb_exactly k 4) (λ e _. e) (λ f. f n))

pub device_exactly : (k d : ℕ) → Exactly (device_test k d) ((k ≡ 2 → ⊥) → (k ≡ 6 → ⊥) → d ≡ 0)
unfolding device_test
device_exactly k d =
    split k 2 (λ z. sure (λ n _. absurd (n z)))
    (λ n. split k 6 (λ z. sure (λ _ m. absurd (m z))) (λ m. again (eqb_exactly d 0) (λ e _ _. e) (λ f. f n m)))

abbrev Settings : Record → Type 0
Settings r = (r.mark ≡ 0) × ((r.links ≡ 0) × ((r.opaque ≤ 1) × (((r.opaque ≡ 0 → ⊥) → r.kind ≡ 4) × ((r.kind ≡ 2 → ⊥) → (r.kind ≡ 6 → ⊥) → r.device ≡ 0))))

settings_exactly : (r : Record) → Exactly (settings_test r) (Settings r)
unfolding settings_test
settings_exactly r =
    both (eqb_exactly r.mark 0) (λ _. both (eqb_exactly r.links 0) (λ _. both (leb_exactly r.opaque 1) (λ _. both (opaque_exactly r.opaque r.kind) (λ _. device_exactly r.kind r.device))))

pub free_is_good : (i : ℕ) → GoodRecord i free_record
free_is_good i =
    record {
      free = λ _. refl;
      number_is = λ n. absurd (n refl);
      kind_is = λ n. absurd (n refl);
      permissions_fit = omega arith;
      mark_zero = refl;
      links_zero = refl;
      opaque_is = omega arith;
      opaque_directory = λ n. absurd (n refl);
      device_is = λ _ _. refl;
    }

pub record_exactly : (i : ℕ) (r : Record) → Exactly (record_test i r) (GoodRecord i r)
unfolding record_test
record_exactly i r =
    split r.number 0
    (λ z. again (free_record_exactly r z) (λ e. subst (GoodRecord i) (sym e) (free_is_good i)) (λ g. g.free z))
    (λ n. again (both (eqb_exactly r.number i) (λ _. both (kind_exactly r.kind) (λ _. both (leb_exactly r.permissions 4095) (λ _. settings_exactly r))))
    (λ g.
    record {
      free = λ z. absurd (n z);
      number_is = λ _. g.0;
      kind_is = λ _. g.1.0;
      permissions_fit = g.1.1.0;
      mark_zero = g.1.1.1.0;
      links_zero = g.1.1.1.1.0;
      opaque_is = g.1.1.1.1.1.0;
      opaque_directory = g.1.1.1.1.1.1.0;
      device_is = g.1.1.1.1.1.1.1;
    })
    (λ g. (g.number_is n, (g.kind_is n, (g.permissions_fit, (g.mark_zero, (g.links_zero, (g.opaque_is, (g.opaque_directory, g.device_is)))))))))

-- ---- one entry

pub same_exactly : (a b : Name) → Exactly (same_name a b) (a ≡ b)
same_exactly a b = record { sound = same_true a b; whole = λ e. rw e (same_refl b) }

zero_entry : (p c l z : ℕ) (x : Name) → p ≡ 0 → c ≡ 0 → l ≡ 0 → z ≡ 0 → x ≡ replicate 28 0 → record { parent = p; child = c; length = l; zero = z; name = x } ≡ free_entry
zero_entry p c l z x e₁ e₂ e₃ e₄ e₅ = rw (e₁, e₂, e₃, e₄, e₅) refl

pub free_entry_exactly : (e : Entry) → e.parent ≡ 0 → Exactly (free_entry_test e) (e ≡ free_entry)
unfolding free_entry_test
free_entry_exactly e p =
    again (both (eqb_exactly e.child 0) (λ _. both (eqb_exactly e.length 0) (λ _. both (eqb_exactly e.zero 0) (λ _. same_exactly e.name (replicate 28 0)))))
    (λ z. zero_entry e.parent e.child e.length e.zero e.name p z.0 z.1.0 z.1.1.0 z.1.1.1)
    (λ q. rw q (refl, (refl, (refl, refl))))

all_zero_exactly : (xs : List ℕ) → Exactly (all_zero xs) ((i : ℕ) → get_or xs i 0 ≡ 0)
unfolding all_zero
all_zero_exactly [] = sure (λ i. refl)
all_zero_exactly (x ∷ xs) = again (both (eqb_exactly x 0) (λ _. all_zero_exactly xs)) (λ z i. at_each z i) (λ h. (h 0, λ i. h (suc i)))
  where
    at_each : (x ≡ 0) × ((i : ℕ) → get_or xs i 0 ≡ 0) → (i : ℕ) → get_or (x ∷ xs) i 0 ≡ 0
    at_each z zero = z.0
    at_each z (suc i) = z.1 i

pub padded_exactly : (n : ℕ) (x : List ℕ) → Exactly (all_zero (drop n x)) ((i : ℕ) → n ≤ i → get_or x i 0 ≡ 0)
padded_exactly n x =
    again (all_zero_exactly (drop n x))
    (λ h i l. let e : n + (i - n) ≡ i = omega arith in ap (λ (k : ℕ). get_or x k 0) (sym e) ∙ (sym (get_or-drop n x (i - n) 0) ∙ h (i - n)))
    (λ h i. get_or-drop n x i 0 ∙ h (n + i) (omega arith))

-- a byte that stands nowhere in the name
holds_not : (b : ℕ) (x : Name) → Exactly (not (holds b x)) ((i : ℕ) → i < length x → get_or x i 0 ≡ b → ⊥)
unfolding holds
holds_not b [] = sure (λ i l. absurd (omega arith))
holds_not b (y ∷ ys) = go (eqb y b) refl (holds_not b ys)
  where
    later : (y ≡ b → ⊥) → ((i : ℕ) → i < length ys → get_or ys i 0 ≡ b → ⊥) → (i : ℕ) → i < length (y ∷ ys) → get_or (y ∷ ys) i 0 ≡ b → ⊥
    later n h zero l e = n e
    later n h (suc i) l e = h i (omega arith) e

    go : (t : Bool) → eqb y b ≡ t → Exactly (not (holds b ys)) ((i : ℕ) → i < length ys → get_or ys i 0 ≡ b → ⊥) → Exactly (not (cond t true (holds b ys))) ((i : ℕ) → i < length (y ∷ ys) → get_or (y ∷ ys) i 0 ≡ b → ⊥)
    go true e ih = never (λ h. h 0 (omega arith) (eqb-true y b e))
    go false e ih = again ih (later (eqb-false y b e)) (λ h i l. h (suc i) (omega arith))

empty_exactly : (x : Name) → Exactly (eqb (length x) 0) (x ≡ [])
empty_exactly x = again (eqb_exactly (length x) 0) (none x) (λ e. ap length e)
  where
    none : (x : Name) → length x ≡ 0 → x ≡ []
    none [] h = refl
    none (y ∷ ys) h = absurd (omega arith)

-- neither of two tests
neither : (a b : Bool) {P Q : Type 0} → Exactly (not a) P → Exactly (not b) Q → Exactly (not (cond a true b)) (P × Q)
neither true b x y = record { sound = no_true; whole = λ h. x.whole h.0 }
neither false b x y = record { sound = λ h. (x.sound refl, y.sound h); whole = λ h. y.whole h.1 }

pub well_formed_exactly : (x : Name) → Exactly (not (malformed_name x)) (WellFormed x)
unfolding malformed_name
well_formed_exactly x =
    again (neither (eqb (length x) 0) (cond (holds 0 x) true (cond (holds 47 x) true (cond (same_name x (46 ∷ [])) true (same_name x (46 ∷ 46 ∷ []))))) (refuted (empty_exactly x))
    (neither (holds 0 x) (cond (holds 47 x) true (cond (same_name x (46 ∷ [])) true (same_name x (46 ∷ 46 ∷ [])))) (holds_not 0 x)
    (neither (holds 47 x) (cond (same_name x (46 ∷ [])) true (same_name x (46 ∷ 46 ∷ []))) (holds_not 47 x)
    (neither (same_name x (46 ∷ [])) (same_name x (46 ∷ 46 ∷ [])) (refuted (same_exactly x (46 ∷ []))) (refuted (same_exactly x (46 ∷ 46 ∷ [])))))))
    (λ h. record { some = h.0; no_zero = h.1.0; no_slash = h.1.1.0; not_dot = h.1.1.1.0; not_dots = h.1.1.1.1 })
    (λ w. (w.some, (w.no_zero, (w.no_slash, (w.not_dot, w.not_dots)))))

name_exactly : (n : ℕ) (x : List ℕ) → Exactly (name_test n x) (((i : ℕ) → n ≤ i → get_or x i 0 ≡ 0) × WellFormed (take n x))
unfolding name_test
name_exactly n x = both (padded_exactly n x) (λ _. well_formed_exactly (take n x))

pub free_entry_good : GoodEntry free_entry
free_entry_good =
    record {
      free = λ _. refl;
      zero_is = refl;
      length_fits = λ n. absurd (n refl);
      padded = λ i _. (padded_exactly 0 (replicate 28 0)).sound (unfold all_zero in refl) i (omega arith);
      well_formed = λ n. absurd (n refl);
    }

pub entry_exactly : (e : Entry) → Exactly (entry_test e) (GoodEntry e)
unfolding entry_test
entry_exactly e =
    split e.parent 0
    (λ z. again (free_entry_exactly e z) (λ q. subst GoodEntry (sym q) free_entry_good) (λ g. g.free z))
    (λ n. again (both (eqb_exactly e.zero 0) (λ _. both (leb_exactly 1 e.length) (λ _. both (leb_exactly e.length 28) (λ _. name_exactly e.length e.name))))
    (λ g. record { free = λ z. absurd (n z); zero_is = g.0; length_fits = λ _. (g.1.0, g.1.1.0); padded = g.1.1.1.0; well_formed = λ _. g.1.1.1.1 })
    (λ g. (g.zero_is, ((g.length_fits n).0, ((g.length_fits n).1, (g.padded, g.well_formed n))))))

-- ---- the root, and an entry's parent and child

pub root_exactly : (rs : List Record) → Exactly (root_test rs) (RootIsDirectory rs)
unfolding root_test
root_exactly rs = both (eqb_exactly (record_at rs 1).number 1) (λ _. eqb_exactly (record_at rs 1).kind 4)

pub ends_exactly : (rs : List Record) (e : Entry) → Exactly (ends_test rs e) (GoodEnds rs e)
unfolding ends_test
ends_exactly rs e =
    split e.parent 0
    (λ z. sure (record { parent_directory = λ n. absurd (n z); child_exists = λ n. absurd (n z); child_not_root = λ n. absurd (n z) }))
    (λ n. again
    (both (eqb_exactly (record_at rs e.parent).kind 4) (λ _. both (refuted (eqb_exactly (record_at rs e.child).number 0)) (λ _. refuted (eqb_exactly e.child 1))))
    (λ g. record { parent_directory = λ _. g.0; child_exists = λ _. g.1.0; child_not_root = λ _. g.1.1 })
    (λ g. (g.parent_directory n, (g.child_exists n, g.child_not_root n))))

-- ---- how often a record is named

pub names_record_exactly : (r : ℕ) (e : Entry) → Exactly (names_record r e) ((e.parent ≡ 0 → ⊥) × (e.child ≡ r))
unfolding names_record
names_record_exactly r e =
    split e.parent 0 (λ z. never (λ h. h.0 z)) (λ n. again (eqb_exactly e.child r) (λ q. (n, q)) (λ h. h.1))

free_names_none : (r : ℕ) → names_record r free_entry ≡ false
unfolding names_record
free_names_none r = refl

module _ (es : List Entry) (i : ℕ) where
  pub once_exactly : Exactly (eqb (naming i es) 1) (NamedOnce es i)
  once_exactly =
      again (eqb_exactly (naming i es) 1) (λ h. once h)
      (λ o. one_count (names_record i) free_entry (free_names_none i) es o.place ((names_record_exactly i (entry_at es o.place)).whole o.names_it) (λ j t. o.only j ((names_record_exactly i (entry_at es j)).sound t)))
    where
      once : naming i es ≡ 1 → NamedOnce es i
      once h =
          let s : (j : ℕ) × (names_record i (entry_at es j) ≡ true) = count_some (names_record i) free_entry es (omega arith) in
          record {
            place = s.0;
            names_it = (names_record_exactly i (entry_at es s.0)).sound s.1;
            only = λ k n. count_one (names_record i) free_entry (free_names_none i) es k s.0 h ((names_record_exactly i (entry_at es k)).whole n) s.1;
          }

  pub some_exactly : Exactly (ltb 0 (naming i es)) ((j : ℕ) × NamesAt es j i)
  some_exactly =
      record {
        sound = λ h. some (count_some (names_record i) free_entry es (ltb-true 0 (naming i es) h));
        whole = λ t. lt-ltb 0 (naming i es) (some_count (names_record i) free_entry (free_names_none i) es t.0 ((names_record_exactly i (entry_at es t.0)).whole t.1));
      }
    where
      some : (j : ℕ) × (names_record i (entry_at es j) ≡ true) → (j : ℕ) × NamesAt es j i
      some s = (s.0, (names_record_exactly i (entry_at es s.0)).sound s.1)

  pub once_named_exactly : (r : Record) → Exactly (once_named_test (naming i es) i r) (DirectoryIsNamedOnce es i r)
  unfolding once_named_test
  once_named_exactly r =
      split r.kind 4 (λ k. split i 1 (λ z. sure (λ _ n. absurd (n z))) (λ n. again once_exactly (λ o _ _. o) (λ g. g k n)))
      (λ k. sure (λ d. absurd (k d)))

  pub named_exactly : (r : Record) → Exactly (named_test (naming i es) r) (OtherIsNamed es i r)
  unfolding named_test
  named_exactly r =
      split r.number 0 (λ z. sure (λ n. absurd (n z)))
      (λ n. split r.kind 4 (λ k. sure (λ _ d. absurd (d k))) (λ d. again some_exactly (λ s _ _. s) (λ g. g n d)))

  pub naming_exactly : (r : Record) → Exactly (naming_test es i r) (GoodNaming es i r)
  unfolding count_test
  naming_exactly r = again (both (once_named_exactly r) (λ _. named_exactly r)) (λ g. record { directory_once = g.0; other_named = g.1 }) (λ g. (g.directory_once, g.other_named))

pub free_is_named : (es : List Entry) (i : ℕ) → GoodNaming es i free_record
free_is_named es i = record { directory_once = λ d. absurd (let z : ◌≡◌ {A = ℕ} 0 4 = d in omega arith); other_named = λ n. absurd (n refl) }
