-- Items read from a table's bytes and written there; the lists of items give the bytes back. Assumes nothing.
use mathlib.Core.Path.{◌≡◌, refl, sym, ap, ◌∙◌}
use Prim.Native.Nat.{ℕ, zero, suc, ◌+◌, ◌*◌, ◌-◌, ◌≤◌, ◌<◌}
use native.Mathlib.Omega.{arith}
use native.Mathlib.Nat.{add_assoc}
use lib.Seq.{drop-drop, take_all, set_out}
use borrow.Author.Tests.{eq-eqb, ne_eqb, lt-ltb, le-ltb}
use mathlib.Core.List.{List, [], ◌∷◌, ◌++◌, map}
use lib.ListN.{length, take, drop, get_or, replicate, length-append, length-take, length-drop, length-map, get_or-eq_default}
use Rattle.layers.specs.Bytes.{part, over, le_of, le_bytes, number_at, laid}
use Rattle.layers.specs.Items.{pieces, head_bytes, tail_bytes, record_bytes, entry_bytes, record_of, entry_of, records_of, entries_of, record_at, entry_at, free_record, free_entry, with_record, record_put, entry_put, PutRecord, PutEntry, FitsHead, FitsTail}
use Rattle.layers.specs.declared.items.Record.{Record}
use Rattle.layers.specs.declared.items.Entry.{Entry}
use Rattle.layers.proofs.Numbers.{le_read, length_le, number_in, laid_in}
use Rattle.layers.proofs.Runs.{over_next, drop_over, drop_over_after, length_over, over_all}
use Rattle.layers.proofs.Pieces.{pieces_set, pieces_past, piece_at, length_pieces, map_set}

pub get_d_map : {A B : Type 0} (f : A → B) (l : List A) (i : ℕ) (d : B) (e : A) → i < length l → get_or (map f l) i d ≡ f (get_or l i e)
get_d_map f [] i d e h = absurd (omega arith)
get_d_map f (x ∷ xs) zero d e h = refl
get_d_map f (x ∷ xs) (suc i) d e h = get_d_map f xs i d e (omega arith)

-- ---- how many there are
pub length_records : (t : List ℕ) → length (records_of t) ≡ 128
unfolding records_of
length_records t = length-map (pieces 32 128 t) record_of ∙ length_pieces 32 128 t

pub length_entries : (t : List ℕ) → length (entries_of t) ≡ 128
unfolding entries_of
length_entries t = length-map (pieces 32 128 (drop 4096 t)) entry_of ∙ length_pieces 32 128 (drop 4096 t)

-- ---- one item read

pub record_past : (t : List ℕ) (i : ℕ) (r : Record) → r ≡ free_record → 128 < i → r ≡ record_at (records_of t) i
record_past t i r e h = e ∙ sym (get_or-eq_default (free_record ∷ records_of t) free_record {n = i} (simp length_records (omega arith)))

-- where the record at place `i` lies
pub record_is : (t : List ℕ) (i : ℕ) → (i ≡ 0 → ⊥) → i ≤ 128 → record_at (records_of t) i ≡ record_of (part t (32 * (i - 1)) 32)
unfolding records_of
record_is t i z h =
    let s : i ≡ suc (i - 1) = omega arith in
    ap (λ (k : ℕ). record_at (records_of t) k) s
    ∙ (get_d_map record_of (pieces 32 128 t) (i - 1) free_record [] (rw (length_pieces 32 128 t) (omega arith)) ∙ ap record_of (piece_at 32 128 t (i - 1) (omega arith)))

pub record_here : (t : List ℕ) (i : ℕ) (r : Record) → (i ≡ 0 → ⊥) → i ≤ 128 → r ≡ record_of (part t (32 * (i - 1)) (32 * (i - 1) + 32 - 32 * (i - 1))) → r ≡ record_at (records_of t) i
record_here t i r z h e =
    let w : 32 * (i - 1) + 32 - 32 * (i - 1) ≡ 32 = omega arith in
    rw w at e ∙ sym (record_is t i z h)

pub entry_past : (t : List ℕ) (j : ℕ) (e : Entry) → e ≡ free_entry → 127 < j → e ≡ entry_at (entries_of t) j
entry_past t j e q h = q ∙ sym (get_or-eq_default (entries_of t) free_entry {n = j} (simp length_entries (omega arith)))

-- where the entry at place `j` lies
pub entry_is : (t : List ℕ) (j : ℕ) → j < 128 → entry_at (entries_of t) j ≡ entry_of (part t (4096 + 32 * j) 32)
unfolding entries_of
entry_is t j h =
    get_d_map entry_of (pieces 32 128 (drop 4096 t)) j free_entry [] (rw (length_pieces 32 128 (drop 4096 t)) h)
    ∙ ap entry_of (piece_at 32 128 (drop 4096 t) j h ∙ ap (λ (x : List ℕ). take 32 x) (drop-drop (32 * j) 4096 t))

pub entry_here : (t : List ℕ) (j : ℕ) (e : Entry) → j ≤ 127 → e ≡ entry_of (part t (4096 + 32 * j) (4096 + 32 * j + 32 - (4096 + 32 * j))) → e ≡ entry_at (entries_of t) j
entry_here t j e h q =
    let w : 4096 + 32 * j + 32 - (4096 + 32 * j) ≡ 32 = omega arith in
    rw w at q ∙ sym (entry_is t j (omega arith))

pub name_copied : (b u : List ℕ) → length b ≡ 32 → u ≡ laid (replicate 28 0) 0 (part b 4 28) → u ≡ part b 4 28
name_copied b u h e =
    let k : length (part b 4 28) ≡ 28 = simp (length-take, length-drop, h) in
    over_all (replicate 28 0) (part b 4 28) u (sym k) (e ∙ laid_in (replicate 28 0) 0 (part b 4 28) (omega arith))

-- a record's fields, read one by one
pub record_fields : (b : List ℕ) (p l d s c : ℕ) → length b ≡ 32 → p ≡ number_at 2 b 4 → l ≡ number_at 2 b 6 → d ≡ number_at 8 b 8 → s ≡ number_at 8 b 16 → c ≡ number_at 8 b 24
    → record {
      number = get_or b 0 0;
      kind = get_or b 1 0;
      opaque = get_or b 2 0;
      mark = get_or b 3 0;
      permissions = p;
      links = l;
      device = d;
      size = s;
      content = c;
    }
    ≡ record_of b
unfolding record_of
record_fields b p l d s c h e₁ e₂ e₃ e₄ e₅ =
    rw (e₁, e₂, e₃, e₄, e₅, number_in 2 b 4 (omega arith), number_in 2 b 6 (omega arith), number_in 8 b 8 (omega arith), number_in 8 b 16 (omega arith), number_in 8 b 24 (omega arith)) refl

-- ---- one item written

pub record_read : (r : Record) → FitsHead r → FitsTail r → record_of (record_bytes r) ≡ r
unfolding record_of record_bytes head_bytes tail_bytes le_bytes
record_read r f g =
    let p : le_of (le_bytes 2 r.permissions) ≡ r.permissions = le_read 2 r.permissions f.permissions_fit in
    let q : le_of (le_bytes 2 r.links) ≡ r.links = le_read 2 r.links f.links_fit in
    let d : le_of (le_bytes 8 r.device) ≡ r.device = le_read 8 r.device g.device_fit in
    let s : le_of (le_bytes 8 r.size) ≡ r.size = le_read 8 r.size g.size_fit in
    let c : le_of (le_bytes 8 r.content) ≡ r.content = le_read 8 r.content g.content_fit in
    rw (p, q, d, s, c) refl

pub entry_read : (e : Entry) → length e.name ≡ 28 → entry_of (entry_bytes e) ≡ e
unfolding entry_of entry_bytes
entry_read e h = rw (take_all 28 e.name (omega arith)) refl

pub length_record : (r : Record) → length (record_bytes r) ≡ 32
unfolding record_bytes head_bytes tail_bytes
length_record r = simp (length-append, length_le)

pub length_entry : (e : Entry) → length e.name ≡ 28 → length (entry_bytes e) ≡ 32
unfolding entry_bytes
length_entry e h = simp (h) refl

-- ---- an item's bytes in the table

module _ (t : List ℕ) (i : ℕ) (r : Record) where
  pub record_put_none : i ≡ 0 → t ≡ record_put t i r
  unfolding record_put
  record_put_none h = rw (eq-eqb i 0 h) refl

  pub record_put_past : 128 < i → t ≡ record_put t i r
  unfolding record_put
  record_put_past h = rw (ne_eqb i 0 (λ e. omega arith), lt-ltb 128 i h) refl

  pub record_put_in : (i ≡ 0 → ⊥) → i ≤ 128 → record_put t i r ≡ over t (32 * (i - 1)) (record_bytes r)
  unfolding record_put
  record_put_in lo hi = rw (ne_eqb i 0 lo, le-ltb 128 i hi) refl

module _ (t : List ℕ) (j : ℕ) (e : Entry) where
  pub entry_put_past : 127 < j → t ≡ entry_put t j e
  unfolding entry_put
  entry_put_past h = rw (lt-ltb 127 j h) refl

  pub entry_put_in : j ≤ 127 → entry_put t j e ≡ over t (4096 + 32 * j) (entry_bytes e)
  unfolding entry_put
  entry_put_in h = rw (le-ltb 127 j h) refl

-- a run laid after another
pub laid_next : (t u v : List ℕ) (a n : ℕ) (x y : List ℕ) → u ≡ over t a x → length x ≡ n → a + n ≤ length t → v ≡ over u (a + n) y → v ≡ over t a (x ++ y)
laid_next t u v a n x y p k h q =
    q ∙ (ap (λ (l : List ℕ). over l (a + n) y) p ∙ (ap (λ (j : ℕ). over (over t a x) (a + j) y) (sym k) ∙ over_next t a x y (omega arith)))

pub put_record : (t u : List ℕ) (i : ℕ) (r : Record) → FitsHead r → FitsTail r → length t ≡ 8192 → (i ≡ 0 → ⊥) → i ≤ 128 → u ≡ over t (32 * (i - 1)) (record_bytes r) → PutRecord t i r u
unfolding records_of entries_of with_record
put_record t u zero r f g n lo hi e = absurd (lo refl)
put_record t u (suc i) r f g n lo hi e =
    let k : length (record_bytes r) ≡ 32 = length_record r in
    let z : suc i - 1 ≡ i = omega arith in
    record {
      bytes = e ∙ sym (record_put_in t (suc i) r lo hi);
      records = rw (e, z, pieces_set 32 128 t i (record_bytes r) k (omega arith) (omega arith), map_set record_of (pieces 32 128 t) i (record_bytes r), record_read r f g) refl;
      entries = rw (e, z, drop_over_after t (32 * i) (record_bytes r) (omega arith) 4096 (omega arith)) refl;
    }

pub put_entry : (t u : List ℕ) (j : ℕ) (g : Entry) → length g.name ≡ 28 → length t ≡ 8192 → j < 128 → u ≡ over t (4096 + 32 * j) (entry_bytes g) → PutEntry t j g u
unfolding records_of entries_of
put_entry t u j g m n h e =
    let k : length (entry_bytes g) ≡ 32 = length_entry g m in
    record {
      bytes = e ∙ sym (entry_put_in t j g (omega arith));
      records = rw (e, pieces_past 32 128 t (4096 + 32 * j) (entry_bytes g) (omega arith) (omega arith)) refl;
      entries =
          rw (e, drop_over t 4096 (32 * j) (entry_bytes g) (omega arith), pieces_set 32 128 (drop 4096 t) j (entry_bytes g) k h (simp length-drop (omega arith)), map_set entry_of (pieces 32 128 (drop 4096 t)) j (entry_bytes g), entry_read g m) refl;
    }

-- outside the table nothing changes
pub unput_record : (t : List ℕ) (i : ℕ) (r : Record) → i ≡ 0 → PutRecord t i r t
unfolding with_record
unput_record t i r h = record { bytes = record_put_none t i r h; records = rw h refl; entries = refl }

pub past_record : (t : List ℕ) (i : ℕ) (r : Record) → 128 < i → PutRecord t i r t
unfolding with_record
past_record t zero r h = absurd (omega arith)
past_record t (suc i) r h = record { bytes = record_put_past t (suc i) r h; records = sym (set_out (records_of t) i r (rw (length_records t) (omega arith))); entries = refl }

pub past_entry : (t : List ℕ) (j : ℕ) (e : Entry) → 127 < j → PutEntry t j e t
past_entry t j e h = record { bytes = entry_put_past t j e h; records = refl; entries = sym (set_out (entries_of t) j e (rw (length_entries t) (omega arith))) }

-- a run laid after another, both inside
pub two_laid : (t t₁ t₂ : List ℕ) (a m : ℕ) (x y : List ℕ) → length x ≡ m → a + m + length y ≤ length t → t₁ ≡ laid t a x → t₂ ≡ laid t₁ (a + m) y → t₂ ≡ over t a (x ++ y)
two_laid t t₁ t₂ a m x y k h p q =
    let e : t₁ ≡ over t a x = p ∙ laid_in t a x (omega arith) in
    let n : length t₁ ≡ length t = ap length e ∙ length_over t a x (omega arith) in
    laid_next t t₁ t₂ a m x y e k (omega arith) (q ∙ laid_in t₁ (a + m) y (omega arith))

-- three runs laid side by side
pub three_laid : (t t₁ t₂ t₃ : List ℕ) (a m n : ℕ) (x y z : List ℕ) → length x ≡ m → length y ≡ n → a + m + n + length z ≤ length t
    → t₁ ≡ laid t a x → t₂ ≡ laid t₁ (a + m) y → t₃ ≡ laid t₂ (a + m + n) z → t₃ ≡ over t a (x ++ y ++ z)
three_laid t t₁ t₂ t₃ a m n x y z k l h p q r =
    let e : t₂ ≡ over t a (x ++ y) = two_laid t t₁ t₂ a m x y k (omega arith) p q in
    let w : length (x ++ y) ≡ m + n = simp (length-append, k, l) in
    let v : length t₂ ≡ length t = ap length e ∙ length_over t a (x ++ y) (omega arith) in
    laid_next t t₂ t₃ a (m + n) (x ++ y) z e w (omega arith) (rw (add_assoc a m n) at (r ∙ laid_in t₂ (a + m + n) z (omega arith)))

-- the steps by which the code writes a record
pub head_laid : (t t₁ t₂ t₃ : List ℕ) (a : ℕ) (r : Record) → a + 8 ≤ length t → t₁ ≡ laid t a (r.number ∷ r.kind ∷ r.opaque ∷ r.mark ∷ [])
    → t₂ ≡ laid t₁ (a + 4) (le_bytes 2 r.permissions) → t₃ ≡ laid t₂ (a + 6) (le_bytes 2 r.links) → t₃ ≡ over t a (head_bytes r)
unfolding head_bytes
head_laid t t₁ t₂ t₃ a r h p q s =
    three_laid t t₁ t₂ t₃ a 4 2 (r.number ∷ r.kind ∷ r.opaque ∷ r.mark ∷ []) (le_bytes 2 r.permissions) (le_bytes 2 r.links) refl (length_le 2 r.permissions) (rw (length_le 2 r.links) (omega arith)) p q (rw (add_assoc a 4 2) s)

pub tail_laid : (t t₁ t₂ t₃ : List ℕ) (a : ℕ) (r : Record) → a + 24 ≤ length t → t₁ ≡ laid t a (le_bytes 8 r.device)
    → t₂ ≡ laid t₁ (a + 8) (le_bytes 8 r.size) → t₃ ≡ laid t₂ (a + 16) (le_bytes 8 r.content) → t₃ ≡ over t a (tail_bytes r)
unfolding tail_bytes
tail_laid t t₁ t₂ t₃ a r h p q s =
    three_laid t t₁ t₂ t₃ a 8 8 (le_bytes 8 r.device) (le_bytes 8 r.size) (le_bytes 8 r.content) (length_le 8 r.device) (length_le 8 r.size) (rw (length_le 8 r.content) (omega arith)) p q (rw (add_assoc a 8 8) s)

pub record_laid : (t t₁ t₂ : List ℕ) (i : ℕ) (r : Record) → length t ≡ 8192 → (i ≡ 0 → ⊥) → i ≤ 128
    → t₁ ≡ over t (32 * (i - 1)) (head_bytes r) → t₂ ≡ over t₁ (32 * (i - 1) + 8) (tail_bytes r) → FitsHead r → FitsTail r → PutRecord t i r t₂
unfolding record_bytes head_bytes
record_laid t t₁ t₂ i r n lo hi h k f g =
    put_record t t₂ i r f g n lo hi (laid_next t t₁ t₂ (32 * (i - 1)) 8 (head_bytes r) (tail_bytes r) h (simp (length-append, length_le)) (omega arith) k)

-- the steps by which the code writes an entry
pub entry_laid : (t t₁ t₂ : List ℕ) (j : ℕ) (g : Entry) → length t ≡ 8192 → j ≤ 127
    → t₁ ≡ laid t (4096 + 32 * j) (g.parent ∷ g.child ∷ g.length ∷ g.zero ∷ [])
    → t₂ ≡ over t₁ (4096 + 32 * j + 4) g.name
    → length g.name ≡ 28
    → PutEntry t j g t₂
unfolding entry_bytes
entry_laid t t₁ t₂ j g n h p q m =
    let first : List ℕ = g.parent ∷ g.child ∷ g.length ∷ g.zero ∷ [] in
    put_entry t t₂ j g m n (omega arith)
    (laid_next t t₁ t₂ (4096 + 32 * j) 4 (g.parent ∷ g.child ∷ g.length ∷ g.zero ∷ []) g.name (p ∙ laid_in t (4096 + 32 * j) (g.parent ∷ g.child ∷ g.length ∷ g.zero ∷ []) (omega arith)) refl (omega arith) q)

pub name_laid : (t u : List ℕ) (a : ℕ) (x : List ℕ) → u ≡ laid t a x → length x ≡ 28 → a + 28 ≤ length t → u ≡ over t a x
name_laid t u a x p k h = p ∙ laid_in t a x (omega arith)
