-- The bytes of an entry of a listing, as the code writes them, and how many they are. Assumes nothing.
use Rattle.std.specs.Prelude.{Option, Some, None, SomeIff}
use mathlib.Core.Path.{◌≡◌, refl, sym, ap, ◌∙◌}
use mathlib.Core.Bool.{Bool, true, false}
use Prim.Native.Nat.{ℕ, zero, suc, ◌+◌, ◌-◌, ◌%◌, ◌≤◌, ◌<◌}
use native.Mathlib.Omega.{arith}
use mathlib.Core.List.{List, ◌∷◌, ◌++◌, append_assoc}
use lib.Dec.{leb, ltb}
use lib.ListN.{length, take, replicate, length-append, length-replicate}
use borrow.Author.Tests.{le-leb, lt-leb, ltb-true, ltb-false}
use Rattle.layers.specs.Bytes.{least, over, le_bytes, laid}
use Rattle.layers.specs.Names.{Name}
use Rattle.std.proofs.lemmas.List.{append-nil}
use Rattle.layers.proofs.Numbers.{le_low, length_le, laid_in}
use Rattle.layers.proofs.ItemLaws.{two_laid, laid_next}
use Rattle.calls.specs.Dirents.{dirent, padding, dirent_size, dirent_bytes, put_answer, put_dirent}

-- ---- the steps by which the code writes an entry

pub numbers_laid : (t t₁ t₂ : List ℕ) (a inode index r : ℕ) → a + 16 ≤ length t → t₁ ≡ laid t a (le_bytes 8 inode) → t₂ ≡ laid t₁ (a + 8) (le_bytes 8 r)
    → r ≡ (index + 1) % 18446744073709551616 → t₂ ≡ over t a (le_bytes 8 inode ++ le_bytes 8 (index + 1))
numbers_laid t t₁ t₂ a inode index r h p q e =
    two_laid t t₁ t₂ a 8 (le_bytes 8 inode) (le_bytes 8 (index + 1)) (length_le 8 inode) (rw (length_le 8 (index + 1)) (omega arith)) p
    (q ∙ ap (laid t₁ (a + 8)) (ap (le_bytes 8) e ∙ le_low 8 (index + 1)))

pub sizes_laid : (t t₁ t₂ : List ℕ) (a n kind : ℕ) → a + 8 ≤ length t → t₁ ≡ laid t a (le_bytes 4 (n % 4294967296)) → t₂ ≡ laid t₁ (a + 4) (le_bytes 4 kind)
    → t₂ ≡ over t a (le_bytes 4 n ++ le_bytes 4 kind)
sizes_laid t t₁ t₂ a n kind h p q =
    two_laid t t₁ t₂ a 4 (le_bytes 4 n) (le_bytes 4 kind) (length_le 4 n) (rw (length_le 4 kind) (omega arith)) (p ∙ ap (laid t a) (le_low 4 n)) q

pub zeros_cut : (n p : ℕ) → p ≤ n → take {A = ℕ} p (replicate n 0) ≡ replicate p 0
zeros_cut n zero h = refl
zeros_cut zero (suc p) h = absurd (omega arith)
zeros_cut (suc n) (suc p) h = ap (λ (l : List ℕ). 0 ∷ l) (zeros_cut n p (omega arith))

pub name_laid : (t t₁ t₂ : List ℕ) (a : ℕ) (x : Name) (p : ℕ) → a + length x + p ≤ length t → p < 8 → t₁ ≡ laid t a x → t₂ ≡ laid t₁ (a + length x) (take {A = ℕ} p (replicate 8 0))
    → t₂ ≡ over t a (x ++ replicate p 0)
name_laid t t₁ t₂ a x p h l q r =
    two_laid t t₁ t₂ a (length x) x (replicate p 0) refl (rw (length-replicate {A = ℕ} p 0) (omega arith)) q (r ∙ ap (laid t₁ (a + length x)) (zeros_cut 8 p (omega arith)))

-- no zeros behind it
pub name_alone : (t t₁ : List ℕ) (a : ℕ) (x : Name) (p : ℕ) → a + length x + p ≤ length t → p ≡ 0 → t₁ ≡ laid t a x → t₁ ≡ over t a (x ++ replicate p 0)
name_alone t t₁ a x p h z q = q ∙ (laid_in t a x (omega arith) ∙ ap (over t a) (rw z (sym (append-nil x))))

module _ (t t₁ t₂ t₃ : List ℕ) (a inode index kind : ℕ) (x : Name) (p : ℕ) where
  pub dirent_laid : a + 24 + length x + padding (length x) ≤ length t → p ≡ padding (length x) → t₁ ≡ over t a (le_bytes 8 inode ++ le_bytes 8 (index + 1))
      → t₂ ≡ over t₁ (a + 16) (le_bytes 4 (length x) ++ le_bytes 4 kind) → t₃ ≡ over t₂ (a + 24) (x ++ replicate p 0) → t₃ ≡ over t a (dirent_bytes index (dirent inode kind x))
  unfolding dirent_bytes
  dirent_laid h w p q r =
      let k : length (le_bytes 8 inode ++ le_bytes 8 (index + 1)) ≡ 16 = simp (length-append, length_le) in
      let m : length (le_bytes 8 inode ++ le_bytes 8 (index + 1) ++ (le_bytes 4 (length x) ++ le_bytes 4 kind)) ≡ 24 = simp (length-append, length_le) in
      let e : t₂ ≡ over t a (le_bytes 8 inode ++ le_bytes 8 (index + 1) ++ (le_bytes 4 (length x) ++ le_bytes 4 kind)) =
      laid_next t t₁ t₂ a 16 (le_bytes 8 inode ++ le_bytes 8 (index + 1)) (le_bytes 4 (length x) ++ le_bytes 4 kind) p k (omega arith) q in
      laid_next t t₂ t₃ a 24 (le_bytes 8 inode ++ le_bytes 8 (index + 1) ++ (le_bytes 4 (length x) ++ le_bytes 4 kind)) (x ++ replicate (padding (length x)) 0) e m (omega arith)
      (r ∙ rw w refl)
      ∙ ap (over t a) (simp append_assoc)

-- ---- whether it fits

-- a difference, as the library tells it
module _ (r : Option ℕ) (a b : ℕ) (r_is : SomeIff r (b ≤ a) (a - b)) where
  pub none_left : r ≡ None → a < b
  none_left h = go (rw h at r_is) (ltb a b) refl
    where
      go : (b ≤ a → ⊥) → (c : Bool) → ltb a b ≡ c → a < b
      go n true e = ltb-true a b e
      go n false e = absurd (n (ltb-false a b e))

  pub some_left : (k : ℕ) → r ≡ Some k → (b ≤ a) × (k ≡ a - b)
  some_left k h = rw h at r_is

module _ (limit : ℕ) (t : List ℕ) (at index inode kind : ℕ) (x : Name) (e p : ℕ) (e_is : e ≡ least limit (length t)) (p_is : p ≡ padding (length x)) where
  short : e < at + (24 + length x + padding (length x)) → leb (at + (24 + length x + padding (length x))) (least limit (length t)) ≡ false
  short h = lt-leb (at + (24 + length x + padding (length x))) (least limit (length t)) (omega arith)

  pub full_by : e < at + (24 + length x + padding (length x)) → (None ≡ put_answer limit t at (dirent inode kind x)) × (t ≡ put_dirent limit t at index (dirent inode kind x))
  unfolding put_answer put_dirent dirent_size
  full_by h = (rw (short h) refl, rw (short h) refl)

  module _ (h : at ≤ e) (g : length x ≤ e - at) (l : 24 + p ≤ e - at - length x) where
    there : leb (at + (24 + length x + padding (length x))) (least limit (length t)) ≡ true
    there = le-leb (at + (24 + length x + padding (length x))) (least limit (length t)) (omega arith)

    pub dirent_next : Some (at + 24 + length x + p) ≡ put_answer limit t at (dirent inode kind x)
    unfolding put_answer dirent_size
    dirent_next = rw there (ap Some (omega arith))

    pub dirent_written : (u : List ℕ) → u ≡ over t at (dirent_bytes index (dirent inode kind x)) → u ≡ put_dirent limit t at index (dirent inode kind x)
    unfolding put_dirent dirent_size
    dirent_written u q = rw there q
