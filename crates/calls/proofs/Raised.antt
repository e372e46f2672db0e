-- What a `?` tells of what it was asked of, and what it hands on. Assumes nothing.
use denote.Ref.{MutBor}
use Rattle.std.specs.Prelude.{Option, Some, None, Result, Ok, Err, ok_or, IsErrAnd, MatchOption, ◌≢◌}
use Rattle.std.specs.Array.{IsWholeChunk}
use mathlib.Core.List.{List}
use lib.ListN.{length}
use mathlib.Core.Path.{◌≡◌, refl, sym, ap, ◌∙◌}
use Prim.Native.Nat.{ℕ}
use Rattle.calls.specs.declared.refusal.Refusal.{Refusal}

-- a refusal handed on is the callee's
pub handed_on : (r a : Result ℕ Refusal) (e : Refusal) → IsErrAnd r (λ x. x ≡ e) → a ≡ Err e → r ≡ a
handed_on (Ok v) a e h g = absurd h
handed_on (Err x) a e h g = ap Err h ∙ sym g

-- something found, or a refusal in its place
module _ (f : Option ℕ) (e : Refusal) (r : Result ℕ Refusal) (r_is : r ≡ ok_or f e) where
  pub found : (k : ℕ) → r ≡ Ok k → f ≡ Some k
  found k h = go f (sym r_is ∙ h)
    where
      go : (f : Option ℕ) → ok_or f e ≡ Ok k → f ≡ Some k
      go (Some j) q = let z : j ≡ k = cc in ap Some z
      go None q = absurd (let z : Err e ≡ Ok k = q in cc)

  pub missing : (g : Refusal) → r ≡ Err g → f ≡ None
  missing g h = go f (sym r_is ∙ h)
    where
      go : (f : Option ℕ) → ok_or f e ≡ Err g → f ≡ None
      go (Some j) q = absurd (let z : Ok j ≡ Err g = q in cc)
      go None q = refl

  pub raised : (g : Refusal) → r ≡ Err g → (w : Result ℕ Refusal) → IsErrAnd w (λ x. x ≡ g) → w ≡ Err e
  raised g h w i = handed_on w r g i h ∙ (r_is ∙ ap (λ (o : Option ℕ). ok_or o e) (missing g h))

-- the bytes of a table, lent as one
pub lent : (b : List ℕ) (r : Option (MutBor (List ℕ))) (y : MutBor (List ℕ)) → MatchOption r (length b ≢ 8192) (λ y. IsWholeChunk b y.now 8192) → r ≡ Some y → y.now ≡ b
lent b (Some x) y m e = let z : x ≡ y = cc in ap (λ (w : MutBor (List ℕ)). w.now) (sym z) ∙ m.same
lent b None y m e = absurd (let z : ◌≡◌ {A = Option (MutBor (List ℕ))} None (Some y) = e in cc)
