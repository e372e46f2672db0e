-- The first byte that a word writes, by what the word begins with.
use Rattle.std.proofs.Common.{◌≡◌, ◌≢◌, ◌==◌, false, ℕ, ◌+◌, ◌*◌, ◌<◌, ◌≤◌, List, [], ◌∷◌, length, get_or, drop, refl, arith}
use Rattle.std.proofs.lemmas.Bool.{cond-true, cond-false, eq-eqb}
use Rattle.std.proofs.lemmas.Bool.Decides.{nat_tests}
use Rattle.text.specs.Names.{hex_value, unescaped}

pub unescaped-nil : unescaped [] ≡ []
unfolding unescaped
unescaped-nil = refl

pub unescaped_escape : (w : List ℕ) → 3 ≤ length w → get_or w 0 0 ≡ 92 → unescaped w ≡ (hex_value (get_or w 1 0) * 16 + hex_value (get_or w 2 0)) ∷ unescaped (drop 3 w)
unfolding unescaped
unescaped_escape [] long first = absurd (omega arith)
unescaped_escape (b ∷ []) long first = absurd (omega arith)
unescaped_escape (b ∷ c ∷ []) long first = absurd (omega arith)
unescaped_escape (b ∷ high ∷ low ∷ rest) long first = cond-true _ _ _ (eq-eqb b 92 first)

pub unescaped_short : (w : List ℕ) → 0 < length w → length w < 3 → get_or w 0 0 ≡ 92 → unescaped w ≡ 0 ∷ []
unfolding unescaped
unescaped_short [] some short first = absurd (omega arith)
unescaped_short (b ∷ []) some short first = cond-true _ _ _ (eq-eqb b 92 first)
unescaped_short (b ∷ c ∷ []) some short first = cond-true _ _ _ (eq-eqb b 92 first)
unescaped_short (b ∷ high ∷ low ∷ rest) some short first = absurd (omega arith)

other : (b : ℕ) → b ≢ 92 → (b == 92) ≡ false
other b differs = grind (arith, nat_tests)

pub unescaped_plain : (w : List ℕ) → 0 < length w → get_or w 0 0 ≢ 92 → unescaped w ≡ get_or w 0 0 ∷ unescaped (drop 1 w)
unfolding unescaped
unescaped_plain [] some differs = absurd (omega arith)
unescaped_plain (b ∷ []) some differs = cond-false _ _ _ (other b differs)
unescaped_plain (b ∷ c ∷ []) some differs = cond-false _ _ _ (other b differs)
unescaped_plain (b ∷ high ∷ low ∷ rest) some differs = cond-false _ _ _ (other b differs)
