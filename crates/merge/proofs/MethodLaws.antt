-- What a node's methods keep: the key, the fit of every field, the unused stack places. Assumes nothing.
use mathlib.Core.Path.{◌≡◌, refl}
use Prim.Native.Nat.{ℕ, zero, suc, ◌+◌, ◌-◌, ◌≤◌, ◌<◌}
use native.Mathlib.Omega.{arith}
use mathlib.Core.Bool.{Bool, true, false, cond}
use mathlib.Core.List.{List, [], ◌∷◌, ◌++◌}
use lib.Dec.{ltb}
use lib.ListN.{length, take, get_or}
use lib.Seq.{take_at, drop_at}
use borrow.Author.Tests.{lt-ltb, ltb-true}
use Rattle.layers.specs.Bytes.{AllBytes}
use Rattle.layers.proofs.Determined.{bytes_drop, bytes_take}
use Rattle.merge.specs.declared.stacks.Pair.{Pair}
use Rattle.merge.specs.declared.node.Node.{Node}
use Rattle.merge.specs.Nodes.{no_pair, pair_bytes, rest_bytes}
use Rattle.merge.specs.Methods.{with_number, with_count, with_white, with_loaded, with_stack, fallen, risen, deeper, pushed, only_pair, forgotten, counted, topped, alone}
use Rattle.merge.proofs.NodeLaws.{length_pairs}
use Rattle.merge.proofs.NodeFits.{Whole, bytes_append, bytes_cons, bytes_none}

-- ---- the count

pub fallen_below : (c m : ℕ) → fallen c m ≤ c
unfolding fallen
fallen_below c m = go (ltb c m)
  where
    go : (b : Bool) → cond b 0 (c - m) ≤ c
    go true = omega arith
    go false = omega arith

-- "to 0 if the amount exceeds it", else less by the amount: as subtraction of naturals
pub fallen_is : (c m : ℕ) → fallen c m ≡ c - m
unfolding fallen
fallen_is c m = go (ltb c m) refl
  where
    go : (b : Bool) → ltb c m ≡ b → cond b 0 (c - m) ≡ c - m
    go true e = let h : c < m = ltb-true c m e in omega arith
    go false e = refl

pub risen_fits : (c : ℕ) → c < 4294967296 → risen c < 4294967296
unfolding risen
risen_fits c h = go (ltb c 4294967295) refl
  where
    go : (b : Bool) → ltb c 4294967295 ≡ b → cond b (c + 1) c < 4294967296
    go true e = let l : c < 4294967295 = ltb-true c 4294967295 e in omega arith
    go false e = h

-- "A lookup leaves a count at 4294967295 as it is."
pub risen_most : risen 4294967295 ≡ 4294967295
unfolding risen
risen_most = refl

-- ---- every field fits

bytes_first : (a b : ℕ) (r : List ℕ) → AllBytes (a ∷ r) → b < 256 → AllBytes (b ∷ r)
unfolding AllBytes
bytes_first a b r h l zero = l
bytes_first a b r h l (suc i) = h (suc i)

bytes_second : (a b c : ℕ) (r : List ℕ) → AllBytes (a ∷ b ∷ r) → c < 256 → AllBytes (a ∷ c ∷ r)
unfolding AllBytes
bytes_second a b c r h l zero = h 0
bytes_second a b c r h l (suc zero) = l
bytes_second a b c r h l (suc (suc i)) = h (suc (suc i))

module _ (n : Node) (w : Whole n) (x : ℕ) where
  pub whole_number : x < 4294967296 → Whole (with_number n x)
  unfolding with_number rest_bytes
  whole_number l = record { fits = record { numbers = record { number_fits = l; parent_fits = w.fits.numbers.parent_fits; count_fits = w.fits.numbers.count_fits }; arrays = record { stack_fits = w.fits.arrays.stack_fits; name_fits = w.fits.arrays.name_fits } }; bytes = w.bytes }

  pub whole_count : x < 4294967296 → Whole (with_count n x)
  unfolding with_count rest_bytes
  whole_count l = record { fits = record { numbers = record { number_fits = w.fits.numbers.number_fits; parent_fits = w.fits.numbers.parent_fits; count_fits = l }; arrays = record { stack_fits = w.fits.arrays.stack_fits; name_fits = w.fits.arrays.name_fits } }; bytes = w.bytes }

  pub whole_white : x < 256 → Whole (with_white n x)
  unfolding with_white rest_bytes
  whole_white l =
      record {
        fits = record { numbers = record { number_fits = w.fits.numbers.number_fits; parent_fits = w.fits.numbers.parent_fits; count_fits = w.fits.numbers.count_fits }; arrays = record { stack_fits = w.fits.arrays.stack_fits; name_fits = w.fits.arrays.name_fits } };
        bytes = bytes_first n.white x (n.loaded ∷ n.depth ∷ n.length ∷ (pair_bytes n.stack ++ n.name)) w.bytes l;
      }

  pub whole_loaded : x < 256 → Whole (with_loaded n x)
  unfolding with_loaded rest_bytes
  whole_loaded l =
      record {
        fits = record { numbers = record { number_fits = w.fits.numbers.number_fits; parent_fits = w.fits.numbers.parent_fits; count_fits = w.fits.numbers.count_fits }; arrays = record { stack_fits = w.fits.arrays.stack_fits; name_fits = w.fits.arrays.name_fits } };
        bytes = bytes_second n.white n.loaded x (n.depth ∷ n.length ∷ (pair_bytes n.stack ++ n.name)) w.bytes l;
      }

module _ (n : Node) (w : Whole n) where
  pub whole_forgotten : (m : ℕ) → Whole (forgotten n m)
  whole_forgotten m = whole_count n w (fallen n.count m) (let h : n.count < 4294967296 = w.fits.numbers.count_fits in omega (arith, fallen_below n.count m))

  pub whole_counted : Whole (counted n)
  whole_counted = whole_count n w (risen n.count) (risen_fits n.count w.fits.numbers.count_fits)

  name_bytes : AllBytes n.name
  unfolding rest_bytes
  name_bytes =
      let m : length (pair_bytes n.stack) ≡ 8 = rw (length_pairs n.stack, w.fits.arrays.stack_fits) refl in
      rw (drop_at (pair_bytes n.stack) n.name 8 m) at (bytes_drop (pair_bytes n.stack ++ n.name) 8 (bytes_drop (rest_bytes n) 4 w.bytes))

  marks_byte : (i : ℕ) → get_or (rest_bytes n) i 0 < 256
  unfolding AllBytes
  marks_byte i = w.bytes i

  pub whole_stack : (ps : List Pair) (d : ℕ) → length ps ≡ 4 → AllBytes (pair_bytes ps) → d < 256 → Whole (with_stack n ps d)
  unfolding with_stack rest_bytes
  whole_stack ps d k h l =
      record {
        fits = record { numbers = record { number_fits = w.fits.numbers.number_fits; parent_fits = w.fits.numbers.parent_fits; count_fits = w.fits.numbers.count_fits }; arrays = record { stack_fits = k; name_fits = w.fits.arrays.name_fits } };
        bytes =
            bytes_cons n.white (n.loaded ∷ d ∷ n.length ∷ (pair_bytes ps ++ n.name)) (marks_byte 0)
            (bytes_cons n.loaded (d ∷ n.length ∷ (pair_bytes ps ++ n.name)) (marks_byte 1)
            (bytes_cons d (n.length ∷ (pair_bytes ps ++ n.name)) l (bytes_cons n.length (pair_bytes ps ++ n.name) (marks_byte 3) (bytes_append (pair_bytes ps) n.name h name_bytes))));
      }

-- ---- the stack

module _ (p : Pair) (ps : List Pair) (d : ℕ) where
  -- "put in front of the node's stack"
  pub topped_stack : length ps ≡ 4 → d < 4 → take (deeper d) (pushed p ps) ≡ p ∷ take d ps
  unfolding deeper pushed
  topped_stack k l = rw (lt-ltb d 4 l) (go ps d k l)
    where
      go : (ps : List Pair) (d : ℕ) → length ps ≡ 4 → d < 4 → take (d + 1) (p ∷ get_or ps 0 no_pair ∷ get_or ps 1 no_pair ∷ get_or ps 2 no_pair ∷ []) ≡ p ∷ take d ps
      go [] d k l = absurd (omega arith)
      go (a ∷ []) d k l = absurd (omega arith)
      go (a ∷ b ∷ []) d k l = absurd (omega arith)
      go (a ∷ b ∷ c ∷ []) d k l = absurd (omega arith)
      go (a ∷ b ∷ c ∷ e ∷ r) zero k l = refl
      go (a ∷ b ∷ c ∷ e ∷ r) (suc zero) k l = refl
      go (a ∷ b ∷ c ∷ e ∷ r) (suc (suc zero)) k l = refl
      go (a ∷ b ∷ c ∷ e ∷ r) (suc (suc (suc zero))) k l = refl
      go (a ∷ b ∷ c ∷ e ∷ r) (suc (suc (suc (suc d)))) k l = absurd (omega arith)

  -- "stack places past the length" stay zero
  pub topped_unused : d < 4 → ((i : ℕ) → d ≤ i → get_or ps i no_pair ≡ no_pair) → (i : ℕ) → deeper d ≤ i → get_or (pushed p ps) i no_pair ≡ no_pair
  unfolding deeper pushed
  topped_unused l h i g = go i (rw (lt-ltb d 4 l) at g)
    where
      go : (i : ℕ) → d + 1 ≤ i → get_or (p ∷ get_or ps 0 no_pair ∷ get_or ps 1 no_pair ∷ get_or ps 2 no_pair ∷ []) i no_pair ≡ no_pair
      go zero g = absurd (omega arith)
      go (suc zero) g = h 0 (omega arith)
      go (suc (suc zero)) g = h 1 (omega arith)
      go (suc (suc (suc zero))) g = h 2 (omega arith)
      go (suc (suc (suc (suc i)))) g = refl

pub deeper_fits : (d : ℕ) → deeper d < 256
unfolding deeper
deeper_fits d = go (ltb d 4) refl
  where
    go : (b : Bool) → ltb d 4 ≡ b → cond b (d + 1) 4 < 256
    go true e = let h : d < 4 = ltb-true d 4 e in omega arith
    go false e = omega arith

-- a pair's numbers are bytes
pub record WholePair (p : Pair) : Type 0 where
  pub layer_fits : p.layer < 256
  pub number_fits : p.number < 256

no_pair_lem : WholePair no_pair
no_pair_lem = record { layer_fits = omega arith; number_fits = omega arith }

pub pair_whole : (ps : List Pair) → AllBytes (pair_bytes ps) → (i : ℕ) → WholePair (get_or ps i no_pair)
unfolding pair_bytes AllBytes
pair_whole [] h i = no_pair_lem
pair_whole (p ∷ ps) h zero = record { layer_fits = h 0; number_fits = h 1 }
pair_whole (p ∷ ps) h (suc i) = pair_whole ps (λ k. h (suc (suc k))) i

bytes_pair : (p : Pair) (ps : List Pair) → WholePair p → AllBytes (pair_bytes ps) → AllBytes (pair_bytes (p ∷ ps))
unfolding pair_bytes
bytes_pair p ps w h = bytes_cons p.layer (p.number ∷ pair_bytes ps) w.layer_fits (bytes_cons p.number (pair_bytes ps) w.number_fits h)

bytes_four : (a b c d : Pair) → WholePair a → WholePair b → WholePair c → WholePair d → AllBytes (pair_bytes (a ∷ b ∷ c ∷ d ∷ []))
bytes_four a b c d p q r s = bytes_pair a (b ∷ c ∷ d ∷ []) p (bytes_pair b (c ∷ d ∷ []) q (bytes_pair c (d ∷ []) r (bytes_pair d [] s (unfold pair_bytes in bytes_none))))

module _ (n : Node) (w : Whole n) (p : Pair) (q : WholePair p) where
  stack_bytes : AllBytes (pair_bytes n.stack)
  unfolding rest_bytes
  stack_bytes =
      let m : length (pair_bytes n.stack) ≡ 8 = rw (length_pairs n.stack, w.fits.arrays.stack_fits) refl in
      rw (take_at (pair_bytes n.stack) n.name 8 m) at (bytes_take (pair_bytes n.stack ++ n.name) 8 (bytes_drop (rest_bytes n) 4 w.bytes))

  pub whole_topped : Whole (topped n p)
  unfolding pushed
  whole_topped =
      whole_stack n w (p ∷ get_or n.stack 0 no_pair ∷ get_or n.stack 1 no_pair ∷ get_or n.stack 2 no_pair ∷ []) (deeper n.depth) refl
      (bytes_four p (get_or n.stack 0 no_pair) (get_or n.stack 1 no_pair) (get_or n.stack 2 no_pair) q (pair_whole n.stack stack_bytes 0) (pair_whole n.stack stack_bytes 1) (pair_whole n.stack stack_bytes 2))
      (deeper_fits n.depth)

  pub whole_alone : Whole (alone n p)
  whole_alone = whole_stack n w (only_pair p) 1 refl (bytes_four p no_pair no_pair no_pair q no_pair_lem no_pair_lem no_pair_lem) (omega arith)
