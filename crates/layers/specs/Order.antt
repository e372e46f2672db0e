-- Names in byte order, each once; and places in the order of what they stand for. Assumes nothing.
use Rattle.std.specs.Prelude.{◌≡◌, ℕ, suc, ◌-◌, ◌<◌, List, [], ◌∷◌, ◌++◌, cond, eqb, leb, ltb, length, take, drop, Option, Some, None}
use Rattle.std.specs.declared.cmp.Ordering.{Ordering}
use Rattle.std.specs.declared.cmp.Ordering.TheVariants.{Less, Equal, Greater}
use Rattle.layers.specs.Bytes.{part}
use Rattle.layers.specs.Names.{Name, order_of}

unfoldable pub insert_step : {A : Type 0} → Ordering → A → A → List A → List A → List A
insert_step Less x y ys zs = x ∷ y ∷ ys
insert_step Equal x y ys zs = y ∷ ys
insert_step Greater x y ys zs = y ∷ zs

-- `x` put into a list in byte order of names, where its name does not stand there yet
unfoldable pub insert_by : {A : Type 0} → (A → Name) → A → List A → List A
insert_by f x [] = x ∷ []
insert_by f x (y ∷ ys) = insert_step (order_of (f x) (f y)) x y ys (insert_by f x ys)

unfoldable pub spot_step : Ordering → ℕ → Option ℕ → Option ℕ
spot_step Less k s = Some k
spot_step Equal k s = None
spot_step Greater k s = s

-- where `x` belongs among `ys`, which stand from `k` on
unfoldable pub spot_from : {A : Type 0} → (A → Name) → ℕ → Name → List A → Option ℕ
spot_from f k x [] = Some k
spot_from f k x (y ∷ ys) = spot_step (order_of x (f y)) k (spot_from f (suc k) x ys)

-- an answer to a place, which is a number of two bytes, is how `x` stands to the name of that place
abbrev pub Tells : (ℕ → Ordering → Type 0) → (ℕ → Name) → Name → Type 0
Tells answers f x = (q : ℕ) (o : Ordering) → q < 65536 → answers q o → o ≡ order_of x (f q)

-- `q` at place `i` of the first `n`, those from `i` on moved down by one
abbrev pub inserted : List ℕ → ℕ → ℕ → ℕ → List ℕ
inserted p n i q = take i p ++ q ∷ (part p i (n - i) ++ drop (suc n) p)

-- the same for any numbers: where there are not 512 places with room for one more, or `i` is past the first `n`, nothing changes
unfoldable pub put_in : List ℕ → ℕ → ℕ → ℕ → List ℕ
put_in p n i q = cond (eqb (length p) 512) (cond (leb 512 n) p (cond (ltb n i) p (inserted p n i q))) p
