-- Lists in byte order of names, each name once. Assumes nothing.
use Rattle.std.specs.Prelude.{◌≡◌, List, [], ◌∷◌}
use Rattle.std.specs.declared.cmp.Ordering.TheVariants.{Less}
use Rattle.layers.specs.Names.{Name, order_of}

-- the name comes before every item's
abbrev pub Below : {A : Type 0} → (A → Name) → Name → List A → Type 0
Below f x [] = Unit {0}
Below f x (y ∷ ys) = (order_of x (f y) ≡ Less) × Below f x ys

-- each item's name comes before those of all that follow: so a name stands once
abbrev pub Sorted : {A : Type 0} → (A → Name) → List A → Type 0
Sorted f [] = Unit {0}
Sorted f (x ∷ xs) = Below f (f x) xs × Sorted f xs
