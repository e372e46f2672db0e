-- The places that a scan collects stand for the merged names, in order. Assumes nothing.
use mathlib.Core.Path.{◌≡◌, refl, sym, ap, ap₂, ◌∙◌, subst}
use Rattle.std.specs.declared.cmp.Ordering.{Ordering}
use Rattle.std.specs.declared.cmp.Ordering.TheVariants.{Less, Equal, Greater}
use mathlib.Core.Logic.{◌≢◌}
use Prim.Native.Nat.{ℕ, zero, suc, ◌+◌, ◌*◌, ◌/◌, ◌%◌, ◌≤◌, ◌<◌}
use native.Mathlib.Omega.{arith}
use native.Mathlib.Nat.{add-zero, add-suc, suc-add}
use mathlib.Core.Bool.{Bool, true, false, cond}
use mathlib.Core.List.{List, [], ◌∷◌, ◌++◌, map}
use lib.ListN.{length, take, drop, get_or, length-take, take-append-drop}
use Rattle.layers.specs.Names.{Name, order_of}
use Rattle.layers.specs.Items.{entries_of, entry_at}
use Rattle.layers.specs.Search.{name_of}
use Rattle.layers.specs.declared.items.Entry.{Entry}
use Rattle.layers.proofs.ItemLaws.{length_entries}
use Rattle.merge.specs.Tables.{table_of, place_name}
use Rattle.layers.specs.Order.{insert_step, insert_by}
use Rattle.layers.specs.Sorted.{Below, Sorted}
use Rattle.merge.specs.Scan.{in_directory, scanned, add_name, add_names, names_of, merged_names}
use Rattle.merge.specs.Places.{add_place, add_places, places_of, merged_places, Filled}
use Rattle.merge.specs.declared.stacks.Pair.{Pair}
use Rattle.layers.proofs.OrderLaws.{same_self}
use Rattle.layers.proofs.SortLaws.{insert_sorted}

abbrev itself : Name → Name
itself x = x

pub map_insert : {A : Type 0} (f : A → Name) (q : A) (ps : List A) → map f (insert_by f q ps) ≡ insert_by itself (f q) (map f ps)
unfolding insert_by insert_step
map_insert f q [] = refl
map_insert f q (p ∷ ps) = go (order_of (f q) (f p)) (map_insert f q ps)
  where
    go : (o : Ordering) → map f (insert_by f q ps) ≡ insert_by itself (f q) (map f ps) → map f (insert_step o q p ps (insert_by f q ps)) ≡ insert_step o (f q) (f p) (map f ps) (insert_by itself (f q) (map f ps))
    go Less ih = refl
    go Equal ih = refl
    go Greater ih = ap (λ (l : List Name). f p ∷ l) ih

map_add : (f : ℕ → Name) (d q : ℕ) (e : Entry) (ps : List ℕ) → f q ≡ name_of e → map f (add_place f d q e ps) ≡ add_name d e (map f ps)
unfolding add_place add_name
map_add f d q e ps h = go (in_directory d e)
  where
    go : (b : Bool) → map f (cond b (insert_by f q ps) ps) ≡ cond b (insert_by itself (name_of e) (map f ps)) (map f ps)
    go true = map_insert f q ps ∙ ap (λ (n : Name). insert_by itself n (map f ps)) h
    go false = refl

map_adds : (f : ℕ → Name) (d q : ℕ) (es : List Entry) (ps : List ℕ) → ((j : ℕ) → j < length es → f (q + j) ≡ name_of (entry_at es j)) → map f (add_places f d q es ps) ≡ add_names d es (map f ps)
unfolding add_places add_names
map_adds f d q [] ps h = refl
map_adds f d q (e ∷ es) ps h =
    map_adds f d (suc q) es (add_place f d q e ps) (λ j l. subst (λ (m : ℕ). f m ≡ name_of (entry_at es j)) (add-suc q j ∙ sym (suc-add q j)) (h (suc j) (omega arith)))
    ∙ ap (add_names d es) (map_add f d q e ps (subst (λ (m : ℕ). f m ≡ name_of e) (add-zero q) (h 0 (omega arith))))

-- the name at a layer's place
pub place_is : (u l : List ℕ) (k j : ℕ) → j < 128 → place_name u l (128 * k + j) ≡ name_of (entry_at (entries_of (table_of u l k)) j)
place_is u l k j h =
    let a : (128 * k + j) / 128 ≡ k = omega arith in
    let b : (128 * k + j) % 128 ≡ j = omega arith in
    rw (a, b) refl

map_places : (u l : List ℕ) (s : List Pair) (ps : List ℕ) → map (place_name u l) (places_of u l s ps) ≡ names_of u l s (map (place_name u l) ps)
unfolding places_of names_of
map_places u l [] ps = refl
map_places u l (a ∷ s) ps =
    map_places u l s (add_places (place_name u l) a.number (128 * a.layer) (entries_of (table_of u l a.layer)) ps)
    ∙ ap (names_of u l s) (map_adds (place_name u l) a.number (128 * a.layer) (entries_of (table_of u l a.layer)) ps (λ j h. place_is u l a.layer j (let n : length (entries_of (table_of u l a.layer)) ≡ 128 = length_entries (table_of u l a.layer) in omega arith)))

-- the names at the merged places are the merged names
pub names_of_places : (u l : List ℕ) (s : List Pair) → map (place_name u l) (merged_places u l s) ≡ merged_names u l s
unfolding merged_places merged_names
names_of_places u l s = map_places u l (scanned u l s) []

-- ---- the merged names are in byte order, each once

adds_sorted : (d : ℕ) (es : List Entry) (xs : List Name) → Sorted itself xs → Sorted itself (add_names d es xs)
unfolding add_names add_name
adds_sorted d [] xs s = s
adds_sorted d (e ∷ es) xs s = adds_sorted d es (cond (in_directory d e) (insert_by itself (name_of e) xs) xs) (go (in_directory d e))
  where
    go : (b : Bool) → Sorted itself (cond b (insert_by itself (name_of e) xs) xs)
    go true = insert_sorted itself (name_of e) xs s
    go false = s

names_sorted : (u l : List ℕ) (s : List Pair) (xs : List Name) → Sorted itself xs → Sorted itself (names_of u l s xs)
unfolding names_of
names_sorted u l [] xs h = h
names_sorted u l (a ∷ s) xs h = names_sorted u l s (add_names a.number (entries_of (table_of u l a.layer)) xs) (adds_sorted a.number (entries_of (table_of u l a.layer)) xs h)

pub merged_sorted : (u l : List ℕ) (s : List Pair) → Sorted itself (merged_names u l s)
unfolding merged_names
merged_sorted u l s = names_sorted u l (scanned u l s) [] tt

below_place : {A : Type 0} (f : A → Name) (z : A) (x : Name) (ys : List A) → Below f x ys → (j : ℕ) → j < length ys → order_of x (f (get_or ys j z)) ≡ Less
below_place f z x [] b j h = absurd (omega arith)
below_place f z x (y ∷ ys) b zero h = b.0
below_place f z x (y ∷ ys) b (suc j) h = below_place f z x ys b.1 j (omega arith)

-- of two places the earlier has the earlier name
pub sorted_place : {A : Type 0} (f : A → Name) (z : A) (ys : List A) → Sorted f ys → (i j : ℕ) → i < j → j < length ys → order_of (f (get_or ys i z)) (f (get_or ys j z)) ≡ Less
sorted_place f z [] s i j h l = absurd (omega arith)
sorted_place f z (y ∷ ys) s i zero h l = absurd (omega arith)
sorted_place f z (y ∷ ys) s zero (suc j) h l = below_place f z (f y) ys s.0 j (omega arith)
sorted_place f z (y ∷ ys) s (suc i) (suc j) h l = sorted_place f z ys s.1 i j (omega arith) (omega arith)

-- so no name stands twice
pub sorted_once : {A : Type 0} (f : A → Name) (z : A) (ys : List A) → Sorted f ys → (i j : ℕ) → i < j → j < length ys → f (get_or ys i z) ≢ f (get_or ys j z)
sorted_once f z ys s i j h l e =
    let w : Less ≡ Equal = sym (sorted_place f z ys s i j h l) ∙ (ap (order_of (f (get_or ys i z))) (sym e) ∙ same_self (f (get_or ys i z))) in
    let o : ◌≡◌ {A = ℕ} 0 1 = cc in
    omega arith

-- ---- what a scan leaves is determined

-- as many places are filled as there are
pub filled_length : (p : List ℕ) (r : ℕ) (ps q : List ℕ) → Filled p r ps q → r ≤ 512 → length ps ≡ r
filled_length p r ps q w h =
    let a : length (take r q) ≡ r = (let m : length q ≡ 512 = w.long in simp length-take (omega arith)) in
    sym (ap length w.first) ∙ a

pub filled_one : (p : List ℕ) (r r' : ℕ) (ps q q' : List ℕ) → Filled p r ps q → r ≤ 512 → Filled p r' ps q' → r' ≤ 512 → (r ≡ r') × (q ≡ q')
filled_one p r r' ps q q' w h w' h' =
    let e : r ≡ r' = sym (filled_length p r ps q w h) ∙ filled_length p r' ps q' w' h' in
    let b : take r q' ≡ ps = rw e w'.first in
    let d : drop r q' ≡ drop r p = rw e w'.rest in
    (e, sym (take-append-drop r q) ∙ (ap₂ ◌++◌ (w.first ∙ sym b) (w.rest ∙ sym d) ∙ take-append-drop r q'))
