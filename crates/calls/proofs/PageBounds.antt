-- How long entries and pages are. Assumes nothing.
use mathlib.Core.Path.{◌≡◌, refl}
use Prim.Native.Nat.{ℕ, zero, suc, ◌+◌, ◌*◌, ◌-◌, ◌%◌, ◌≤◌}
use native.Mathlib.Omega.{arith}
use mathlib.Core.Bool.{Bool, true, false, cond}
use mathlib.Core.List.{List, [], ◌∷◌, map}
use lib.Dec.{leb}
use lib.ListN.{length, take, drop, length-append, length-take, length-map, length-drop}
use borrow.Author.Tests.{leb-true}
use Rattle.layers.specs.Items.{pieces}
use Rattle.merge.specs.Nodes.{node_of, nodes_of, node_name, count_of}
use Rattle.merge.specs.State.{those, children_of, has_parent}
use Rattle.merge.proofs.MergeLaws.{Each}
use Rattle.merge.proofs.StateLaws.{length_nodes}
use Rattle.calls.specs.Dirents.{Dirent, padding, dirent_size, dirent_bytes}
use Rattle.calls.specs.Pages.{fitting, bytes_from, page_bytes}
use Rattle.calls.specs.Listing.{dirent_of, child_dirents, listing_of}
use Rattle.calls.specs.Parents.{is_live, live_children}
use Rattle.calls.proofs.PageLaws.{length_dirent}

-- ---- an entry

-- "zeros to a multiple of 8"
pub size_multiple : (d : Dirent) → dirent_size d % 8 ≡ 0
unfolding dirent_size padding
size_multiple d = omega arith

-- a name of at most 28 bytes
abbrev pub Short : Dirent → Type 0
Short d = length d.name ≤ 28

pub size_most : (d : Dirent) → Short d → dirent_size d ≤ 56
unfolding dirent_size padding
size_most d h = omega arith

-- ---- a page

pub run_fits : (room i : ℕ) (ds : List Dirent) → length (bytes_from i (take (fitting room ds) ds)) ≤ room
unfolding fitting bytes_from
run_fits room i [] = omega arith
run_fits room i (d ∷ ds) = go (leb (dirent_size d) room) refl (run_fits (room - dirent_size d) (suc i) ds)
  where
    go : (b : Bool) → leb (dirent_size d) room ≡ b → length (bytes_from (suc i) (take (fitting (room - dirent_size d) ds) ds)) ≤ room - dirent_size d
        → length (bytes_from i (take (cond b (suc (fitting (room - dirent_size d) ds)) 0) (d ∷ ds))) ≤ room
    go true e ih =
        let h : dirent_size d ≤ room = leb-true (dirent_size d) room e in
        let m : length (dirent_bytes i d) ≡ dirent_size d = length_dirent i d in
        rw (length-append (dirent_bytes i d) (bytes_from (suc i) (take (fitting (room - dirent_size d) ds) ds))) (omega arith)
    go false e ih = omega arith

-- the bytes written are at most the room
pub page_fits : (room o : ℕ) (ds : List Dirent) → length (page_bytes room o ds) ≤ room
unfolding page_bytes
page_fits room o ds = run_fits room o (drop o ds)

pub run_most : (i n : ℕ) (ds : List Dirent) → Each Short ds → length (bytes_from i (take n ds)) ≤ 56 * length ds
unfolding bytes_from
run_most i zero ds h = omega arith
run_most i (suc n) [] h = omega arith
run_most i (suc n) (d ∷ ds) h =
    let a : dirent_size d ≤ 56 = size_most d h.0 in
    let m : length (dirent_bytes i d) ≡ dirent_size d = length_dirent i d in
    let r : length (bytes_from (suc i) (take n ds)) ≤ 56 * length ds = run_most (suc i) n ds h.1 in
    rw (length-append (dirent_bytes i d) (bytes_from (suc i) (take n ds))) (omega arith)

each_drop : {A : Type 0} (P : A → Type 0) (n : ℕ) (xs : List A) → Each P xs → Each P (drop n xs)
each_drop P zero xs h = h
each_drop P (suc n) [] h = h
each_drop P (suc n) (x ∷ xs) h = each_drop P n xs h.1

pub page_most : (room o : ℕ) (ds : List Dirent) → Each Short ds → length (page_bytes room o ds) ≤ 56 * length ds
unfolding page_bytes
page_most room o ds h =
    let a : length (bytes_from o (take (fitting room (drop o ds)) (drop o ds))) ≤ 56 * length (drop o ds) = run_most o (fitting room (drop o ds)) (drop o ds) (each_drop Short o ds h) in
    let b : length (drop o ds) ≡ length ds - o = length-drop o ds in
    omega arith

-- ---- a directory's listing

each_map : {A B : Type 0} (P : B → Type 0) (f : A → B) (xs : List A) → ((x : A) → P (f x)) → Each P (map f xs)
each_map P f [] h = tt
each_map P f (x ∷ xs) h = (h x, each_map P f xs h)

each_of : {A B : Type 0} (P : A → Type 0) (Q : B → Type 0) (f : A → B) (xs : List A) → ((x : A) → P x → Q (f x)) → Each P xs → Each Q (map f xs)
each_of P Q f [] h e = tt
each_of P Q f (x ∷ xs) h e = (h x e.0, each_of P Q f xs h e.1)

pub each_those : {A : Type 0} (P : A → Type 0) (p : A → Bool) (xs : List A) → Each P xs → Each P (those p xs)
unfolding those
each_those P p [] h = h
each_those {A} P p (x ∷ xs) h = go (p x) (each_those P p xs h.1)
  where
    go : (b : Bool) → Each P (those p xs) → Each P (cond b (x ∷ those p xs) (those p xs))
    go true ih = (h.0, ih)
    go false ih = ih

length_those : {A : Type 0} (p : A → Bool) (xs : List A) → length (those p xs) ≤ length xs
unfolding those
length_those p [] = omega arith
length_those p (x ∷ xs) = go (p x) (length_those p xs)
  where
    go : (b : Bool) → length (those p xs) ≤ length xs → length (cond b (x ∷ those p xs) (those p xs)) ≤ suc (length xs)
    go true ih = omega arith
    go false ih = omega arith

named_short : (b : List ℕ) → length (node_name (node_of b)) ≤ 28
unfolding node_of
named_short b = simp length-take (omega arith)

nodes_short : (s : List ℕ) → Each (λ n. length (node_name n) ≤ 28) (nodes_of s)
unfolding nodes_of
nodes_short s = each_map (λ n. length (node_name n) ≤ 28) node_of (pieces 52 (count_of s) (drop 12 s)) named_short

module _ (u l s : List ℕ) (x : ℕ) where
  -- every entry of a listing has a name of at most 28 bytes
  pub listing_short : Each Short (listing_of u l s x)
  unfolding listing_of dirent_of child_dirents
  listing_short = (
    omega arith,
    (
      omega arith,
      each_of (λ n. length (node_name n) ≤ 28) Short (λ n. dirent_of u l (node_name n) n) (live_children (nodes_of s) x) (λ n h. h)
          (each_those (λ n. length (node_name n) ≤ 28) is_live (children_of (nodes_of s) x) (each_those (λ n. length (node_name n) ≤ 28) (has_parent x) (nodes_of s) (nodes_short s))),
    ),
  )

  -- and it has at most 2 entries more than there are nodes
  pub listing_most : length (listing_of u l s x) ≤ 2 + count_of s
  unfolding listing_of child_dirents
  listing_most =
      let a : length (live_children (nodes_of s) x) ≤ length (children_of (nodes_of s) x) = length_those is_live (children_of (nodes_of s) x) in
      let b : length (children_of (nodes_of s) x) ≤ length (nodes_of s) = length_those (has_parent x) (nodes_of s) in
      let c : length (nodes_of s) ≡ count_of s = length_nodes s in
      let d : length (map (λ n. dirent_of u l (node_name n) n) (live_children (nodes_of s) x)) ≡ length (live_children (nodes_of s) x) = length-map (live_children (nodes_of s) x) (λ n. dirent_of u l (node_name n) n) in
      omega arith

  pub listing_bytes : (room o : ℕ) → length (page_bytes room o (listing_of u l s x)) ≤ 56 * (2 + count_of s)
  listing_bytes room o =
      let a : length (page_bytes room o (listing_of u l s x)) ≤ 56 * length (listing_of u l s x) = page_most room o (listing_of u l s x) listing_short in
      let b : length (listing_of u l s x) ≤ 2 + count_of s = listing_most in
      omega arith
