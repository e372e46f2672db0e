-- The whole case of a listing page. Assumes nothing.
use mathlib.Core.Path.{◌≡◌, refl}
use Prim.Native.Nat.{ℕ}
use mathlib.Core.Bool.{true, false}
use mathlib.Core.List.{List, [], ◌∷◌, ◌++◌}
use Rattle.layers.specs.Bytes.{le_bytes}
use Rattle.layers.specs.Search.{first_from}
use Rattle.merge.specs.Nodes.{nodes_of, node_name}
use Rattle.merge.specs.State.{is_number, has_parent, those}
use Rattle.merge.specs.Stacks.{pair}
use Rattle.merge.specs.declared.node.Node.{Node}
use Rattle.calls.specs.Dirents.{Dirent, dirent, padding, dirent_size, dirent_bytes}
use Rattle.calls.specs.Pages.{fitting, bytes_from, page_bytes, remaining, page_of}
use Rattle.calls.specs.Parents.{place_of, numbered, is_white, top_of, is_live}
use Rattle.calls.specs.Listing.{type_of, dirent_of, above, child_dirents, listing_of}
use Rattle.calls.specs.declared.page.Page.{Page}

-- "Three entries of 32 bytes, as inode, offset, length, type, name: 1, 1, 1, 4, "."; 1, 2, 2, 4, ".."; 2, 3, 1, 8, "k"."
abbrev pub case_entries : List Dirent
case_entries = dirent 1 4 (46 ∷ []) ∷ dirent 1 4 (46 ∷ 46 ∷ []) ∷ dirent 2 8 (107 ∷ []) ∷ []

abbrev pub first_bytes : List ℕ
first_bytes = 1 ∷ 0 ∷ 0 ∷ 0 ∷ 0 ∷ 0 ∷ 0 ∷ 0 ∷ 1 ∷ 0 ∷ 0 ∷ 0 ∷ 0 ∷ 0 ∷ 0 ∷ 0 ∷ 1 ∷ 0 ∷ 0 ∷ 0 ∷ 4 ∷ 0 ∷ 0 ∷ 0 ∷ 46 ∷ 0 ∷ 0 ∷ 0 ∷ 0 ∷ 0 ∷ 0 ∷ 0 ∷ []

abbrev pub second_bytes : List ℕ
second_bytes = 1 ∷ 0 ∷ 0 ∷ 0 ∷ 0 ∷ 0 ∷ 0 ∷ 0 ∷ 2 ∷ 0 ∷ 0 ∷ 0 ∷ 0 ∷ 0 ∷ 0 ∷ 0 ∷ 2 ∷ 0 ∷ 0 ∷ 0 ∷ 4 ∷ 0 ∷ 0 ∷ 0 ∷ 46 ∷ 46 ∷ 0 ∷ 0 ∷ 0 ∷ 0 ∷ 0 ∷ 0 ∷ []

abbrev pub third_bytes : List ℕ
third_bytes = 2 ∷ 0 ∷ 0 ∷ 0 ∷ 0 ∷ 0 ∷ 0 ∷ 0 ∷ 3 ∷ 0 ∷ 0 ∷ 0 ∷ 0 ∷ 0 ∷ 0 ∷ 0 ∷ 1 ∷ 0 ∷ 0 ∷ 0 ∷ 8 ∷ 0 ∷ 0 ∷ 0 ∷ 107 ∷ 0 ∷ 0 ∷ 0 ∷ 0 ∷ 0 ∷ 0 ∷ 0 ∷ []

abbrev page : ℕ → List ℕ → Page → Type 0
page size bs p = (page_bytes size 0 case_entries ≡ bs) × (page_of size 0 case_entries ≡ p)

-- "Size 31 gives 0 bytes with entries remaining, 32 and 63 the first, 64 two.", and 96 all three
pub record CasePages : Type 0 where
  pub at_31 : page 31 [] (record { bytes = 0; remains = true })
  pub at_32 : page 32 first_bytes (record { bytes = 32; remains = true })
  pub at_63 : page 63 first_bytes (record { bytes = 32; remains = true })
  pub at_64 : page 64 (first_bytes ++ second_bytes) (record { bytes = 64; remains = true })
  pub at_96 : page 96 (first_bytes ++ second_bytes ++ third_bytes) (record { bytes = 96; remains = false })

pub case_pages : CasePages
unfolding page_bytes remaining bytes_from fitting dirent_size padding dirent_bytes le_bytes
case_pages =
    record {
      at_31 = (refl, refl);
      at_32 = (refl, refl);
      at_63 = (refl, refl);
      at_64 = (refl, refl);
      at_96 = (refl, refl);
    }

-- "upper root with one regular file "k", record 2": the root, number 1, and its child
module _ (u l s : List ℕ) (root k : Node) (nodes : nodes_of s ≡ root ∷ k ∷ [])
    (root_number : root.number ≡ 1) (root_parent : root.parent ≡ 0) (k_parent : k.parent ≡ 1) (k_white : k.white ≡ 0) (k_name : node_name k ≡ 107 ∷ [])
    (root_top : top_of root ≡ pair 0 1) (k_top : top_of k ≡ pair 0 2) (root_type : type_of u l (pair 0 1) ≡ 4) (k_type : type_of u l (pair 0 2) ≡ 8) where
  case_root : numbered s 1 ≡ root
  unfolding place_of first_from is_number
  case_root = rw (nodes, root_number) refl

  case_children : child_dirents u l 1 (nodes_of s) ≡ dirent 2 8 (107 ∷ []) ∷ []
  unfolding child_dirents those has_parent is_live is_white dirent_of
  case_children = rw (nodes, root_parent, k_parent, k_white, k_name, k_top, k_type) refl

  pub case_listing : listing_of u l s 1 ≡ case_entries
  unfolding listing_of dirent_of above
  case_listing = rw (case_root, case_children, root_top, root_type) refl
