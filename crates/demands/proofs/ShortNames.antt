-- Merged names have at most 28 bytes. Assumes nothing.
use mathlib.Core.Path.{◌≡◌, sym, ap, ◌∙◌}
use Prim.Native.Nat.{ℕ, ◌%◌, ◌/◌, ◌≤◌, ◌<◌}
use native.Mathlib.Omega.{arith}
use native.Mathlib.Nat.{mod-lt}
use mathlib.Core.Bool.{true}
use mathlib.Core.List.{List, [], map}
use lib.ListN.{length, get_or, length-map}
use Rattle.layers.specs.Names.{Name}
use Rattle.layers.proofs.ItemLaws.{get_d_map}
use Rattle.merge.specs.declared.stacks.Pair.{Pair}
use Rattle.merge.specs.Tables.{table_of, place_name}
use Rattle.merge.specs.Scan.{merged_names}
use Rattle.merge.specs.Places.{merged_places}
use Rattle.merge.proofs.NamedLaws.{has, has_at}
use Rattle.merge.proofs.NamesOfPlaces.{names_of_places}
use Rattle.merge.proofs.NewNodes.{entry_name_length}

pub merged_short : (u l : List ℕ) (s : List Pair) (x : Name) → has x (merged_names u l s) ≡ true → length x ≤ 28
merged_short u l s x h =
    let t : (i : ℕ) × (i < length (merged_names u l s)) × (get_or (merged_names u l s) i [] ≡ x) = has_at x (merged_names u l s) h in
    let e : map (place_name u l) (merged_places u l s) ≡ merged_names u l s = names_of_places u l s in
    let b : t.0 < length (merged_places u l s) = (let z : length (merged_names u l s) ≡ length (merged_places u l s) = sym (ap length e) ∙ length-map (merged_places u l s) (place_name u l) in let y : t.0 < length (merged_names u l s) = t.1 in omega arith) in
    let q : place_name u l (get_or (merged_places u l s) t.0 0) ≡ x = sym (get_d_map (place_name u l) (merged_places u l s) t.0 [] 0 b) ∙ (ap (λ (l : List Name). get_or l t.0 []) e ∙ t.2) in
    let k : length (place_name u l (get_or (merged_places u l s) t.0 0)) ≤ 28 = entry_name_length (table_of u l (get_or (merged_places u l s) t.0 0 / 128)) (get_or (merged_places u l s) t.0 0 % 128) (mod-lt (get_or (merged_places u l s) t.0 0) (omega arith)) in
    let r : length (place_name u l (get_or (merged_places u l s) t.0 0)) ≡ length x = ap length q in
    omega arith
