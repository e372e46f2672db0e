-- The number that a listing answers holds the page: bytes written and whether entries remain. Assumes nothing.
use mathlib.Core.Path.{◌≡◌, refl}
use Prim.Native.Nat.{ℕ, ◌+◌, ◌*◌, ◌-◌, ◌≤◌, ◌<◌}
use native.Mathlib.Omega.{arith}
use mathlib.Core.Bool.{Bool, true, false, cond}
use mathlib.Core.List.{List}
use lib.ListN.{length}
use Rattle.merge.specs.Nodes.{count_of}
use Rattle.merge.proofs.HeadLaws.{nodes_fit}
use Rattle.calls.specs.Pages.{page_bytes}
use Rattle.calls.specs.Listing.{listing_of, page_value}
use Rattle.calls.specs.declared.page.Page.{Page}
use Rattle.calls.proofs.PageBounds.{listing_bytes}

-- a state of 256 places lists at most 258 entries of at most 56 bytes
pub page_small : (u l s : List ℕ) (x room o : ℕ) → length s ≡ 13324 → length (page_bytes room o (listing_of u l s x)) ≤ 14448
page_small u l s x room o h =
    let a : length (page_bytes room o (listing_of u l s x)) ≤ 56 * (2 + count_of s) = listing_bytes u l s x room o in
    let b : 52 * count_of s ≤ length s - 12 = nodes_fit s in
    omega arith

-- "the value in the lower 32"
pub value_fits : (p : Page) → p.bytes ≤ 14448 → page_value p < 4294967296
unfolding page_value
value_fits p h = go p.remains
  where
    go : (b : Bool) → cond b (p.bytes + 2147483648) p.bytes < 4294967296
    go true = omega arith
    go false = omega arith

-- two such pages of one value are one page
pub value_tells : (a b : ℕ) (m n : Bool) → a ≤ 14448 → b ≤ 14448 → page_value (record { bytes = a; remains = m }) ≡ page_value (record { bytes = b; remains = n }) → (a ≡ b) × (m ≡ n)
unfolding page_value
value_tells a b true true h g e = (omega arith, refl)
value_tells a b true false h g e = absurd (omega arith)
value_tells a b false true h g e = absurd (omega arith)
value_tells a b false false h g e = (e, refl)
