-- A name put in order among the nodes by its first 8 bytes, the highest first. Assumes nothing.
use mathlib.Core.Path.{◌≡◌, refl, sym, ap, ◌∙◌}
use Rattle.std.specs.Cmp.{nat_cmp_is}
use Rattle.std.specs.declared.cmp.Ordering.TheVariants.{Less, Greater}
use Prim.Native.Nat.{ℕ, ◌≤◌, ◌<◌}
use native.Mathlib.Omega.{arith}
use mathlib.Core.List.{List}
use lib.ListN.{length, take, drop, get_or, length-take, length-drop}
use lib.Seq.{take-take}
use borrow.Author.Tests.{le-ltb}
use Rattle.layers.specs.Bytes.{part, be_of, AllBytes}
use Rattle.layers.specs.Names.{Name, order_of}
use Rattle.layers.proofs.Determined.{bytes_drop, bytes_take}
use Rattle.layers.proofs.OrderWords.{word_differs}
use Rattle.merge.specs.Nodes.{node_of, node_name}
use Rattle.merge.specs.State.{top_word, lead_of}

lead_long : (x : Name) → 8 ≤ length x → lead_of x ≡ top_word x
unfolding lead_of
lead_long x h = rw (le-ltb (length x) 8 h) refl

pub top_is : (b : List ℕ) (r : ℕ) → r ≡ be_of (part b 24 8) → r ≡ top_word (node_of b).name
unfolding node_of
top_is b r e = e ∙ sym (ap be_of (take-take 8 28 (drop 24 b) (omega arith)))

-- the name in hand and that in a node's bytes, where both have 8 bytes
module _ (b x : List ℕ) (w v : ℕ) (known_of_b : (i : ℕ) → get_or b i 0 < 256) (known_too : AllBytes x) (l : length b ≡ 52) (a : 8 ≤ length x) (d : 8 ≤ get_or b 15 0) (e : w ≡ lead_of x) (f : v ≡ top_word (node_of b).name) where
  known : AllBytes b
  unfolding AllBytes
  known = known_of_b

  abbrev y : Name
  y = take (get_or b 15 0) (take 28 (drop 24 b))

  y_is : y ≡ node_name (node_of b)
  unfolding node_of
  y_is = refl

  name_bytes : AllBytes y
  name_bytes = bytes_take (take 28 (drop 24 b)) (get_or b 15 0) (bytes_take (drop 24 b) 28 (bytes_drop b 24 known))

  long : 8 ≤ length y
  long = simp (length-take, length-drop) (omega arith)

  mine : w ≡ be_of (part x 0 8)
  mine = e ∙ lead_long x a

  theirs : v ≡ be_of (part y 0 8)
  unfolding node_of
  theirs = f ∙ sym (ap be_of (take-take 8 (get_or b 15 0) (take 28 (drop 24 b)) (omega arith)))

  pub lead_before : w < v → Less ≡ order_of x (node_name (node_of b))
  lead_before g = word_differs 8 x y 0 w v known_too name_bytes (omega arith) (omega (arith, long)) mine theirs Less (λ q. absurd (omega arith)) (nat_cmp_is w v Less g) refl ∙ ap (order_of x) y_is

  pub lead_after : v < w → Greater ≡ order_of x (node_name (node_of b))
  lead_after g = word_differs 8 x y 0 w v known_too name_bytes (omega arith) (omega (arith, long)) mine theirs Greater (λ q. absurd (omega arith)) (nat_cmp_is w v Greater g) refl ∙ ap (order_of x) y_is
