-- What a call that writes leaves, and the tests of a parent in which something is made. Assumes nothing.
use Rattle.std.specs.Prelude.{ℕ, Bool, false, not, cond, List, ◌++◌, eqb, ltb, length, Option, Some, None, Result, Ok, is_some}
use Rattle.calls.specs.declared.refusal.Refusal.{Refusal}
use Rattle.layers.specs.Names.{Name}
use Rattle.merge.specs.Nodes.{nodes_of, node_at}
use Rattle.merge.specs.Load.{suffices}
use Rattle.calls.specs.Refusal.{Test, after_tests, passed}
use Rattle.calls.specs.Parents.{place_numbered, is_white, load_tests, loading_call}
use Rattle.calls.specs.Lookup.{name_in}
use Rattle.calls.specs.Upper.{Up}
use Rattle.calls.specs.Room.{whiteout_entry}

-- what the call answers, the state and the upper table that it leaves
pub record Written : Type 0 where
  pub answer : Result ℕ Refusal
  pub state : List ℕ
  pub upper : List ℕ

-- "30 read-only no upper layer"
abbrev pub has_upper : List ℕ → Bool
has_upper u = eqb (length u) 8192

-- a call that loads the directory `x` and then writes: the tests before and behind the load, what is left where none fails, and the answer.
-- "A refusal changes nothing, except that a load done before it stays."
abbrev pub writing_call : List ℕ → List ℕ → List ℕ → ℕ → List Test → List Test → Up → ℕ → Written
writing_call u l s x before behind changed v =
    record {
      answer = (loading_call u l s x before behind changed.state v).answer;
      state = (loading_call u l s x before behind changed.state v).state;
      upper = cond (passed before) (cond (passed (load_tests u l s (place_numbered s x) ++ behind)) changed.table u) u;
    }

-- "17 EEXIST creation or link on a live name"; `f` is where the name's node stands
unfoldable pub is_live_name : List ℕ → Option ℕ → Bool
is_live_name s (Some j) = not (is_white (node_at (nodes_of s) j))
is_live_name s None = false

-- "36 ENAMETOOLONG a new name of over 28 bytes"
abbrev pub is_long : Name → Bool
is_long x = ltb 28 (length x)

-- "23 (only if the name has no node)"
unfoldable pub no_place : List ℕ → Option ℕ → Bool
no_place s f = cond (is_some f) false (not (suffices s 1))

-- ---- behind the load, which left the state `s`

-- the upper entry of the whiteout that the name is in the directory of number `p`
abbrev pub whiteout_in : List ℕ → List ℕ → ℕ → Name → Option ℕ
whiteout_in t s p x = whiteout_entry t s (place_numbered s p) (name_in s p x) x

-- the tests, what is left where none fails, and the answer
abbrev pub behind_load : List ℕ → List ℕ → List Test → Up → ℕ → Written
behind_load u s behind changed v =
    record {
      answer = after_tests behind (Ok v);
      state = cond (passed behind) changed.state s;
      upper = cond (passed behind) changed.table u;
    }
