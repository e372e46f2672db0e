-- Every call that reads, copy-up, and every creation keeps what holds between calls; so any sequence of them does. Assumes nothing.
use mathlib.Core.Path.{◌≡◌, refl}
use Prim.Native.Nat.{ℕ}
use mathlib.Core.Bool.{Bool, true, false, not, cond}
use mathlib.Core.List.{List, [], ◌∷◌}
use Rattle.layers.specs.Bytes.{AllBytes}
use Rattle.layers.specs.Names.{Name, malformed_name}
use Rattle.layers.specs.declared.items.Record.{Record}
use Rattle.calls.specs.Upper.{Up, up}
use Rattle.calls.specs.Import.{import_spec}
use Rattle.calls.specs.Refusal.{passed}
use Rattle.calls.specs.Lengths.{lengths_test}
use Rattle.calls.specs.Creation.{creation_before, creation_spec}
use Rattle.demands.specs.Reads.{AsAfresh}
use Rattle.demands.specs.Sequences.{Call, reads, copies_up, creates, Creatable, Sensible, AllSensible, after_call, after_calls, DemandThreeInPart}
use Rattle.demands.proofs.ReadLaws.{import_sound, import_good, read_good, as_afresh}
use Rattle.demands.proofs.CopyUpKeeps.{Keeps, copy_up_keeps, copy_up_bytes}
use Rattle.demands.proofs.CreationKeeps.{creation_keeps, creation_bytes}
use Rattle.demands.proofs.CreationInPlace.{in_place}

-- a malformed argument is refused before anything is written
malformed_refused : (u l s : List ℕ) (p : ℕ) (x : Name) → passed (creation_before u l s true p x) ≡ false
unfolding creation_before passed
malformed_refused u l s p x = go (not (lengths_test s u l)) (malformed_name x) _
  where
    go : (a b c : Bool) → cond a false (cond (cond b true true) false c) ≡ false
    go true b c = refl
    go false true c = refl
    go false false c = refl

creation_call_keeps : (l : List ℕ) → AllBytes l → (bad : Bool) (p : ℕ) (x : Name) → AllBytes x → (r : Record) → (bad ≡ false → Creatable r) → (u : Up) → Keeps l u
    → Keeps l (up (creation_spec u.table l u.state bad p x r).upper (creation_spec u.table l u.state bad p x r).state)
creation_call_keeps l b true p x y r c u k = rw (malformed_refused u.table l u.state p x) (record { good = k.good; sound = k.sound; bytes = k.bytes })
creation_call_keeps l b false p x y r c u k =
    record {
      good = (creation_keeps u.table l u.state k.good k.sound k.bytes b false p x y r (c refl) in_place).0;
      sound = (creation_keeps u.table l u.state k.good k.sound k.bytes b false p x y r (c refl) in_place).1;
      bytes = creation_bytes u.table l u.state k.good k.sound k.bytes b false p x y r (c refl) in_place;
    }

call_keeps : (l : List ℕ) → AllBytes l → (c : Call) → Sensible c → (u : Up) → Keeps l u → Keeps l (after_call l c u)
unfolding after_call Sensible
call_keeps l b (creates bad p x r) q u k = creation_call_keeps l b bad p x q.0 r q.1 u k
call_keeps l b (reads c) q u k = record { good = read_good u.table l u.state k.good k.sound c; sound = k.sound; bytes = k.bytes }
call_keeps l b (copies_up x) q u k =
    record {
      good = (copy_up_keeps u.table l u.state k.good k.sound k.bytes b x).0;
      sound = (copy_up_keeps u.table l u.state k.good k.sound k.bytes b x).1;
      bytes = copy_up_bytes u.table l u.state k.good k.sound k.bytes b x;
    }

calls_keep : (l : List ℕ) → AllBytes l → (cs : List Call) → AllSensible cs → (u : Up) → Keeps l u → Keeps l (after_calls l cs u)
unfolding after_calls AllSensible
calls_keep l b [] q u k = k
calls_keep l b (c ∷ cs) q u k = calls_keep l b cs q.1 (after_call l c u) (call_keeps l b c q.0 u k)

kept_afresh : (l : List ℕ) (u : Up) → Keeps l u → AsAfresh u.table l u.state
kept_afresh l u k = as_afresh u.table l u.state k.sound k.good

pub demand_three_in_part : DemandThreeInPart
demand_three_in_part =
    record {
      calls_afresh =
          λ u l s a b v h cs q. kept_afresh l (after_calls l cs (up u (import_spec u l s).state))
          (calls_keep l b cs q (up u (import_spec u l s).state) (record { good = import_good u l s v h; sound = import_sound u l s v h; bytes = a }));
    }
