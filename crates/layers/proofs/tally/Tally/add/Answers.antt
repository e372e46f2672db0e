use native.Mathlib.Omega.{arith}
use Rattle.layers.specs.Items.{entries_of}
use Rattle.layers.proofs.ItemLaws.{length_entries}
use Rattle.layers.proofs.CountTally.{counted_free, counted_used, counted_room, parented_free, parented_used}
use borrow.Author.Rules.{rules}
use Rattle.layers.proofs.tally.Tally.add.Goals as goal

pub returns-then-d-eq0 : goal.returns-then-d-eq0
returns-then-d-eq0 c = (search (counted_free, length_entries, rules), search (parented_free, length_entries, rules))

pub overflow_add-self : goal.overflow_add-self
overflow_add-self c = record { fits = counted_room (entries_of c.args.t.now) c.args.self.now.counts c.args.j c.from-c.result (length_entries c.args.t.now) c.requires.0 (omega (arith, c.from-c.ensures)) c.requires.1 }

pub returns : goal.returns
returns c = (search (counted_used, length_entries, rules), search (parented_used, length_entries, rules))
