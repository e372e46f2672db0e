-- A free record and a free entry, told by `==`. Assumes nothing.
use mathlib.Core.Path.{◌≡◌, refl, ◌∙◌}
use mathlib.Core.Bool.{Bool, ◌&&◌}
use lib.Dec.{eqb}
use lib.Pointwise.{pointwise}
use borrow.Author.Tests.{eq-eqb}
use Rattle.layers.specs.Items.{free_record, free_entry}
use Rattle.layers.specs.Rules.{free_record_test, free_entry_test}
use Rattle.layers.specs.declared.items.Record.{Record}
use Rattle.layers.specs.declared.items.Entry.{Entry}
use Rattle.layers.proofs.NameLaws.{and_if, same_as}

pub blank_record : (r f : Record) (b : Bool) → f ≡ free_record
    → b ≡ (eqb r.number r.number && (eqb r.kind f.kind && (eqb r.opaque f.opaque && (eqb r.mark f.mark && (eqb r.permissions f.permissions && (eqb r.links f.links && (eqb r.device f.device && (eqb r.size f.size && eqb r.content f.content))))))))
    → b ≡ free_record_test r
unfolding free_record_test
blank_record r f b f_is e = rw f_is at e ∙ simp and_if (rw (eq-eqb r.number r.number refl) refl)

pub blank_entry : (d f : Entry) (b : Bool) → f ≡ free_entry
    → b ≡ (eqb d.parent d.parent && (eqb d.child f.child && (eqb d.length f.length && (eqb d.zero f.zero && pointwise eqb d.name f.name))))
    → b ≡ free_entry_test d
unfolding free_entry_test
blank_entry d f b f_is e = rw f_is at e ∙ simp (and_if, same_as) (rw (eq-eqb d.parent d.parent refl) refl)
