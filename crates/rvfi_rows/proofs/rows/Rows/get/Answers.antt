use Rattle.std.proofs.Common.{◌∙◌, Ok, Some, ap}
use Rattle.rvfi_rows.specs.Cells.{AreOf}
use Rattle.rvfi_rows.proofs.KeptRows.{kept-none, kept-some, kept_are}
use Rattle.rvfi_rows.proofs.Values.{places_below}
use Rattle.hart_words.specs.Signals.{Shown}
use Rattle.rvfi_rows.specs.declared.reading.Kept.TheVariants as kept
use Rattle.rvfi_rows.proofs.rows.Rows.get.Goals as goal

pub returns-in-None : goal.returns-in-None
returns-in-None c =
    kept-none c.args.self.now.signals.items c.args.self.now.rows.items c.args.self.now.values.items c.args.place
    (rw c.deref.ensures.value at c.in-None.ensures)

pub returns-in-Some-Invalid : goal.returns-in-Some-Invalid
returns-in-Some-Invalid c =
    kept-some c.args.self.now.signals.items c.args.self.now.rows.items c.args.self.now.values.items c.args.place
    kept.Invalid (rw (c.deref.ensures.value, c.in-Some-Invalid.field-0-is) at c.in-Some-Invalid.ensures)

pub returns-in-Some-Refused : goal.returns-in-Some-Refused
returns-in-Some-Refused c =
    kept-some c.args.self.now.signals.items c.args.self.now.rows.items c.args.self.now.values.items c.args.place
    (kept.Refused c.in-Some-Refused.fault)
    (rw (c.deref.ensures.value, c.in-Some-Refused.field-0-is) at c.in-Some-Refused.ensures)

pub take_values-requires-clause-below : goal.take_values-requires-clause-below
take_values-requires-clause-below c = λ i.
    let self = c.args.self.now in
    rw c.deref-in-Some-Shown.ensures.value (places_below self.places.items self.signals.items self.placed i)

pub take_values-requires-clause-few : goal.take_values-requires-clause-few
take_values-requires-clause-few c =
    let self = c.args.self.now in
    let are : AreOf self.signals.items c.in-Some-Shown.bits =
    kept_are self.signals.items self.rows.items c.args.place (kept.Shown c.in-Some-Shown.bits) self.theirs
    (rw (c.deref.ensures.value, c.in-Some-Shown.field-0-is) at c.in-Some-Shown.ensures) in
    are.below

pub returns-in-Some-Shown : goal.returns-in-Some-Shown
returns-in-Some-Shown c =
    let self = c.args.self.now in
    let there = rw (c.deref.ensures.value, c.in-Some-Shown.field-0-is) at c.in-Some-Shown.ensures in
    let are : AreOf self.signals.items c.in-Some-Shown.bits =
    kept_are self.signals.items self.rows.items c.args.place (kept.Shown c.in-Some-Shown.bits) self.theirs there in
    let taken =
    c.take_values.ensures self.signals.items (c.deref-in-Some-Shown.ensures.value ∙ self.placed) are in
    let shown = rw c.values_at.ensures.value at taken in
    ap (λ (shown : Shown). Some (Ok (Some shown))) shown
    ∙ kept-some self.signals.items self.rows.items self.values.items c.args.place (kept.Shown c.in-Some-Shown.bits) there
