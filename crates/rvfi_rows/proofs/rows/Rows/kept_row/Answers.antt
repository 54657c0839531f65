use Rattle.std.proofs.Common.{◌∙◌, List, Some, ap, ℕ}
use Rattle.hart_words.specs.declared.signal.Signal.{Signal}
use Rattle.rvfi_rows.specs.Cells.{values_of, with_bits}
use Rattle.rvfi_rows.specs.Readings.{valid_shown}
use Rattle.rvfi_rows.specs.declared.reading.Kept.TheVariants as kept
use Rattle.rvfi_rows.proofs.KeptRows.{kept-none, kept-some}
use Rattle.rvfi_rows.proofs.rows.Rows.kept_row.Goals as goal

pub returns-in-None : goal.returns-in-None
returns-in-None c =
    let self = c.args.self.now in
    ap valid_shown
    (kept-none self.signals.items self.rows.items self.values.items c.args.place
    (rw c.deref.ensures.value at c.in-None.ensures))

pub returns-in-Some-Invalid : goal.returns-in-Some-Invalid
returns-in-Some-Invalid c =
    let self = c.args.self.now in
    ap valid_shown
    (kept-some self.signals.items self.rows.items self.values.items c.args.place kept.Invalid
    (rw (c.deref.ensures.value, c.in-Some-Invalid.field-0-is) at c.in-Some-Invalid.ensures))

pub returns-in-Some-Refused : goal.returns-in-Some-Refused
returns-in-Some-Refused c =
    let self = c.args.self.now in
    ap valid_shown
    (kept-some self.signals.items self.rows.items self.values.items c.args.place
    (kept.Refused c.in-Some-Refused._fault)
    (rw (c.deref.ensures.value, c.in-Some-Refused.field-0-is) at c.in-Some-Refused.ensures))

pub returns-in-Some-Shown : goal.returns-in-Some-Shown
returns-in-Some-Shown c =
    let self = c.args.self.now in
    let bits = c.in-Some-Shown.bits in
    ap (λ (signals : List Signal). Some (with_bits bits (values_of signals c.values_at.result.now)))
    c.deref-in-Some-Shown.ensures.value
    ∙ ap (λ (values : List ℕ). Some (with_bits bits (values_of self.signals.items values))) c.values_at.ensures.value
    ∙ ap valid_shown
    (kept-some self.signals.items self.rows.items self.values.items c.args.place (kept.Shown bits)
    (rw (c.deref.ensures.value, c.in-Some-Shown.field-0-is) at c.in-Some-Shown.ensures))
