use Rattle.std.proofs.Common.{◌∙◌, ◌<◌, ◌^◌, ap, bit_or, length-set, slice_set, subst, sym, ℕ}
use Rattle.rvfi_rows.specs.Cells.{shown_by}
use Rattle.rvfi_rows.proofs.ShownBits.{shows_more}
use Rattle.rvfi_rows.proofs.CsrBits.{stays_within}
use Rattle.rvfi_rows.proofs.row.Row.put.Goals as goal

pub invariant_of-self : goal.invariant_of-self
invariant_of-self c = record { full = length-set _ _ _ ∙ c.args.self.now.full; within = c.args.self.now.within }

pub returns-clause-shown : goal.returns-clause-shown
returns-clause-shown c =
    let cell = c.args.cell.now in
    let row = c.args.self.now in
    ap (λ place. shown_by (bit_or c.args.shown cell.bit) (slice_set row.values place c.args.value)) c.from.ensures
    ∙ shows_more c.args.shown row.values cell.placed.column.signal c.args.value row.full cell.index_is cell.below
    cell.bit_is

pub returns-clause-within : goal.returns-clause-within
returns-clause-within c = λ within.
    let cell = c.args.cell.now in
    subst (λ (bit : ℕ). bit_or c.args.shown bit < 2 ^ 111) (sym cell.bit_is)
    (stays_within c.args.shown cell.index within cell.below)
