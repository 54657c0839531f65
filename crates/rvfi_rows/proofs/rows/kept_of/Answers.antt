use Rattle.std.proofs.Common.{◌≡◌, ◌∙◌, false, sym, true}
use Rattle.std.specs.Prelude.{nat_lt}
use Rattle.rvfi_rows.specs.Cells.{shown_in}
use Rattle.rvfi_rows.specs.Rows.{hart_of}
use Rattle.rvfi_rows.proofs.Among.{are_of, kept_absent, kept_invalid, kept_present, kept_refused}
use Rattle.rvfi_rows.proofs.rows.kept_of.Goals as goal

pub returns-then-is_of-clause-reading : goal.returns-then-is_of-clause-reading
returns-then-is_of-clause-reading c = λ signals all.
    let row = c.fill_row.new.row in
    let columns = c.args.columns.now in
    let there : nat_lt (hart_of (shown_in row)) columns.harts ≡ true =
    (rw c.harts.ensures at (sym c.is_of.ensures)) ∙ c.if-is_of.true in
    kept_present row c.bits.result columns c.args.has_return c.args.fields.now c.args.port signals all
    c.bits.ensures (rw c.in-Ok-true.field-0-test at c.in-Ok-true.ensures) there

pub returns-then-is_of-clause-theirs : goal.returns-then-is_of-clause-theirs
returns-then-is_of-clause-theirs c = λ signals all.
    rw c.bits.ensures
    (are_of c.fill_row.new.row c.args.columns.now.named c.args.has_return c.args.fields.now c.args.port signals all
    (rw c.in-Ok-true.field-0-test at c.in-Ok-true.ensures))

pub returns-else-is_of-clause-reading : goal.returns-else-is_of-clause-reading
returns-else-is_of-clause-reading c = λ signals all.
    let row = c.fill_row.new.row in
    let columns = c.args.columns.now in
    let absent : nat_lt (hart_of (shown_in row)) columns.harts ≡ false =
    (rw c.harts.ensures at (sym c.is_of.ensures)) ∙ c.if-is_of.false in
    kept_absent row columns c.args.has_return c.args.fields.now c.args.port
    (rw c.in-Ok-true.field-0-test at c.in-Ok-true.ensures) absent

pub returns-in-Ok-false-clause-reading : goal.returns-in-Ok-false-clause-reading
returns-in-Ok-false-clause-reading c = λ signals all.
    kept_invalid c.args.columns.now c.args.has_return c.args.fields.now c.args.port
    (rw c.in-Ok-false.field-0-test at c.in-Ok-false.ensures)

pub returns-in-Err-clause-reading : goal.returns-in-Err-clause-reading
returns-in-Err-clause-reading c = λ signals all.
    kept_refused c.args.columns.now c.args.has_return c.args.fields.now c.args.port c.in-Err.fault c.in-Err.ensures
