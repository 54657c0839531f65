use Rattle.std.proofs.Common.{◌∙◌, sym}
use Rattle.std.proofs.lemmas.Result.{err_from_is_err_and}
use Rattle.rvfi_rows.proofs.Steps.{of_line}
use Rattle.rvfi_rows.proofs.cells.read_row.Goals as goal

pub returns-in_err-row_of_fields : goal.returns-in_err-row_of_fields
returns-in_err-row_of_fields c =
    let p =
    err_from_is_err_and c.from_residual-in_err-row_of_fields.result
    c.from_residual-in_err-row_of_fields.ensures.1 in
    rw (p.1, p.2)
    (sym
    (of_line (record { named = c.args.columns.now.named; harts = c.args.harts }) c.args.line.now c.has_carriage_return-has_return.result c.in_ok-fields.fields
    c.args.port c.has_carriage_return-has_return.ensures c.in_ok-fields.ensures) ∙ sym c.in_err-row_of_fields.ensures)

pub returns : goal.returns
returns c =
    sym
    (of_line (record { named = c.args.columns.now.named; harts = c.args.harts }) c.args.line.now c.has_carriage_return-has_return.result c.in_ok-fields.fields
    c.args.port c.has_carriage_return-has_return.ensures c.in_ok-fields.ensures) ∙ sym c.in_ok-row_of_fields.ensures
