use Rattle.std.proofs.Common.{◌∙◌, ap, sym}
use Rattle.rvfi_rows.specs.Rows.{cell_of}
use Rattle.rvfi_rows.proofs.Blanks.{empty_is_trimmed, number_is_trimmed}
use Rattle.rvfi_rows.proofs.QuickCells.{empty_cell, quick_cell}
use Rattle.rvfi_rows.proofs.cell.Cell.shown.Goals as goal

pub returns-then-not-self : goal.returns-then-not-self
returns-then-not-self c =
    let cell = c.args.self.now in
    let field = c.args.field.now in
    empty_cell cell.placed.column field c.is_empty.result cell.needed c.is_empty.ensures c.if-is_empty.true
    cell.needed_is c.if-not-self.true
    ∙ ap (cell_of cell.placed.column)
    (sym (empty_is_trimmed field c.is_empty.result c.is_empty.ensures c.if-is_empty.true))

pub returns-in-Some : goal.returns-in-Some
returns-in-Some c =
    let cell = c.args.self.now in
    let field = c.args.field.now in
    quick_cell cell.placed.column field c.in-Some.value cell.most c.in-Some.ensures.written cell.most_is
    c.if-value-self.true
    ∙ ap (cell_of cell.placed.column) (sym (number_is_trimmed field c.in-Some.value c.in-Some.ensures.written))
