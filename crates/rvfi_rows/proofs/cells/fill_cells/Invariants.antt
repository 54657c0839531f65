use Rattle.std.proofs.Common.{◌≡◌, ◌<◌, ◌^◌, drop}
use Rattle.rvfi_rows.specs.Cells.{shown_by}
use Rattle.rvfi_rows.specs.Placed.{cells_at}
use Rattle.rvfi_rows.proofs.Steps.{with_front}
use Rattle.rvfi_rows.proofs.cells.fill_cells.Given as goal

abbrev pub invariant-loop-index : goal.invariant-loop-index
invariant-loop-index l = record {
  front : with_front (shown_by l.shown l.row.values) (cells_at (drop l.index l.known.placed.items) l.fields)
      ≡ cells_at l.known.placed.items l.fields;
  within : l.shown < 2 ^ 111;
}
