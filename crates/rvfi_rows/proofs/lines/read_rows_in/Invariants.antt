use Rattle.std.proofs.Common.{◌≡◌, ◌++◌, length}
use Rattle.rvfi_rows.specs.Readings.{readings_in}
use Rattle.rvfi_rows.specs.Kept.{HasSignalsOf}
use Rattle.rvfi_rows.specs.Rows.{rows_of}
use Rattle.rvfi_rows.proofs.lines.read_rows_in.Given as goal

-- the rows that are there, with those of the lines that are left, are those of all lines
abbrev pub invariant-lines : goal.invariant-lines
invariant-lines l =
    HasSignalsOf l.columns.named l.rows.signals.items
    × (readings_in l.rows ++ rows_of l.columns l.reader ≡ rows_of l.columns l.fn.lines)

abbrev pub decreases-lines : goal.decreases-lines
decreases-lines l = length l.reader
