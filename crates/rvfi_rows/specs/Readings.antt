-- What rows read as that were read.
use Rattle.std.specs.Prelude.{List, Option, Some, None, Ok, Err}
use Rattle.hart_words.specs.Signals.{Shown}
use Rattle.rvfi_rows.specs.declared.kept_row.KeptRow.{KeptRow}
use Rattle.rvfi_rows.specs.declared.reading.Reading.{Reading}
use Rattle.rvfi_rows.specs.declared.reading.Reading.TheVariants as reading
use Rattle.rvfi_rows.specs.declared.rows.Rows.{Rows}
use Rattle.rvfi_rows.specs.Cells.{values_of, with_bits}
use Rattle.rvfi_rows.specs.Kept.{kept_readings}
use Rattle.rvfi_rows.specs.Rows.{RowReading}

-- what a row reads as of which this is shown where it is valid
abbrev pub reading_of : Reading → Shown → RowReading
reading_of reading.Invalid shown = Ok None
reading_of reading.Valid shown = Ok (Some shown)
reading_of (reading.Refused fault) shown = Err fault

-- what the rows read as
abbrev pub readings_in : Rows → List RowReading
readings_in rows = kept_readings rows.signals.items rows.rows.items rows.values.items

-- what a row shows that is valid
abbrev pub valid_shown : Option RowReading → Option Shown
valid_shown None = None
valid_shown (Some (Err fault)) = None
valid_shown (Some (Ok None)) = None
valid_shown (Some (Ok (Some shown))) = Some shown

-- what a valid row shows, by what is kept of it
abbrev pub kept_shown : KeptRow → Shown
kept_shown row = with_bits row.bits (values_of row.signals.now row.values.now)
