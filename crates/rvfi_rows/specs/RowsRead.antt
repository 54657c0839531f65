-- What lines read as, once they were read.
use Rattle.std.specs.Prelude.{◌≡◌, Option, Some, None}
use Rattle.rvfi_rows.specs.declared.rows_read.RowsRead.{RowsRead}
use Rattle.rvfi_rows.specs.Columns.{TraceColumns}

-- lines were read under these columns
abbrev pub WasReadUnder : TraceColumns → Option RowsRead → Type 0
WasReadUnder columns None = ⊥
WasReadUnder columns (Some read) = read.columns ≡ columns
