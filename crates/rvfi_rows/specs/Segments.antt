-- Lines of a trace that are judged together.
use Rattle.std.specs.Prelude.{◌≡◌, ℕ, ◌*◌, List, length, Option, Some, None, slice_get}
use Rattle.std.specs.List.{flat_map}
use Rattle.std.specs.Borrow.{Bor}
use Rattle.rvfi_rows.specs.declared.rows.Rows.{Rows}
use Rattle.rvfi_rows.specs.declared.segment.Segment.{Segment}
use Rattle.rvfi_rows.specs.declared.unread.PlaceRead.{PlaceRead}
use Rattle.rvfi_rows.specs.Columns.{TraceColumns, ports_of}
use Rattle.rvfi_rows.specs.RowsRead.{WasReadUnder}
use Rattle.rvfi_rows.specs.Readings.{readings_in}
use Rattle.rvfi_rows.specs.Rows.{rows_of}

abbrev pub segment_lines : Segment → List (List ℕ)
segment_lines segment = segment.lines

-- how many lines segments have
abbrev pub line_count_of : List Segment → ℕ
line_count_of segments = length (flat_map segment_lines segments)

-- how many rows segments have under these columns: each line has one for each port
unfoldable pub row_count_of : TraceColumns → List Segment → ℕ
row_count_of columns segments = ports_of columns.named * line_count_of segments

-- the lines were read under these columns
abbrev pub IsRead : TraceColumns → Segment → Type 0
IsRead columns segment = WasReadUnder columns segment.read

-- what is found are the rows of the lines, just where they were read under these columns
abbrev pub FindsRows : TraceColumns → Segment → Option (Bor Rows) → Type 0
FindsRows columns segment None = IsRead columns segment → ⊥
FindsRows columns segment (Some rows) =
    IsRead columns segment × (readings_in rows.now ≡ rows_of columns segment.lines)

-- what was read of one of several segments is what its lines read as
pub record ReadsPlace (segments : List (List (List ℕ))) (one : PlaceRead) : Type 0 where
  pub reads : (lines : List (List ℕ)) → slice_get segments one.place ≡ Some lines
      → readings_in one.read.rows ≡ rows_of one.read.columns lines
