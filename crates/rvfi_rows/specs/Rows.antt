-- The rows of a trace, as its lines show them.
use Rattle.std.specs.Prelude.{◌≡◌, ℕ, Bool, true, false, ◌==◌, ◌&&◌, not, List, [], ◌∷◌, ◌++◌, length, map, Option, Some}
use Rattle.std.specs.Prelude.{None, Result, Ok, Err, if◌then◌else◌, nat_lt, unwrap_or, ◌+◌, ◌*◌}
use Rattle.std.specs.Int.{bit_at}
use Rattle.std.specs.List.{list_any}
use Rattle.std.specs.Option.{is_some, option_or}
use Rattle.hart_words.specs.Numbers.{number_within}
use Rattle.hart_words.specs.Signals.{Shown, csr_index_of, index_of, side_index_of, width_of}
use Rattle.hart_words.specs.declared.numbers.NumberFault.{NumberFault}
use Rattle.hart_words.specs.declared.numbers.NumberFault.TheVariants as number
use Rattle.hart_words.specs.declared.signal.CsrName.{CsrName}
use Rattle.hart_words.specs.declared.signal.CsrSide.{CsrSide}
use Rattle.hart_words.specs.declared.signal.Signal.{Signal}
use Rattle.hart_words.specs.declared.signal.Signal.TheVariants.{Valid, Insn, PcRdata, Hart, Csr}
use Rattle.hart_words.specs.declared.signal.TheConstants.{SIGNALS}
use Rattle.csv_line.specs.Fields.{fields_of_line, has_return_in}
use Rattle.hart_words.specs.Results.{◌>>=◌, ◌>>◌, refuse_if}
use Rattle.rvfi_rows.specs.declared.column.Column.{Column}
use Rattle.rvfi_rows.specs.Columns.{ColumnList, TraceColumns, port_columns, port_numbers}
use Rattle.rvfi_rows.specs.declared.fault.RowFault.{RowFault}
use Rattle.rvfi_rows.specs.declared.fault.RowFault.TheVariants.{StrayReturn, FieldCount, Empty, NoHart, NotNumber, TooWide}
use Rattle.rvfi_rows.specs.declared.fault.RowError.{RowError}
use Rattle.rvfi_rows.specs.declared.fault.RowError.TheVariants as errors

-- the row has to show the signal
abbrev pub is_needed : Signal → Bool
is_needed Insn = true
is_needed PcRdata = true
is_needed _ = false

-- a number of the column's width, or why it is none
abbrev pub value_or_fault : Column → Result ℕ NumberFault → Result (Option ℕ) RowFault
value_or_fault column (Ok value) = Ok (Some value)
value_or_fault column (Err number.NotNumber) = Err (NotNumber column)
value_or_fault column (Err number.TooWide) = Err (TooWide column)

-- the value that a field gives the column's signal: an empty one none
unfoldable pub cell_of : Column → List ℕ → Result (Option ℕ) RowFault
cell_of column [] = if is_needed column.signal then Err (Empty column) else Ok None
cell_of column (byte ∷ field) = value_or_fault column (number_within (width_of column.signal) (byte ∷ field))

-- nothing is shown
abbrev pub nothing : Shown
nothing _ = None

-- one signal alone is shown, where it has a value
abbrev pub alone : Signal → Option ℕ → Shown
alone signal value other = if index_of other == index_of signal then value else None

-- what is shown first and then; what comes later stands
abbrev pub shown_then : Shown → Shown → Shown
shown_then first later signal = option_or (later signal) (first signal)

-- the same with one value more
abbrev pub with_shown : Shown → Signal → ℕ → Shown
with_shown before signal value other = if index_of other == index_of signal then Some value else before other

-- the signal is a column of a control and status register
abbrev pub is_csr : Signal → Bool
is_csr (Csr csr side) = true
is_csr _ = false

-- some such column is shown
unfoldable pub shows_csr : Shown → Bool
shows_csr shown = list_any (λ entry. is_csr entry.signal && is_some (shown entry.signal)) SIGNALS

-- a bit for each such column, in the order of the signals: whether it is shown
abbrev pub HasCsrBits : Shown → ℕ → Type 0
HasCsrBits shown bits = (csr : CsrName) (side : CsrSide)
    → (bit_at bits (4 * csr_index_of csr + side_index_of side) == 1)
    ≡ is_some (shown (Csr csr side))

-- what a field shows: nothing under an unknown name, else its column's signal, where it has a value
unfoldable pub field_shown : Option Column → List ℕ → Result Shown RowFault
field_shown None field = Ok nothing
field_shown (Some column) field = do
  value ← cell_of column field
  Ok (alone column.signal value)

-- what all the fields show, or the first fault from the left
unfoldable pub cells_of : ColumnList → List (List ℕ) → Result Shown RowFault
cells_of [] fields = Ok nothing
cells_of (column ∷ columns) [] = Ok nothing
cells_of (column ∷ columns) (field ∷ fields) = do
  first ← field_shown column field
  others ← cells_of columns fields
  Ok (shown_then first others)

-- the column is one of `valid`
abbrev pub is_valid_column : Column → Bool
is_valid_column column = index_of column.signal == index_of Valid

-- what the column `valid` shows, where there is one
unfoldable pub valid_of : ColumnList → List (List ℕ) → Result (Option ℕ) RowFault
valid_of [] fields = Ok None
valid_of (column ∷ columns) [] = Ok None
valid_of (None ∷ columns) (field ∷ fields) = valid_of columns fields
valid_of (Some column ∷ columns) (field ∷ fields) =
    if is_valid_column column then cell_of column field else valid_of columns fields

-- `valid` shows 0
abbrev pub is_invalid : Option ℕ → Bool
is_invalid None = false
is_invalid (Some value) = value == 0

-- the number of the hart whose row it is: 0 where the row names none
abbrev pub hart_of : Shown → ℕ
hart_of shown = unwrap_or (shown Hart) 0

-- the row of fields that are as many as the columns; none where it is not valid, and then no other
-- field is looked at
unfoldable pub row_from : ColumnList → List (List ℕ) → Result (Option Shown) RowFault
row_from columns fields = do
  valid ← valid_of columns fields
  if is_invalid valid then Ok None else (cells_of columns fields >>= λ row. Ok (Some row))

-- what a line's fields show of the row of a port, or its first fault, where a carriage return stands in the line or
-- not: the faults of the whole line are of each port, and all else is of the port's own columns
unfoldable pub row_at_port : ColumnList → Bool → List (List ℕ) → ℕ → Result (Option Shown) RowFault
row_at_port columns has_return fields port = do
  refuse_if has_return StrayReturn
  refuse_if (not (length fields == length columns)) FieldCount
  row_from (port_columns port columns) fields

-- a valid row is of one of so many harts
abbrev pub row_of_present : ℕ → Option Shown → Result (Option Shown) RowFault
row_of_present harts None = Ok None
row_of_present harts (Some shown) = if nat_lt (hart_of shown) harts then Ok (Some shown) else Err NoHart

-- the row of a port from a line's fields, or its first fault: last, that its hart is not there
unfoldable pub row_of_fields : TraceColumns → Bool → List (List ℕ) → ℕ → Result (Option Shown) RowFault
row_of_fields columns has_return fields port =
    row_at_port columns.named has_return fields port >>= λ row. row_of_present columns.harts row

-- the row of a port on a line
unfoldable pub row_of_line : TraceColumns → List ℕ → ℕ → Result (Option Shown) RowFault
row_of_line columns line port = row_of_fields columns (has_return_in line) (fields_of_line line) port

-- the fault that an error stands for
abbrev pub row_fault : RowError → Option RowFault
row_fault errors.NoMemory = None
row_fault (errors.Fault fault) = Some fault

-- what is shown, where a row is valid
abbrev pub shown_if : Shown → Bool → Option Shown
shown_if shown true = Some shown
shown_if shown false = None

-- what a row reads as: what it shows, nothing where it is not valid, or why it is refused
abbrev pub RowReading : Type 0
RowReading = Result (Option Shown) RowFault

-- the rows of a line's fields, one for each port, in the order of the ports
abbrev pub rows_of_fields : TraceColumns → Bool → List (List ℕ) → List RowReading
rows_of_fields columns has_return fields = map (row_of_fields columns has_return fields) (port_numbers columns.named)

-- the rows of a line
abbrev pub rows_of_line : TraceColumns → List ℕ → List RowReading
rows_of_line columns line = map (row_of_line columns line) (port_numbers columns.named)

-- the rows of lines under these columns, line after line. Whatever is said of the rows of a trace is said of this list
unfoldable pub rows_of : TraceColumns → List (List ℕ) → List RowReading
rows_of columns [] = []
rows_of columns (line ∷ lines) = rows_of_line columns line ++ rows_of columns lines

-- the signals of the known columns
unfoldable pub signals_of : ColumnList → List Signal
signals_of [] = []
signals_of (None ∷ columns) = signals_of columns
signals_of (Some column ∷ columns) = column.signal ∷ signals_of columns
