-- The known columns of a port, each with its place among all.
use Rattle.std.specs.Prelude.{ℕ, ◌+◌, List, [], ◌∷◌, Option, Some, None, find, slice_get, Result, Ok, if◌then◌else◌}
use Rattle.hart_words.specs.Results.{◌>>=◌}
use Rattle.hart_words.specs.Signals.{Shown}
use Rattle.rvfi_rows.specs.declared.column.PlacedColumn.{PlacedColumn}
use Rattle.rvfi_rows.specs.declared.fault.RowFault.{RowFault}
use Rattle.rvfi_rows.specs.Columns.{ColumnList}
use Rattle.rvfi_rows.specs.Rows.{cell_of, field_shown, is_invalid, is_valid_column, nothing, shown_then}

-- the known columns, the first of all at this place
unfoldable pub placed_from : ℕ → ColumnList → List PlacedColumn
placed_from place [] = []
placed_from place (None ∷ columns) = placed_from (place + 1) columns
placed_from place (Some column ∷ columns) =
    record { place = place; column = column } ∷ placed_from (place + 1) columns

-- the first known column of `valid`
abbrev pub valid_among : List PlacedColumn → Option PlacedColumn
valid_among placed = find (λ one. is_valid_column one.column) placed

-- what the field at the place of a column shows, where there is one
abbrev pub field_shown_at : PlacedColumn → Option (List ℕ) → Result Shown RowFault
field_shown_at one None = Ok nothing
field_shown_at one (Some field) = field_shown (Some one.column) field

-- what the fields at their places show, or the first fault
unfoldable pub cells_at : List PlacedColumn → List (List ℕ) → Result Shown RowFault
cells_at [] fields = Ok nothing
cells_at (one ∷ placed) fields =
    field_shown_at one (slice_get fields one.place) >>= λ first.
    (cells_at placed fields >>= λ others. Ok (shown_then first others))

-- the value that the field at the place of a column gives it
abbrev pub cell_at : PlacedColumn → Option (List ℕ) → Result (Option ℕ) RowFault
cell_at one None = Ok None
cell_at one (Some field) = cell_of one.column field

-- the same of the column `valid`, where there is one
abbrev pub valid_at : Option PlacedColumn → List (List ℕ) → Result (Option ℕ) RowFault
valid_at None fields = Ok None
valid_at (Some one) fields = cell_at one (slice_get fields one.place)

-- the row of the fields at their places
unfoldable pub row_at : List PlacedColumn → List (List ℕ) → Result (Option Shown) RowFault
row_at placed fields =
    valid_at (valid_among placed) fields >>= λ valid.
    (if is_invalid valid then Ok None else (cells_at placed fields >>= λ row. Ok (Some row)))
