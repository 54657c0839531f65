-- Cells that are soon told by what was worked out of their columns.
use Rattle.std.proofs.Common.{◌≡◌, ◌∙◌, sym, ap, ℕ, ◌+◌, ◌<◌, ◌≤◌, ◌^◌, ◌==◌, Bool, true, false, List, [], ◌∷◌, length, map}
use Rattle.std.proofs.Common.{get_or, Some, None, Result, Ok, Err, arith, drop, slice_get}
use Rattle.std.specs.Prelude.{if◌then◌else◌}
use Rattle.std.proofs.lemmas.Bool.{lt-ltb, eqb-true}
use Rattle.std.proofs.lemmas.List.{get_or-map, length-map}
use Rattle.hart_words.specs.Numbers.{digits_number, number_of, number_within, result_within}
use Rattle.hart_words.specs.Signals.{Shown, width_of}
use Rattle.hart_words.specs.declared.numbers.NumberFault.TheVariants.{TooWide}
use Rattle.rvfi_rows.specs.declared.cell.Cell.{Cell}
use Rattle.rvfi_rows.specs.declared.column.Column.{Column}
use Rattle.rvfi_rows.specs.declared.column.PlacedColumn.{PlacedColumn}
use Rattle.rvfi_rows.specs.declared.fault.RowFault.{RowFault}
use Rattle.rvfi_rows.specs.declared.fault.RowFault.TheVariants.{Empty}
use Rattle.rvfi_rows.specs.declared.port_columns.PortColumns.{PortColumns}
use Rattle.rvfi_rows.specs.Placed.{cells_at}
use Rattle.rvfi_rows.specs.Rows.{cell_of, field_shown, is_needed, value_or_fault}
use Rattle.rvfi_rows.proofs.Steps.{cells-end, cells-fail, cells-next, cells-skip, with_front}

-- an empty field of a column that need not be shown
pub empty_cell : (column : Column) (field : List ℕ) (test needed : Bool) → test ≡ (length field == 0) → test ≡ true
    → needed ≡ is_needed column.signal → needed ≡ false → Ok None ≡ cell_of column field
unfolding cell_of
empty_cell column [] test needed is holds needed_is not_needed =
    sym (ap (λ (b : Bool). if b then Err (Empty column) else Ok None) (sym needed_is ∙ not_needed))
empty_cell column (byte ∷ field) test needed is holds needed_is not_needed =
    let none : length (byte ∷ field) ≡ 0 = eqb-true _ _ (sym is ∙ holds) in
    absurd (omega arith)

no_number : (value : ℕ) → number_of [] ≡ Some value → ⊥
unfolding number_of digits_number
no_number value is = absurd cc

number_fits : (width : ℕ) (text : List ℕ) (value : ℕ) → number_of text ≡ Some value → value < 2 ^ width
    → number_within width text ≡ Ok value
unfolding number_within
number_fits width text value is below =
    ap (result_within width) is
    ∙ ap (λ (b : Bool). if b then Ok value else Err TooWide) (lt-ltb value (2 ^ width) below)

-- a field that writes a number which the column can have
pub quick_cell : (column : Column) (field : List ℕ) (value most : ℕ) → number_of field ≡ Some value
    → most + 1 ≡ 2 ^ width_of column.signal → value ≤ most → Ok (Some value) ≡ cell_of column field
unfolding cell_of
quick_cell column [] value most is most_is below = absurd (no_number value is)
quick_cell column (byte ∷ field) value most is most_is below =
    sym (ap (value_or_fault column) (number_fits (width_of column.signal) (byte ∷ field) value is (omega arith)))

-- the column at an index, as its cells are read
pub cell_at_index : (cells : List Cell) (placed : List PlacedColumn) (i : ℕ) (cell : Cell) (one : PlacedColumn)
    → map (λ cell. cell.placed) cells ≡ placed → i < length cells
    → (get_or cells i cell).placed ≡ get_or placed i one
cell_at_index cells placed i cell one same within =
    sym (get_or-map (λ cell. cell.placed) cells i cell one within) ∙ ap (λ list. get_or list i one) same

-- ---- one cell after the other

as_many : (known : PortColumns) → length known.cells.items ≡ length known.placed.items
as_many known = sym (length-map known.cells.items (λ cell. cell.placed)) ∙ ap length known.same

is_placed : (known : PortColumns) (i : ℕ) (cell : Cell) → i < length known.cells.items
    → cell ≡ get_or known.cells.items i cell → cell.placed ≡ get_or known.placed.items i cell.placed
is_placed known i cell within is =
    ap (λ cell. cell.placed) is ∙ cell_at_index known.cells.items known.placed.items i cell cell.placed known.same within

pub cell-next : (known : PortColumns) (fields : List (List ℕ)) (i : ℕ) (cell : Cell) (front : Shown)
    {field : List ℕ} {now : Shown} {wanted : Result Shown RowFault} → i < length known.cells.items
    → cell ≡ get_or known.cells.items i cell → Some field ≡ slice_get fields cell.placed.place
    → with_front front (field_shown (Some cell.placed.column) field) ≡ Ok now
    → with_front front (cells_at (drop i known.placed.items) fields) ≡ wanted
    → with_front now (cells_at (drop (i + 1) known.placed.items) fields) ≡ wanted
cell-next known fields i cell front {field = field} within is found shown so_far =
    let here = is_placed known i cell within is in
    cells-next known.placed.items fields i cell.placed front (omega (arith, as_many known))
    (found ∙ ap (λ (one : PlacedColumn). slice_get fields one.place) here)
    (ap (λ (one : PlacedColumn). with_front front (field_shown (Some one.column) field)) (sym here) ∙ shown) so_far

pub cell-fail : (known : PortColumns) (fields : List (List ℕ)) (i : ℕ) (cell : Cell) (front : Shown)
    {field : List ℕ} {fault : RowFault} {wanted : Result Shown RowFault} → i < length known.cells.items
    → cell ≡ get_or known.cells.items i cell → Some field ≡ slice_get fields cell.placed.place
    → field_shown (Some cell.placed.column) field ≡ Err fault
    → with_front front (cells_at (drop i known.placed.items) fields) ≡ wanted → Err fault ≡ wanted
cell-fail known fields i cell front {field = field} within is found shown so_far =
    let here = is_placed known i cell within is in
    cells-fail known.placed.items fields i cell.placed front (omega (arith, as_many known))
    (found ∙ ap (λ (one : PlacedColumn). slice_get fields one.place) here)
    (ap (λ (one : PlacedColumn). field_shown (Some one.column) field) (sym here) ∙ shown) so_far

-- no field stands at the place
pub cell-skip : (known : PortColumns) (fields : List (List ℕ)) (i : ℕ) (cell : Cell) (front : Shown)
    {wanted : Result Shown RowFault} → i < length known.cells.items → cell ≡ get_or known.cells.items i cell
    → None ≡ slice_get fields cell.placed.place
    → with_front front (cells_at (drop i known.placed.items) fields) ≡ wanted
    → with_front front (cells_at (drop (i + 1) known.placed.items) fields) ≡ wanted
cell-skip known fields i cell front within is none so_far =
    let here = is_placed known i cell within is in
    cells-skip known.placed.items fields i cell.placed front (omega (arith, as_many known))
    (none ∙ ap (λ (one : PlacedColumn). slice_get fields one.place) here) so_far

pub cell-end : (known : PortColumns) (fields : List (List ℕ)) (i : ℕ) (front : Shown) (wanted : Result Shown RowFault)
    → length known.cells.items ≤ i → with_front front (cells_at (drop i known.placed.items) fields) ≡ wanted
    → Ok front ≡ wanted
cell-end known fields i front wanted past so_far =
    cells-end known.placed.items fields i front wanted (omega (arith, as_many known)) so_far
