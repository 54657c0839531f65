-- What the rows of a trace show are words.
use Rattle.std.proofs.Common.{◌≡◌, ◌≤◌, ℕ, ◌^◌, ◌<◌, ◌==◌, Bool, true, false, not, List, [], ◌∷◌, ◌++◌, length, map}
use Rattle.std.proofs.Common.{nat_lt}
use Rattle.std.proofs.Common.{Option, Some, None, Ok, Err, Result, if◌then◌else◌, refl, ap, arith}
use Rattle.std.specs.Prelude.{IfOk, IfSome}
use Rattle.std.specs.Option.{option_map_or, option_or}
use Rattle.std.proofs.lemmas.Bool.Decides.{nat_tests}
use Rattle.std.proofs.lemmas.Nat.{pow_below}
use Rattle.hart_words.specs.declared.signal.Signal.{Signal}
use Rattle.hart_words.specs.declared.signal.SignalEntry.{SignalEntry}
use Rattle.hart_words.specs.declared.numbers.NumberFault.TheVariants as number
use Rattle.hart_words.specs.Numbers.{result_within, number_of, number_within}
use Rattle.hart_words.specs.Results.{◌>>=◌, ◌>>◌, refuse_if}
use Rattle.hart_words.specs.Signals.{Shown, index_of, signal_entry_of, width_of}
use Rattle.hart_words.proofs.SignalTable.{width_in}
use Rattle.csv_line.specs.Fields.{fields_of_line, has_return_in}
use Rattle.rvfi_rows.specs.declared.column.Column.{Column}
use Rattle.rvfi_rows.specs.Columns.{ColumnList, TraceColumns, port_columns, port_numbers}
use Rattle.rvfi_rows.specs.declared.fault.RowFault.{RowFault}
use Rattle.rvfi_rows.specs.Rows.{RowReading, alone, cell_of, cells_of, field_shown, hart_of, is_invalid, is_needed}
use Rattle.rvfi_rows.specs.Rows.{row_at_port, row_from, row_of_fields, row_of_line, row_of_present, rows_of}
use Rattle.rvfi_rows.specs.Rows.{rows_of_line, shown_then, valid_of, value_or_fault}
use Rattle.boundary_guess.proofs.Compared.{ShowsWords}

-- a value, where there is one, is a word
abbrev IsWord : Option ℕ → Type 0
IsWord value = IfSome value (λ v. v < 2 ^ 64)

width_by : (signal : Signal) (entry : Option SignalEntry) → entry ≡ signal_entry_of signal
    → option_map_or (λ entry. entry.width) entry 64 ≤ 64
width_by signal None is = omega arith
width_by signal (Some entry) is = width_in signal entry is

width_fits : (signal : Signal) → width_of signal ≤ 64
unfolding width_of
width_fits signal = width_by signal (signal_entry_of signal) refl

power_by : (width : ℕ) (test : Bool) → width ≤ 64 → nat_lt width 64 ≡ test → 2 ^ width ≤ 2 ^ 64
power_by width true fits is =
    let less : 2 ^ width < 2 ^ 64 = pow_below width 64 (grind (arith, nat_tests, is)) in omega (arith, less)
power_by width false fits is =
    let same : width ≡ 64 = grind (arith, nat_tests, is, fits) in
    let whole : 2 ^ width ≡ 2 ^ 64 = ap (λ w. 2 ^ w) same in
    omega (arith, whole)

value_by : (column : Column) (value width : ℕ) (test : Bool) → width ≤ 64 → nat_lt value (2 ^ width) ≡ test
    → IfOk (value_or_fault column (if test then Ok value else Err number.TooWide)) IsWord
value_by column value width true fits is =
    let less : value < 2 ^ width = grind (arith, nat_tests, is) in
    let most = power_by width (nat_lt width 64) fits refl in
    omega (arith, less, most)
value_by column value width false fits is = tt

number_by : (column : Column) (width : ℕ) (value : Option ℕ) → width ≤ 64
    → IfOk (value_or_fault column (result_within width value)) IsWord
number_by column width None fits = tt
number_by column width (Some value) fits = value_by column value width (nat_lt value (2 ^ width)) fits refl

empty_by : (needed : Bool) (fault : RowFault) → IfOk (if needed then Err fault else Ok None) IsWord
empty_by true fault = tt
empty_by false fault = tt

cell_words : (column : Column) (field : List ℕ) → IfOk (cell_of column field) IsWord
unfolding cell_of number_within
cell_words column [] = empty_by (is_needed column.signal) _
cell_words column (byte ∷ field) =
    number_by column (width_of column.signal) (number_of (byte ∷ field)) (width_fits column.signal)

alone_by : (test : Bool) (value : Option ℕ) → IsWord value → IsWord (if test then value else None)
alone_by true value word = word
alone_by false value word = tt

field_by : (signal : Signal) (cell : Result (Option ℕ) RowFault) → IfOk cell IsWord
    → IfOk (cell >>= λ value. Ok (alone signal value)) ShowsWords
field_by signal (Err fault) words = tt
field_by signal (Ok value) words = λ other. alone_by (index_of other == index_of signal) value words

field_words : (column : Option Column) (field : List ℕ) → IfOk (field_shown column field) ShowsWords
unfolding field_shown
field_words None field = λ signal. tt
field_words (Some column) field = field_by column.signal (cell_of column field) (cell_words column field)

or_words : (later first : Option ℕ) → IsWord later → IsWord first → IsWord (option_or later first)
or_words None first l f = f
or_words (Some value) first l f = l

then_words : (first others : Result Shown RowFault) → IfOk first ShowsWords → IfOk others ShowsWords
    → IfOk (first >>= λ one. (others >>= λ more. Ok (shown_then one more))) ShowsWords
then_words (Err fault) others f o = tt
then_words (Ok one) (Err fault) f o = tt
then_words (Ok one) (Ok more) f o = λ signal. or_words (more signal) (one signal) (o signal) (f signal)

cells_words : (columns : ColumnList) (fields : List (List ℕ)) → IfOk (cells_of columns fields) ShowsWords
unfolding cells_of
cells_words [] fields = λ signal. tt
cells_words (column ∷ columns) [] = λ signal. tt
cells_words (column ∷ columns) (field ∷ fields) =
    then_words (field_shown column field) (cells_of columns fields) (field_words column field)
    (cells_words columns fields)

-- what a row reads as shows words, where it is valid
abbrev pub ReadsWords : RowReading → Type 0
ReadsWords reading = IfOk reading (λ row. IfSome row ShowsWords)

shown_words : (cells : Result Shown RowFault) → IfOk cells ShowsWords → ReadsWords (cells >>= λ row. Ok (Some row))
shown_words (Err fault) words = tt
shown_words (Ok shown) words = words

invalid_by : (invalid : Bool) (cells : Result Shown RowFault) → IfOk cells ShowsWords
    → ReadsWords (if invalid then Ok None else (cells >>= λ row. Ok (Some row)))
invalid_by true cells words = tt
invalid_by false cells words = shown_words cells words

valid_by : (valid : Result (Option ℕ) RowFault) (cells : Result Shown RowFault) → IfOk cells ShowsWords
    → ReadsWords (valid >>= λ value. (if is_invalid value then Ok None else (cells >>= λ row. Ok (Some row))))
valid_by (Err fault) cells words = tt
valid_by (Ok value) cells words = invalid_by (is_invalid value) cells words

from_words : (columns : ColumnList) (fields : List (List ℕ)) → ReadsWords (row_from columns fields)
unfolding row_from
from_words columns fields = valid_by (valid_of columns fields) (cells_of columns fields) (cells_words columns fields)

fields_by : (has_return many : Bool) (columns : ColumnList) (fields : List (List ℕ)) (one other : RowFault)
    → ReadsWords (refuse_if has_return one >> (refuse_if many other >> row_from columns fields))
fields_by true many columns fields one other = tt
fields_by false true columns fields one other = tt
fields_by false false columns fields one other = from_words columns fields

port_words : (columns : ColumnList) (has_return : Bool) (fields : List (List ℕ)) (port : ℕ)
    → ReadsWords (row_at_port columns has_return fields port)
unfolding row_at_port
port_words columns has_return fields port =
    fields_by has_return (not (length fields == length columns)) (port_columns port columns) fields _ _

there_by : (is_there : Bool) (shown : Shown) (fault : RowFault) → ShowsWords shown
    → ReadsWords (if is_there then Ok (Some shown) else Err fault)
there_by true shown fault words = words
there_by false shown fault words = tt

present_words : (harts : ℕ) (reading : RowReading) → ReadsWords reading
    → ReadsWords (reading >>= λ row. row_of_present harts row)
present_words harts (Err fault) words = tt
present_words harts (Ok None) words = tt
present_words harts (Ok (Some shown)) words = there_by (nat_lt (hart_of shown) harts) shown _ words

row_words : (columns : TraceColumns) (line : List ℕ) (port : ℕ) → ReadsWords (row_of_line columns line port)
unfolding row_of_line row_of_fields
row_words columns line port =
    present_words columns.harts
    (row_at_port columns.named (has_return_in line) (fields_of_line line) port)
    (port_words columns.named (has_return_in line) (fields_of_line line) port)

-- so do all rows
unfoldable pub AllReadWords : List RowReading → Type 0
AllReadWords [] = Unit {0}
AllReadWords (reading ∷ rows) = ReadsWords reading × AllReadWords rows

all_append : (rows more : List RowReading) → AllReadWords rows → AllReadWords more → AllReadWords (rows ++ more)
unfolding AllReadWords
all_append [] more words others = others
all_append (reading ∷ rows) more words others = (words.0, all_append rows more words.1 others)

-- those of a line's ports
line_words : (columns : TraceColumns) (line : List ℕ) (ports : List ℕ)
    → AllReadWords (map (row_of_line columns line) ports)
unfolding AllReadWords
line_words columns line [] = tt
line_words columns line (port ∷ ports) = (row_words columns line port, line_words columns line ports)

pub rows_words : (columns : TraceColumns) (lines : List (List ℕ)) → AllReadWords (rows_of columns lines)
unfolding AllReadWords rows_of
rows_words columns [] = tt
rows_words columns (line ∷ lines) =
    all_append (rows_of_line columns line) (rows_of columns lines)
    (line_words columns line (port_numbers columns.named)) (rows_words columns lines)
