-- The columns of a trace, as its header names them.
use Rattle.std.specs.Prelude.{ℕ, ◌+◌, ◌-◌, ◌*◌, Bool, false, ◌==◌, not, List, [], ◌∷◌, ◌++◌, length, map, take, drop, max}
use Rattle.std.specs.Prelude.{find, codes, nat_eq, Option, option_map, Some, None, Result, Ok, Err, if◌then◌else◌}
use Rattle.std.specs.List.{list_any, range_with_len, starts_with}
use Rattle.std.specs.Str.{bytes_eq}
use Rattle.hart_words.specs.SignalNames.{name_of}
use Rattle.hart_words.specs.declared.signal.TheConstants.{SIGNALS}
use Rattle.hart_words.specs.declared.signal.Signal.{Signal}
use Rattle.csv_line.specs.Fields.{fields_of_line, has_return_in}
use Rattle.hart_words.specs.Results.{◌>>◌, refuse_if}
use Rattle.rvfi_rows.specs.declared.column.Column.{Column}
use Rattle.rvfi_rows.specs.declared.column.Port.{Port}
use Rattle.rvfi_rows.specs.declared.column.Port.TheVariants.{Zero}
use Rattle.rvfi_rows.specs.declared.column.TheConstants.{NEEDED, PORTS}
use Rattle.rvfi_rows.specs.declared.fault.HeaderFault.{HeaderFault}
use Rattle.rvfi_rows.specs.declared.fault.HeaderFault.TheVariants.{StrayReturn, Twice, NoColumn}
use Rattle.rvfi_rows.specs.declared.fault.HeaderError.{HeaderError}
use Rattle.rvfi_rows.specs.declared.fault.HeaderError.TheVariants as errors
use Rattle.rvfi_rows.specs.Ports.{has_suffix, is_column, port_number}

-- for each field of a header the column that it names, or none
abbrev pub ColumnList : Type 0
ColumnList = List (Option Column)

-- the columns of a trace, and of how many harts it is
pub record TraceColumns : Type 0 where
  pub named : ColumnList
  pub harts : ℕ

-- a name less one `rvfi_` at its front
unfoldable pub less_prefix : List ℕ → List ℕ
less_prefix name = if starts_with nat_eq name (codes "rvfi_") then drop 5 name else name

-- the port that the end of a name says, where it says one
unfoldable pub suffix_port : List ℕ → Option Port
suffix_port name = find (has_suffix name) PORTS

-- the signal of a name; a name that no signal has is passed over
unfoldable pub signal_of_name : List ℕ → Option Signal
signal_of_name name = option_map (λ entry. entry.signal) (find (λ entry. bytes_eq name (name_of entry.signal)) SIGNALS)

-- the column of the signal of a name, at a port
abbrev pub column_at : Port → List ℕ → Option Column
column_at port name = option_map (λ signal. record { signal = signal; port = port }) (signal_of_name name)

-- the column of a name by its port, which is port 0 where the name says none
abbrev pub column_by_port : Option Port → List ℕ → Option Column
column_by_port None name = column_at Zero name
column_by_port (Some port) name = column_at port (take (length name - 2) name)

-- what a field of the header names: a column, or none
unfoldable pub column_of_name : List ℕ → Option Column
column_of_name name = column_by_port (suffix_port name) name

abbrev pub column_of : List ℕ → Option Column
column_of field = column_of_name (less_prefix field)

-- the column stands among these
abbrev pub has_column : Column → ColumnList → Bool
has_column column columns = list_any (is_column column) columns

-- a known column stands among these too
abbrev pub stands_in : ColumnList → Option Column → Bool
stands_in columns None = false
stands_in columns (Some column) = has_column column columns

-- the first column from the left that stood before; `before` is what stands left of the columns
unfoldable pub first_repeated : ColumnList → ColumnList → Option Column
first_repeated before [] = None
first_repeated before (column ∷ columns) =
    if stands_in before column then column else first_repeated (before ++ column ∷ []) columns

-- the port of a known column; another raises no number of ports
abbrev pub port_or_zero : Option Column → ℕ
port_or_zero None = 0
port_or_zero (Some column) = port_number column.port

-- the highest port of a known column, and 0 where none is known
unfoldable pub highest_port : ColumnList → ℕ
highest_port [] = 0
highest_port (column ∷ columns) = max (port_or_zero column) (highest_port columns)

-- how many ports the columns have
abbrev pub ports_of : ColumnList → ℕ
ports_of columns = highest_port columns + 1

-- the numbers of the ports, in order
abbrev pub port_numbers : ColumnList → List ℕ
port_numbers columns = range_with_len 0 (ports_of columns)

-- the first missing column of those that ports need: each needs `insn` and `pc_rdata`
abbrev pub missing_column : ColumnList → Option Column
missing_column columns = find (λ column. not (has_column column columns)) (take (2 * ports_of columns) NEEDED)

-- the column of another port is none
abbrev pub column_if_of : ℕ → Option Column → Option Column
column_if_of port None = None
column_if_of port (Some column) = if port_number column.port == port then Some column else None

-- the columns as the row of a port has them: those of other ports are unknown to it
abbrev pub port_columns : ℕ → ColumnList → ColumnList
port_columns port columns = map (column_if_of port) columns

-- no column stands twice
abbrev pub refuse_twice : Option Column → Result (Unit {0}) HeaderFault
refuse_twice None = Ok tt
refuse_twice (Some column) = Err (Twice column)

-- no column is missing
abbrev pub refuse_missing : Option Column → Result (Unit {0}) HeaderFault
refuse_missing None = Ok tt
refuse_missing (Some column) = Err (NoColumn column)

-- the columns of a header, or its first fault
unfoldable pub header_columns : List ℕ → Result ColumnList HeaderFault
header_columns line = do
  refuse_if (has_return_in line) StrayReturn
  let columns = map column_of (fields_of_line line)
  refuse_twice (first_repeated [] columns)
  refuse_missing (missing_column columns)
  Ok columns

-- the fault that an error stands for
abbrev pub header_fault : HeaderError → Option HeaderFault
header_fault errors.NoMemory = None
header_fault (errors.Fault fault) = Some fault
