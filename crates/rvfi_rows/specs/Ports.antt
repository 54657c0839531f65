-- The ports of a core, and the columns of a trace.
use Rattle.std.specs.Prelude.{ℕ, Bool, false, ◌==◌, ◌&&◌, List, codes, nat_eq, Option, Some, None}
use Rattle.std.specs.List.{ends_with}
use Rattle.hart_words.specs.Signals.{index_of}
use Rattle.rvfi_rows.specs.declared.column.Port.{Port}
use Rattle.rvfi_rows.specs.declared.column.Port.TheVariants.{Zero, One, Two, Three}
use Rattle.rvfi_rows.specs.declared.column.Column.{Column}

-- ports are numbered from 0
abbrev pub port_number : Port → ℕ
port_number Zero = 0
port_number One = 1
port_number Two = 2
port_number Three = 3

-- the end of a name that says its port
abbrev pub port_suffix : Port → List ℕ
port_suffix Zero = codes "_0"
port_suffix One = codes "_1"
port_suffix Two = codes "_2"
port_suffix Three = codes "_3"

-- the name ends so
abbrev pub has_suffix : List ℕ → Port → Bool
has_suffix name port = ends_with nat_eq name (port_suffix port)

-- it is the column, of the same signal and the same port
abbrev pub is_column : Column → Option Column → Bool
is_column column None = false
is_column column (Some other) =
    (index_of other.signal == index_of column.signal) && (port_number other.port == port_number column.port)
