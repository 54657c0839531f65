-- What the lines of made rows read as.
use Rattle.std.specs.Prelude.{ℕ, List, [], ◌∷◌, ◌++◌, codes, map, Option, Some, None, Ok}
use Rattle.hart_words.specs.declared.signal.Signal.{Signal}
use Rattle.hart_words.specs.declared.signal.Signal.TheVariants.{Order, PcRdata, Trap, Insn, RdAddr, RdWdata, PcWdata}
use Rattle.hart_words.specs.declared.signal.Signal.TheVariants.{MemAddr, MemRmask, MemRdata, MemWmask, MemWdata}
use Rattle.hart_words.specs.declared.signal.Signal.TheVariants.{MemPaddr}
use Rattle.hart_words.specs.Signals.{Shown}
use Rattle.rvfi_rows.specs.declared.column.Column.{Column}
use Rattle.rvfi_rows.specs.declared.column.Port.TheVariants.{Zero}
use Rattle.rvfi_rows.specs.Columns.{ColumnList, TraceColumns}
use Rattle.rvfi_rows.specs.Rows.{RowReading}
use Rattle.trace_maker.specs.declared.made_row.MadeRow.{MadeRow}
use Rattle.trace_maker.specs.Texts.{made_rows}

-- a row shows its thirteen values, and nothing more
abbrev pub shown_of : MadeRow → Shown
shown_of row Order = Some row.order
shown_of row Insn = Some row.insn
shown_of row Trap = Some row.trap
shown_of row PcRdata = Some row.pc_rdata
shown_of row PcWdata = Some row.pc_wdata
shown_of row RdAddr = Some row.rd_addr
shown_of row RdWdata = Some row.rd_wdata
shown_of row MemAddr = Some row.mem_addr
shown_of row MemRmask = Some row.mem_rmask
shown_of row MemWmask = Some row.mem_wmask
shown_of row MemRdata = Some row.mem_rdata
shown_of row MemWdata = Some row.mem_wdata
shown_of row MemPaddr = Some row.mem_paddr
shown_of row _ = None

-- what the first rows read as
abbrev pub made_readings : (number rows : ℕ) → List RowReading
made_readings number rows = map (λ row. Ok (Some (shown_of row))) (made_rows number rows)

-- the header of a made trace, less its line feed, and its columns
abbrev pub header_line : List ℕ
header_line =
    codes "order,insn,trap,pc_rdata,pc_wdata,rd_addr,rd_wdata,"
    ++ codes "mem_addr,mem_rmask,mem_wmask,mem_rdata,mem_wdata,mem_paddr"

-- a column of port 0, the only one
abbrev pub only_column : Signal → Option Column
only_column signal = Some (record { signal = signal; port = Zero })

abbrev pub made_columns : ColumnList
made_columns =
    map only_column
    (Order ∷ Insn ∷ Trap ∷ PcRdata ∷ PcWdata ∷ RdAddr ∷ RdWdata
    ∷ MemAddr ∷ MemRmask ∷ MemWmask ∷ MemRdata ∷ MemWdata ∷ MemPaddr ∷ [])

-- the columns of a made trace, which is of one hart
abbrev pub trace_columns : TraceColumns
trace_columns = record { named = made_columns; harts = 1 }
