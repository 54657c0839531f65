-- What the lines of made rows read as.
use Rattle.std.proofs.Common.{◌≡◌, ℕ, zero, suc, ◌+◌, ◌%◌, ◌^◌, ◌<◌, ◌≤◌, ◌==◌, Bool, true, false, if◌then◌else◌, List}
use Rattle.std.proofs.Common.{[], ◌∷◌, ◌++◌, map, Some, Ok, refl, ap, ◌∙◌, arith, ne_eqb}
use Rattle.std.specs.Prelude.{decimal, nat_lt}
use Rattle.std.specs.Int.{w8, w32, w64}
use Rattle.std.specs.List.{range_with_len}
use Rattle.std.proofs.lemmas.Bool.{lt-ltb}
use Rattle.hart_words.specs.Numbers.{number_within}
use Rattle.hart_words.specs.Signals.{Shown, index_of, signal_entry_of, width_of}
use Rattle.hart_words.specs.declared.signal.Signal.{Signal}
use Rattle.hart_words.specs.declared.signal.Signal.TheVariants.{Order, PcRdata, Trap, Insn, RdAddr, RdWdata, PcWdata}
use Rattle.hart_words.specs.declared.signal.Signal.TheVariants.{MemAddr, MemRmask, MemRdata, MemWmask, MemWdata}
use Rattle.hart_words.specs.declared.signal.Signal.TheVariants.{MemPaddr, Csr}
use Rattle.csv_line.specs.Fields.{fields_of_line}
use Rattle.rvfi_rows.specs.Columns.{ColumnList, highest_port, port_numbers}
use Rattle.rvfi_rows.specs.Rows.{RowReading, alone, cell_of, cells_of, field_shown, nothing, row_at_port, row_from}
use Rattle.rvfi_rows.specs.Rows.{row_of_fields, row_of_line, rows_of, shown_then, valid_of}
use Rattle.trace_maker.specs.declared.made_row.MadeRow.{MadeRow}
use Rattle.trace_maker.specs.Rows.{first_row, made_row, turn_place, turn_of, turn_row, x1_after, x3_after}
use Rattle.trace_maker.specs.Texts.{fields_of, hexadecimal}
use Rattle.made_runs.specs.Lines.{made_lines, row_line}
use Rattle.made_runs.specs.Shows.{made_columns, made_readings, only_column, shown_of, trace_columns}
use Rattle.made_runs.proofs.Judged.{x1_small, x3_small}
use Rattle.made_runs.proofs.Numerals.{IsNumeralOf, decimal_is, hexadecimal_is}
use Rattle.made_runs.proofs.PlainLines.{AreFields, fields_back, line_bytes, no_return}

-- what a row shows of memory fits its columns
pub record MemoryFits (row : MadeRow) : Type 0 where
  pub addr : row.mem_addr < 2 ^ 64
  pub rmask : row.mem_rmask < 2 ^ 8
  pub wmask : row.mem_wmask < 2 ^ 8
  pub rdata : row.mem_rdata < 2 ^ 64
  pub wdata : row.mem_wdata < 2 ^ 64
  pub paddr : row.mem_paddr < 2 ^ 64

-- all values of a row fit their columns
pub record RowFits (row : MadeRow) : Type 0 where
  pub order : row.order < 2 ^ 64
  pub insn : row.insn < 2 ^ 32
  pub trap : row.trap < 2
  pub pc_rdata : row.pc_rdata < 2 ^ 64
  pub pc_wdata : row.pc_wdata < 2 ^ 64
  pub rd_addr : row.rd_addr < 10
  pub rd_wdata : row.rd_wdata < 2 ^ 64
  pub memory : MemoryFits row

fits_if : (test : Bool) (one other : MadeRow) → RowFits one → RowFits other → RowFits (if test then one else other)
fits_if true one other first second = first
fits_if false one other first second = second

memory_fits : {row : MadeRow} → row.mem_addr < 2 ^ 64 → row.mem_rmask < 2 ^ 8 → row.mem_wmask < 2 ^ 8
    → row.mem_rdata < 2 ^ 64 → row.mem_wdata < 2 ^ 64 → row.mem_paddr < 2 ^ 64 → MemoryFits row
memory_fits addr rmask wmask rdata wdata paddr =
    record { addr = addr; rmask = rmask; wmask = wmask; rdata = rdata; wdata = wdata; paddr = paddr }

fits : {row : MadeRow} → row.order < 2 ^ 64 → row.insn < 2 ^ 32 → row.trap < 2 → row.pc_rdata < 2 ^ 64
    → row.pc_wdata < 2 ^ 64 → row.rd_addr < 10 → row.rd_wdata < 2 ^ 64 → MemoryFits row → RowFits row
fits order insn trap pc_rdata pc_wdata rd_addr rd_wdata memory =
    record {
      order = order;
      insn = insn;
      trap = trap;
      pc_rdata = pc_rdata;
      pc_wdata = pc_wdata;
      rd_addr = rd_addr;
      rd_wdata = rd_wdata;
      memory = memory;
    }

turn_fits : (number x1 x3 order place : ℕ) → x1 < 2 ^ 64 → x3 < 2 ^ 64 → order < 2 ^ 64
    → RowFits (turn_row number x1 x3 order place)
unfolding turn_row
turn_fits number x1 x3 order place one three small =
    let addi : number % 2048 < 2048 = omega arith in
    fits_if (place == 0) _ _
    (fits (omega arith) (omega arith) (omega arith) (omega arith) (omega arith) (omega arith) (omega arith)
    (memory_fits (omega arith) (omega arith) (omega arith) (omega arith) (omega arith) (omega arith)))
    (fits_if (place == 1) _ _
    (fits (omega arith) (omega arith) (omega arith) (omega arith) (omega arith) (omega arith) (omega arith)
    (memory_fits (omega arith) (omega arith) (omega arith) (omega arith) (omega arith) (omega arith)))
    (fits_if (place == 2) _ _
    (fits (omega arith) (omega arith) (omega arith) (omega arith) (omega arith) (omega arith) (omega arith)
    (memory_fits (omega arith) (omega arith) (omega arith) (omega arith) (omega arith) (omega arith)))
    (fits_if (place == 3) _ _
    (fits (omega arith) (omega arith) (omega arith) (omega arith) (omega arith) (omega arith) (omega arith)
    (memory_fits (omega arith) (omega arith) (omega arith) (omega arith) (omega arith) (omega arith)))
    (fits (omega arith) (omega arith) (omega arith) (omega arith) (omega arith) (omega arith) (omega arith)
    (memory_fits (omega arith) (omega arith) (omega arith) (omega arith) (omega arith) (omega arith))))))

pub row_fits : (number order : ℕ) → order < 2 ^ 64 → RowFits (made_row number order)
unfolding made_row
row_fits number order small =
    fits_if (order == 0) first_row _
    (fits (omega arith) (omega arith) (omega arith) (omega arith) (omega arith) (omega arith) (omega arith)
    (memory_fits (omega arith) (omega arith) (omega arith) (omega arith) (omega arith) (omega arith)))
    (turn_fits number (x1_after number (turn_of order)) (x3_after number (turn_of order)) order (turn_place order)
    (x1_small number (turn_of order)) (x3_small number (turn_of order)) small)

-- what one field shows
cell_shown : (signal : Signal) (field : List ℕ) (value most : ℕ) → IsNumeralOf field value most
    → value < 2 ^ width_of signal → field_shown (only_column signal) field ≡ Ok (alone signal (Some value))
unfolding field_shown cell_of number_within
cell_shown signal [] value most is small = absurd (omega (arith, is.is_field.nonempty))
cell_shown signal (byte ∷ field) value most is small =
    let low : nat_lt value (2 ^ width_of signal) ≡ true = lt-ltb value (2 ^ width_of signal) small in
    rw (is.reads, low) refl

cells_more : (signal : Signal) (columns : ColumnList) (field : List ℕ) (fields : List (List ℕ)) (value : ℕ)
    (shown : Shown) → field_shown (only_column signal) field ≡ Ok (alone signal (Some value))
    → cells_of columns fields ≡ Ok shown
    → cells_of (only_column signal ∷ columns) (field ∷ fields) ≡ Ok (shown_then (alone signal (Some value)) shown)
unfolding cells_of
cells_more signal columns field fields value shown here more = rw (here, more) refl

cells_none : cells_of [] [] ≡ Ok nothing
unfolding cells_of
cells_none = refl

-- the fields of a row
pub record AreRowFields (row : MadeRow) : Type 0 where
  pub order : IsNumeralOf (decimal row.order) row.order 20
  pub insn : IsNumeralOf (hexadecimal w32 row.insn) row.insn 10
  pub trap : IsNumeralOf (decimal row.trap) row.trap 1
  pub pc_rdata : IsNumeralOf (hexadecimal w64 row.pc_rdata) row.pc_rdata 18
  pub pc_wdata : IsNumeralOf (hexadecimal w64 row.pc_wdata) row.pc_wdata 18
  pub rd_addr : IsNumeralOf (decimal row.rd_addr) row.rd_addr 1
  pub rd_wdata : IsNumeralOf (hexadecimal w64 row.rd_wdata) row.rd_wdata 18
  pub mem_addr : IsNumeralOf (hexadecimal w64 row.mem_addr) row.mem_addr 18
  pub mem_rmask : IsNumeralOf (hexadecimal w8 row.mem_rmask) row.mem_rmask 4
  pub mem_wmask : IsNumeralOf (hexadecimal w8 row.mem_wmask) row.mem_wmask 4
  pub mem_rdata : IsNumeralOf (hexadecimal w64 row.mem_rdata) row.mem_rdata 18
  pub mem_wdata : IsNumeralOf (hexadecimal w64 row.mem_wdata) row.mem_wdata 18
  pub mem_paddr : IsNumeralOf (hexadecimal w64 row.mem_paddr) row.mem_paddr 18

hex64 : (n : ℕ) → n < 2 ^ 64 → IsNumeralOf (hexadecimal w64 n) n 18
hex64 n small = hexadecimal_is 7 n small

pub row_fields : (row : MadeRow) → RowFits row → AreRowFields row
row_fields row is = record {
  order = decimal_is 20 row.order (omega arith) (omega (arith, is.order)) is.order;
  insn = hexadecimal_is 3 row.insn is.insn;
  trap = decimal_is 1 row.trap (omega arith) (omega (arith, is.trap)) (omega (arith, is.trap));
  pc_rdata = hex64 row.pc_rdata is.pc_rdata;
  pc_wdata = hex64 row.pc_wdata is.pc_wdata;
  rd_addr = decimal_is 1 row.rd_addr (omega arith) (omega (arith, is.rd_addr)) (omega (arith, is.rd_addr));
  rd_wdata = hex64 row.rd_wdata is.rd_wdata;
  mem_addr = hex64 row.mem_addr is.memory.addr;
  mem_rmask = hexadecimal_is 0 row.mem_rmask is.memory.rmask;
  mem_wmask = hexadecimal_is 0 row.mem_wmask is.memory.wmask;
  mem_rdata = hex64 row.mem_rdata is.memory.rdata;
  mem_wdata = hex64 row.mem_wdata is.memory.wdata;
  mem_paddr = hex64 row.mem_paddr is.memory.paddr;
}

-- all of them, as one list
abbrev pub others_of : MadeRow → List (List ℕ)
others_of row =
    hexadecimal w32 row.insn ∷ decimal row.trap ∷ hexadecimal w64 row.pc_rdata ∷ hexadecimal w64 row.pc_wdata
    ∷ decimal row.rd_addr ∷ hexadecimal w64 row.rd_wdata
    ∷ hexadecimal w64 row.mem_addr ∷ hexadecimal w8 row.mem_rmask ∷ hexadecimal w8 row.mem_wmask
    ∷ hexadecimal w64 row.mem_rdata ∷ hexadecimal w64 row.mem_wdata ∷ hexadecimal w64 row.mem_paddr ∷ []

pub others_are : (row : MadeRow) → AreRowFields row → AreFields (others_of row)
others_are row are = (
  are.insn.is_field,
  (
    are.trap.is_field,
    (
      are.pc_rdata.is_field,
      (
        are.pc_wdata.is_field,
        (
          are.rd_addr.is_field,
          (
            are.rd_wdata.is_field,
            (
              are.mem_addr.is_field,
              (
                are.mem_rmask.is_field,
                (
                  are.mem_wmask.is_field,
                  (are.mem_rdata.is_field, (are.mem_wdata.is_field, (are.mem_paddr.is_field, tt))),
                ),
              ),
            ),
          ),
        ),
      ),
    ),
  ),
)

-- what the fields show together
abbrev cells_shown : MadeRow → Shown
cells_shown row =
    shown_then (alone Order (Some row.order))
    (shown_then (alone Insn (Some row.insn))
    (shown_then (alone Trap (Some row.trap))
    (shown_then (alone PcRdata (Some row.pc_rdata))
    (shown_then (alone PcWdata (Some row.pc_wdata))
    (shown_then (alone RdAddr (Some row.rd_addr)) (shown_then (alone RdWdata (Some row.rd_wdata))
    (shown_then (alone MemAddr (Some row.mem_addr))
    (shown_then (alone MemRmask (Some row.mem_rmask))
    (shown_then (alone MemWmask (Some row.mem_wmask))
    (shown_then (alone MemRdata (Some row.mem_rdata))
    (shown_then (alone MemWdata (Some row.mem_wdata))
    (shown_then (alone MemPaddr (Some row.mem_paddr)) nothing))))))))))))

shown_at : (row : MadeRow) (signal : Signal) → cells_shown row signal ≡ shown_of row signal
shown_at row (Csr csr side) =
    let far : (k : ℕ) → k < 22 → (index_of (Csr csr side) == k) ≡ false =
    λ k small. ne_eqb (index_of (Csr csr side)) k (omega (arith, small)) in
    rw (
      far 1 (omega arith),
      far 7 (omega arith),
      far 6 (omega arith),
      far 3 (omega arith),
      far 14 (omega arith),
      far 12 (omega arith),
      far 13 (omega arith),
      far 15 (omega arith),
      far 16 (omega arith),
      far 18 (omega arith),
      far 17 (omega arith),
      far 19 (omega arith),
      far 20 (omega arith),
    ) refl
shown_at row signal = refl

shown_is : (row : MadeRow) → cells_shown row ≡ shown_of row
shown_is row = λ i. λ signal. shown_at row signal i

row_cells : (row : MadeRow) → RowFits row → AreRowFields row
    → cells_of made_columns (fields_of row) ≡ Ok (cells_shown row)
unfolding width_of signal_entry_of
row_cells row is are =
    cells_more Order _ _ _ row.order _ (cell_shown Order (decimal row.order) row.order 20 are.order is.order)
    (cells_more Insn _ _ _ row.insn _ (cell_shown Insn (hexadecimal w32 row.insn) row.insn 10 are.insn is.insn)
    (cells_more Trap _ _ _ row.trap _ (cell_shown Trap (decimal row.trap) row.trap 1 are.trap is.trap)
    (cells_more PcRdata _ _ _ row.pc_rdata _
    (cell_shown PcRdata (hexadecimal w64 row.pc_rdata) row.pc_rdata 18 are.pc_rdata is.pc_rdata)
    (cells_more PcWdata _ _ _ row.pc_wdata _
    (cell_shown PcWdata (hexadecimal w64 row.pc_wdata) row.pc_wdata 18 are.pc_wdata is.pc_wdata)
    (cells_more RdAddr _ _ _ row.rd_addr _
    (cell_shown RdAddr (decimal row.rd_addr) row.rd_addr 1 are.rd_addr (omega (arith, is.rd_addr)))
    (cells_more RdWdata _ _ _ row.rd_wdata _
    (cell_shown RdWdata (hexadecimal w64 row.rd_wdata) row.rd_wdata 18 are.rd_wdata is.rd_wdata)
    (cells_more MemAddr _ _ _ row.mem_addr _
    (cell_shown MemAddr (hexadecimal w64 row.mem_addr) row.mem_addr 18 are.mem_addr is.memory.addr)
    (cells_more MemRmask _ _ _ row.mem_rmask _
    (cell_shown MemRmask (hexadecimal w8 row.mem_rmask) row.mem_rmask 4 are.mem_rmask is.memory.rmask)
    (cells_more MemWmask _ _ _ row.mem_wmask _
    (cell_shown MemWmask (hexadecimal w8 row.mem_wmask) row.mem_wmask 4 are.mem_wmask is.memory.wmask)
    (cells_more MemRdata _ _ _ row.mem_rdata _
    (cell_shown MemRdata (hexadecimal w64 row.mem_rdata) row.mem_rdata 18 are.mem_rdata is.memory.rdata)
    (cells_more MemWdata _ _ _ row.mem_wdata _
    (cell_shown MemWdata (hexadecimal w64 row.mem_wdata) row.mem_wdata 18 are.mem_wdata is.memory.wdata)
    (cells_more MemPaddr _ _ _ row.mem_paddr _
    (cell_shown MemPaddr (hexadecimal w64 row.mem_paddr) row.mem_paddr 18 are.mem_paddr is.memory.paddr)
    cells_none))))))))))))

-- the row that the fields show
row_shown : (row : MadeRow) → cells_of made_columns (fields_of row) ≡ Ok (shown_of row)
    → row_of_fields trace_columns false (fields_of row) 0 ≡ Ok (Some (shown_of row))
unfolding row_of_fields row_at_port row_from valid_of
row_shown row cells = rw cells refl

row_back : (row : MadeRow) → RowFits row → row_of_line trace_columns (row_line row) 0 ≡ Ok (Some (shown_of row))
unfolding row_of_line
row_back row is =
    let are = row_fields row is in
    let others = others_are row are in
    ap (λ (return : Bool). row_of_fields trace_columns return (fields_of_line (row_line row)) 0)
    (no_return (row_line row) (line_bytes (decimal row.order) (others_of row) are.order.is_field others))
    ∙ ap (λ (fields : List (List ℕ)). row_of_fields trace_columns false fields 0)
    (fields_back (decimal row.order) (others_of row) are.order.is_field others)
    ∙ row_shown row (row_cells row is are ∙ ap (λ (shown : Shown). Ok shown) (shown_is row))

-- the only row of a line is that of port 0
only_port : port_numbers made_columns ≡ 0 ∷ []
unfolding highest_port
only_port = refl

rows_from : (number order rows : ℕ) → order + rows ≤ 2 ^ 64
    → rows_of trace_columns (map row_line (map (made_row number) (range_with_len order rows)))
    ≡ map (λ row. Ok (Some (shown_of row))) (map (made_row number) (range_with_len order rows))
unfolding rows_of
rows_from number order zero small = refl
rows_from number order (suc rows) small =
    let line = row_line (made_row number order) in
    let rest = rows_of trace_columns (map row_line (map (made_row number) (range_with_len (order + 1) rows))) in
    ap (λ ports. map (row_of_line trace_columns line) ports ++ rest) only_port
    ∙ ap (λ (reading : RowReading). reading ∷ rest)
    (row_back (made_row number order) (row_fits number order (omega arith)))
    ∙ ap (λ (readings : List RowReading). Ok (Some (shown_of (made_row number order))) ∷ readings)
    (rows_from number (order + 1) rows (omega arith))

pub rows_back : (number rows : ℕ) → rows ≤ 2 ^ 64
    → rows_of trace_columns (made_lines number rows) ≡ made_readings number rows
rows_back number rows small = rows_from number 0 rows (omega arith)
