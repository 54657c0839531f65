-- The rows of a made trace: AUIPC, and then turns of five instructions. From the Unprivileged ISA's chapter "RV64I Base
-- Integer Instruction Set".
use Rattle.std.specs.Prelude.{ℕ, zero, suc, ◌+◌, ◌-◌, ◌*◌, ◌/◌, ◌%◌, ◌^◌, ◌==◌, if◌then◌else◌, bit_xor}
use Rattle.trace_maker.specs.declared.made_row.MadeRow.{MadeRow}

-- the immediate of ADDI
abbrev pub immediate_of : ℕ → ℕ
immediate_of number = number % 2048

-- ADDI x1, x1, with that immediate
abbrev pub addi_of : ℕ → ℕ
addi_of number = 0x00008093 + immediate_of number * 2 ^ 20

-- x1 after a turn: each turn adds the immediate
unfoldable pub x1_after : ℕ → ℕ → ℕ
x1_after number turn = turn * immediate_of number % 2 ^ 64

-- x3 after a turn: the exclusive or of x1 after each turn up to it
unfoldable pub x3_after : ℕ → ℕ → ℕ
x3_after number zero = 0
x3_after number (suc turn) = bit_xor (x3_after number turn) (x1_after number (suc turn))

-- the row of an instruction that goes on to the next one, writes no register, and has no access to memory
abbrev pub bare_row : (order insn pc_rdata : ℕ) → MadeRow
bare_row order insn pc_rdata = record {
  order = order;
  insn = insn;
  trap = 0;
  pc_rdata = pc_rdata;
  pc_wdata = pc_rdata + 4;
  rd_addr = 0;
  rd_wdata = 0;
  mem_addr = 0;
  mem_rmask = 0;
  mem_wmask = 0;
  mem_rdata = 0;
  mem_wdata = 0;
  mem_paddr = 0;
}

-- AUIPC x2, 1
abbrev pub first_row : MadeRow
first_row = record (bare_row 0 0x00001117 0x80000000) { rd_addr = 2; rd_wdata = 0x80001000 }

-- the row at a place of a turn, from 0, by what is in x1 and x3 after the turn
-- ADDI x1, x1; XOR x3, x3, x1; SD x3, 0(x2); LD x4, 0(x2); JAL x0, back to ADDI
unfoldable pub turn_row : (number x1 x3 order place : ℕ) → MadeRow
turn_row number x1 x3 order place =
    if place == 0 then record (bare_row order (addi_of number) 0x80000004) { rd_addr = 1; rd_wdata = x1 }
    else if place == 1 then record (bare_row order 0x0011c1b3 0x80000008) { rd_addr = 3; rd_wdata = x3 }
    else if place == 2 then
    record (bare_row order 0x00313023 0x8000000c) {
      mem_addr = 0x80001000;
      mem_wmask = 0xff;
      mem_wdata = x3;
      mem_paddr = 0x80001000;
    }
    else if place == 3 then
    record (bare_row order 0x00013203 0x80000010) {
      rd_addr = 4;
      rd_wdata = x3;
      mem_addr = 0x80001000;
      mem_rmask = 0xff;
      mem_rdata = x3;
      mem_paddr = 0x80001000;
    }
    else record (bare_row order 0xff1ff06f 0x80000014) { pc_wdata = 0x80000004 }

-- the turn of a row, from 1, and its place in the turn; row 0 comes before them
abbrev pub turn_of : ℕ → ℕ
turn_of order = (order - 1) / 5 + 1

abbrev pub turn_place : ℕ → ℕ
turn_place order = (order - 1) % 5

-- the row of a number
unfoldable pub made_row : (number order : ℕ) → MadeRow
made_row number order =
    if order == 0 then first_row
    else turn_row number (x1_after number (turn_of order)) (x3_after number (turn_of order)) order (turn_place order)
