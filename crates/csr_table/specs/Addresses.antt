-- The addresses of the control and status registers, from the Privileged Architecture's chapter "Control
-- and Status Registers (CSRs)".
use Rattle.std.specs.Prelude.{ℕ, ◌/◌, ◌%◌, ◌^◌, Bool, ◌&&◌, nat_le, ◌==◌, List, [], ◌∷◌, ◌++◌, Option, option_map, find}
use Rattle.csr_table.specs.declared.registers.Csr.{Csr}
use Rattle.csr_table.specs.declared.registers.Csr.TheVariants.{Mstatus, Misa, Medeleg, Mideleg, Mie, Mtvec, Mcounteren}
use Rattle.csr_table.specs.declared.registers.Csr.TheVariants.{Menvcfg, Mcountinhibit, Mhpmevent, Mscratch, Mepc}
use Rattle.csr_table.specs.declared.registers.Csr.TheVariants.{Mcause, Mtval, Mip, Pmpcfg0, Pmpcfg2, Pmpaddr, Sstatus}
use Rattle.csr_table.specs.declared.registers.Csr.TheVariants.{Sie, Stvec, Scounteren, Senvcfg, Sscratch, Sepc, Scause}
use Rattle.csr_table.specs.declared.registers.Csr.TheVariants.{Stval, Sip, Satp, Mcycle, Minstret, Mhpmcounter, Cycle}
use Rattle.csr_table.specs.declared.registers.Csr.TheVariants.{Time, Instret, Hpmcounter, Mvendorid, Marchid, Mimpid}
use Rattle.csr_table.specs.declared.registers.Csr.TheVariants.{Mhartid, Mconfigptr}
use Rattle.csr_table.specs.declared.registers.CsrRow.{CsrRow}

-- an entry of the table: the addresses from one to another, and what each of them names
pub record CsrRange : Type 0 where
  pub first : ℕ
  pub last : ℕ
  pub names : ℕ → Csr

-- one address
abbrev pub one : ℕ → Csr → CsrRange
one address csr = record { first = address; last = address; names = λ _. csr }

-- a range, whose registers are numbered by the low five bits of the address
abbrev pub range : ℕ → ℕ → (ℕ → Csr) → CsrRange
range first last numbered =
    record { first = first; last = last; names = λ address. numbered (address % 32) }

-- a range whose registers are numbered by the low four bits of the address
abbrev pub range_of_16 : ℕ → ℕ → (ℕ → Csr) → CsrRange
range_of_16 first last numbered =
    record { first = first; last = last; names = λ address. numbered (address % 16) }

-- the machine's registers
abbrev pub machine_ranges : List CsrRange
machine_ranges =
    one 0x300 Mstatus
    ∷ one 0x301 Misa
    ∷ one 0x302 Medeleg
    ∷ one 0x303 Mideleg
    ∷ one 0x304 Mie
    ∷ one 0x305 Mtvec
    ∷ one 0x306 Mcounteren
    ∷ one 0x30A Menvcfg
    ∷ one 0x320 Mcountinhibit
    ∷ range 0x323 0x33F Mhpmevent
    ∷ one 0x340 Mscratch
    ∷ one 0x341 Mepc
    ∷ one 0x342 Mcause
    ∷ one 0x343 Mtval
    ∷ one 0x344 Mip
    ∷ []

-- the supervisor's registers
abbrev pub supervisor_ranges : List CsrRange
supervisor_ranges =
    one 0x100 Sstatus
    ∷ one 0x104 Sie
    ∷ one 0x105 Stvec
    ∷ one 0x106 Scounteren
    ∷ one 0x10A Senvcfg
    ∷ one 0x140 Sscratch
    ∷ one 0x141 Sepc
    ∷ one 0x142 Scause
    ∷ one 0x143 Stval
    ∷ one 0x144 Sip
    ∷ one 0x180 Satp
    ∷ []

-- physical memory protection of 16 entries; with 64 bits the configurations have even numbers alone
abbrev pub protection_ranges : List CsrRange
protection_ranges =
    one 0x3A0 Pmpcfg0
    ∷ one 0x3A2 Pmpcfg2
    ∷ range_of_16 0x3B0 0x3BF Pmpaddr
    ∷ []

-- the counters, and what tells which core this is
abbrev pub counter_ranges : List CsrRange
counter_ranges =
    one 0xB00 Mcycle
    ∷ one 0xB02 Minstret
    ∷ range 0xB03 0xB1F Mhpmcounter
    ∷ one 0xC00 Cycle
    ∷ one 0xC01 Time
    ∷ one 0xC02 Instret
    ∷ range 0xC03 0xC1F Hpmcounter
    ∷ one 0xF11 Mvendorid
    ∷ one 0xF12 Marchid
    ∷ one 0xF13 Mimpid
    ∷ one 0xF14 Mhartid
    ∷ one 0xF15 Mconfigptr
    ∷ []

-- the whole table
abbrev pub csr_ranges : List CsrRange
csr_ranges = machine_ranges ++ supervisor_ranges ++ protection_ranges ++ counter_ranges

-- the range has the address
abbrev pub lists : CsrRange → ℕ → Bool
lists range address = nat_le range.first address && nat_le address range.last

-- what the address names in a part of the table
unfoldable pub csr_in : List CsrRange → ℕ → Option Csr
csr_in part address = option_map (λ range. range.names address) (find (λ range. lists range address) part)

-- a register's row: bits 9:8 of the address are the least mode, and bits 11:10 are both set where it is
-- read-only
abbrev pub csr_row_with : ℕ → Csr → CsrRow
csr_row_with address csr =
    record { least_mode = address / 2 ^ 8 % 4; read_only = address / 2 ^ 10 % 4 == 3; csr = csr }

-- the row of an address, where the table lists it
unfoldable pub csr_row_of : ℕ → Option CsrRow
csr_row_of address = option_map (csr_row_with address) (csr_in csr_ranges address)
