-- The signals of a trace, by index and width.
use Rattle.std.specs.Prelude.{◌≡◌, ℕ, ◌+◌, ◌*◌, Option, Some, option_map, slice_get}
use Rattle.std.specs.Option.{option_map_or}
use Rattle.hart_words.specs.declared.signal.Signal.{Signal}
use Rattle.hart_words.specs.declared.signal.Signal.TheVariants.{Valid, Order, Intr, PcRdata, Mode, Ixl, Trap, Insn}
use Rattle.hart_words.specs.declared.signal.Signal.TheVariants.{Rs1Addr, Rs1Rdata, Rs2Addr, Rs2Rdata, RdAddr, RdWdata}
use Rattle.hart_words.specs.declared.signal.Signal.TheVariants.{PcWdata, MemAddr, MemRmask, MemRdata, MemWmask}
use Rattle.hart_words.specs.declared.signal.Signal.TheVariants.{MemWdata, MemPaddr, Halt, Hart, Csr}
use Rattle.hart_words.specs.declared.signal.CsrName.{CsrName}
use Rattle.hart_words.specs.declared.signal.CsrName.TheVariants.{Mstatus, Misa, Medeleg, Mideleg, Mie, Mtvec, Mscratch}
use Rattle.hart_words.specs.declared.signal.CsrName.TheVariants.{Mepc, Mcause, Mtval, Mip, Satp, Sstatus, Sie, Sip}
use Rattle.hart_words.specs.declared.signal.CsrName.TheVariants.{Stvec, Sscratch, Sepc, Scause, Stval, Pmpcfg0, Pmpcfg2}
use Rattle.hart_words.specs.declared.signal.CsrSide.{CsrSide}
use Rattle.hart_words.specs.declared.signal.CsrSide.TheVariants.{Rmask, Wmask, Rdata, Wdata}
use Rattle.hart_words.specs.declared.signal.SignalEntry.{SignalEntry}
use Rattle.hart_words.specs.declared.signal.TheConstants.{SIGNALS}

-- what a row shows: a value for each signal that it has one for
abbrev pub Shown : Type 0
Shown = Signal → Option ℕ

-- where a register stands among those that are shown, and a side among the four
abbrev pub csr_index_of : CsrName → ℕ
csr_index_of Mstatus = 0
csr_index_of Misa = 1
csr_index_of Medeleg = 2
csr_index_of Mideleg = 3
csr_index_of Mie = 4
csr_index_of Mtvec = 5
csr_index_of Mscratch = 6
csr_index_of Mepc = 7
csr_index_of Mcause = 8
csr_index_of Mtval = 9
csr_index_of Mip = 10
csr_index_of Satp = 11
csr_index_of Sstatus = 12
csr_index_of Sie = 13
csr_index_of Sip = 14
csr_index_of Stvec = 15
csr_index_of Sscratch = 16
csr_index_of Sepc = 17
csr_index_of Scause = 18
csr_index_of Stval = 19
csr_index_of Pmpcfg0 = 20
csr_index_of Pmpcfg2 = 21

abbrev pub side_index_of : CsrSide → ℕ
side_index_of Rmask = 0
side_index_of Wmask = 1
side_index_of Rdata = 2
side_index_of Wdata = 3

-- where a signal stands among all
abbrev pub index_of : Signal → ℕ
index_of Valid = 0
index_of Order = 1
index_of Intr = 2
index_of PcRdata = 3
index_of Mode = 4
index_of Ixl = 5
index_of Trap = 6
index_of Insn = 7
index_of Rs1Addr = 8
index_of Rs1Rdata = 9
index_of Rs2Addr = 10
index_of Rs2Rdata = 11
index_of RdAddr = 12
index_of RdWdata = 13
index_of PcWdata = 14
index_of MemAddr = 15
index_of MemRmask = 16
index_of MemRdata = 17
index_of MemWmask = 18
index_of MemWdata = 19
index_of MemPaddr = 20
index_of Halt = 21
index_of Hart = 22
index_of (Csr csr side) = 23 + 4 * csr_index_of csr + side_index_of side

-- the same, but for a register where the registers begin
abbrev pub plain_index_of : Signal → ℕ
plain_index_of (Csr csr side) = 23
plain_index_of signal = index_of signal

-- the signal's line in the table
unfoldable pub signal_entry_of : Signal → Option SignalEntry
signal_entry_of signal = slice_get SIGNALS (index_of signal)

-- how many bits a value of the signal has at most
unfoldable pub width_of : Signal → ℕ
width_of signal = option_map_or (λ entry. entry.width) (signal_entry_of signal) 64

-- the table has the signal at its index
abbrev pub StandsAtItsIndex : Signal → Type 0
StandsAtItsIndex signal = option_map (λ entry. entry.signal) (signal_entry_of signal) ≡ Some signal
