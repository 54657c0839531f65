-- The names of the signals in a header, in three parts.
use Rattle.std.specs.Prelude.{ℕ, List, [], ◌++◌, codes}
use Rattle.hart_words.specs.declared.signal.Signal.{Signal}
use Rattle.hart_words.specs.declared.signal.Signal.TheVariants.{Valid, Order, Intr, PcRdata, Mode, Ixl, Trap, Insn}
use Rattle.hart_words.specs.declared.signal.Signal.TheVariants.{Rs1Addr, Rs1Rdata, Rs2Addr, Rs2Rdata, RdAddr, RdWdata}
use Rattle.hart_words.specs.declared.signal.Signal.TheVariants.{PcWdata, MemAddr, MemRmask, MemRdata, MemWmask}
use Rattle.hart_words.specs.declared.signal.Signal.TheVariants.{MemWdata, MemPaddr, Halt, Hart, Csr}
use Rattle.hart_words.specs.declared.signal.CsrName.{CsrName}
use Rattle.hart_words.specs.declared.signal.CsrName.TheVariants.{Mstatus, Misa, Medeleg, Mideleg, Mie, Mtvec, Mscratch}
use Rattle.hart_words.specs.declared.signal.CsrName.TheVariants.{Mepc, Mcause, Mtval, Mip, Satp, Sstatus, Sie, Sip}
use Rattle.hart_words.specs.declared.signal.CsrName.TheVariants.{Stvec, Sscratch, Sepc, Scause, Stval, Pmpcfg0, Pmpcfg2}
use Rattle.hart_words.specs.declared.signal.CsrSide.{CsrSide}
use Rattle.hart_words.specs.declared.signal.CsrSide.TheVariants.{Rmask, Wmask, Rdata, Wdata}

-- the name of a register
unfoldable pub csr_name_of : CsrName → List ℕ
csr_name_of Mstatus = codes "mstatus"
csr_name_of Misa = codes "misa"
csr_name_of Medeleg = codes "medeleg"
csr_name_of Mideleg = codes "mideleg"
csr_name_of Mie = codes "mie"
csr_name_of Mtvec = codes "mtvec"
csr_name_of Mscratch = codes "mscratch"
csr_name_of Mepc = codes "mepc"
csr_name_of Mcause = codes "mcause"
csr_name_of Mtval = codes "mtval"
csr_name_of Mip = codes "mip"
csr_name_of Satp = codes "satp"
csr_name_of Sstatus = codes "sstatus"
csr_name_of Sie = codes "sie"
csr_name_of Sip = codes "sip"
csr_name_of Stvec = codes "stvec"
csr_name_of Sscratch = codes "sscratch"
csr_name_of Sepc = codes "sepc"
csr_name_of Scause = codes "scause"
csr_name_of Stval = codes "stval"
csr_name_of Pmpcfg0 = codes "pmpcfg0"
csr_name_of Pmpcfg2 = codes "pmpcfg2"

-- the end of a register's column
unfoldable pub side_name_of : CsrSide → List ℕ
side_name_of Rmask = codes "_rmask"
side_name_of Wmask = codes "_wmask"
side_name_of Rdata = codes "_rdata"
side_name_of Wdata = codes "_wdata"

-- the parts of a column's name
unfoldable pub prefix_of : Signal → List ℕ
prefix_of (Csr csr side) = codes "csr_"
prefix_of _ = []

unfoldable pub stem_of : Signal → List ℕ
stem_of Valid = codes "valid"
stem_of Order = codes "order"
stem_of Intr = codes "intr"
stem_of PcRdata = codes "pc_rdata"
stem_of Mode = codes "mode"
stem_of Ixl = codes "ixl"
stem_of Trap = codes "trap"
stem_of Insn = codes "insn"
stem_of Rs1Addr = codes "rs1_addr"
stem_of Rs1Rdata = codes "rs1_rdata"
stem_of Rs2Addr = codes "rs2_addr"
stem_of Rs2Rdata = codes "rs2_rdata"
stem_of RdAddr = codes "rd_addr"
stem_of RdWdata = codes "rd_wdata"
stem_of PcWdata = codes "pc_wdata"
stem_of MemAddr = codes "mem_addr"
stem_of MemRmask = codes "mem_rmask"
stem_of MemRdata = codes "mem_rdata"
stem_of MemWmask = codes "mem_wmask"
stem_of MemWdata = codes "mem_wdata"
stem_of MemPaddr = codes "mem_paddr"
stem_of Halt = codes "halt"
stem_of Hart = codes "hart"
stem_of (Csr csr side) = csr_name_of csr

unfoldable pub suffix_of : Signal → List ℕ
suffix_of (Csr csr side) = side_name_of side
suffix_of _ = []

-- the name that a header gives the signal
abbrev pub name_of : Signal → List ℕ
name_of signal = prefix_of signal ++ stem_of signal ++ suffix_of signal
