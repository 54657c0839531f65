-- What each register is, and bits of registers by name, from the Privileged Architecture's chapters
-- "Control and Status Registers (CSRs)", "Machine-Level ISA" and "Supervisor-Level ISA".
use Rattle.std.specs.Prelude.{ℕ, ◌+◌, ◌-◌, ◌*◌, ◌^◌, ◌==◌, Bool, not, List, [], ◌∷◌, Some, None, codes, map}
use Rattle.hart_words.specs.declared.privilege.Cause.TheVariants.{InstructionAccessFault, IllegalInstruction}
use Rattle.hart_words.specs.declared.privilege.Cause.TheVariants.{Breakpoint, LoadAddressMisaligned, LoadAccessFault}
use Rattle.hart_words.specs.declared.privilege.Cause.TheVariants.{StoreAddressMisaligned, StoreAccessFault}
use Rattle.hart_words.specs.declared.privilege.Cause.TheVariants.{EnvironmentCallFromUser}
use Rattle.hart_words.specs.declared.privilege.Cause.TheVariants.{EnvironmentCallFromSupervisor, InstructionPageFault}
use Rattle.hart_words.specs.declared.privilege.Cause.TheVariants.{LoadPageFault, StorePageFault}
use Rattle.hart_words.specs.Privilege.{cause_code}
use Rattle.csr_table.specs.declared.registers.Csr.{Csr}
use Rattle.csr_table.specs.declared.registers.Csr.TheVariants as csr
use Rattle.csr_file.specs.declared.stored_csr.StoredCsr.{StoredCsr}
use Rattle.csr_file.specs.declared.stored_csr.StoredCsr.TheVariants.{Mstatus, Medeleg, Mideleg, Mie, Mtvec, Mcounteren}
use Rattle.csr_file.specs.declared.stored_csr.StoredCsr.TheVariants.{Menvcfg, Mcountinhibit, Mscratch, Mepc, Mcause}
use Rattle.csr_file.specs.declared.stored_csr.StoredCsr.TheVariants.{Mtval, Mip, Stvec, Scounteren, Senvcfg, Sscratch}
use Rattle.csr_file.specs.declared.stored_csr.StoredCsr.TheVariants.{Sepc, Scause, Stval, Satp}
use Rattle.csr_file.specs.declared.stored_csr.TheConstants.{ALL_STORED}
use Rattle.csr_file.specs.declared.stored_row.FieldRule.TheVariants.{Free, PreviousMode, TranslationMode}
use Rattle.csr_file.specs.declared.stored_row.StoredRow.{StoredRow}
use Rattle.csr_file.specs.declared.profile.OptionalCsr.{OptionalCsr}
use Rattle.csr_file.specs.declared.profile.OptionalCsr.TheVariants as optional
use Rattle.csr_file.specs.declared.register_row.RegisterRow.{RegisterRow}
use Rattle.csr_file.specs.declared.csr_kind.CsrKind.{CsrKind}
use Rattle.csr_file.specs.declared.csr_kind.CsrKind.TheVariants.{Stored, Status, Pending, SupervisorStatus}
use Rattle.csr_file.specs.declared.csr_kind.CsrKind.TheVariants.{SupervisorEnables, SupervisorPending, Translation}
use Rattle.csr_file.specs.declared.csr_kind.CsrKind.TheVariants.{LowConfigurations, HighConfigurations, EntryAddress}
use Rattle.csr_file.specs.declared.csr_kind.CsrKind.TheVariants.{Constant, ImplementationDefined, Counter}
use Rattle.csr_file.specs.declared.fields.TheConstants.{SIE, MIE, SPIE, MPIE, SPP, MPP, MPRV, SUM, MXR, TVM, TW, TSR}
use Rattle.csr_file.specs.declared.fields.TheConstants.{UXL, SXL, SD, FS, VS, SSIP, MSIP, STIP, MTIP, SEIP, MEIP, CY, TM, IR}
use Rattle.csr_file.specs.declared.fields.TheConstants.{FIOM, SATP_MODE}
use Rattle.csr_file.specs.Fields.{bits, field_bits, all_bits}

-- the bits of mstatus that a write can set where nothing is said, MPP's aside
abbrev pub writable_without_mpp : ℕ
writable_without_mpp =
    bits (SIE ∷ MIE ∷ SPIE ∷ MPIE ∷ SPP ∷ MPRV ∷ SUM ∷ MXR ∷ TVM ∷ TW ∷ TSR ∷ [])

-- the exceptions that can be delegated: all but a call from M. 0 is the code of a misaligned instruction
-- address
abbrev pub delegable_exceptions : ℕ
delegable_exceptions =
    bits (0 ∷ map cause_code (InstructionAccessFault ∷ IllegalInstruction ∷ Breakpoint ∷ LoadAddressMisaligned
    ∷ LoadAccessFault ∷ StoreAddressMisaligned ∷ StoreAccessFault ∷ EnvironmentCallFromUser
    ∷ EnvironmentCallFromSupervisor ∷ InstructionPageFault ∷ LoadPageFault ∷ StorePageFault ∷ []))

-- the interrupts of S, which can be delegated and stored; and with those of M all that can be enabled
abbrev pub supervisor_interrupts : ℕ
supervisor_interrupts = bits (SSIP ∷ STIP ∷ SEIP ∷ [])

abbrev pub all_interrupts : ℕ
all_interrupts = supervisor_interrupts + bits (MSIP ∷ MTIP ∷ MEIP ∷ [])

-- the bits of mip that may be lines from outside on every core
abbrev pub line_bits : ℕ
line_bits = bits (MSIP ∷ MTIP ∷ SEIP ∷ MEIP ∷ [])

-- a vector: its base, and mode 0 or 1 in bits 1:0
abbrev pub vector_bits : ℕ
vector_bits = all_bits - bits (1 ∷ [])

-- an address of an instruction is even
abbrev pub pc_bits : ℕ
pc_bits = all_bits - bits (0 ∷ [])

-- the counters, by their bits in mcounteren, scounteren and mcountinhibit
abbrev pub counter_bits : ℕ
counter_bits = 2 ^ 32 - 1

-- the constants of mstatus: UXL and SXL are 2, for 64 bits
abbrev pub status_constant : ℕ
status_constant = 2 * 2 ^ UXL + 2 * 2 ^ SXL

-- the states of units that a core may have
abbrev pub unit_states : ℕ
unit_states = field_bits FS 2 + field_bits VS 2

-- of mstatus sstatus writes these, as far as mstatus has them, and shows these, UXL and SD
abbrev pub sstatus_writable : ℕ
sstatus_writable = bits (SIE ∷ SPIE ∷ SPP ∷ SUM ∷ MXR ∷ []) + unit_states

abbrev pub sstatus_shown : ℕ
sstatus_shown = sstatus_writable + field_bits UXL 2 + bits (SD ∷ [])

-- of mip sip writes this, under mideleg
abbrev pub sip_writable : ℕ
sip_writable = bits (SSIP ∷ [])

-- the bits of a register above the low ones
abbrev pub bits_from : ℕ → ℕ
bits_from lowest = all_bits - (2 ^ lowest - 1)

-- the codes of interrupts that the standard leaves to a platform
abbrev pub platform_interrupts : ℕ
platform_interrupts = bits_from 12

-- the bits of mip that a core may have as lines and no more
abbrev pub addable_lines : ℕ
addable_lines = bits (SSIP ∷ STIP ∷ [])

-- the bits of mstatus that a write changes where nothing is said
abbrev pub status_bits : ℕ
status_bits = writable_without_mpp + field_bits MPP 2

-- the interrupts that a core may let be delegated
abbrev pub delegable_interrupts : ℕ
delegable_interrupts = supervisor_interrupts + platform_interrupts

-- the counters that can be inhibited: all but the time
abbrev pub inhibitable_counters : ℕ
inhibitable_counters = counter_bits - bits (TM ∷ [])

-- the row of a register whose bits no core chooses: a write changes those of the mask
abbrev pub held : ℕ → StoredRow
held mask =
    record { plain = mask; most = mask; least = mask; fixable = 0; constant = 0; lines = 0; rule = Free }

-- the row of one whose bits a core chooses: those that a write changes where nothing is said, at most and at least,
-- and those that may be 1 always
abbrev pub chosen : (plain most least fixable : ℕ) → StoredRow
chosen plain most least fixable = record {
  plain = plain;
  most = most;
  least = least;
  fixable = fixable;
  constant = 0;
  lines = 0;
  rule = Free;
}

-- the table of the stored registers
abbrev pub stored_row_of : StoredCsr → StoredRow
stored_row_of Mstatus = record {
  plain = status_bits;
  most = status_bits + unit_states;
  least = bits (SIE ∷ MIE ∷ SPIE ∷ MPIE ∷ SPP ∷ []) + field_bits MPP 2;
  fixable = unit_states;
  constant = status_constant;
  lines = 0;
  rule = PreviousMode;
}
stored_row_of Medeleg = chosen delegable_exceptions all_bits 0 all_bits
stored_row_of Mideleg = chosen supervisor_interrupts delegable_interrupts 0 delegable_interrupts
stored_row_of Mie = chosen all_interrupts (all_interrupts + platform_interrupts) 0 0
stored_row_of Mtvec = chosen vector_bits vector_bits (bits_from 12) 0
stored_row_of Mcounteren = chosen (bits (CY ∷ TM ∷ IR ∷ [])) counter_bits 0 counter_bits
stored_row_of Menvcfg = chosen (bits (FIOM ∷ [])) all_bits 0 all_bits
stored_row_of Mcountinhibit = chosen (bits (CY ∷ IR ∷ [])) inhibitable_counters 0 inhibitable_counters
stored_row_of Mscratch = held all_bits
stored_row_of Mepc = held pc_bits
stored_row_of Mcause = held all_bits
stored_row_of Mtval = held all_bits
stored_row_of Mip = record (held supervisor_interrupts) { lines = addable_lines }
stored_row_of Stvec = chosen vector_bits vector_bits (bits_from 12) 0
stored_row_of Scounteren = chosen (bits (CY ∷ TM ∷ IR ∷ [])) counter_bits 0 counter_bits
stored_row_of Senvcfg = chosen (bits (FIOM ∷ [])) all_bits 0 all_bits
stored_row_of Sscratch = held all_bits
stored_row_of Sepc = held pc_bits
stored_row_of Scause = held all_bits
stored_row_of Stval = held all_bits
stored_row_of Satp = record (chosen all_bits all_bits (bits_from SATP_MODE) 0) { rule = TranslationMode }

-- a core chooses the bits of the register
abbrev pub is_chosen : StoredCsr → Bool
is_chosen stored = not ((stored_row_of stored).most == (stored_row_of stored).least)

-- its name in the Privileged Architecture, in lower case
unfoldable pub stored_name_of : StoredCsr → List ℕ
stored_name_of Mstatus = codes "mstatus"
stored_name_of Medeleg = codes "medeleg"
stored_name_of Mideleg = codes "mideleg"
stored_name_of Mie = codes "mie"
stored_name_of Mtvec = codes "mtvec"
stored_name_of Mcounteren = codes "mcounteren"
stored_name_of Menvcfg = codes "menvcfg"
stored_name_of Mcountinhibit = codes "mcountinhibit"
stored_name_of Mscratch = codes "mscratch"
stored_name_of Mepc = codes "mepc"
stored_name_of Mcause = codes "mcause"
stored_name_of Mtval = codes "mtval"
stored_name_of Mip = codes "mip"
stored_name_of Stvec = codes "stvec"
stored_name_of Scounteren = codes "scounteren"
stored_name_of Senvcfg = codes "senvcfg"
stored_name_of Sscratch = codes "sscratch"
stored_name_of Sepc = codes "sepc"
stored_name_of Scause = codes "scause"
stored_name_of Stval = codes "stval"
stored_name_of Satp = codes "satp"

-- where a stored register's value stands
abbrev pub stored_index_of : StoredCsr → ℕ
stored_index_of Mstatus = 0
stored_index_of Medeleg = 1
stored_index_of Mideleg = 2
stored_index_of Mie = 3
stored_index_of Mtvec = 4
stored_index_of Mcounteren = 5
stored_index_of Menvcfg = 6
stored_index_of Mcountinhibit = 7
stored_index_of Mscratch = 8
stored_index_of Mepc = 9
stored_index_of Mcause = 10
stored_index_of Mtval = 11
stored_index_of Mip = 12
stored_index_of Stvec = 13
stored_index_of Scounteren = 14
stored_index_of Senvcfg = 15
stored_index_of Sscratch = 16
stored_index_of Sepc = 17
stored_index_of Scause = 18
stored_index_of Stval = 19
stored_index_of Satp = 20

-- all of them, in that order
abbrev pub stored_csrs : List StoredCsr
stored_csrs = ALL_STORED

-- misa: MXL is 2, and the extensions A, C, I, M, S and U by their letters' places in the alphabet
abbrev pub misa_value : ℕ
misa_value = 2 * 2 ^ 62 + bits (0 ∷ 2 ∷ 8 ∷ 12 ∷ 18 ∷ 20 ∷ [])

-- the row of a register that every core has alike, and of one that a core may have in several ways
abbrev pub plain_row : CsrKind → RegisterRow
plain_row kind = record { kind = kind; optional = None }

abbrev pub optional_row : CsrKind → OptionalCsr → RegisterRow
optional_row kind csr = record { kind = kind; optional = Some csr }

-- the table of the registers that have an address: what each is, where the core has it as the standard says
abbrev pub register_row_of : Csr → RegisterRow
register_row_of csr.Mstatus = plain_row Status
register_row_of csr.Misa = optional_row (Constant misa_value) optional.Misa
register_row_of csr.Medeleg = plain_row (Stored Medeleg)
register_row_of csr.Mideleg = plain_row (Stored Mideleg)
register_row_of csr.Mie = plain_row (Stored Mie)
register_row_of csr.Mtvec = plain_row (Stored Mtvec)
register_row_of csr.Mcounteren = optional_row (Stored Mcounteren) optional.Mcounteren
register_row_of csr.Menvcfg = optional_row (Stored Menvcfg) optional.Menvcfg
register_row_of csr.Mcountinhibit = optional_row (Stored Mcountinhibit) optional.Mcountinhibit
register_row_of (csr.Mhpmevent number) = optional_row (Constant 0) optional.Mhpmevent
register_row_of csr.Mscratch = plain_row (Stored Mscratch)
register_row_of csr.Mepc = plain_row (Stored Mepc)
register_row_of csr.Mcause = plain_row (Stored Mcause)
register_row_of csr.Mtval = plain_row (Stored Mtval)
register_row_of csr.Mip = plain_row Pending
register_row_of csr.Sstatus = plain_row SupervisorStatus
register_row_of csr.Sie = plain_row SupervisorEnables
register_row_of csr.Stvec = plain_row (Stored Stvec)
register_row_of csr.Scounteren = plain_row (Stored Scounteren)
register_row_of csr.Senvcfg = optional_row (Stored Senvcfg) optional.Senvcfg
register_row_of csr.Sscratch = plain_row (Stored Sscratch)
register_row_of csr.Sepc = plain_row (Stored Sepc)
register_row_of csr.Scause = plain_row (Stored Scause)
register_row_of csr.Stval = plain_row (Stored Stval)
register_row_of csr.Sip = plain_row SupervisorPending
register_row_of csr.Satp = plain_row Translation
register_row_of csr.Pmpcfg0 = plain_row LowConfigurations
register_row_of csr.Pmpcfg2 = plain_row HighConfigurations
register_row_of (csr.Pmpaddr number) = plain_row (EntryAddress number)
register_row_of csr.Mcycle = plain_row ImplementationDefined
register_row_of csr.Minstret = plain_row ImplementationDefined
register_row_of (csr.Mhpmcounter number) = optional_row ImplementationDefined optional.Mhpmcounter
register_row_of csr.Cycle = optional_row (Counter CY) optional.Cycle
register_row_of csr.Time = optional_row (Counter TM) optional.Time
register_row_of csr.Instret = optional_row (Counter IR) optional.Instret
register_row_of (csr.Hpmcounter number) = optional_row (Counter number) optional.Hpmcounter
register_row_of csr.Mvendorid = plain_row ImplementationDefined
register_row_of csr.Marchid = plain_row ImplementationDefined
register_row_of csr.Mimpid = plain_row ImplementationDefined
register_row_of csr.Mhartid = plain_row ImplementationDefined
register_row_of csr.Mconfigptr = optional_row ImplementationDefined optional.Mconfigptr

unfoldable pub csr_kind_of : Csr → CsrKind
csr_kind_of csr = (register_row_of csr).kind
