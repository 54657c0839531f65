-- What is wanted of each signal of a row, from what the reference hart did. A signal of which nothing is
-- wanted is free.
use Rattle.std.specs.Prelude.{ℕ, ◌-◌, ◌%◌, ◌^◌, Bool, true, false, not, ◌&&◌, ◌==◌, if◌then◌else◌, Option, Some, None}
use Rattle.std.specs.Prelude.{Result, Ok, Err, option_map}
use Rattle.std.specs.Option.{option_and_then}
use Rattle.hart_words.specs.Options.{are_cut}
use Rattle.hart_words.specs.Privilege.{mode_number}
use Rattle.hart_words.specs.declared.options.InsnBits.{InsnBits}
use Rattle.hart_words.specs.declared.privilege.Cause.{Cause}
use Rattle.hart_words.specs.declared.privilege.Cause.TheVariants.{Breakpoint, EnvironmentCallFromUser}
use Rattle.hart_words.specs.declared.privilege.Cause.TheVariants.{EnvironmentCallFromSupervisor}
use Rattle.hart_words.specs.declared.privilege.Cause.TheVariants.{EnvironmentCallFromMachine}
use Rattle.hart_words.specs.declared.signal.Signal.{Signal}
use Rattle.hart_words.specs.declared.signal.Signal.TheVariants.{Valid, Order, Intr, PcRdata, Mode, Ixl, Trap, Insn}
use Rattle.hart_words.specs.declared.signal.Signal.TheVariants.{Rs1Addr, Rs1Rdata, Rs2Addr, Rs2Rdata, RdAddr, RdWdata}
use Rattle.hart_words.specs.declared.signal.Signal.TheVariants.{PcWdata, MemAddr, MemRmask, MemRdata, MemWmask}
use Rattle.hart_words.specs.declared.signal.Signal.TheVariants.{MemWdata, MemPaddr, Halt, Hart, Csr}
use Rattle.hart_words.specs.declared.signal.CsrName.{CsrName}
use Rattle.hart_words.specs.declared.signal.CsrSide.TheVariants.{Rmask, Wmask, Rdata, Wdata}
use Rattle.hart_words.specs.Signals.{Shown}
use Rattle.csr_file.specs.declared.csrs.Csrs.{Csrs}
use Rattle.csr_file.specs.Fields.{all_bits}
use Rattle.csr_file.specs.Values.{shown_csr}
use Rattle.rvfi_rows.specs.declared.expected.Retired.{Retired}
use Rattle.rvfi_rows.specs.declared.expected.Effects.{Effects}
use Rattle.rvfi_rows.specs.declared.expected.Accessed.{Accessed}
use Rattle.row_compare.specs.declared.expected_signal.ExpectedSignal.{ExpectedSignal}
use Rattle.row_compare.specs.Wanted.{whole, where_known}
use Rattle.row_compare.specs.Sources.{source_read, source_value}
use Rattle.row_compare.specs.Memory.{expected_address, expected_physical, expected_read_mask, expected_read}
use Rattle.row_compare.specs.Memory.{expected_write_mask, expected_write}
use Rattle.row_compare.specs.Csrs.{bits_before, bits_after}

-- cores differ in whether these are traps
abbrev pub is_call_or_breakpoint : Cause → Bool
is_call_or_breakpoint Breakpoint = true
is_call_or_breakpoint EnvironmentCallFromUser = true
is_call_or_breakpoint EnvironmentCallFromSupervisor = true
is_call_or_breakpoint EnvironmentCallFromMachine = true
is_call_or_breakpoint _ = false

abbrev pub expected_trap : Result Effects Cause → Option ExpectedSignal
expected_trap (Ok effects) = whole 0
expected_trap (Err cause) = if is_call_or_breakpoint cause then None else whole 1

-- the bits of an instruction that are compared: of one of 16 bits, of which bits 1:0 are not 11, these alone where
-- those above them say nothing
abbrev pub insn_mask : InsnBits → ℕ → ℕ
insn_mask bits insn = if are_cut bits && not (insn % 4 == 3) then 2 ^ 16 - 1 else all_bits

abbrev pub expected_insn : InsnBits → Option ℕ → Option ExpectedSignal
expected_insn bits None = None
expected_insn bits (Some insn) = Some (record { value = insn; mask = insn_mask bits insn })

-- what the instruction did, unless it took a trap, and its access, if it made one
abbrev pub effects_in : Result Effects Cause → Option Effects
effects_in (Ok effects) = Some effects
effects_in (Err cause) = None

abbrev pub access_in : Result Effects Cause → Option Accessed
access_in effects = option_and_then (λ effects. effects.access) (effects_in effects)

abbrev pub unless_trap : Retired → (Effects → Option ExpectedSignal) → Option ExpectedSignal
unless_trap retired of_effects = option_and_then of_effects (effects_in retired.effects)

abbrev pub with_access : Retired → (Accessed → Option ExpectedSignal) → Option ExpectedSignal
with_access retired of_access = option_and_then of_access (access_in retired.effects)

-- of a register its value before the instruction and after the row, in the bits that are compared, with the interrupt
-- lines
abbrev pub csr_before : Csrs → CsrName → ℕ → Shown → ExpectedSignal
csr_before csrs name lines shown =
    record { value = shown_csr csrs name lines; mask = bits_before csrs.profile name shown }

abbrev pub csr_after : Csrs → CsrName → ℕ → Shown → ExpectedSignal
csr_after csrs name lines shown =
    record { value = shown_csr csrs name lines; mask = bits_after csrs.profile name shown }

-- the table; 2 says that registers have 64 bits
unfoldable pub expected_signal : Retired → Shown → Signal → Option ExpectedSignal
expected_signal retired shown Valid = None
expected_signal retired shown Order = where_known retired.order
expected_signal retired shown Intr = if retired.lacks_interrupt then whole 0 else None
expected_signal retired shown PcRdata = whole retired.pc
expected_signal retired shown Mode = whole (mode_number retired.mode)
expected_signal retired shown Ixl = whole 2
expected_signal retired shown Trap = expected_trap retired.effects
expected_signal retired shown Insn = expected_insn retired.insn_bits retired.insn
expected_signal retired shown Rs1Addr = unless_trap retired (λ effects. where_known (source_read effects.rs1))
expected_signal retired shown Rs1Rdata =
    unless_trap retired (λ effects. where_known (source_value effects.registers effects.rs1 (shown Rs1Addr)))
expected_signal retired shown Rs2Addr = unless_trap retired (λ effects. where_known (source_read effects.rs2))
expected_signal retired shown Rs2Rdata =
    unless_trap retired (λ effects. where_known (source_value effects.registers effects.rs2 (shown Rs2Addr)))
expected_signal retired shown RdAddr = unless_trap retired (λ effects. whole effects.rd)
expected_signal retired shown RdWdata = unless_trap retired (λ effects. whole effects.rd_value)
expected_signal retired shown PcWdata = unless_trap retired (λ effects. whole effects.next_pc)
expected_signal retired shown MemAddr = with_access retired (λ access. expected_address access (shown MemAddr))
expected_signal retired shown MemRmask = with_access retired (λ access. expected_read_mask access (shown MemAddr))
expected_signal retired shown MemRdata = with_access retired (λ access. expected_read access (shown MemAddr))
expected_signal retired shown MemWmask =
    unless_trap retired (λ effects. expected_write_mask effects.access (shown MemAddr))
expected_signal retired shown MemWdata = with_access retired (λ access. expected_write access (shown MemAddr))
expected_signal retired shown MemPaddr = with_access retired (λ access. expected_physical access (shown MemAddr))
expected_signal retired shown Halt = None
expected_signal retired shown Hart = None
expected_signal retired shown (Csr name Rmask) = None
expected_signal retired shown (Csr name Wmask) = None
expected_signal retired shown (Csr name Rdata) =
    option_map (λ csrs. csr_before csrs.before name retired.lines shown) retired.csrs
expected_signal retired shown (Csr name Wdata) =
    option_map (λ csrs. csr_after csrs.after name retired.lines shown) retired.csrs
