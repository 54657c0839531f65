-- What an instruction changes in the hart, as a step notes it before it puts it in place.
use Rattle.std.specs.Prelude.{◌≡◌, ℕ, Bool, true, false, ◌/◌, ◌%◌, ◌≤◌, Option, Some, None, Result, Ok, Err, List, All}
use Rattle.std.specs.Prelude.{length, IsSomeAnd}
use Rattle.hart_words.specs.declared.span.Span.{Span}
use Rattle.hart_words.specs.declared.span.TheConstants.{PAGE_SIZE}
use Rattle.hart_words.specs.declared.accesses.Write.{Write}
use Rattle.hart_words.specs.Spans.{IsPlace}
use Rattle.hart_words.specs.Signals.{Shown}
use Rattle.hart_words.specs.Registers.{with_register}
use Rattle.rv_decode.specs.Operands.{operands_of}
use Rattle.csr_file.specs.declared.csrs.Csrs.{Csrs}
use Rattle.csr_file.specs.declared.access.Illegal.{Illegal}
use Rattle.csr_file.specs.Access.{csr_write_at}
use Rattle.rvfi_rows.specs.Rows.{shows_csr}
use Rattle.rvfi_rows.specs.declared.expected.Accessed.{Accessed}
use Rattle.rvfi_rows.specs.declared.expected.CsrsAround.{CsrsAround}
use Rattle.rvfi_rows.specs.declared.expected.Retired.{Retired}
use Rattle.mem_access.specs.Accesses.{Exception}
use Rattle.hart_step.specs.declared.state.Core.{Core}
use Rattle.hart_step.specs.declared.instruction.Instruction.{Instruction}
use Rattle.hart_step.specs.declared.changes.CsrWrite.{CsrWrite}
use Rattle.hart_step.specs.declared.changes.Retirement.{Retirement}
use Rattle.hart_step.specs.declared.changes.Change.{Change}
use Rattle.hart_step.specs.declared.changes.Change.TheVariants as changes
use Rattle.hart_step.specs.declared.changes.InstructionNotes.{InstructionNotes}
use Rattle.hart_step.specs.Cores.{IsSoundReservation}
use Rattle.hart_step.specs.Returns.{core_after_mret, core_after_sret}
use Rattle.hart_step.specs.Choices.{pending_lines_of}
use Rattle.hart_step.specs.Instructions.{Completion, completion_of, InstructionRun}
use Rattle.hart_step.specs.Steps.{core_after_run, csrs_around, effects_of, insn_of}

-- the destination gets its value, and the hart goes on
abbrev pub retirement_of : Instruction → ℕ → ℕ → Retirement
retirement_of instruction value next_pc =
    record { rd = (operands_of instruction.op).rd; value = value; next_pc = next_pc }

abbrev pub core_after_noted_retirement : Core → Retirement → Core
core_after_noted_retirement core done =
    record core { registers = with_register core.registers done.rd done.value; pc = done.next_pc }

-- a write that is refused leaves the control and status registers
abbrev pub written_csrs : Csrs → Result Csrs Illegal → Csrs
written_csrs csrs (Err refused) = csrs
written_csrs csrs (Ok written) = written

abbrev pub csrs_after_write : Core → Option CsrWrite → Csrs
csrs_after_write core None = core.csrs
csrs_after_write core (Some write) =
    written_csrs core.csrs (csr_write_at core.csrs write.address core.mode write.value)

-- the hart after what an instruction changes
abbrev pub core_after_change : Core → Change → Core
core_after_change core changes.Nothing = core
core_after_change core (changes.Registers done) = core_after_noted_retirement core done
core_after_change core (changes.Access done reservation) =
    core_after_noted_retirement (record core { reservation = reservation }) done
core_after_change core (changes.Csr done write) =
    core_after_noted_retirement (record core { csrs = csrs_after_write core write }) done
core_after_change core changes.MachineReturn = core_after_mret core
core_after_change core changes.SupervisorReturn = core_after_sret core

-- it leaves the hart sound: an address at which it goes on is even, and what is reserved is a block in RAM
abbrev pub KeepsSound : Core → Change → Type 0
KeepsSound core changes.Nothing = Unit {0}
KeepsSound core (changes.Registers done) = done.next_pc % 2 ≡ 0
KeepsSound core (changes.Access done reservation) =
    (done.next_pc % 2 ≡ 0) × IsSoundReservation core.map.ram core.choices.block_size reservation
KeepsSound core (changes.Csr done write) = done.next_pc % 2 ≡ 0
KeepsSound core changes.MachineReturn = Unit {0}
KeepsSound core changes.SupervisorReturn = Unit {0}

-- what an access to a control and status register gives, by the write that it notes
abbrev pub csr_access_by : Core → Result (ℕ × Option CsrWrite) Illegal → Result (ℕ × Csrs) Illegal
csr_access_by core (Err refused) = Err refused
csr_access_by core (Ok noted) = Ok (noted.0, csrs_after_write core noted.1)

abbrev pub csrs_by : Core → Result (Option CsrWrite) Illegal → Result Csrs Illegal
csrs_by core (Err refused) = Err refused
csrs_by core (Ok write) = Ok (csrs_after_write core write)

-- what an instruction does, by what it changes and the access that it makes
abbrev pub completion_by : Core → Change → Result (Option Accessed) Exception → Result Completion Exception
completion_by core change (Err exception) = Err exception
completion_by core change (Ok access) = Ok (record { core = core_after_change core change; access = access })

abbrev pub completion_by_change : Core → Result Change Exception → Result Completion Exception
completion_by_change core (Err exception) = Err exception
completion_by_change core (Ok change) = completion_of (core_after_change core change)

-- what stands at pc, by what was noted of it
abbrev pub run_by : Core → InstructionNotes → InstructionRun
run_by core notes = record { core = core_after_change core notes.change; executed = notes.executed }

-- what the hart did at a row, by the hart before the instruction, and what became of what stands at pc
abbrev pub retired_by : Option ℕ → Bool → Core → Shown → InstructionRun → Retired
retired_by order lacks before shown done = record {
  order = order;
  lacks_interrupt = lacks;
  pc = before.pc;
  mode = before.mode;
  insn = insn_of done.executed;
  insn_bits = before.choices.insn_bits;
  effects = effects_of before done.core done.executed;
  csrs = csrs_around (shows_csr shown) before.csrs (core_after_run done shown).csrs;
  lines = (pending_lines_of shown).up;
}

-- the control and status registers before the instruction are in place where they are carried, and elsewhere none are
abbrev pub CarriesBefore : Bool → Csrs → Option CsrsAround → Type 0
CarriesBefore true before csrs = IsSomeAnd csrs (λ around. around.before ≡ before)
CarriesBefore false before csrs = csrs ≡ None

-- each write is of a number in a page of RAM
abbrev pub AreInRam : Span → List Write → Type 0
AreInRam ram writes = All (λ write. IsPlace ram write.pa write.len) writes

-- no write of them is refused
abbrev pub AreReady : (ℕ → Type 0) → List Write → Type 0
AreReady is_ready writes = All (λ write. is_ready (write.pa / PAGE_SIZE)) writes

-- a step stores one number at most, in a page of RAM or in two
pub record AreStores (ram : Span) (stores : List Write) : Type 0 where
  pub at_most_two : length stores ≤ 2
  pub in_ram : AreInRam ram stores
