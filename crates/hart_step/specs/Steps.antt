-- The step of the hart by one valid row, in its phases: the state after it, what the reference hart did, and what is
-- read and written. From the Privileged Architecture's chapter "Machine-Level ISA", and riscv-formal's description of
-- RVFI for what a row tells.
use Rattle.std.specs.Prelude.{ℕ, Bool, true, false, if◌then◌else◌, Option, Some, None, Result, Ok, Err}
use Rattle.std.specs.Option.{is_none}
use Rattle.hart_words.specs.declared.privilege.Mode.{Mode}
use Rattle.hart_words.specs.declared.privilege.Cause.{Cause}
use Rattle.hart_words.specs.Privilege.{cause_code}
use Rattle.hart_words.specs.Options.{is_zero_for}
use Rattle.hart_words.specs.declared.signal.Signal.TheVariants.{Order, Halt}
use Rattle.hart_words.specs.Signals.{Shown}
use Rattle.hart_words.specs.Registers.{register_of}
use Rattle.hart_words.specs.Actions.{Action, pure, mapped}
use Rattle.rv_decode.specs.Operands.{operands_of}
use Rattle.csr_file.specs.declared.csrs.Csrs.{Csrs}
use Rattle.trap_entry.specs.Entries.{enter_of, mode_by_enter, pc_by_enter, trap_value_of}
use Rattle.interrupt_pick.specs.Interrupts.{pick_of}
use Rattle.rvfi_rows.specs.declared.expected.Expected.{Expected}
use Rattle.rvfi_rows.specs.declared.expected.Expected.TheVariants as expected
use Rattle.rvfi_rows.specs.declared.expected.CsrsAround.{CsrsAround}
use Rattle.rvfi_rows.specs.declared.expected.Effects.{Effects}
use Rattle.rvfi_rows.specs.Meanings.{Gave}
use Rattle.rvfi_rows.specs.Rows.{shows_csr}
use Rattle.hart_step.specs.declared.state.Core.{Core}
use Rattle.hart_step.specs.declared.instruction.InstructionOutcome.{InstructionOutcome}
use Rattle.hart_step.specs.declared.instruction.InstructionOutcome.TheVariants.{Trapped, Retired}
use Rattle.hart_step.specs.Choices.{shows, order_after, pending_lines_of, asks_interrupt}
use Rattle.hart_step.specs.Instructions.{InstructionRun, instruction_run}

-- the state after a row, and what the reference hart did
abbrev pub StepResult : Type 0
StepResult = Gave Core

-- the order index moves on
unfoldable pub core_after_count : Core → Shown → Core
core_after_count core shown = record core { next_order = order_after core.next_order (shown Order) }

-- the trap value that is written: 0 where that of the cause with this code always is
abbrev pub written_trap_value : Core → ℕ → ℕ → ℕ
written_trap_value core code value = trap_value_of (is_zero_for core.choices.trap_values code) value

-- a trap is entered: an interrupt or an exception, by its code, with a trap value
unfoldable pub core_after_entry : Core → Bool → ℕ → ℕ → Core
core_after_entry core interrupt code value = record core {
  csrs = enter_of core.csrs core.mode interrupt code (written_trap_value core code value) core.pc;
  mode = mode_by_enter core.csrs core.mode interrupt code;
  pc = pc_by_enter core.csrs core.mode interrupt code;
}

-- the interrupt that can be taken now, with these lines
abbrev pub interrupt_of : Core → Shown → Option (ℕ × Mode)
interrupt_of core shown = pick_of core.csrs core.mode (pending_lines_of shown).up

-- it is entered, with the trap value 0; where there is none, none is
abbrev pub core_after_interrupt_by : Core → Option (ℕ × Mode) → Core
core_after_interrupt_by core None = core
core_after_interrupt_by core (Some interrupt) = core_after_entry core true interrupt.0 0

-- where the row asks for an interrupt, the one that can be taken is entered
unfoldable pub core_after_interrupt : Core → Shown → Core
core_after_interrupt core shown =
    if asks_interrupt core shown then core_after_interrupt_by core (interrupt_of core shown) else core

-- it asks for one, and none can be taken
unfoldable pub lacks_interrupt : Core → Shown → Bool
lacks_interrupt core shown = if asks_interrupt core shown then is_none (interrupt_of core shown) else false

-- the hart as the row's instruction finds it
unfoldable pub before_instruction : Core → Shown → Core
before_instruction core shown = core_after_interrupt (core_after_count core shown) shown

-- an exception is entered; an instruction that retired is done
abbrev pub core_after_outcome : Core → InstructionOutcome → Core
core_after_outcome core (Trapped insn exception) =
    record (core_after_entry core false (cause_code exception.0) exception.1) { trapped_last = true }
core_after_outcome core (Retired instruction access) = record core { trapped_last = false }

-- and the hart halts where the row says so
unfoldable pub core_after_run : InstructionRun → Shown → Core
core_after_run done shown = record (core_after_outcome done.core done.executed) { halted = shows (shown Halt) 1 }

-- the bits that were fetched
abbrev pub insn_of : InstructionOutcome → Option ℕ
insn_of (Trapped insn exception) = insn
insn_of (Retired instruction access) = Some instruction.bits

-- what the instruction did, from the hart before it to the hart after it, or the cause of its trap
abbrev pub effects_of : Core → Core → InstructionOutcome → Result Effects Cause
effects_of before after (Trapped insn exception) = Err exception.0
effects_of before after (Retired instruction access) = Ok (record {
  registers = before.registers;
  rs1 = (operands_of instruction.op).rs1;
  rs2 = (operands_of instruction.op).rs2;
  rd = (operands_of instruction.op).rd;
  rd_value = register_of after.registers (operands_of instruction.op).rd;
  next_pc = after.pc;
  access = access;
})

-- the control and status registers around an instruction, where they are carried
abbrev pub csrs_around : Bool → Csrs → Csrs → Option CsrsAround
csrs_around carries before after = if carries then Some (record { before = before; after = after }) else None

-- what the reference hart did at the row; it carries the control and status registers where the row shows a column
-- of one
unfoldable pub expected_of : Core → Shown → InstructionRun → Expected
expected_of core shown done =
    let before = before_instruction core shown in
    expected.Retired (record {
      order = core.next_order;
      lacks_interrupt = lacks_interrupt (core_after_count core shown) shown;
      pc = before.pc;
      mode = before.mode;
      insn = insn_of done.executed;
      insn_bits = core.choices.insn_bits;
      effects = effects_of before done.core done.executed;
      csrs = csrs_around (shows_csr shown) before.csrs (core_after_run done shown).csrs;
      lines = (pending_lines_of shown).up;
    })

unfoldable pub step_result_of : Core → Shown → InstructionRun → StepResult
step_result_of core shown done = record { next = core_after_run done shown; expected = expected_of core shown done }

-- a halted hart stays as it is, and no row should be valid any more
unfoldable pub step_of : Core → Shown → Action StepResult
step_of core shown =
    if core.halted then pure (record { next = core; expected = expected.Halted })
    else mapped (step_result_of core shown) (instruction_run (before_instruction core shown) shown)
