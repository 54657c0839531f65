-- What the instruction at pc does, with what it reads and writes.
use Rattle.std.specs.Prelude.{ℕ, ◌+◌, ◌%◌, ◌^◌, Bool, not, ◌==◌, if◌then◌else◌, Option, Some, None, Result, Ok, Err}
use Rattle.hart_words.specs.declared.privilege.Mode.{Mode}
use Rattle.hart_words.specs.declared.privilege.Mode.TheVariants.{User, Supervisor, Machine}
use Rattle.hart_words.specs.declared.privilege.Cause.{Cause}
use Rattle.hart_words.specs.declared.privilege.Cause.TheVariants.{IllegalInstruction, Breakpoint}
use Rattle.hart_words.specs.declared.privilege.Cause.TheVariants.{EnvironmentCallFromUser}
use Rattle.hart_words.specs.declared.privilege.Cause.TheVariants.{EnvironmentCallFromSupervisor}
use Rattle.hart_words.specs.declared.privilege.Cause.TheVariants.{EnvironmentCallFromMachine}
use Rattle.hart_words.specs.Registers.{register_of, with_register}
use Rattle.hart_words.specs.Signals.{Shown}
use Rattle.hart_words.specs.Actions.{Action, pure, mapped, ◌>>=◌}
use Rattle.rv_decode.specs.declared.operation.Op.{Op}
use Rattle.rv_decode.specs.Operands.{operands_of}
use Rattle.rv_decode.specs.Table.{decoded_op_of, decoded_op_with}
use Rattle.rv_compressed.specs.Table.{expanded_op_of}
use Rattle.rv_integer.specs.declared.int_result.IntResult.{IntResult}
use Rattle.rv_integer.specs.declared.int_result.IntResult.TheVariants as results
use Rattle.rv_integer.specs.declared.int_result.SystemRequest.{SystemRequest}
use Rattle.rv_integer.specs.declared.int_result.SystemRequest.TheVariants as system
use Rattle.rv_integer.specs.Results.{result_of}
use Rattle.csr_file.specs.declared.csrs.Csrs.{Csrs}
use Rattle.csr_file.specs.declared.access.Illegal.{Illegal}
use Rattle.csr_file.specs.declared.fields.TheConstants.{TSR, TVM}
use Rattle.rvfi_rows.specs.declared.expected.Accessed.{Accessed}
use Rattle.mem_access.specs.Accesses.{Exception, fetch_result}
use Rattle.hart_step.specs.declared.state.Core.{Core}
use Rattle.hart_step.specs.declared.choices.RowChoices.{RowChoices}
use Rattle.hart_step.specs.declared.instruction.Instruction.{Instruction}
use Rattle.hart_step.specs.declared.instruction.InstructionOutcome.{InstructionOutcome}
use Rattle.hart_step.specs.declared.instruction.InstructionOutcome.TheVariants.{Trapped, Retired}
use Rattle.hart_step.specs.declared.memory.AccessResult.{AccessResult}
use Rattle.hart_step.specs.Choices.{row_choices_of}
use Rattle.hart_step.specs.MemoryAccess.{memory_access}
use Rattle.hart_step.specs.CsrAccess.{csr_access_result}
use Rattle.hart_step.specs.Returns.{may_use_supervisor_instruction, may_mret, core_after_mret, core_after_sret}
use Rattle.hart_step.specs.Returns.{wfi_traps}

-- the hart after an instruction that does not trap, and the access that it made
pub record Completion : Type 0 where
  pub core : Core
  pub access : Option Accessed

-- without an access
abbrev pub completion_of : Core → Result Completion Exception
completion_of core = Ok (record { core = core; access = None })

-- an illegal instruction: the trap value is its bits
abbrev pub illegal : Instruction → Result Completion Exception
illegal instruction = Err (IllegalInstruction, instruction.bits)

-- the address after an instruction
abbrev pub next_address : Core → Instruction → ℕ
next_address core instruction = (core.pc + instruction.len) % 2 ^ 64

-- the destination gets its value, and the hart goes on
unfoldable pub core_after_retirement : Core → Instruction → ℕ → ℕ → Core
core_after_retirement core instruction value next_pc =
    record core { registers = with_register core.registers (operands_of instruction.op).rd value; pc = next_pc }

-- it goes on after the instruction
abbrev pub core_at_next : Core → Instruction → ℕ → Core
core_at_next core instruction value = core_after_retirement core instruction value (next_address core instruction)

-- an environment call's cause tells the mode that calls
abbrev pub call_from : Mode → Cause
call_from User = EnvironmentCallFromUser
call_from Supervisor = EnvironmentCallFromSupervisor
call_from Machine = EnvironmentCallFromMachine

-- an access to memory
unfoldable pub after_access : Core → Instruction → Result AccessResult Exception → Result Completion Exception
after_access core instruction (Err exception) = Err exception
after_access core instruction (Ok answer) = Ok (record {
  core = core_at_next (record core { reservation = answer.reservation }) instruction answer.value;
  access = answer.access;
})

-- an access to a control and status register
unfoldable pub after_csr : Core → Instruction → Result (ℕ × Csrs) Illegal → Result Completion Exception
after_csr core instruction (Err refused) = illegal instruction
after_csr core instruction (Ok answer) =
    completion_of (core_at_next (record core { csrs = answer.1 }) instruction answer.0)

-- what a test allows, and is illegal elsewhere
abbrev pub completion_if : Bool → Core → Instruction → Result Completion Exception
completion_if allowed core instruction = if allowed then completion_of core else illegal instruction

-- an instruction of the opcode SYSTEM
unfoldable pub system_execution : Core → RowChoices → Instruction → SystemRequest → Result Completion Exception
system_execution core choices instruction (system.Csr request) =
    after_csr core instruction (csr_access_result core choices request)
system_execution core choices instruction system.EnvironmentCall = Err (call_from core.mode, 0)
system_execution core choices instruction system.Breakpoint = Err (Breakpoint, core.pc)
system_execution core choices instruction system.MachineReturn =
    completion_if (may_mret core.mode) (core_after_mret core) instruction
system_execution core choices instruction system.SupervisorReturn =
    completion_if (may_use_supervisor_instruction core TSR) (core_after_sret core) instruction
system_execution core choices instruction system.WaitForInterrupt =
    completion_if (not (wfi_traps core choices)) (core_at_next core instruction 0) instruction
system_execution core choices instruction system.TranslationFence =
    completion_if (may_use_supervisor_instruction core TVM) (core_at_next core instruction 0) instruction

-- what an instruction asks for
abbrev pub execution_by : Core → RowChoices → Instruction → IntResult → Action (Result Completion Exception)
execution_by core choices instruction (results.Value value) = pure (completion_of (core_at_next core instruction value))
execution_by core choices instruction (results.Jump link target) =
    pure (completion_of (core_after_retirement core instruction link target))
execution_by core choices instruction (results.Continue next_pc) =
    pure (completion_of (core_after_retirement core instruction 0 next_pc))
execution_by core choices instruction (results.Access request) =
    mapped (after_access core instruction) (memory_access core choices request)
execution_by core choices instruction (results.System request) =
    pure (system_execution core choices instruction request)

abbrev pub first_value : Core → Op → ℕ
first_value core op = register_of core.registers (operands_of op).rs1

abbrev pub second_value : Core → Op → ℕ
second_value core op = register_of core.registers (operands_of op).rs2

-- an instruction: the hart after it, or the exception that it raises
unfoldable pub execution_of : Core → RowChoices → Instruction → Action (Result Completion Exception)
execution_of core choices instruction =
    execution_by core choices instruction
    (result_of instruction.op (first_value core instruction.op) (second_value core instruction.op)
    core.pc instruction.len)

-- the hart after what stands at pc, short of a trap's entry, and what became of it
pub record InstructionRun : Type 0 where
  pub core : Core
  pub executed : InstructionOutcome

-- an instruction that raises an exception leaves the hart as it was
abbrev pub run_of_exception : Core → Option ℕ → Exception → InstructionRun
run_of_exception core insn exception = record { core = core; executed = Trapped insn exception }

abbrev pub run_of_result : Core → Instruction → Result Completion Exception → InstructionRun
run_of_result core instruction (Err exception) = run_of_exception core (Some instruction.bits) exception
run_of_result core instruction (Ok completion_of) =
    record { core = completion_of.core; executed = Retired instruction completion_of.access }

-- what so many bytes mean
abbrev pub op_of : ℕ → ℕ → Option Op
op_of bits len = if len == 2 then expanded_op_of bits else decoded_op_of bits

-- and what they mean to a hart, which may have the instructions of bit manipulation
abbrev pub op_for : Core → ℕ → ℕ → Option Op
op_for core bits len = if len == 2 then expanded_op_of bits else decoded_op_with bits core.choices.bits

-- a word that means nothing is illegal
abbrev pub run_of_decoded : Core → Shown → ℕ → ℕ → Option Op → Action InstructionRun
run_of_decoded core shown bits len None = pure (run_of_exception core (Some bits) (IllegalInstruction, bits))
run_of_decoded core shown bits len (Some op) =
    let instruction : Instruction = record { op = op; bits = bits; len = len } in
    mapped (run_of_result core instruction) (execution_of core (row_choices_of shown (operands_of op).rd) instruction)

abbrev pub run_of_fetched : Core → Shown → Result (ℕ × ℕ) Exception → Action InstructionRun
run_of_fetched core shown (Err exception) = pure (run_of_exception core None exception)
run_of_fetched core shown (Ok word) = run_of_decoded core shown word.0 word.1 (op_for core word.0 word.1)

-- what stands at pc is fetched
abbrev pub fetch_at_pc : Core → Action (Result (ℕ × ℕ) Exception)
fetch_at_pc core = fetch_result core.csrs core.map core.choices core.mode core.pc

-- and decoded and executed
unfoldable pub instruction_run : Core → Shown → Action InstructionRun
instruction_run core shown = fetch_at_pc core >>= run_of_fetched core shown
