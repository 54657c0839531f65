-- Where a synchronous trap leads, from the Privileged Architecture's chapters "Machine-Level ISA" (medeleg, mtvec,
-- mepc, mcause, mtval) and "Supervisor-Level ISA" (stvec, sepc, scause, stval).
use Rattle.std.specs.Prelude.{◌≡◌, ◌≢◌, ◌⊎◌, ℕ, ◌+◌, ◌*◌, ◌/◌, ◌%◌, ◌^◌, true, Option, Some, None, Result, Ok, Err}
use Rattle.hart_words.specs.declared.privilege.Mode.TheVariants.{Supervisor, Machine}
use Rattle.hart_words.specs.declared.privilege.Cause.{Cause}
use Rattle.hart_words.specs.declared.privilege.Cause.TheVariants.{IllegalInstruction, Breakpoint}
use Rattle.hart_words.specs.Privilege.{cause_code}
use Rattle.hart_words.specs.Memory.{Bytes}
use Rattle.hart_words.specs.Signals.{Shown}
use Rattle.hart_words.specs.AccessSizes.{bytes_of}
use Rattle.hart_words.specs.Options.{are_by_row, are_done}
use Rattle.hart_words.specs.declared.signal.Signal.TheVariants.{Trap}
use Rattle.rv_integer.specs.declared.int_result.IntResult.{IntResult}
use Rattle.rv_integer.specs.declared.int_result.MemoryRequest.{MemoryRequest}
use Rattle.rv_integer.specs.declared.int_result.IntResult.TheVariants.{Access, System}
use Rattle.rv_integer.specs.declared.int_result.SystemRequest.TheVariants as system
use Rattle.csr_file.specs.declared.stored_csr.StoredCsr.TheVariants.{Mstatus, Medeleg, Mtvec, Mepc, Mcause, Mtval}
use Rattle.csr_file.specs.declared.stored_csr.StoredCsr.TheVariants.{Stvec, Sepc, Scause, Stval}
use Rattle.csr_file.specs.Registers.{at}
use Rattle.csr_file.specs.Fields.{bit_is_set}
use Rattle.trap_entry.specs.Laws.{ChangesOnly, IsStackedForMachine, IsStackedForSupervisor, is_of_machine}
use Rattle.trap_entry.specs.Laws.{is_of_supervisor}
use Rattle.rvfi_rows.specs.declared.expected.Expected.{Expected}
use Rattle.rvfi_rows.specs.declared.expected.Expected.TheVariants as expected
use Rattle.mem_access.specs.Accesses.{Exception, has_second_part, second_part}
use Rattle.hart_step.specs.declared.state.Core.{Core}
use Rattle.hart_step.specs.declared.instruction.InstructionOutcome.{InstructionOutcome}
use Rattle.hart_step.specs.declared.instruction.InstructionOutcome.TheVariants.{Trapped, Retired}
use Rattle.hart_step.specs.Choices.{shows}
use Rattle.hart_step.specs.MemoryAccess.{fault_of, located_access}
use Rattle.hart_step.specs.Instructions.{call_from, fetch_at_pc, op_for, instruction_run}
use Rattle.hart_step.specs.Steps.{before_instruction, written_trap_value}
use Rattle.hart_step.specs.Laws.{bytes_after_fetch, is_device_found, request_by}

-- what became of the instruction of a step
abbrev pub executed_at : Core → Shown → Bytes → InstructionOutcome
executed_at core shown bytes = ((instruction_run (before_instruction core shown) shown).run bytes).value.executed

-- it raised an exception, which has a cause and a trap value
abbrev pub Raises : InstructionOutcome → Exception → Type 0
Raises (Trapped insn raised) exception = raised ≡ exception
Raises (Retired instruction access) exception = ⊥

-- the address of the second part of an access: of one that runs into the next page, where misaligned ones are done
pub record IsSecondAddress (before : Core) (va len address : ℕ) : Type 0 where
  pub done : are_done before.choices.misaligned ≡ true
  pub runs_over : has_second_part va len ≡ true
  pub second : address ≡ (second_part va len).va

-- the address of an access, or of its second part
abbrev pub IsPartAddress : Core → MemoryRequest → ℕ → Type 0
IsPartAddress before request address =
    (address ≡ request.address) ⊎ IsSecondAddress before request.address (bytes_of request.size) address

-- a device that has the place of the access refuses it: devices may, and the row shows a trap
pub record IsRefusedByDevice (before : Core) (shown : Shown) (request : MemoryRequest) (bytes : Bytes)
    (exception : Exception) : Type 0 where
  pub may_refuse : are_by_row before.choices.device_faults ≡ true
  pub shows_trap : shows (shown Trap) 1 ≡ true
  pub at_device : is_device_found ((located_access before request).run bytes).value ≡ true
  pub fault : exception ≡ (fault_of request.op, request.address)

-- an access, in memory as the fetch leaves it: its exception is the one that looking for its places comes to, of the
-- first part that is refused, with that part's cause and address; or a device that has its place refuses it
pub record IsRefused (before : Core) (shown : Shown) (request : MemoryRequest) (bytes : Bytes) (exception : Exception)
    : Type 0 where
  pub address : IsPartAddress before request exception.1
  pub refused : (((located_access before request).run bytes).value ≡ Err exception)
      ⊎ IsRefusedByDevice before shown request bytes exception

-- the exception by what the instruction asks for: of an access the one that refuses it; else the trap value is 0 of a
-- call, pc of a breakpoint, and the bits of an instruction that is illegal
abbrev pub IsRaisedAs : Core → Shown → Bytes → ℕ → Option IntResult → Exception → Type 0
IsRaisedAs before shown bytes bits None exception = exception ≡ (IllegalInstruction, bits)
IsRaisedAs before shown bytes bits (Some (Access request)) exception = IsRefused before shown request bytes exception
IsRaisedAs before shown bytes bits (Some (System system.EnvironmentCall)) exception =
    exception ≡ (call_from before.mode, 0)
IsRaisedAs before shown bytes bits (Some (System system.Breakpoint)) exception = exception ≡ (Breakpoint, before.pc)
IsRaisedAs before shown bytes bits (Some (System request)) exception = exception ≡ (IllegalInstruction, bits)
IsRaisedAs before shown bytes bits (Some result) exception = ⊥

-- and where it cannot be fetched, the address of the half that is refused
abbrev pub IsRaisedFrom : Core → Shown → Bytes → Result (ℕ × ℕ) Exception → Exception → Type 0
IsRaisedFrom before shown bytes (Err refused) exception =
    (exception ≡ refused) × ((exception.1 ≡ before.pc) ⊎ (exception.1 ≡ (before.pc + 2) % 2 ^ 64))
IsRaisedFrom before shown bytes (Ok word) exception =
    IsRaisedAs before shown bytes word.0 (request_by before word.1 (op_for before word.0 word.1)) exception

abbrev pub IsRaisedIn : Core → Shown → Bytes → Exception → Type 0
IsRaisedIn before shown bytes exception =
    IsRaisedFrom before shown (bytes_after_fetch before bytes) ((fetch_at_pc before).run bytes).value exception

-- an exception is delegated to S where it is raised in S or U and medeleg has the bit of its code
pub record IsDelegatedToSupervisor (before : Core) (cause : Cause) : Type 0 where
  pub below_machine : before.mode ≢ Machine
  pub by_medeleg : bit_is_set (at before.csrs Medeleg) (cause_code cause) ≡ true

-- the base of a trap vector: all but its two lowest bits, which are its mode
abbrev pub vector_base : ℕ → ℕ
vector_base tvec = tvec / 4 * 4

-- a trap in M, from the hart that the instruction found to the hart after the step
pub record LeadsToMachine (before after : Core) (exception : Exception) : Type 0 where
  pub mode : after.mode ≡ Machine
  pub pc : after.pc ≡ vector_base (at before.csrs Mtvec)
  pub mepc : at after.csrs Mepc ≡ before.pc
  pub mcause : at after.csrs Mcause ≡ cause_code exception.0
  pub mtval : at after.csrs Mtval ≡ written_trap_value before (cause_code exception.0) exception.1
  pub mstatus : IsStackedForMachine (at before.csrs Mstatus) before.mode (at after.csrs Mstatus)
  pub others : ChangesOnly is_of_machine before.csrs after.csrs

-- a trap in S
pub record LeadsToSupervisor (before after : Core) (exception : Exception) : Type 0 where
  pub mode : after.mode ≡ Supervisor
  pub pc : after.pc ≡ vector_base (at before.csrs Stvec)
  pub sepc : at after.csrs Sepc ≡ before.pc
  pub scause : at after.csrs Scause ≡ cause_code exception.0
  pub stval : at after.csrs Stval ≡ written_trap_value before (cause_code exception.0) exception.1
  pub mstatus : IsStackedForSupervisor (at before.csrs Mstatus) before.mode (at after.csrs Mstatus)
  pub others : ChangesOnly is_of_supervisor before.csrs after.csrs

-- to the handler of S where it is delegated, else to that of M
pub record LeadsToHandler (before after : Core) (exception : Exception) : Type 0 where
  pub delegated : IsDelegatedToSupervisor before exception.0 → LeadsToSupervisor before after exception
  pub not_delegated : (IsDelegatedToSupervisor before exception.0 → ⊥) → LeadsToMachine before after exception
  pub trapped_last : after.trapped_last ≡ true

-- what the hart did has the cause
abbrev pub HasCause : Expected → Cause → Type 0
HasCause expected.Halted cause = ⊥
HasCause (expected.Retired retired) cause = retired.effects ≡ Err cause
