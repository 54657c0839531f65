-- What is reserved after an instruction that retires, by the phases of its step.
use Rattle.std.proofs.Common.{◌≡◌, ℕ, Bool, true, false, not, Option, Some, None, Result, Ok, Err, refl, sym}
use Rattle.std.proofs.Common.{subst, if◌then◌else◌}
use Rattle.std.specs.Prelude.{IfOk}
use Rattle.hart_words.specs.Memory.{Bytes, after_writes}
use Rattle.hart_words.specs.Signals.{Shown}
use Rattle.hart_words.specs.Actions.{Run, mapped, pure}
use Rattle.hart_words.proofs.Runs.{run_then-is}
use Rattle.rv_decode.specs.declared.operation.Op.{Op}
use Rattle.rv_decode.specs.Operands.{operands_of}
use Rattle.rv_integer.specs.declared.int_result.IntResult.{IntResult}
use Rattle.rv_integer.specs.declared.int_result.IntResult.TheVariants as results
use Rattle.rv_integer.specs.declared.int_result.SystemRequest.{SystemRequest}
use Rattle.rv_integer.specs.declared.int_result.SystemRequest.TheVariants as system
use Rattle.rv_integer.specs.declared.int_result.MemoryRequest.{MemoryRequest}
use Rattle.rv_integer.specs.declared.int_result.MemoryOp.{MemoryOp}
use Rattle.rv_integer.specs.declared.int_result.MemoryOp.TheVariants.{Load, LoadReserved, Store, StoreConditional, Amo}
use Rattle.rv_integer.specs.Results.{result_of}
use Rattle.rv_atomic.specs.declared.reservation.Block.{Block}
use Rattle.rv_atomic.specs.declared.reservation.Reservation.{Reservation}
use Rattle.rv_atomic.specs.Blocks.{block_of}
use Rattle.csr_file.specs.declared.csrs.Csrs.{Csrs}
use Rattle.csr_file.specs.declared.access.Illegal.{Illegal}
use Rattle.csr_file.specs.declared.fields.TheConstants.{TSR, TVM}
use Rattle.mem_access.specs.declared.place.Place.{Place}
use Rattle.mem_access.specs.Accesses.{Exception, LocatedValue}
use Rattle.hart_step.specs.declared.state.Core.{Core}
use Rattle.hart_step.specs.declared.choices.RowChoices.{RowChoices}
use Rattle.hart_step.specs.declared.instruction.Instruction.{Instruction}
use Rattle.hart_step.specs.declared.memory.AccessResult.{AccessResult}
use Rattle.hart_step.specs.Choices.{row_choices_of}
use Rattle.hart_step.specs.CsrAccess.{csr_access_result}
use Rattle.hart_step.specs.Returns.{core_after_mret, core_after_sret, may_mret, may_use_supervisor_instruction}
use Rattle.hart_step.specs.Returns.{wfi_traps}
use Rattle.hart_step.specs.MemoryAccess.{access_after_location, access_result_by, access_result_of, expected_access}
use Rattle.hart_step.specs.MemoryAccess.{access_at_places, device_refuses, fault_of, is_stored, located_access}
use Rattle.hart_step.specs.MemoryAccess.{memory_access}
use Rattle.hart_step.specs.Instructions.{Completion, InstructionRun, after_access, after_csr, completion_if}
use Rattle.hart_step.specs.Instructions.{core_after_retirement, core_at_next, execution_by, execution_of, fetch_at_pc}
use Rattle.hart_step.specs.Instructions.{first_value, instruction_run, op_for, run_of_decoded, run_of_fetched}
use Rattle.hart_step.specs.Instructions.{run_of_result, second_value, system_execution}
use Rattle.hart_step.specs.Laws.{bytes_after_fetch, request_at_pc, request_by, request_from}
use Rattle.hart_step.proofs.Traps.{is_trap}

-- an LR's block
pub record ReservesAt (core : Core) (bytes : Bytes) (request : MemoryRequest) (block : Option Block) : Type 0 where
  pub found : LocatedValue
  pub located : ((located_access core request).run bytes).value ≡ Ok found
  pub is : block ≡ Some (block_of core.choices.block_size found.0.pa)

-- what is reserved after an access
abbrev pub LeavesByOp : Core → Bytes → MemoryRequest → MemoryOp → Reservation → Type 0
LeavesByOp core bytes request (Load signed) after = after ≡ core.reservation
LeavesByOp core bytes request LoadReserved after = ReservesAt core bytes request after.block
LeavesByOp core bytes request (Store value) after = after ≡ core.reservation
LeavesByOp core bytes request (StoreConditional value) after = after.block ≡ None
LeavesByOp core bytes request (Amo op width b) after = after ≡ core.reservation

-- after any instruction, where memory is as its fetch leaves it
abbrev pub LeavesBy : Core → Bytes → Option IntResult → Reservation → Type 0
LeavesBy core bytes None after = after ≡ core.reservation
LeavesBy core bytes (Some (results.Value value)) after = after ≡ core.reservation
LeavesBy core bytes (Some (results.Jump link target)) after = after ≡ core.reservation
LeavesBy core bytes (Some (results.Continue next_pc)) after = after ≡ core.reservation
LeavesBy core bytes (Some (results.Access request)) after = LeavesByOp core bytes request request.op after
LeavesBy core bytes (Some (results.System request)) after = after ≡ core.reservation

abbrev pub LeavesIfOk : Core → Bytes → Option IntResult → Result Completion Exception → Type 0
LeavesIfOk core bytes asks done = IfOk done (λ completion. LeavesBy core bytes asks completion.core.reservation)

-- ---- an access

result_leaves : (core : Core) (choices : RowChoices) (request : MemoryRequest) (first : Place) (second : Option Place)
    (held : ℕ) (op : MemoryOp) (bytes : Bytes)
    → ((located_access core request).run bytes).value ≡ Ok (first, second, held)
    → LeavesByOp core bytes request op (access_result_by core choices request first held op).reservation
result_leaves core choices request first second held (Load signed) bytes located = refl
result_leaves core choices request first second held LoadReserved bytes located =
    record { found = (first, second, held); located = located; is = refl }
result_leaves core choices request first second held (Store value) bytes located = refl
result_leaves core choices request first second held (StoreConditional value) bytes located =
    by (is_stored core choices request first)
  where
    stores : AccessResult
    stores = record {
      value = 0;
      access = expected_access request first None (Some value);
      reservation = record { block = None };
    }

    fails : AccessResult
    fails = record { value = 1; access = None; reservation = record { block = None } }

    by : (stored : Bool) → (if stored then stores else fails).reservation.block ≡ None
    by true = refl
    by false = refl
result_leaves core choices request first second held (Amo op width b) bytes located = refl

found_leaves : (core : Core) (choices : RowChoices) (i : Instruction) (request : MemoryRequest)
    (found : Result LocatedValue Exception) (bytes now : Bytes)
    → ((located_access core request).run bytes).value ≡ found
    → LeavesIfOk core bytes (Some (results.Access request))
    (after_access core i ((access_after_location core choices request found).run now).value)
unfolding after_access access_result_of mapped pure core_after_retirement
found_leaves core choices i request (Err exception) bytes now located = tt
found_leaves core choices i request (Ok (first, second, held)) bytes now located =
    by (device_refuses core choices first)
  where
    by : (refuses : Bool) → LeavesIfOk core bytes (Some (results.Access request)) (after_access core i
        ((if refuses then pure (Err (fault_of request.op, request.address))
        else access_at_places core choices request (first, second, held)).run now).value)
    by true = tt
    by false = result_leaves core choices request first second held request.op bytes located

access_leaves : (core : Core) (choices : RowChoices) (i : Instruction) (request : MemoryRequest) (bytes : Bytes)
    → LeavesIfOk core bytes (Some (results.Access request))
    (after_access core i ((memory_access core choices request).run bytes).value)
unfolding memory_access
access_leaves core choices i request bytes =
    let before = (located_access core request).run bytes in
    let P : Run (Result AccessResult Exception) → Type 0 =
    λ run. LeavesIfOk core bytes (Some (results.Access request)) (after_access core i run.value) in
    subst P (sym (run_then-is (located_access core request) (access_after_location core choices request) bytes))
    (found_leaves core choices i request before.value bytes (after_writes before.wrote bytes) refl)

-- ---- an instruction of the opcode SYSTEM

abbrev KeepsIfOk : Core → Result Completion Exception → Type 0
KeepsIfOk core done = IfOk done (λ completion. completion.core.reservation ≡ core.reservation)

csr_keeps : (core : Core) (i : Instruction) (answer : Result (ℕ × Csrs) Illegal)
    → KeepsIfOk core (after_csr core i answer)
unfolding after_csr core_after_retirement
csr_keeps core i (Err refused) = tt
csr_keeps core i (Ok answer) = refl

allowed_keeps : (core next : Core) (i : Instruction) (allowed : Bool) → next.reservation ≡ core.reservation
    → KeepsIfOk core (completion_if allowed next i)
allowed_keeps core next i true same = same
allowed_keeps core next i false same = tt

next_keeps : (core : Core) (i : Instruction) (value : ℕ) → (core_at_next core i value).reservation ≡ core.reservation
unfolding core_after_retirement
next_keeps core i value = refl

mret_keeps : (core : Core) → (core_after_mret core).reservation ≡ core.reservation
unfolding core_after_mret
mret_keeps core = refl

sret_keeps : (core : Core) → (core_after_sret core).reservation ≡ core.reservation
unfolding core_after_sret
sret_keeps core = refl

system_keeps : (core : Core) (choices : RowChoices) (i : Instruction) (request : SystemRequest)
    → KeepsIfOk core (system_execution core choices i request)
unfolding system_execution
system_keeps core choices i (system.Csr request) = csr_keeps core i (csr_access_result core choices request)
system_keeps core choices i system.EnvironmentCall = tt
system_keeps core choices i system.Breakpoint = tt
system_keeps core choices i system.MachineReturn =
    allowed_keeps core (core_after_mret core) i (may_mret core.mode) (mret_keeps core)
system_keeps core choices i system.SupervisorReturn =
    allowed_keeps core (core_after_sret core) i (may_use_supervisor_instruction core TSR) (sret_keeps core)
system_keeps core choices i system.WaitForInterrupt =
    allowed_keeps core (core_at_next core i 0) i (not (wfi_traps core choices)) (next_keeps core i 0)
system_keeps core choices i system.TranslationFence =
    allowed_keeps core (core_at_next core i 0) i (may_use_supervisor_instruction core TVM) (next_keeps core i 0)

-- ---- the phases

executed_leaves : (core : Core) (choices : RowChoices) (i : Instruction) (result : IntResult) (bytes : Bytes)
    → LeavesIfOk core bytes (Some result) ((execution_by core choices i result).run bytes).value
unfolding pure mapped core_after_retirement
executed_leaves core choices i (results.Value value) bytes = refl
executed_leaves core choices i (results.Jump link target) bytes = refl
executed_leaves core choices i (results.Continue next_pc) bytes = refl
executed_leaves core choices i (results.Access request) bytes = access_leaves core choices i request bytes
executed_leaves core choices i (results.System request) bytes = system_keeps core choices i request

-- what is known of a run that does not trap
abbrev pub LeavesIfRetired : Core → Bytes → Option IntResult → InstructionRun → Type 0
LeavesIfRetired core bytes asks done =
    is_trap done.executed ≡ false → LeavesBy core bytes asks done.core.reservation

ended_leaves : (core : Core) (i : Instruction) (bytes : Bytes) (asks : Option IntResult)
    (done : Result Completion Exception) → LeavesIfOk core bytes asks done
    → LeavesIfRetired core bytes asks (run_of_result core i done)
ended_leaves core i bytes asks (Err exception) leaves retired = cc
ended_leaves core i bytes asks (Ok done) leaves retired = leaves

decoded_leaves : (core : Core) (shown : Shown) (bits len : ℕ) (op : Option Op) (bytes : Bytes)
    → LeavesIfRetired core bytes (request_by core len op) ((run_of_decoded core shown bits len op).run bytes).value
unfolding pure mapped execution_of
decoded_leaves core shown bits len None bytes = λ retired. refl
decoded_leaves core shown bits len (Some op) bytes =
    let i : Instruction = record { op = op; bits = bits; len = len } in
    let choices = row_choices_of shown (operands_of op).rd in
    let result = result_of op (first_value core op) (second_value core op) core.pc len in
    ended_leaves core i bytes (Some result) ((execution_by core choices i result).run bytes).value
    (executed_leaves core choices i result bytes)

fetched_leaves : (core : Core) (shown : Shown) (word : Result (ℕ × ℕ) Exception) (bytes : Bytes)
    → LeavesIfRetired core bytes (request_from core word) ((run_of_fetched core shown word).run bytes).value
unfolding pure
fetched_leaves core shown (Err exception) bytes = λ retired. refl
fetched_leaves core shown (Ok word) bytes =
    decoded_leaves core shown word.0 word.1 (op_for core word.0 word.1) bytes

pub ran_leaves : (core : Core) (shown : Shown) (bytes : Bytes)
    → LeavesIfRetired core (bytes_after_fetch core bytes) (request_at_pc core bytes)
    ((instruction_run core shown).run bytes).value
unfolding instruction_run request_at_pc bytes_after_fetch
ran_leaves core shown bytes =
    let before = (fetch_at_pc core).run bytes in
    let now = after_writes before.wrote bytes in
    let P : Run InstructionRun → Type 0 =
    λ run. LeavesIfRetired core now (request_from core before.value) run.value in
    subst P (sym (run_then-is (fetch_at_pc core) (run_of_fetched core shown) bytes))
    (fetched_leaves core shown before.value now)
