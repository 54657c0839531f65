-- A step keeps the choices of an implementation.
use Rattle.std.proofs.Common.{◌≡◌, ℕ, Bool, true, false, Option, Some, None, Ok, Err, Result, refl, ap, ◌∙◌}
use Rattle.std.proofs.Common.{inl, inr, if◌then◌else◌}
use Rattle.std.specs.Prelude.{IfOk, OnErr, OnOk, not, List, []}
use Rattle.std.proofs.lemmas.Bool.{cases_Bool}
use Rattle.hart_words.specs.declared.accesses.Read.{Read}
use Rattle.hart_words.specs.declared.accesses.Write.{Write}
use Rattle.hart_words.specs.declared.privilege.Mode.{Mode}
use Rattle.hart_words.specs.Memory.{Bytes}
use Rattle.hart_words.specs.Signals.{Shown}
use Rattle.hart_words.specs.declared.fault.NoMemory.{NoMemory}
use Rattle.hart_words.specs.Actions.{Performs, pure, mapped}
use Rattle.csr_file.specs.declared.csrs.Csrs.{Csrs}
use Rattle.csr_file.specs.declared.access.Illegal.{Illegal}
use Rattle.csr_file.specs.declared.fields.TheConstants.{TSR, TVM}
use Rattle.rv_decode.specs.declared.operation.Op.{Op}
use Rattle.rv_decode.specs.Operands.{operands_of}
use Rattle.rv_integer.specs.declared.int_result.IntResult.{IntResult}
use Rattle.rv_integer.specs.declared.int_result.IntResult.TheVariants as results
use Rattle.rv_integer.specs.declared.int_result.SystemRequest.{SystemRequest}
use Rattle.rv_integer.specs.declared.int_result.SystemRequest.TheVariants as system
use Rattle.rv_integer.specs.Results.{result_of}
use Rattle.mem_access.specs.Accesses.{Exception}
use Rattle.mem_access.proofs.Grants.{then_gives}
use Rattle.rvfi_rows.specs.declared.expected.Expected.{Expected}
use Rattle.hart_step.specs.declared.state.Core.{Core}
use Rattle.hart_step.specs.declared.choices.RowChoices.{RowChoices}
use Rattle.hart_step.specs.declared.instruction.Instruction.{Instruction}
use Rattle.hart_step.specs.declared.instruction.InstructionOutcome.{InstructionOutcome}
use Rattle.hart_step.specs.declared.instruction.InstructionOutcome.TheVariants.{Trapped, Retired}
use Rattle.hart_step.specs.declared.memory.AccessResult.{AccessResult}
use Rattle.hart_step.specs.Choices.{asks_interrupt, row_choices_of}
use Rattle.hart_step.specs.CsrAccess.{csr_access_result}
use Rattle.hart_step.specs.MemoryAccess.{memory_access}
use Rattle.hart_step.specs.Returns.{core_after_mret, core_after_sret, may_mret, may_use_supervisor_instruction}
use Rattle.hart_step.specs.Returns.{wfi_traps}
use Rattle.hart_step.specs.Instructions.{Completion, InstructionRun, after_access, after_csr, completion_if}
use Rattle.hart_step.specs.Instructions.{core_at_next}
use Rattle.hart_step.specs.Instructions.{core_after_retirement, execution_by, execution_of, fetch_at_pc, first_value}
use Rattle.hart_step.specs.Instructions.{instruction_run, op_for, run_of_decoded, run_of_fetched, run_of_result}
use Rattle.hart_step.specs.Instructions.{second_value, system_execution}
use Rattle.hart_step.specs.Steps.{before_instruction, core_after_count, core_after_entry, core_after_interrupt}
use Rattle.hart_step.specs.Steps.{core_after_interrupt_by, core_after_outcome, core_after_run, interrupt_of, step_of}
use Rattle.hart_step.specs.Laws.{next_of}
use Rattle.hart_step.proofs.Phases.{next_halted, next_running}

-- ---- an instruction

abbrev Keeps : Core → Result Completion Exception → Type 0
Keeps core result = IfOk result (λ done. done.core.choices ≡ core.choices)

access_keeps : (core : Core) (i : Instruction) (answer : Result AccessResult Exception)
    → Keeps core (after_access core i answer)
unfolding after_access core_after_retirement
access_keeps core i (Err exception) = tt
access_keeps core i (Ok answer) = refl

csr_keeps : (core : Core) (i : Instruction) (answer : Result (ℕ × Csrs) Illegal) → Keeps core (after_csr core i answer)
unfolding after_csr core_after_retirement
csr_keeps core i (Err refused) = tt
csr_keeps core i (Ok answer) = refl

allowed_keeps : (allowed : Bool) (core after : Core) (i : Instruction) → after.choices ≡ core.choices
    → Keeps core (completion_if allowed after i)
allowed_keeps true core after i kept = kept
allowed_keeps false core after i kept = tt

system_keeps : (core : Core) (choices : RowChoices) (i : Instruction) (request : SystemRequest)
    → Keeps core (system_execution core choices i request)
unfolding system_execution core_after_retirement core_after_mret core_after_sret
system_keeps core choices i (system.Csr request) = csr_keeps core i (csr_access_result core choices request)
system_keeps core choices i system.EnvironmentCall = tt
system_keeps core choices i system.Breakpoint = tt
system_keeps core choices i system.MachineReturn =
    allowed_keeps (may_mret core.mode) core (core_after_mret core) i refl
system_keeps core choices i system.SupervisorReturn =
    allowed_keeps (may_use_supervisor_instruction core TSR) core (core_after_sret core) i refl
system_keeps core choices i system.WaitForInterrupt =
    allowed_keeps (not (wfi_traps core choices)) core (core_at_next core i 0) i refl
system_keeps core choices i system.TranslationFence =
    allowed_keeps (may_use_supervisor_instruction core TVM) core (core_at_next core i 0) i refl

executed_keeps : (core : Core) (choices : RowChoices) (i : Instruction) (result : IntResult) (bytes : Bytes)
    → Keeps core ((execution_by core choices i result).run bytes).value
unfolding pure mapped core_after_retirement
executed_keeps core choices i (results.Value value) bytes = refl
executed_keeps core choices i (results.Jump link target) bytes = refl
executed_keeps core choices i (results.Continue next_pc) bytes = refl
executed_keeps core choices i (results.Access request) bytes =
    access_keeps core i ((memory_access core choices request).run bytes).value
executed_keeps core choices i (results.System request) bytes = system_keeps core choices i request

-- ---- what stands at pc

result_keeps : (core : Core) (i : Instruction) (result : Result Completion Exception) → Keeps core result
    → (run_of_result core i result).core.choices ≡ core.choices
result_keeps core i (Err exception) kept = refl
result_keeps core i (Ok done) kept = kept

decoded_keeps : (core : Core) (shown : Shown) (bits len : ℕ) (op : Option Op) (bytes : Bytes)
    → ((run_of_decoded core shown bits len op).run bytes).value.core.choices ≡ core.choices
unfolding pure mapped execution_of
decoded_keeps core shown bits len None bytes = refl
decoded_keeps core shown bits len (Some op) bytes =
    let i : Instruction = record { op = op; bits = bits; len = len } in
    let choices = row_choices_of shown (operands_of op).rd in
    let result = result_of op (first_value core op) (second_value core op) core.pc len in
    result_keeps core i ((execution_by core choices i result).run bytes).value
    (executed_keeps core choices i result bytes)

fetched_keeps : (core : Core) (shown : Shown) (word : Result (ℕ × ℕ) Exception) (bytes : Bytes)
    → ((run_of_fetched core shown word).run bytes).value.core.choices ≡ core.choices
unfolding pure
fetched_keeps core shown (Err exception) bytes = refl
fetched_keeps core shown (Ok word) bytes = decoded_keeps core shown word.0 word.1 (op_for core word.0 word.1) bytes

ran_keeps : (core : Core) (shown : Shown) (bytes : Bytes)
    → ((instruction_run core shown).run bytes).value.core.choices ≡ core.choices
unfolding instruction_run
ran_keeps core shown bytes =
    let fetch = fetch_at_pc core in
    then_gives (λ (done : InstructionRun). done.core.choices ≡ core.choices) fetch (run_of_fetched core shown) bytes
    (λ now. fetched_keeps core shown (fetch.run bytes).value now)

-- ---- the step

outcome_keeps : (core : Core) (outcome : InstructionOutcome) → (core_after_outcome core outcome).choices ≡ core.choices
unfolding core_after_entry
outcome_keeps core (Trapped insn exception) = refl
outcome_keeps core (Retired instruction access) = refl

ended_keeps : (done : InstructionRun) (shown : Shown) → (core_after_run done shown).choices ≡ done.core.choices
unfolding core_after_run
ended_keeps done shown = outcome_keeps done.core done.executed

begun_by : (core : Core) (asks : Bool) (pick : Option (ℕ × Mode))
    → (if asks then core_after_interrupt_by core pick else core).choices ≡ core.choices
unfolding core_after_entry
begun_by core false pick = refl
begun_by core true None = refl
begun_by core true (Some interrupt) = refl

pub begun_keeps : (core : Core) (shown : Shown) → (before_instruction core shown).choices ≡ core.choices
unfolding before_instruction core_after_interrupt core_after_count
begun_keeps core shown =
    begun_by (core_after_count core shown) (asks_interrupt (core_after_count core shown) shown)
    (interrupt_of (core_after_count core shown) shown)

pub next_keeps : (core : Core) (shown : Shown) (bytes : Bytes) → (next_of core shown bytes).choices ≡ core.choices
next_keeps core shown bytes = elim (cases_Bool core.halted) [
  | inl halted ↦ ap (λ k. k.choices) (next_halted core shown bytes halted)
  | inr runs ↦
      let begun = before_instruction core shown in
      let done = ((instruction_run begun shown).run bytes).value in
      ap (λ k. k.choices) (next_running core shown bytes runs) ∙ ended_keeps done shown ∙ ran_keeps begun shown bytes
      ∙ begun_keeps core shown
]

-- so does a call that puts what the step gave in place of what an earlier one gave, or lacks memory
pub put_keeps : {X : Type 0} (core next : Core) (shown : Shown) (expected : Expected) (seen : List Read)
    (wrote : List Write) (result : Result X NoMemory) (before now : Bytes)
    → OnOk result (Performs (step_of core shown) (record { next = next; expected = expected }) [] seen [] wrote before
    now) → OnErr result ((next ≡ core) × (now ≡ before)) → next.choices ≡ core.choices
put_keeps core next shown expected seen wrote (Ok done) before now ran unchanged =
    ap (λ g. g.next.choices) ran.value_is ∙ next_keeps core shown before
put_keeps core next shown expected seen wrote (Err lacking) before now ran unchanged = ap (λ k. k.choices) unchanged.0
