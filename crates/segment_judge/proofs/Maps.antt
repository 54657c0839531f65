-- No step changes what stands at which physical address.
use Rattle.std.proofs.Common.{◌≡◌, ℕ, Bool, true, false, not, inl, inr, refl, sym, ap, ◌∙◌, subst, Ok, Err, Result}
use Rattle.std.proofs.Common.{Option, Some, None}
use Rattle.std.proofs.lemmas.Bool.{cases_Bool}
use Rattle.hart_words.specs.Actions.{Run, pure, mapped}
use Rattle.hart_words.specs.Memory.{Bytes, after_writes}
use Rattle.hart_words.specs.Signals.{Shown}
use Rattle.hart_words.proofs.Runs.{run_then-is}
use Rattle.rv_decode.specs.declared.operation.Op.{Op}
use Rattle.rv_decode.specs.Operands.{operands_of}
use Rattle.rv_integer.specs.declared.int_result.IntResult.{IntResult}
use Rattle.rv_integer.specs.declared.int_result.IntResult.TheVariants as results
use Rattle.rv_integer.specs.declared.int_result.SystemRequest.{SystemRequest}
use Rattle.rv_integer.specs.declared.int_result.SystemRequest.TheVariants as system
use Rattle.rv_integer.specs.Results.{result_of}
use Rattle.csr_file.specs.declared.csrs.Csrs.{Csrs}
use Rattle.csr_file.specs.declared.access.Illegal.{Illegal}
use Rattle.csr_file.specs.declared.fields.TheConstants.{TSR, TVM}
use Rattle.mem_access.specs.Accesses.{Exception, fetch_result}
use Rattle.hart_step.specs.declared.state.Core.{Core}
use Rattle.hart_step.specs.declared.choices.RowChoices.{RowChoices}
use Rattle.hart_step.specs.declared.instruction.Instruction.{Instruction}
use Rattle.hart_step.specs.declared.instruction.InstructionOutcome.{InstructionOutcome}
use Rattle.hart_step.specs.declared.instruction.InstructionOutcome.TheVariants.{Trapped, Retired}
use Rattle.hart_step.specs.declared.memory.AccessResult.{AccessResult}
use Rattle.hart_step.specs.Choices.{row_choices_of}
use Rattle.hart_step.specs.MemoryAccess.{memory_access}
use Rattle.hart_step.specs.CsrAccess.{csr_access_result}
use Rattle.hart_step.specs.Returns.{may_use_supervisor_instruction, may_mret, core_after_mret, core_after_sret}
use Rattle.hart_step.specs.Returns.{wfi_traps}
use Rattle.hart_step.specs.Instructions.{Completion, core_after_retirement, core_at_next, after_access, after_csr}
use Rattle.hart_step.specs.Instructions.{completion_if, system_execution, execution_of, execution_by, first_value}
use Rattle.hart_step.specs.Instructions.{second_value, InstructionRun, run_of_result, op_for, run_of_decoded}
use Rattle.hart_step.specs.Instructions.{run_of_fetched, instruction_run}
use Rattle.hart_step.specs.Steps.{before_instruction, core_after_entry, core_after_outcome, core_after_run}
use Rattle.hart_step.specs.Laws.{next_of}
use Rattle.hart_step.proofs.Phases.{next_running, next_halted}
use Rattle.segment_judge.proofs.Within.{begun_map}

-- an instruction
abbrev Stays : Core → Result Completion Exception → Type 0
Stays core (Err exception) = Unit {0}
Stays core (Ok done) = done.core.map ≡ core.map

by_csr : (core : Core) (i : Instruction) (answer : Result (ℕ × Csrs) Illegal) → Stays core (after_csr core i answer)
unfolding after_csr core_after_retirement
by_csr core i (Err refused) = tt
by_csr core i (Ok answer) = refl

by_access : (core : Core) (i : Instruction) (answer : Result AccessResult Exception)
    → Stays core (after_access core i answer)
unfolding after_access core_after_retirement
by_access core i (Err exception) = tt
by_access core i (Ok answer) = refl

by_test : (core next : Core) (i : Instruction) (allowed : Bool) → next.map ≡ core.map
    → Stays core (completion_if allowed next i)
by_test core next i true same = same
by_test core next i false same = tt

system_stays : (core : Core) (choices : RowChoices) (i : Instruction) (request : SystemRequest)
    → Stays core (system_execution core choices i request)
unfolding system_execution core_after_retirement core_after_mret core_after_sret
system_stays core choices i (system.Csr request) = by_csr core i (csr_access_result core choices request)
system_stays core choices i system.EnvironmentCall = tt
system_stays core choices i system.Breakpoint = tt
system_stays core choices i system.MachineReturn = by_test core (core_after_mret core) i (may_mret core.mode) refl
system_stays core choices i system.SupervisorReturn =
    by_test core (core_after_sret core) i (may_use_supervisor_instruction core TSR) refl
system_stays core choices i system.WaitForInterrupt =
    by_test core (core_at_next core i 0) i (not (wfi_traps core choices)) refl
system_stays core choices i system.TranslationFence =
    by_test core (core_at_next core i 0) i (may_use_supervisor_instruction core TVM) refl

executed_by_stays : (core : Core) (choices : RowChoices) (i : Instruction) (result : IntResult) (bytes : Bytes)
    → Stays core ((execution_by core choices i result).run bytes).value
unfolding pure mapped core_after_retirement
executed_by_stays core choices i (results.Value value) bytes = refl
executed_by_stays core choices i (results.Jump link target) bytes = refl
executed_by_stays core choices i (results.Continue next_pc) bytes = refl
executed_by_stays core choices i (results.Access request) bytes =
    by_access core i ((memory_access core choices request).run bytes).value
executed_by_stays core choices i (results.System request) bytes = system_stays core choices i request

-- what stands at pc
abbrev RanStays : Core → InstructionRun → Type 0
RanStays core done = done.core.map ≡ core.map

ended_stays : (core : Core) (i : Instruction) (done : Result Completion Exception) → Stays core done
    → RanStays core (run_of_result core i done)
ended_stays core i (Err exception) stays = refl
ended_stays core i (Ok done) stays = stays

decoded_stays : (core : Core) (shown : Shown) (bits len : ℕ) (op : Option Op) (bytes : Bytes)
    → RanStays core ((run_of_decoded core shown bits len op).run bytes).value
unfolding pure mapped execution_of
decoded_stays core shown bits len None bytes = refl
decoded_stays core shown bits len (Some op) bytes =
    let i : Instruction = record { op = op; bits = bits; len = len } in
    let choices = row_choices_of shown (operands_of op).rd in
    let result = result_of op (first_value core op) (second_value core op) core.pc len in
    ended_stays core i ((execution_of core choices i).run bytes).value (executed_by_stays core choices i result bytes)

fetched_stays : (core : Core) (shown : Shown) (word : Result (ℕ × ℕ) Exception) (bytes : Bytes)
    → RanStays core ((run_of_fetched core shown word).run bytes).value
unfolding pure
fetched_stays core shown (Err exception) bytes = refl
fetched_stays core shown (Ok word) bytes = decoded_stays core shown word.0 word.1 (op_for core word.0 word.1) bytes

ran_stays : (core : Core) (shown : Shown) (bytes : Bytes) → RanStays core ((instruction_run core shown).run bytes).value
unfolding instruction_run
ran_stays core shown bytes =
    let fetch = fetch_result core.csrs core.map core.choices core.mode core.pc in
    let before = fetch.run bytes in
    let whole = run_then-is fetch (run_of_fetched core shown) bytes in
    let P : Run InstructionRun → Type 0 = λ r. RanStays core r.value in
    subst P (sym whole) (fetched_stays core shown before.value (after_writes before.wrote bytes))

finished_by_stays : (core : Core) (execution_of : InstructionOutcome)
    → (core_after_outcome core execution_of).map ≡ core.map
unfolding core_after_entry
finished_by_stays core (Trapped insn exception) = refl
finished_by_stays core (Retired instruction access) = refl

finished_stays : (done : InstructionRun) (shown : Shown) → (core_after_run done shown).map ≡ done.core.map
unfolding core_after_run
finished_stays done shown = finished_by_stays done.core done.executed

map_running : (core : Core) (shown : Shown) (bytes : Bytes) → core.halted ≡ false
    → (next_of core shown bytes).map ≡ core.map
map_running core shown bytes runs =
    let begins = before_instruction core shown in
    let done = ((instruction_run begins shown).run bytes).value in
    ap (λ (k : Core). k.map) (next_running core shown bytes runs) ∙ finished_stays done shown
    ∙ ran_stays begins shown bytes ∙ begun_map core shown

pub map_stays : (core : Core) (shown : Shown) (bytes : Bytes) → (next_of core shown bytes).map ≡ core.map
map_stays core shown bytes = elim (cases_Bool core.halted) [
  | inl halted ↦ ap (λ (k : Core). k.map) (next_halted core shown bytes halted)
  | inr runs ↦ map_running core shown bytes runs
]
