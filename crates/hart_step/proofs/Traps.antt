-- A synchronous trap stores nothing: what is written is entries of page tables that are set.
use Rattle.std.proofs.Common.{if◌then◌else◌}
use Rattle.std.proofs.Common.{◌≡◌, ℕ, Bool, true, false, List, refl, sym, ap, ◌∙◌, subst, inl, inr, Ok, Err, Result}
use Rattle.std.proofs.Common.{Option, Some, None}
use Rattle.std.proofs.lemmas.Bool.{cases_Bool}
use Rattle.hart_words.specs.declared.accesses.Read.{Read}
use Rattle.hart_words.specs.declared.accesses.Write.{Write}
use Rattle.hart_words.specs.Memory.{Bytes, after_writes}
use Rattle.hart_words.specs.Signals.{Shown}
use Rattle.hart_words.specs.Actions.{Run, pure, mapped}
use Rattle.hart_words.proofs.Runs.{run_then-is}
use Rattle.rv_decode.specs.declared.operation.Op.{Op}
use Rattle.rv_decode.specs.Operands.{operands_of}
use Rattle.rv_integer.specs.declared.int_result.IntResult.{IntResult}
use Rattle.rv_integer.specs.declared.int_result.IntResult.TheVariants as results
use Rattle.rv_integer.specs.declared.int_result.MemoryRequest.{MemoryRequest}
use Rattle.rv_integer.specs.Results.{result_of}
use Rattle.mem_access.specs.Accesses.{Exception, LocatedValue}
use Rattle.hart_step.specs.declared.state.Core.{Core}
use Rattle.hart_step.specs.declared.choices.RowChoices.{RowChoices}
use Rattle.hart_step.specs.declared.instruction.Instruction.{Instruction}
use Rattle.hart_step.specs.declared.instruction.InstructionOutcome.{InstructionOutcome}
use Rattle.hart_step.specs.declared.instruction.InstructionOutcome.TheVariants.{Trapped, Retired}
use Rattle.hart_step.specs.declared.memory.AccessResult.{AccessResult}
use Rattle.hart_step.specs.Choices.{row_choices_of}
use Rattle.hart_step.specs.MemoryAccess.{access_after_location, access_at_places, device_refuses, fault_of}
use Rattle.hart_step.specs.MemoryAccess.{located_access, memory_access}
use Rattle.hart_step.specs.Instructions.{Completion, after_access, execution_of, execution_by, first_value}
use Rattle.hart_step.specs.Instructions.{second_value, InstructionRun, run_of_result, op_for, run_of_decoded}
use Rattle.hart_step.specs.Instructions.{fetch_at_pc, run_of_fetched, instruction_run}
use Rattle.hart_step.specs.Steps.{before_instruction, core_after_entry, core_after_outcome, core_after_run}
use Rattle.hart_step.specs.Laws.{next_of, SetsEntriesAlone, TrapsStoreNothing}
use Rattle.hart_step.proofs.Phases.{next_running, wrote_running, next_halted, wrote_halted, begun_registers}
use Rattle.hart_step.proofs.Phases.{begun_reservation}
use Rattle.hart_step.proofs.StepSets.{fetch_sets, located_sets, sets_nothing, then_sets}

abbrev pub is_trap : InstructionOutcome → Bool
is_trap (Trapped insn exception) = true
is_trap (Retired instruction access) = false

abbrev pub is_refused : {A : Type 0} → Result A Exception → Bool
is_refused (Ok x) = false
is_refused (Err e) = true

-- where it traps the hart is as it was, and what was written is entries that were set
abbrev pub IsClean : Core → Bytes → Run InstructionRun → Type 0
IsClean core bytes run =
    is_trap run.value.executed ≡ true → (run.value.core ≡ core) × SetsEntriesAlone core bytes run.wrote

-- where it is refused that alone was written
abbrev pub StoresIfDone : {A : Type 0} → Core → Bytes → Run (Result A Exception) → Type 0
StoresIfDone core bytes run = is_refused run.value ≡ true → SetsEntriesAlone core bytes run.wrote

answered_clean : (core : Core) (choices : RowChoices) (request : MemoryRequest)
    (found : Result LocatedValue Exception) (bytes : Bytes)
    → StoresIfDone core bytes ((access_after_location core choices request found).run bytes)
unfolding pure mapped
answered_clean core choices request (Err exception) bytes = λ refused. sets_nothing core bytes
answered_clean core choices request (Ok found) bytes = by (device_refuses core choices found.0)
  where
    by : (refuses : Bool)
        → StoresIfDone core bytes ((if refuses then pure (Err (fault_of request.op, request.address))
        else access_at_places core choices request found).run bytes)
    by true = λ refused. sets_nothing core bytes
    by false = λ refused. cc

access_clean : (core : Core) (choices : RowChoices) (request : MemoryRequest) (bytes : Bytes)
    → StoresIfDone core bytes ((memory_access core choices request).run bytes)
unfolding memory_access
access_clean core choices request bytes refused =
    let before = (located_access core request).run bytes in
    let now = after_writes before.wrote bytes in
    let after = (access_after_location core choices request before.value).run now in
    let whole = run_then-is (located_access core request) (access_after_location core choices request) bytes in
    let late : is_refused after.value ≡ true = ap (λ t. is_refused t.value) (sym whole) ∙ refused in
    then_sets core (located_access core request) (access_after_location core choices request) bytes
    (located_sets core request bytes) (answered_clean core choices request before.value now late)

refused_so : (core : Core) (i : Instruction) (answer : Result AccessResult Exception)
    → is_refused (after_access core i answer) ≡ is_refused answer
unfolding after_access
refused_so core i (Err exception) = refl
refused_so core i (Ok answer) = refl

executed_by_clean : (core : Core) (choices : RowChoices) (i : Instruction) (result : IntResult) (bytes : Bytes)
    → StoresIfDone core bytes ((execution_by core choices i result).run bytes)
unfolding pure mapped
executed_by_clean core choices i (results.Value value) bytes refused = sets_nothing core bytes
executed_by_clean core choices i (results.Jump link target) bytes refused = sets_nothing core bytes
executed_by_clean core choices i (results.Continue next_pc) bytes refused = sets_nothing core bytes
executed_by_clean core choices i (results.Access request) bytes refused =
    access_clean core choices request bytes
    (sym (refused_so core i ((memory_access core choices request).run bytes).value) ∙ refused)
executed_by_clean core choices i (results.System request) bytes refused = sets_nothing core bytes

executed_clean : (core : Core) (choices : RowChoices) (i : Instruction) (bytes : Bytes)
    → StoresIfDone core bytes ((execution_of core choices i).run bytes)
unfolding execution_of
executed_clean core choices i bytes =
    executed_by_clean core choices i (result_of i.op (first_value core i.op) (second_value core i.op) core.pc i.len)
    bytes

ended_clean : (core : Core) (i : Instruction) (bytes : Bytes) (done : Result Completion Exception)
    (reads : List Read) (wrote : List Write)
    → (is_refused done ≡ true → SetsEntriesAlone core bytes wrote)
    → IsClean core bytes (record { value = run_of_result core i done; reads = reads; wrote = wrote })
ended_clean core i bytes (Err exception) reads wrote sets = λ trapped. (refl, sets refl)
ended_clean core i bytes (Ok done) reads wrote sets = λ trapped. cc

decoded_clean : (core : Core) (shown : Shown) (bits len : ℕ) (op : Option Op) (bytes : Bytes)
    → IsClean core bytes ((run_of_decoded core shown bits len op).run bytes)
unfolding pure mapped
decoded_clean core shown bits len None bytes = λ trapped. (refl, sets_nothing core bytes)
decoded_clean core shown bits len (Some op) bytes =
    let i : Instruction = record { op = op; bits = bits; len = len } in
    let did = (execution_of core (row_choices_of shown (operands_of op).rd) i).run bytes in
    ended_clean core i bytes did.value did.reads did.wrote
    (executed_clean core (row_choices_of shown (operands_of op).rd) i bytes)

fetched_clean : (core : Core) (shown : Shown) (word : Result (ℕ × ℕ) Exception) (bytes : Bytes)
    → IsClean core bytes ((run_of_fetched core shown word).run bytes)
unfolding pure
fetched_clean core shown (Err exception) bytes = λ trapped. (refl, sets_nothing core bytes)
fetched_clean core shown (Ok word) bytes = decoded_clean core shown word.0 word.1 (op_for core word.0 word.1) bytes

pub ran_clean : (core : Core) (shown : Shown) (bytes : Bytes)
    → IsClean core bytes ((instruction_run core shown).run bytes)
unfolding instruction_run
ran_clean core shown bytes trapped =
    let before = (fetch_at_pc core).run bytes in
    let now = after_writes before.wrote bytes in
    let after = (run_of_fetched core shown before.value).run now in
    let whole = run_then-is (fetch_at_pc core) (run_of_fetched core shown) bytes in
    let late : is_trap after.value.executed ≡ true = ap (λ t. is_trap t.value.executed) (sym whole) ∙ trapped in
    let clean = fetched_clean core shown before.value now late in (
      ap (λ t. t.value.core) whole ∙ clean.0,
      then_sets core (fetch_at_pc core) (run_of_fetched core shown) bytes (fetch_sets core bytes) clean.1,
    )

-- what the end of a step leaves
trapped_by : (core : Core) (execution_of : InstructionOutcome)
    → (core_after_outcome core execution_of).trapped_last ≡ is_trap execution_of
trapped_by core (Trapped insn exception) = refl
trapped_by core (Retired instruction access) = refl

pub finished_trapped : (done : InstructionRun) (shown : Shown)
    → (core_after_run done shown).trapped_last ≡ is_trap done.executed
unfolding core_after_run
finished_trapped done shown = trapped_by done.core done.executed

registers_by : (core : Core) (execution_of : InstructionOutcome)
    → (core_after_outcome core execution_of).registers ≡ core.registers
unfolding core_after_entry
registers_by core (Trapped insn exception) = refl
registers_by core (Retired instruction access) = refl

finished_registers : (done : InstructionRun) (shown : Shown)
    → (core_after_run done shown).registers ≡ done.core.registers
unfolding core_after_run
finished_registers done shown = registers_by done.core done.executed

reservation_by : (core : Core) (execution_of : InstructionOutcome)
    → (core_after_outcome core execution_of).reservation ≡ core.reservation
unfolding core_after_entry
reservation_by core (Trapped insn exception) = refl
reservation_by core (Retired instruction access) = refl

finished_reservation : (done : InstructionRun) (shown : Shown)
    → (core_after_run done shown).reservation ≡ done.core.reservation
unfolding core_after_run
finished_reservation done shown = reservation_by done.core done.executed

pub traps_store : (core : Core) (shown : Shown) (bytes : Bytes) → (next_of core shown bytes).trapped_last ≡ true
    → TrapsStoreNothing core shown bytes
traps_store core shown bytes trapped =
    let begins = before_instruction core shown in
    let Sets : List Write → Type 0 = λ w. SetsEntriesAlone begins bytes w in
    elim (cases_Bool core.halted) [
      | inl halted ↦
          let is = next_halted core shown bytes halted in
          record {
            registers = ap (λ k. k.registers) is;
            reservation = ap (λ k. k.reservation) is;
            writes = subst Sets (sym (wrote_halted core shown bytes halted)) (sets_nothing begins bytes);
          }
      | inr runs ↦
          let done = ((instruction_run begins shown).run bytes).value in
          let is = next_running core shown bytes runs in
          let traps : is_trap done.executed ≡ true =
          sym (finished_trapped done shown) ∙ sym (ap (λ k. k.trapped_last) is) ∙ trapped in
          let clean = ran_clean begins shown bytes traps in
          record {
            registers =
                ap (λ k. k.registers) is ∙ finished_registers done shown ∙ ap (λ k. k.registers) clean.0
                ∙ begun_registers core shown;
            reservation =
                ap (λ k. k.reservation) is ∙ finished_reservation done shown ∙ ap (λ k. k.reservation) clean.0
                ∙ begun_reservation core shown;
            writes = subst Sets (sym (wrote_running core shown bytes runs)) clean.1;
          }
    ]
