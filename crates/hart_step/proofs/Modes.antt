-- Privilege rises by traps and interrupts alone.
use Rattle.std.proofs.Common.{◌≡◌, ◌≢◌, ◌≤◌, ◌<◌, ℕ, Bool, true, false, not, refl, sym, ap, ◌∙◌, subst, arith, inl, inr}
use Rattle.std.proofs.Common.{zero, suc, Ok, Err, Result, Option, Some, None}
use Rattle.std.specs.Int.{bit_at}
use Rattle.std.proofs.lemmas.Bool.{cases_Bool}
use Rattle.std.proofs.lemmas.Nat.Bits.{bit_at-lt}
use Rattle.hart_words.specs.declared.privilege.Mode.{Mode}
use Rattle.hart_words.specs.declared.privilege.Mode.TheVariants.{User, Supervisor, Machine}
use Rattle.hart_words.specs.Privilege.{cause_code, mode_number}
use Rattle.hart_words.specs.Memory.{Bytes, after_writes}
use Rattle.hart_words.specs.Signals.{Shown}
use Rattle.hart_words.specs.Actions.{Run, pure, mapped}
use Rattle.hart_words.proofs.Runs.{run_then-is}
use Rattle.rv_decode.specs.declared.operation.Op.{Op}
use Rattle.rv_decode.specs.Operands.{operands_of}
use Rattle.rv_integer.specs.declared.int_result.IntResult.{IntResult}
use Rattle.rv_integer.specs.declared.int_result.IntResult.TheVariants as results
use Rattle.rv_integer.specs.declared.int_result.SystemRequest.{SystemRequest}
use Rattle.rv_integer.specs.declared.int_result.SystemRequest.TheVariants as system
use Rattle.rv_integer.specs.Results.{result_of}
use Rattle.csr_file.specs.declared.csrs.Csrs.{Csrs}
use Rattle.csr_file.specs.declared.access.Illegal.{Illegal}
use Rattle.csr_file.specs.declared.stored_csr.StoredCsr.TheVariants.{Mstatus}
use Rattle.csr_file.specs.declared.fields.TheConstants.{SPP, TSR, TVM}
use Rattle.csr_file.specs.Fields.{bit_is_set, mode_of_encoding}
use Rattle.csr_file.specs.Registers.{at}
use Rattle.trap_entry.specs.Returns.{mode_by_mret, mode_by_sret}
use Rattle.trap_entry.proofs.Undone.{never_lowers}
use Rattle.mem_access.specs.Accesses.{Exception}
use Rattle.hart_step.specs.declared.state.Core.{Core}
use Rattle.hart_step.specs.declared.choices.RowChoices.{RowChoices}
use Rattle.hart_step.specs.declared.instruction.Instruction.{Instruction}
use Rattle.hart_step.specs.declared.instruction.InstructionOutcome.{InstructionOutcome}
use Rattle.hart_step.specs.declared.instruction.InstructionOutcome.TheVariants.{Trapped, Retired}
use Rattle.hart_step.specs.declared.memory.AccessResult.{AccessResult}
use Rattle.hart_step.specs.Choices.{row_choices_of}
use Rattle.hart_step.specs.MemoryAccess.{memory_access}
use Rattle.hart_step.specs.CsrAccess.{csr_access_result}
use Rattle.hart_step.specs.Returns.{may_use_supervisor_instruction, may_in_mode, may_mret, core_after_mret}
use Rattle.hart_step.specs.Returns.{core_after_sret, wfi_traps}
use Rattle.hart_step.specs.Instructions.{Completion, core_after_retirement, core_at_next, after_access, after_csr}
use Rattle.hart_step.specs.Instructions.{completion_if, system_execution, execution_of, execution_by, first_value}
use Rattle.hart_step.specs.Instructions.{second_value, InstructionRun, run_of_result, op_for, run_of_decoded}
use Rattle.hart_step.specs.Instructions.{fetch_at_pc, run_of_fetched, instruction_run}
use Rattle.hart_step.specs.Steps.{before_instruction, core_after_count, core_after_entry, core_after_outcome}
use Rattle.hart_step.specs.Steps.{core_after_run}
use Rattle.hart_step.specs.Laws.{request_by, request_from, request_at_pc, next_of, enters_interrupt, ReturnsTo}
use Rattle.hart_step.specs.Laws.{RisesByTrapsOnly, FallsByReturnsOnly}
use Rattle.hart_step.proofs.Phases.{next_running, next_halted, begun_mode, begun_kept, same_mode}
use Rattle.hart_step.proofs.Traps.{is_trap, finished_trapped, ran_clean}

-- a mode is kept, or returned to
record IsKept (core : Core) (asks : Option IntResult) (mode : Mode) : Type 0 where
  pub no_higher : mode_number mode ≤ mode_number core.mode
  pub lower : mode ≢ core.mode → ReturnsTo core asks mode

kept : (core : Core) (asks : Option IntResult) (mode : Mode) → mode ≡ core.mode → IsKept core asks mode
kept core asks mode is = record { no_higher = same_mode mode core.mode is; lower = λ differs. absurd (differs is) }

-- where an instruction is done, so it is with the mode after it
abbrev Keeps : Core → Option IntResult → Result Completion Exception → Type 0
Keeps core asks done = (after : Completion) → done ≡ Ok after → IsKept core asks after.core.mode

same_done : (one other : Completion) (did : Result Completion Exception) → did ≡ Ok one → did ≡ Ok other → one ≡ other
same_done one other did is ends = cc

done_keeps : (core : Core) (asks : Option IntResult) (done : Completion) → done.core.mode ≡ core.mode
    → Keeps core asks (Ok done)
done_keeps core asks done is after ends =
    kept core asks after.core.mode (sym (ap (λ d. d.core.mode) (same_done done after (Ok done) refl ends)) ∙ is)

refused_keeps : (core : Core) (asks : Option IntResult) (exception : Exception) → Keeps core asks (Err exception)
refused_keeps core asks exception after ends = cc

if_keeps : (core next : Core) (asks : Option IntResult) (i : Instruction) (allowed : Bool) → next.mode ≡ core.mode
    → Keeps core asks (completion_if allowed next i)
if_keeps core next asks i true is = done_keeps core asks (record { core = next; access = None }) is
if_keeps core next asks i false is = λ after ends. cc

up_to_machine : (mode : Mode) → mode_number mode ≤ 3
up_to_machine User = omega arith
up_to_machine Supervisor = omega arith
up_to_machine Machine = omega arith

-- a return
returns_to : (core next : Core) (asks : Option IntResult) → mode_number next.mode ≤ mode_number core.mode
    → ReturnsTo core asks next.mode → Keeps core asks (Ok (record { core = next; access = None }))
returns_to core next asks below to after ends =
    let done : Completion = record { core = next; access = None } in
    let same : next.mode ≡ after.core.mode = ap (λ d. d.core.mode) (same_done done after (Ok done) refl ends) in
    let P : Mode → Type 0 = λ m. IsKept core asks m in
    subst P same (record { no_higher = below; lower = λ differs. to })

mret_keeps : (core : Core) (i : Instruction) (mode : Mode) → core.mode ≡ mode
    → Keeps core (Some (results.System system.MachineReturn)) (completion_if (may_mret mode) (core_after_mret core) i)
unfolding core_after_mret
mret_keeps core i Machine is =
    let P : Mode → Type 0 = λ m. mode_number (mode_by_mret core.csrs) ≤ mode_number m in
    returns_to core (core_after_mret core) (Some (results.System system.MachineReturn))
    (subst P (sym is) (up_to_machine (mode_by_mret core.csrs))) refl
mret_keeps core i Supervisor is = λ after ends. cc
mret_keeps core i User is = λ after ends. cc

of_one_bit : (number : ℕ) → number < 2 → mode_number (mode_of_encoding number) ≤ 1
of_one_bit zero below = omega arith
of_one_bit (suc zero) below = omega arith
of_one_bit (suc (suc more)) below = absurd (omega arith)

up_to_supervisor : (csrs : Csrs) → mode_number (mode_by_sret csrs) ≤ 1
unfolding mode_by_sret
up_to_supervisor csrs = of_one_bit (bit_at (at csrs Mstatus) SPP) (bit_at-lt (at csrs Mstatus) SPP)

sret_keeps : (core : Core) (i : Instruction) (mode : Mode) (status : ℕ) → core.mode ≡ mode
    → Keeps core (Some (results.System system.SupervisorReturn))
    (completion_if (may_in_mode mode status TSR) (core_after_sret core) i)
unfolding core_after_sret
sret_keeps core i Machine status is =
    let P : Mode → Type 0 = λ m. mode_number (mode_by_sret core.csrs) ≤ mode_number m in
    returns_to core (core_after_sret core) (Some (results.System system.SupervisorReturn))
    (subst P (sym is) (up_to_machine (mode_by_sret core.csrs))) refl
sret_keeps core i Supervisor status is =
    let P : Mode → Type 0 = λ m. mode_number (mode_by_sret core.csrs) ≤ mode_number m in
    let below = subst P (sym is) (up_to_supervisor core.csrs) in
    by (not (bit_is_set status TSR)) below
  where
    by : (allowed : Bool) → mode_number (mode_by_sret core.csrs) ≤ mode_number core.mode
        → Keeps core (Some (results.System system.SupervisorReturn)) (completion_if allowed (core_after_sret core) i)
    by true below = returns_to core (core_after_sret core) (Some (results.System system.SupervisorReturn)) below refl
    by false below = λ after ends. cc
sret_keeps core i User status is = λ after ends. cc

csr_keeps : (core : Core) (asks : Option IntResult) (i : Instruction) (answer : Result (ℕ × Csrs) Illegal)
    → Keeps core asks (after_csr core i answer)
unfolding after_csr core_after_retirement
csr_keeps core asks i (Err refused) = λ after ends. cc
csr_keeps core asks i (Ok answer) =
    done_keeps core asks (record { core = core_at_next (record core { csrs = answer.1 }) i answer.0; access = None })
    refl

access_keeps : (core : Core) (asks : Option IntResult) (i : Instruction) (answer : Result AccessResult Exception)
    → Keeps core asks (after_access core i answer)
unfolding after_access core_after_retirement
access_keeps core asks i (Err exception) = λ after ends. cc
access_keeps core asks i (Ok answer) =
    done_keeps core asks
    (record
    { core = core_at_next (record core { reservation = answer.reservation }) i answer.value; access = answer.access })
    refl

system_keeps : (core : Core) (choices : RowChoices) (i : Instruction) (request : SystemRequest)
    → Keeps core (Some (results.System request)) (system_execution core choices i request)
unfolding system_execution may_use_supervisor_instruction core_after_retirement
system_keeps core choices i (system.Csr request) =
    csr_keeps core (Some (results.System (system.Csr request))) i (csr_access_result core choices request)
system_keeps core choices i system.EnvironmentCall = λ after ends. cc
system_keeps core choices i system.Breakpoint = λ after ends. cc
system_keeps core choices i system.MachineReturn = mret_keeps core i core.mode refl
system_keeps core choices i system.SupervisorReturn = sret_keeps core i core.mode (at core.csrs Mstatus) refl
system_keeps core choices i system.WaitForInterrupt =
    if_keeps core (core_at_next core i 0) (Some (results.System system.WaitForInterrupt)) i
    (not (wfi_traps core choices)) refl
system_keeps core choices i system.TranslationFence =
    if_keeps core (core_at_next core i 0) (Some (results.System system.TranslationFence)) i
    (may_use_supervisor_instruction core TVM) refl

executed_by_keeps : (core : Core) (choices : RowChoices) (i : Instruction) (result : IntResult) (bytes : Bytes)
    → Keeps core (Some result) ((execution_by core choices i result).run bytes).value
unfolding pure mapped core_after_retirement
executed_by_keeps core choices i (results.Value value) bytes =
    done_keeps core (Some (results.Value value)) (record { core = core_at_next core i value; access = None }) refl
executed_by_keeps core choices i (results.Jump link target) bytes =
    done_keeps core (Some (results.Jump link target))
    (record { core = core_after_retirement core i link target; access = None }) refl
executed_by_keeps core choices i (results.Continue next_pc) bytes =
    done_keeps core (Some (results.Continue next_pc))
    (record { core = core_after_retirement core i 0 next_pc; access = None }) refl
executed_by_keeps core choices i (results.Access request) bytes =
    access_keeps core (Some (results.Access request)) i ((memory_access core choices request).run bytes).value
executed_by_keeps core choices i (results.System request) bytes = system_keeps core choices i request

-- what stands at pc, where it does not trap
abbrev RanKeeps : Core → Option IntResult → InstructionRun → Type 0
RanKeeps core asks done = is_trap done.executed ≡ false → IsKept core asks done.core.mode

ended_keeps : (core : Core) (asks : Option IntResult) (i : Instruction) (done : Result Completion Exception)
    → Keeps core asks done → RanKeeps core asks (run_of_result core i done)
ended_keeps core asks i (Err exception) keeps = λ retires. cc
ended_keeps core asks i (Ok done) keeps = λ retires. keeps done refl

decoded_keeps : (core : Core) (shown : Shown) (bits len : ℕ) (op : Option Op) (bytes : Bytes)
    → RanKeeps core (request_by core len op) ((run_of_decoded core shown bits len op).run bytes).value
unfolding pure mapped execution_of
decoded_keeps core shown bits len None bytes = λ retires. cc
decoded_keeps core shown bits len (Some op) bytes =
    let i : Instruction = record { op = op; bits = bits; len = len } in
    let choices = row_choices_of shown (operands_of op).rd in
    let result = result_of op (first_value core op) (second_value core op) core.pc len in
    ended_keeps core (Some result) i ((execution_of core choices i).run bytes).value
    (executed_by_keeps core choices i result bytes)

fetched_keeps : (core : Core) (shown : Shown) (word : Result (ℕ × ℕ) Exception) (bytes : Bytes)
    → RanKeeps core (request_from core word) ((run_of_fetched core shown word).run bytes).value
unfolding pure
fetched_keeps core shown (Err exception) bytes = λ retires. cc
fetched_keeps core shown (Ok word) bytes = decoded_keeps core shown word.0 word.1 (op_for core word.0 word.1) bytes

ran_keeps : (core : Core) (shown : Shown) (bytes : Bytes)
    → RanKeeps core (request_at_pc core bytes) ((instruction_run core shown).run bytes).value
unfolding instruction_run request_at_pc
ran_keeps core shown bytes =
    let before = (fetch_at_pc core).run bytes in
    let whole = run_then-is (fetch_at_pc core) (run_of_fetched core shown) bytes in
    let P : Run InstructionRun → Type 0 = λ r. RanKeeps core (request_from core before.value) r.value in
    subst P (sym whole) (fetched_keeps core shown before.value (after_writes before.wrote bytes))

-- the end of a step
retired_mode : (core : Core) (execution_of : InstructionOutcome) → is_trap execution_of ≡ false
    → (core_after_outcome core execution_of).mode ≡ core.mode
retired_mode core (Trapped insn exception) retires = cc
retired_mode core (Retired instruction access) retires = refl

finished_mode : (done : InstructionRun) (shown : Shown) → is_trap done.executed ≡ false
    → (core_after_run done shown).mode ≡ done.core.mode
unfolding core_after_run
finished_mode done shown retires = retired_mode done.core done.executed retires

higher_by : (core : Core) (execution_of : InstructionOutcome)
    → mode_number core.mode ≤ mode_number (core_after_outcome core execution_of).mode
unfolding core_after_entry
higher_by core (Trapped insn exception) = never_lowers core.csrs core.mode false (cause_code exception.0)
higher_by core (Retired instruction access) = same_mode core.mode core.mode refl

finished_higher : (done : InstructionRun) (shown : Shown)
    → mode_number done.core.mode ≤ mode_number (core_after_run done shown).mode
unfolding core_after_run
finished_higher done shown = higher_by done.core done.executed

returns_same : (core : Core) (shown : Shown) (asks : Option IntResult) (mode : Mode)
    → (mode ≢ (core_after_count core shown).mode → ReturnsTo (core_after_count core shown) asks mode)
    → mode ≢ core.mode → ReturnsTo core asks mode
unfolding core_after_count
returns_same core shown asks mode lower = lower

-- where no interrupt is entered the instruction finds the mode and the registers that the step began with
asked_same : (core : Core) (shown : Shown) (bytes : Bytes)
    → request_at_pc (core_after_count core shown) bytes ≡ request_at_pc core bytes
unfolding request_at_pc core_after_count
asked_same core shown bytes = refl

pub elsewhere : (core : Core) (shown : Shown) (bytes : Bytes) → core.halted ≡ false
    → enters_interrupt core shown ≡ false → (next_of core shown bytes).trapped_last ≡ false
    → RisesByTrapsOnly core shown bytes
unfolding core_after_count
elsewhere core shown bytes runs none retires =
    let begins = core_after_count core shown in
    let is : next_of core shown bytes ≡ core_after_run ((instruction_run begins shown).run bytes).value shown =
    next_running core shown bytes runs
    ∙ ap (λ k. core_after_run ((instruction_run k shown).run bytes).value shown) (begun_kept core shown none) in
    let done = ((instruction_run begins shown).run bytes).value in
    let calm : is_trap done.executed ≡ false = sym (finished_trapped done shown) ∙ sym (ap (λ k. k.trapped_last) is)
    ∙ retires in
    let keeps = ran_keeps begins shown bytes calm in
    let mode : (next_of core shown bytes).mode ≡ done.core.mode = ap (λ k. k.mode) is ∙ finished_mode done shown calm in
    let Below : Mode → Type 0 = λ m. mode_number m ≤ mode_number core.mode in
    let Lower : Mode → Type 0 = λ m. m ≢ core.mode → ReturnsTo core (request_at_pc core bytes) m in
    let To : Option IntResult → Type 0 = λ a. done.core.mode ≢ core.mode → ReturnsTo core a done.core.mode in
    record {
      no_higher = subst Below (sym mode) keeps.no_higher;
      lower =
          subst Lower (sym mode)
          (subst To (asked_same core shown bytes)
          (returns_same core shown (request_at_pc begins bytes) done.core.mode keeps.lower));
    }

pub rises : (core : Core) (shown : Shown) (bytes : Bytes) → (next_of core shown bytes).trapped_last ≡ true
    → mode_number core.mode ≤ mode_number (next_of core shown bytes).mode
rises core shown bytes trapped = elim (cases_Bool core.halted) [
  | inl halted ↦
      same_mode core.mode (next_of core shown bytes).mode (sym (ap (λ k. k.mode) (next_halted core shown bytes halted)))
  | inr runs ↦
      let done = ((instruction_run (before_instruction core shown) shown).run bytes).value in
      let is = next_running core shown bytes runs in
      let traps : is_trap done.executed ≡ true =
      sym (finished_trapped done shown) ∙ sym (ap (λ k. k.trapped_last) is) ∙ trapped in
      let clean = ran_clean (before_instruction core shown) shown bytes traps in
      let P : Core → Type 0 = λ k. mode_number core.mode ≤ mode_number k.mode in
      let Q : Core → Type 0 = λ k. mode_number k.mode ≤ mode_number (core_after_run done shown).mode in
      let above : mode_number (before_instruction core shown).mode ≤ mode_number (core_after_run done shown).mode =
      subst Q clean.0 (finished_higher done shown) in
      let begins = begun_mode core shown in
      let all : mode_number core.mode ≤ mode_number (core_after_run done shown).mode = omega (arith, begins, above) in
      subst P (sym is) all
]

-- wherever the instruction runs
pub everywhere : (core : Core) (shown : Shown) (bytes : Bytes) → core.halted ≡ false
    → (next_of core shown bytes).trapped_last ≡ false → FallsByReturnsOnly core shown bytes
everywhere core shown bytes runs retires =
    let begins = before_instruction core shown in
    let is = next_running core shown bytes runs in
    let done = ((instruction_run begins shown).run bytes).value in
    let calm : is_trap done.executed ≡ false = sym (finished_trapped done shown) ∙ sym (ap (λ k. k.trapped_last) is)
    ∙ retires in
    let keeps = ran_keeps begins shown bytes calm in
    let mode : (next_of core shown bytes).mode ≡ done.core.mode = ap (λ k. k.mode) is ∙ finished_mode done shown calm in
    let Below : Mode → Type 0 = λ m. mode_number m ≤ mode_number begins.mode in
    let Lower : Mode → Type 0 = λ m. m ≢ begins.mode → ReturnsTo begins (request_at_pc begins bytes) m in
    record { no_higher = subst Below (sym mode) keeps.no_higher; lower = subst Lower (sym mode) keeps.lower }

-- a mode below the one that the step began with is returned to
not_below : (one other : ℕ) → one < other → other ≤ one → ⊥
not_below one other below above = omega (arith, below, above)

differs : (mode old before : Mode) → mode_number mode < mode_number old → mode_number old ≤ mode_number before
    → mode ≢ before
differs mode old before below above is =
    not_below (mode_number mode) (mode_number old) below (subst (λ m. mode_number old ≤ mode_number m) (sym is) above)

pub falls : (core : Core) (shown : Shown) (bytes : Bytes)
    → mode_number (next_of core shown bytes).mode < mode_number core.mode
    → ReturnsTo (before_instruction core shown) (request_at_pc (before_instruction core shown) bytes)
    (next_of core shown bytes).mode
falls core shown bytes below = elim (cases_Bool core.halted) [
  | inl halted ↦
      let same = same_mode core.mode (next_of core shown bytes).mode
      (sym (ap (λ k. k.mode) (next_halted core shown bytes halted))) in
      absurd (not_below (mode_number (next_of core shown bytes).mode) (mode_number core.mode) below same)
  | inr runs ↦ elim (cases_Bool (next_of core shown bytes).trapped_last) [
    | inl trapped ↦ absurd (not_below (mode_number (next_of core shown bytes).mode) (mode_number core.mode) below
        (rises core shown bytes trapped))
    | inr retires ↦ (everywhere core shown bytes runs retires).lower
        (differs (next_of core shown bytes).mode core.mode (before_instruction core shown).mode below
        (begun_mode core shown))
  ]
]
