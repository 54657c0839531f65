-- What a step does to the entries of protection: nothing, or what one write of a register of theirs does, in M.
use Rattle.std.proofs.Common.{◌≡◌, ◌≢◌, ◌⊎◌, ℕ, Bool, true, false, not, inl, inr, refl, sym, ap, ◌∙◌, subst, Ok, Err}
use Rattle.std.proofs.Common.{Result, Option, Some, None, if◌then◌else◌, take}
use Rattle.std.proofs.lemmas.Bool.{cases_Bool}
use Rattle.hart_words.specs.declared.privilege.Mode.{Mode}
use Rattle.hart_words.specs.declared.privilege.Mode.TheVariants.{Machine}
use Rattle.hart_words.specs.Privilege.{cause_code}
use Rattle.hart_words.specs.Memory.{Bytes, after_writes}
use Rattle.hart_words.specs.Results.{◌>>=◌}
use Rattle.hart_words.specs.Signals.{Shown}
use Rattle.hart_words.specs.Actions.{Run, pure, mapped}
use Rattle.hart_words.proofs.Runs.{run_then-is}
use Rattle.rv_decode.specs.declared.operation.Op.{Op}
use Rattle.rv_decode.specs.Operands.{operands_of}
use Rattle.rv_integer.specs.declared.int_result.IntResult.{IntResult}
use Rattle.rv_integer.specs.declared.int_result.IntResult.TheVariants as results
use Rattle.rv_integer.specs.declared.int_result.CsrRequest.{CsrRequest}
use Rattle.rv_integer.specs.declared.int_result.SystemRequest.{SystemRequest}
use Rattle.rv_integer.specs.declared.int_result.SystemRequest.TheVariants as system
use Rattle.rv_integer.specs.Results.{result_of}
use Rattle.csr_table.specs.declared.registers.Csr.{Csr}
use Rattle.csr_table.specs.declared.registers.CsrRow.{CsrRow}
use Rattle.csr_table.specs.Addresses.{csr_row_of}
use Rattle.csr_file.specs.declared.csrs.Csrs.{Csrs}
use Rattle.csr_file.specs.declared.access.Illegal.{Illegal}
use Rattle.csr_file.specs.declared.fields.TheConstants.{TSR, TVM}
use Rattle.csr_file.specs.declared.profile.CsrProfile.{CsrProfile}
use Rattle.csr_file.specs.Profiles.{entry_count_of, kind_in}
use Rattle.csr_file.specs.Values.{csr_write_of}
use Rattle.csr_file.specs.Access.{may_write, csr_write_at, csr_write_by}
use Rattle.csr_file.specs.Laws.{is_protective}
use Rattle.csr_file.specs.Registers.{pmp_entries_of, with_at}
use Rattle.csr_file.proofs.Writes.{leaves_profile, leaves_protection}
use Rattle.trap_entry.specs.Entries.{cause_value, enter_machine_of, enter_of, enter_supervisor_of, is_delegated}
use Rattle.trap_entry.specs.Returns.{mret_of, sret_of}
use Rattle.trap_entry.proofs.Rest.{enters_only}
use Rattle.mem_access.specs.Accesses.{Exception}
use Rattle.hart_step.specs.declared.state.Core.{Core}
use Rattle.hart_step.specs.declared.choices.RowChoices.{RowChoices}
use Rattle.hart_step.specs.declared.instruction.Instruction.{Instruction}
use Rattle.hart_step.specs.declared.instruction.InstructionOutcome.{InstructionOutcome}
use Rattle.hart_step.specs.declared.instruction.InstructionOutcome.TheVariants.{Trapped, Retired}
use Rattle.hart_step.specs.declared.memory.AccessResult.{AccessResult}
use Rattle.hart_step.specs.Choices.{asks_interrupt, row_choices_of}
use Rattle.hart_step.specs.MemoryAccess.{memory_access}
use Rattle.hart_step.specs.CsrAccess.{OldValue, old_value_of, new_value_of, csrs_after_request, csr_access_result}
use Rattle.hart_step.specs.CsrAccess.{csr_read_and_write, traps_at}
use Rattle.hart_step.specs.Returns.{may_use_supervisor_instruction, may_mret, core_after_mret, core_after_sret}
use Rattle.hart_step.specs.Returns.{wfi_traps}
use Rattle.hart_step.specs.Instructions.{Completion, core_after_retirement, core_at_next, after_access, after_csr}
use Rattle.hart_step.specs.Instructions.{completion_if, system_execution, execution_of, execution_by, first_value}
use Rattle.hart_step.specs.Instructions.{second_value, InstructionRun, run_of_result, op_for, run_of_decoded}
use Rattle.hart_step.specs.Instructions.{fetch_at_pc, run_of_fetched, instruction_run}
use Rattle.hart_step.specs.Steps.{before_instruction, core_after_count, core_after_entry, core_after_outcome}
use Rattle.hart_step.specs.Steps.{core_after_run, interrupt_of, core_after_interrupt, core_after_interrupt_by}
use Rattle.hart_step.specs.Steps.{written_trap_value}
use Rattle.hart_step.specs.Laws.{next_of}
use Rattle.hart_step.proofs.Phases.{next_running, next_halted}
use Rattle.hart_step.proofs.ProtectiveCsrs.{protective_in_machine}

-- all entries stay, those that the core has not too
abbrev pub KeepsEntries : Csrs → Csrs → Type 0
KeepsEntries before after = (after.profile ≡ before.profile) × (after.entries ≡ before.entries)

kept_then : (one two three : Csrs) → KeepsEntries one two → KeepsEntries two three → KeepsEntries one three
kept_then one two three first second = (second.0 ∙ first.0, second.1 ∙ first.1)

-- so do those that it has
abbrev pub SameEntries : Csrs → Csrs → Type 0
SameEntries before after = pmp_entries_of after ≡ pmp_entries_of before

same_protection : (before after : Csrs) → KeepsEntries before after → SameEntries before after
same_protection before after same =
    ap (λ (profile : CsrProfile). take (entry_count_of profile.entry_count) after.entries) same.0
    ∙ ap (take (entry_count_of before.profile.entry_count)) same.1

-- a write of a register, in M
pub record IsWrittenIn (mode : Mode) (before after : Csrs) : Type 0 where
  pub machine : mode ≡ Machine
  pub csr : Csr
  pub value : ℕ
  pub written : after ≡ csr_write_of before (kind_in before.profile csr) value

abbrev pub ChangesIn : Mode → Csrs → Csrs → Type 0
ChangesIn mode before after = KeepsEntries before after ⊎ IsWrittenIn mode before after

-- a write by address
abbrev Writes : Mode → Csrs → Result Csrs Illegal → Type 0
Writes mode before (Err refused) = Unit {0}
Writes mode before (Ok after) = ChangesIn mode before after

-- a write of a register that is not of protection leaves its entries
entries_left : (csrs : Csrs) (csr : Csr) (value : ℕ) → is_protective (kind_in csrs.profile csr) ≡ false
    → KeepsEntries csrs (csr_write_of csrs (kind_in csrs.profile csr) value)
entries_left csrs csr value other = (leaves_profile csrs csr value, leaves_protection csrs csr value other)

write_in : (csrs : Csrs) (mode : Mode) (csr : Csr) (value : ℕ)
    → (is_protective (kind_in csrs.profile csr) ≡ true → mode ≡ Machine)
    → ChangesIn mode csrs (csr_write_of csrs (kind_in csrs.profile csr) value)
write_in csrs mode csr value machine = elim (cases_Bool (is_protective (kind_in csrs.profile csr))) [
  | inl protective ↦ inr (record { machine = machine protective; csr = csr; value = value; written = refl })
  | inr other ↦ inl (entries_left csrs csr value other)
]

write_if : (csrs : Csrs) (mode : Mode) (address value : ℕ) (row : CsrRow) (may : Bool) → csr_row_of address ≡ Some row
    → may_write csrs mode row ≡ may
    → Writes mode csrs (if may then Ok (csr_write_of csrs (kind_in csrs.profile row.csr) value) else Err (record {}))
write_if csrs mode address value row true is may =
    write_in csrs mode row.csr value (protective_in_machine csrs address mode row is may)
write_if csrs mode address value row false is may = tt

write_row : (csrs : Csrs) (mode : Mode) (address value : ℕ) (row : Option CsrRow) → csr_row_of address ≡ row
    → Writes mode csrs (csr_write_by csrs mode value row)
write_row csrs mode address value None is = tt
write_row csrs mode address value (Some row) is = write_if csrs mode address value row (may_write csrs mode row) is refl

write_changes : (csrs : Csrs) (mode : Mode) (address value : ℕ)
    → Writes mode csrs (csr_write_at csrs address mode value)
unfolding csr_write_at
write_changes csrs mode address value = write_row csrs mode address value (csr_row_of address) refl

written_if : (core : Core) (request : CsrRequest) (value : ℕ) (writes : Bool)
    → Writes core.mode core.csrs
    (if writes then csr_write_at core.csrs request.address core.mode value else Ok core.csrs)
written_if core request value true = write_changes core.csrs core.mode request.address value
written_if core request value false = inl (refl, refl)

written_changes : (core : Core) (request : CsrRequest) (base : ℕ)
    → Writes core.mode core.csrs (csrs_after_request core request base)
written_changes core request base =
    written_if core request (new_value_of request.op base request.operand) request.writes

-- an access to a register
abbrev Accesses : Mode → Csrs → Result (ℕ × Csrs) Illegal → Type 0
Accesses mode before (Err refused) = Unit {0}
Accesses mode before (Ok answer) = ChangesIn mode before answer.1

with_value : (mode : Mode) (before : Csrs) (value : ℕ) (written : Result Csrs Illegal) → Writes mode before written
    → Accesses mode before (written >>= λ csrs. Ok (value, csrs))
with_value mode before value (Err refused) changes = tt
with_value mode before value (Ok csrs) changes = changes

after_old : (core : Core) (request : CsrRequest) (old : Result OldValue Illegal)
    → Accesses core.mode core.csrs (old >>= λ o. (csrs_after_request core request o.1 >>= λ csrs. Ok (o.0, csrs)))
after_old core request (Err refused) = tt
after_old core request (Ok o) =
    with_value core.mode core.csrs o.0 (csrs_after_request core request o.1) (written_changes core request o.1)

csr_changes : (core : Core) (choices : RowChoices) (request : CsrRequest)
    → Accesses core.mode core.csrs (csr_access_result core choices request)
unfolding csr_access_result csr_read_and_write
csr_changes core choices request = by (traps_at core choices request.address)
  where
    by : (traps : Bool)
        → Accesses core.mode core.csrs (if traps then Err (record {}) else csr_read_and_write core choices request)
    by true = tt
    by false = after_old core request (old_value_of core choices request)

-- an instruction
abbrev Changes : Core → Result Completion Exception → Type 0
Changes core (Err exception) = Unit {0}
Changes core (Ok done) = ChangesIn core.mode core.csrs done.core.csrs

by_csr : (core : Core) (i : Instruction) (answer : Result (ℕ × Csrs) Illegal) → Accesses core.mode core.csrs answer
    → Changes core (after_csr core i answer)
unfolding after_csr core_after_retirement
by_csr core i (Err refused) changes = tt
by_csr core i (Ok answer) changes = changes

by_access : (core : Core) (i : Instruction) (answer : Result AccessResult Exception)
    → Changes core (after_access core i answer)
unfolding after_access core_after_retirement
by_access core i (Err exception) = tt
by_access core i (Ok answer) = inl (refl, refl)

by_test : (core next : Core) (i : Instruction) (allowed : Bool) → KeepsEntries core.csrs next.csrs
    → Changes core (completion_if allowed next i)
by_test core next i true same = inl same
by_test core next i false same = tt

mret_entries : (csrs : Csrs) → KeepsEntries csrs (mret_of csrs)
unfolding mret_of with_at
mret_entries csrs = (refl, refl)

sret_entries : (csrs : Csrs) → KeepsEntries csrs (sret_of csrs)
unfolding sret_of with_at
sret_entries csrs = (refl, refl)

system_changes : (core : Core) (choices : RowChoices) (i : Instruction) (request : SystemRequest)
    → Changes core (system_execution core choices i request)
unfolding system_execution core_after_retirement core_after_mret core_after_sret
system_changes core choices i (system.Csr request) =
    by_csr core i (csr_access_result core choices request) (csr_changes core choices request)
system_changes core choices i system.EnvironmentCall = tt
system_changes core choices i system.Breakpoint = tt
system_changes core choices i system.MachineReturn =
    by_test core (core_after_mret core) i (may_mret core.mode) (mret_entries core.csrs)
system_changes core choices i system.SupervisorReturn =
    by_test core (core_after_sret core) i (may_use_supervisor_instruction core TSR) (sret_entries core.csrs)
system_changes core choices i system.WaitForInterrupt =
    by_test core (core_at_next core i 0) i (not (wfi_traps core choices)) (refl, refl)
system_changes core choices i system.TranslationFence =
    by_test core (core_at_next core i 0) i (may_use_supervisor_instruction core TVM) (refl, refl)

executed_by_changes : (core : Core) (choices : RowChoices) (i : Instruction) (result : IntResult) (bytes : Bytes)
    → Changes core ((execution_by core choices i result).run bytes).value
unfolding pure mapped core_after_retirement
executed_by_changes core choices i (results.Value value) bytes = inl (refl, refl)
executed_by_changes core choices i (results.Jump link target) bytes = inl (refl, refl)
executed_by_changes core choices i (results.Continue next_pc) bytes = inl (refl, refl)
executed_by_changes core choices i (results.Access request) bytes =
    by_access core i ((memory_access core choices request).run bytes).value
executed_by_changes core choices i (results.System request) bytes = system_changes core choices i request

-- what stands at pc
abbrev RanChanges : Core → InstructionRun → Type 0
RanChanges core done = ChangesIn core.mode core.csrs done.core.csrs

ended_changes : (core : Core) (i : Instruction) (done : Result Completion Exception) → Changes core done
    → RanChanges core (run_of_result core i done)
ended_changes core i (Err exception) changes = inl (refl, refl)
ended_changes core i (Ok done) changes = changes

decoded_changes : (core : Core) (shown : Shown) (bits len : ℕ) (op : Option Op) (bytes : Bytes)
    → RanChanges core ((run_of_decoded core shown bits len op).run bytes).value
unfolding pure mapped execution_of
decoded_changes core shown bits len None bytes = inl (refl, refl)
decoded_changes core shown bits len (Some op) bytes =
    let i : Instruction = record { op = op; bits = bits; len = len } in
    let choices = row_choices_of shown (operands_of op).rd in
    let result = result_of op (first_value core op) (second_value core op) core.pc len in
    ended_changes core i ((execution_of core choices i).run bytes).value
    (executed_by_changes core choices i result bytes)

fetched_changes : (core : Core) (shown : Shown) (word : Result (ℕ × ℕ) Exception) (bytes : Bytes)
    → RanChanges core ((run_of_fetched core shown word).run bytes).value
unfolding pure
fetched_changes core shown (Err exception) bytes = inl (refl, refl)
fetched_changes core shown (Ok word) bytes = decoded_changes core shown word.0 word.1 (op_for core word.0 word.1) bytes

pub ran_changes : (core : Core) (shown : Shown) (bytes : Bytes)
    → ChangesIn core.mode core.csrs ((instruction_run core shown).run bytes).value.core.csrs
unfolding instruction_run
ran_changes core shown bytes =
    let before = (fetch_at_pc core).run bytes in
    let whole = run_then-is (fetch_at_pc core) (run_of_fetched core shown) bytes in
    let P : Run InstructionRun → Type 0 = λ r. RanChanges core r.value in
    subst P (sym whole) (fetched_changes core shown before.value (after_writes before.wrote bytes))

-- entries of traps leave all entries of protection, and what the core makes of its registers
entered_profile : (csrs : Csrs) (mode : Mode) (interrupt : Bool) (code tval pc : ℕ)
    → (enter_of csrs mode interrupt code tval pc).profile ≡ csrs.profile
unfolding enter_of enter_supervisor_of enter_machine_of with_at
entered_profile csrs mode interrupt code tval pc = by (is_delegated csrs mode interrupt code)
  where
    by : (delegated : Bool)
        → (if delegated then enter_supervisor_of csrs mode (cause_value interrupt code) tval pc
        else enter_machine_of csrs mode (cause_value interrupt code) tval pc).profile ≡ csrs.profile
    by true = refl
    by false = refl

entered_entries : (core : Core) (interrupt : Bool) (code value : ℕ)
    → KeepsEntries core.csrs (core_after_entry core interrupt code value).csrs
unfolding core_after_entry
entered_entries core interrupt code value =
    let tval = written_trap_value core code value in (
      entered_profile core.csrs core.mode interrupt code tval core.pc,
      (enters_only core.csrs core.mode interrupt code tval core.pc).entries,
    )

begun_by : (core : Core) (asks : Bool) (pick : Option (ℕ × Mode))
    → KeepsEntries core.csrs (if asks then core_after_interrupt_by core pick else core).csrs
begun_by core false pick = (refl, refl)
begun_by core true None = (refl, refl)
begun_by core true (Some interrupt) = entered_entries core true interrupt.0 0

pub begun_keeps : (core : Core) (shown : Shown) → KeepsEntries core.csrs (before_instruction core shown).csrs
unfolding before_instruction core_after_interrupt core_after_count
begun_keeps core shown =
    begun_by (core_after_count core shown) (asks_interrupt (core_after_count core shown) shown)
    (interrupt_of (core_after_count core shown) shown)

pub begun_entries : (core : Core) (shown : Shown) → SameEntries core.csrs (before_instruction core shown).csrs
begun_entries core shown = same_protection core.csrs (before_instruction core shown).csrs (begun_keeps core shown)

finished_by_entries : (core : Core) (execution_of : InstructionOutcome)
    → KeepsEntries core.csrs (core_after_outcome core execution_of).csrs
finished_by_entries core (Trapped insn exception) = entered_entries core false (cause_code exception.0) exception.1
finished_by_entries core (Retired instruction access) = (refl, refl)

pub finished_keeps : (done : InstructionRun) (shown : Shown)
    → KeepsEntries done.core.csrs (core_after_run done shown).csrs
unfolding core_after_run
finished_keeps done shown = finished_by_entries done.core done.executed

-- a step whose instruction does not run in M
lower_leaves : (core : Core) (shown : Shown) (bytes : Bytes) → core.halted ≡ false
    → (before_instruction core shown).mode ≢ Machine → KeepsEntries core.csrs (next_of core shown bytes).csrs
lower_leaves core shown bytes runs lower =
    let done = ((instruction_run (before_instruction core shown) shown).run bytes).value in
    let same : KeepsEntries (before_instruction core shown).csrs done.core.csrs =
    elim (ran_changes (before_instruction core shown) shown bytes) [
      | inl same ↦ same
      | inr written ↦ absurd (lower written.machine)
    ] in
    let P : Core → Type 0 = λ k. KeepsEntries core.csrs k.csrs in
    let begins = (before_instruction core shown).csrs in
    let ended = kept_then begins done.core.csrs (core_after_run done shown).csrs same (finished_keeps done shown) in
    subst P (sym (next_running core shown bytes runs))
    (kept_then core.csrs begins (core_after_run done shown).csrs (begun_keeps core shown) ended)

pub lower_modes_leave : (core : Core) (shown : Shown) (bytes : Bytes) → (before_instruction core shown).mode ≢ Machine
    → SameEntries core.csrs (next_of core shown bytes).csrs
lower_modes_leave core shown bytes lower = elim (cases_Bool core.halted) [
  | inl halted ↦ ap (λ k. pmp_entries_of k.csrs) (next_halted core shown bytes halted)
  | inr runs ↦
      same_protection core.csrs (next_of core shown bytes).csrs (lower_leaves core shown bytes runs lower)
]
