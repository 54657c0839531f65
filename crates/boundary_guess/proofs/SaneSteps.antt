-- Every step keeps a hart's state sound, and its values words and bytes.
use Rattle.std.proofs.Common.{◌≡◌, inl, inr, ℕ, zero, suc, ◌+◌, ◌-◌, ◌/◌, ◌%◌, ◌^◌, ◌<◌, ◌≤◌, ◌==◌, Bool, true, false}
use Rattle.std.proofs.Common.{not, ◌&&◌, nat_lt, List, [], ◌∷◌, set, Option, Some, None, Ok, Err, Result, if◌then◌else◌}
use Rattle.std.proofs.Common.{refl, sym, ap, subst, arith, lit<}
use Rattle.std.specs.Prelude.{IfOk, IfSome, slice_index, slice_set}
use Rattle.std.proofs.lemmas.Bool.{cases_Bool}
use Rattle.std.proofs.lemmas.Bool.Decides.{nat_tests}
use Rattle.std.proofs.lemmas.Nat.{mod_below}
use Rattle.std.proofs.lemmas.Nat.Bits.{bit_at_above}
use Rattle.hart_words.specs.AccessSizes.{bytes_of}
use Rattle.hart_words.specs.declared.privilege.Mode.{Mode}
use Rattle.hart_words.specs.declared.privilege.Cause.{Cause}
use Rattle.hart_words.specs.declared.privilege.Cause.TheVariants.{InstructionAccessFault, IllegalInstruction}
use Rattle.hart_words.specs.declared.privilege.Cause.TheVariants.{Breakpoint, LoadAddressMisaligned, LoadAccessFault}
use Rattle.hart_words.specs.declared.privilege.Cause.TheVariants.{StoreAddressMisaligned, StoreAccessFault}
use Rattle.hart_words.specs.declared.privilege.Cause.TheVariants.{EnvironmentCallFromUser}
use Rattle.hart_words.specs.declared.privilege.Cause.TheVariants.{EnvironmentCallFromSupervisor}
use Rattle.hart_words.specs.declared.privilege.Cause.TheVariants.{EnvironmentCallFromMachine, InstructionPageFault}
use Rattle.hart_words.specs.declared.privilege.Cause.TheVariants.{LoadPageFault, StorePageFault}
use Rattle.hart_words.specs.Privilege.{cause_code}
use Rattle.hart_words.specs.declared.registers.Registers.{Registers}
use Rattle.hart_words.specs.declared.signal.Signal.TheVariants.{RdWdata}
use Rattle.hart_words.specs.Memory.{Bytes}
use Rattle.hart_words.specs.Registers.{register_of, with_register}
use Rattle.hart_words.specs.Signals.{Shown}
use Rattle.hart_words.specs.Actions.{pure, mapped}
use Rattle.csr_file.specs.declared.csrs.Csrs.{Csrs}
use Rattle.csr_file.specs.declared.access.Illegal.{Illegal}
use Rattle.csr_file.specs.declared.fields.TheConstants.{TSR, TVM}
use Rattle.csr_file.specs.declared.stored_csr.StoredCsr.TheVariants.{Mie}
use Rattle.csr_file.specs.Fields.{bit_is_set}
use Rattle.csr_file.specs.Registers.{at}
use Rattle.csr_file.specs.Values.{pending_interrupts_of}
use Rattle.interrupt_pick.proofs.Taken.{picks_taken}
use Rattle.rv_decode.specs.declared.operation.Op.{Op}
use Rattle.rv_decode.specs.Operands.{operands_of}
use Rattle.rv_integer.specs.declared.int_result.IntResult.{IntResult}
use Rattle.rv_integer.specs.declared.int_result.IntResult.TheVariants as results
use Rattle.rv_integer.specs.declared.int_result.SystemRequest.{SystemRequest}
use Rattle.rv_integer.specs.declared.int_result.SystemRequest.TheVariants as system
use Rattle.rv_integer.specs.declared.int_result.MemoryRequest.{MemoryRequest}
use Rattle.rv_integer.specs.Results.{result_of}
use Rattle.mem_access.specs.Accesses.{Exception, LocatedValue}
use Rattle.hart_step.specs.Cores.{IsSoundReservation}
use Rattle.hart_step.proofs.ReservedBlocks.{access_reserves}
use Rattle.hart_step.specs.declared.state.Core.{Core}
use Rattle.hart_step.specs.declared.choices.RowChoices.{RowChoices}
use Rattle.hart_step.specs.declared.instruction.Instruction.{Instruction}
use Rattle.hart_step.specs.declared.instruction.InstructionOutcome.{InstructionOutcome}
use Rattle.hart_step.specs.declared.instruction.InstructionOutcome.TheVariants.{Trapped, Retired}
use Rattle.hart_step.specs.declared.memory.AccessResult.{AccessResult}
use Rattle.hart_step.specs.Choices.{asks_interrupt, row_choices_of, pending_lines_of}
use Rattle.hart_step.specs.CsrAccess.{csr_access_result}
use Rattle.hart_step.specs.Returns.{may_use_supervisor_instruction, may_mret, core_after_mret, core_after_sret}
use Rattle.hart_step.specs.Returns.{wfi_traps}
use Rattle.hart_step.specs.MemoryAccess.{device_refuses, memory_access, access_result_of, located_access}
use Rattle.hart_step.specs.Instructions.{Completion, InstructionRun, after_access, after_csr, run_of_decoded}
use Rattle.hart_step.specs.Instructions.{completion_if, run_of_result, execution_of, execution_by, run_of_fetched}
use Rattle.hart_step.specs.Instructions.{first_value, core_at_next, op_for, instruction_run, core_after_retirement}
use Rattle.hart_step.specs.Instructions.{fetch_at_pc, second_value, system_execution}
use Rattle.hart_step.specs.Steps.{before_instruction, core_after_count, core_after_entry, core_after_run}
use Rattle.hart_step.specs.Steps.{core_after_outcome, interrupt_of, core_after_interrupt, core_after_interrupt_by}
use Rattle.hart_step.specs.Laws.{next_of}
use Rattle.hart_step.proofs.Phases.{next_halted, next_running}
use Rattle.boundary_guess.proofs.Compared.{ShowsWords}
use Rattle.boundary_guess.proofs.CoreWords.{IsSane, IsSaneAnswer, csr_accessed_sane, entered_sane, mret_sane, sret_sane}
use Rattle.boundary_guess.proofs.Actions.{AreBytes, then_gives_bytes}
use Rattle.boundary_guess.proofs.Faults.{IsFetchedWord, fetch_raises, fetch_word}
use Rattle.boundary_guess.proofs.PlainOps.{of_some_form}
use Rattle.boundary_guess.proofs.PlainRuns.{answer_by, accessed_value, answer_from}
use Rattle.boundary_guess.proofs.PlainSteps.{fetched_fits}
use Rattle.boundary_guess.proofs.StepWords.{FitsFound, RaisesWords, all_words, answer_word, found_fits, located_raises}
use Rattle.boundary_guess.proofs.ResultWords.{AreOperands, AsksWords, HasOperands, IsOfWords, computed_words}
use Rattle.boundary_guess.proofs.ResultWords.{operands_by_form}

-- ---- registers

set_word : (xs : List ℕ) (i v k : ℕ) → v < 2 ^ 64 → slice_index xs k < 2 ^ 64
    → slice_index (slice_set xs i v) k < 2 ^ 64
set_word [] i v k small before = before
set_word (x ∷ xs) zero v zero small before = small
set_word (x ∷ xs) zero v (suc k) small before = before
set_word (x ∷ xs) (suc i) v zero small before = before
set_word (x ∷ xs) (suc i) v (suc k) small before = set_word xs i v k small before

register_by : (zeroth kept : Bool) (registers : Registers) (index value other : ℕ) → value < 2 ^ 64
    → (if zeroth then 0 else slice_index registers.values other) < 2 ^ 64
    → (let after : Registers = if kept then registers else record { values = slice_set registers.values index value } in
    (if zeroth then 0 else slice_index after.values other) < 2 ^ 64)
register_by true kept registers index value other small before = lit< tt
register_by false true registers index value other small before = before
register_by false false registers index value other small before =
    set_word registers.values index value other small before

abbrev AreWords : Registers → Type 0
AreWords registers = (number : ℕ) → register_of registers number < 2 ^ 64

with_register_words : (registers : Registers) (number value : ℕ) → AreWords registers → value < 2 ^ 64
    → AreWords (with_register registers number value)
with_register_words registers number value words small other =
    register_by (other == 0) (number == 0) registers (number - 1) value (other - 1) small (words other)

-- ---- what an instruction leaves

-- the state after it is sound, or the trap value is a word
abbrev pub IsSaneResult : Result Completion Exception → Type 0
IsSaneResult (Err exception) = exception.1 < 2 ^ 64
IsSaneResult (Ok done) = IsSane done.core

-- an instruction has an even length, and its bits are a word
pub record IsInstruction (i : Instruction) : Type 0 where
  pub even : i.len % 2 ≡ 0
  pub bits : i.bits < 2 ^ 64

retired_sane : (core : Core) (i : Instruction) (value next : ℕ) → IsSane core → value < 2 ^ 64 → next < 2 ^ 64
    → next % 2 ≡ 0 → IsSane (core_after_retirement core i value next)
unfolding core_after_retirement
retired_sane core i value next sane small fits even = record {
  sound = record { even = even; legal = sane.sound.legal; reserved = sane.sound.reserved };
  pc = fits;
  registers = with_register_words core.registers (operands_of i.op).rd value sane.registers small;
  csrs = sane.csrs;
}

after_even : (pc len : ℕ) → pc % 2 ≡ 0 → len % 2 ≡ 0 → (pc + len) % 2 ^ 64 % 2 ≡ 0
after_even pc len even short = omega (arith, even, short)

goes_on_sane : (core : Core) (i : Instruction) (value : ℕ) → IsSane core → IsInstruction i → value < 2 ^ 64
    → IsSane (core_at_next core i value)
goes_on_sane core i value sane is small =
    retired_sane core i value ((core.pc + i.len) % 2 ^ 64) sane small (mod_below (core.pc + i.len) (2 ^ 64) (lit< tt))
    (after_even core.pc i.len sane.sound.even is.even)

-- what an access leaves reserved is a block in RAM
abbrev LeavesSound : Core → AccessResult → Type 0
LeavesSound core answer = IsSoundReservation core.map.ram core.choices.block_size answer.reservation

-- the same state with another reservation is as sound
reserved_sane : (core : Core) (answer : AccessResult) → IsSane core → LeavesSound core answer
    → IsSane (record core { reservation = answer.reservation })
reserved_sane core answer sane reserved = record {
  sound = record { even = sane.sound.even; legal = sane.sound.legal; reserved = reserved };
  pc = sane.pc;
  registers = sane.registers;
  csrs = sane.csrs;
}

after_access_sane : (core : Core) (i : Instruction) (answer : Result AccessResult Exception) → IsSane core
    → IsInstruction i → RaisesWords answer → IfOk answer (λ a. a.value < 2 ^ 64) → IfOk answer (LeavesSound core)
    → IsSaneResult (after_access core i answer)
unfolding after_access
after_access_sane core i (Err exception) sane is raises words reserved = raises
after_access_sane core i (Ok answer) sane is raises words reserved =
    goes_on_sane (record core { reservation = answer.reservation }) i answer.value
    (reserved_sane core answer sane reserved) is words

answer_raises : (core : Core) (choices : RowChoices) (request : MemoryRequest) (found : Result LocatedValue Exception)
    → request.address < 2 ^ 64 → RaisesWords found → RaisesWords (answer_from core choices request found)
answer_raises core choices request (Err exception) small raises = raises
answer_raises core choices request (Ok found) small raises = by (device_refuses core choices found.0)
  where
    by : (refuses : Bool) → RaisesWords (answer_by refuses core choices request found)
    by true = small
    by false = tt

answer_fits : (core : Core) (choices : RowChoices) (request : MemoryRequest) (found : Result LocatedValue Exception)
    → FitsFound request.op (bytes_of request.size) found
    → IfOk (answer_from core choices request found) (λ a. a.value < 2 ^ 64)
unfolding access_result_of
answer_fits core choices request (Err exception) fits = tt
answer_fits core choices request (Ok (first, second, held)) fits = by (device_refuses core choices first)
  where
    by : (refuses : Bool)
        → IfOk (answer_by refuses core choices request (first, second, held)) (λ a. a.value < 2 ^ 64)
    by true = tt
    by false = answer_word core choices request first second held request.op fits

-- what an instruction starts from, and its destination's value if the row shows it
record IsSaneStart (core : Core) (choices : RowChoices) (i : Instruction) (bytes : Bytes) : Type 0 where
  pub state : IsSane core
  pub instruction : IsInstruction i
  pub memory : AreBytes bytes
  pub destination : IfSome choices.rd_wdata (λ v. v < 2 ^ 64)

access_sane : {core : Core} {choices : RowChoices} {i : Instruction} {bytes : Bytes} (request : MemoryRequest)
    → IsSaneStart core choices i bytes → request.address < 2 ^ 64
    → IsSaneResult (after_access core i ((memory_access core choices request).run bytes).value)
access_sane {core} {choices} {i} {bytes} request start small =
    let found = ((located_access core request).run bytes).value in
    let P : Result AccessResult Exception → Type 0 = λ answer. IsSaneResult (after_access core i answer) in
    subst P (sym (accessed_value core choices request bytes))
    (after_access_sane core i (answer_from core choices request found) start.state start.instruction
    (answer_raises core choices request found small
    (located_raises (λ exception. exception.1 < 2 ^ 64) core request bytes (all_words request.address small)))
    (answer_fits core choices request found (found_fits core request bytes start.memory))
    (subst (λ answer. IfOk answer (LeavesSound core)) (accessed_value core choices request bytes)
    (access_reserves core choices request bytes start.state.sound.reserved)))

after_csr_sane : (core : Core) (i : Instruction) (answer : Result (ℕ × Csrs) Illegal) → IsSane core → IsInstruction i
    → IfOk answer IsSaneAnswer → IsSaneResult (after_csr core i answer)
unfolding after_csr
after_csr_sane core i (Err refused) sane is words = is.bits
after_csr_sane core i (Ok answer) sane is words =
    goes_on_sane (record core { csrs = answer.1 }) i answer.0 (changed core answer sane words) is words.0
  where
    changed : (core : Core) (answer : ℕ × Csrs) → IsSane core → IsSaneAnswer answer
        → IsSane (record core { csrs = answer.1 })
    changed core answer sane words = record {
      sound = record { even = sane.sound.even; legal = words.1.0; reserved = sane.sound.reserved };
      pc = sane.pc;
      registers = sane.registers;
      csrs = words.1.1;
    }

done_if_sane : (allowed : Bool) (core : Core) (i : Instruction) → IsSane core → IsInstruction i
    → IsSaneResult (completion_if allowed core i)
done_if_sane true core i sane is = sane
done_if_sane false core i sane is = is.bits

system_sane : (core : Core) (choices : RowChoices) (i : Instruction) (request : SystemRequest) → IsSane core
    → IsInstruction i → AsksWords request → IfSome choices.rd_wdata (λ v. v < 2 ^ 64)
    → IsSaneResult (system_execution core choices i request)
unfolding system_execution
system_sane core choices i (system.Csr request) sane is small word =
    after_csr_sane core i (csr_access_result core choices request) sane is
    (csr_accessed_sane core choices request sane.sound.legal sane.csrs small word)
system_sane core choices i system.EnvironmentCall sane is small word = lit< tt
system_sane core choices i system.Breakpoint sane is small word = sane.pc
system_sane core choices i system.MachineReturn sane is small word =
    done_if_sane (may_mret core.mode) (core_after_mret core) i (mret_sane core sane) is
system_sane core choices i system.SupervisorReturn sane is small word =
    done_if_sane (may_use_supervisor_instruction core TSR) (core_after_sret core) i (sret_sane core sane) is
system_sane core choices i system.WaitForInterrupt sane is small word =
    done_if_sane (not (wfi_traps core choices)) (core_at_next core i 0) i (goes_on_sane core i 0 sane is (lit< tt)) is
system_sane core choices i system.TranslationFence sane is small word =
    done_if_sane (may_use_supervisor_instruction core TVM) (core_at_next core i 0) i
    (goes_on_sane core i 0 sane is (lit< tt)) is

executed_by_sane : {core : Core} {choices : RowChoices} {i : Instruction} {bytes : Bytes} (result : IntResult)
    → IsSaneStart core choices i bytes → IsOfWords result
    → IsSaneResult ((execution_by core choices i result).run bytes).value
unfolding pure mapped
executed_by_sane {core} {i} (results.Value value) start words =
    goes_on_sane core i value start.state start.instruction words
executed_by_sane {core} {i} (results.Jump link target) start words =
    retired_sane core i link target start.state words.0 words.1.0 words.1.1
executed_by_sane {core} {i} (results.Continue next_pc) start words =
    retired_sane core i 0 next_pc start.state (lit< tt) words.0 words.1
executed_by_sane (results.Access request) start words = access_sane request start words
executed_by_sane {core} {choices} {i} (results.System request) start words =
    system_sane core choices i request start.state start.instruction words start.destination

executed_sane : {core : Core} {choices : RowChoices} {i : Instruction} {bytes : Bytes}
    → IsSaneStart core choices i bytes → HasOperands i.op
    → IsSaneResult ((execution_of core choices i).run bytes).value
unfolding execution_of
executed_sane {core} {i} start has =
    let first = first_value core i.op in
    let second = second_value core i.op in
    let operands : AreOperands first second core.pc i.len = record {
      first_fits = start.state.registers _;
      second_fits = start.state.registers _;
      pc_even = start.state.sound.even;
      len_even = start.instruction.even;
    } in
    executed_by_sane (result_of i.op first second core.pc i.len) start
    (computed_words i.op first second core.pc i.len has operands)

-- ---- what stands at pc

abbrev TrapsWith : InstructionOutcome → Type 0
TrapsWith (Trapped insn exception) = exception.1 < 2 ^ 64
TrapsWith (Retired instruction access) = Unit {0}

pub record IsSaneRun (done : InstructionRun) : Type 0 where
  pub core : IsSane done.core
  pub traps : TrapsWith done.executed

ended_sane : (core : Core) (i : Instruction) (result : Result Completion Exception) → IsSane core
    → IsSaneResult result → IsSaneRun (run_of_result core i result)
ended_sane core i (Err exception) sane words = record { core = sane; traps = words }
ended_sane core i (Ok done) sane words = record { core = words; traps = tt }

row_word : (rd : ℕ) (shown : Shown) → ShowsWords shown → IfSome (row_choices_of shown rd).rd_wdata (λ v. v < 2 ^ 64)
unfolding row_choices_of
row_word rd shown words = by (rd == 0) (shown RdWdata) (words RdWdata)
  where
    by : (zeroth : Bool) (value : Option ℕ) → IfSome value (λ v. v < 2 ^ 64)
        → IfSome (if zeroth then None else value) (λ v. v < 2 ^ 64)
    by true value word = tt
    by false value word = word

even_length : (long : Bool) (len : ℕ) → len ≡ (if long then 4 else 2) → len % 2 ≡ 0
even_length true len is = ap (λ n. n % 2) is
even_length false len is = ap (λ n. n % 2) is

-- what a step starts from
record IsSaneRow (core : Core) (shown : Shown) (bytes : Bytes) : Type 0 where
  pub state : IsSane core
  pub row : ShowsWords shown
  pub memory : AreBytes bytes

decoded_sane : {core : Core} {shown : Shown} {bytes : Bytes} (bits len : ℕ) (op : Option Op)
    → IsSaneRow core shown bytes → IsFetchedWord (bits, len) → op_for core bits len ≡ op
    → IsSaneRun ((run_of_decoded core shown bits len op).run bytes).value
unfolding pure mapped
decoded_sane bits len None sane word means = record { core = sane.state; traps = fetched_fits bits len word }
decoded_sane {core} {shown} {bytes} bits len (Some op) sane word means =
    let i : Instruction = record { op = op; bits = bits; len = len } in
    let choices = row_choices_of shown (operands_of op).rd in
    let start : IsSaneStart core choices i bytes = record {
      state = sane.state;
      instruction = record {
        even = even_length (bits % 4 == 3) len word.length;
        bits = fetched_fits bits len word;
      };
      memory = sane.memory;
      destination = row_word (operands_of op).rd shown sane.row;
    } in
    ended_sane core i ((execution_of core choices i).run bytes).value sane.state
    (executed_sane start (of_some_form HasOperands operands_by_form core bits len op means))

fetched_sane : {core : Core} {shown : Shown} {bytes : Bytes} (word : Result (ℕ × ℕ) Exception)
    → IsSaneRow core shown bytes → RaisesWords word → IfOk word IsFetchedWord
    → IsSaneRun ((run_of_fetched core shown word).run bytes).value
unfolding pure
fetched_sane (Err exception) sane raises word = record { core = sane.state; traps = raises }
fetched_sane {core} (Ok found) sane raises word =
    decoded_sane found.0 found.1 (op_for core found.0 found.1) sane word refl

ran_sane : (core : Core) (shown : Shown) (bytes : Bytes) → IsSaneRow core shown bytes
    → IsSaneRun ((instruction_run core shown).run bytes).value
unfolding instruction_run
ran_sane core shown bytes sane =
    let fetch = fetch_at_pc core in
    then_gives_bytes IsSaneRun fetch (run_of_fetched core shown) bytes sane.memory
    (λ now kept. fetched_sane (fetch.run bytes).value
    (record { state = sane.state; row = sane.row; memory = kept })
    (fetch_raises (λ exception. exception.1 < 2 ^ 64) core bytes (all_words core.pc sane.state.pc))
    (fetch_word core bytes sane.memory))

-- ---- the step

code_word : (cause : Cause) → cause_code cause < 2 ^ 64
code_word InstructionAccessFault = lit< tt
code_word IllegalInstruction = lit< tt
code_word Breakpoint = lit< tt
code_word LoadAddressMisaligned = lit< tt
code_word LoadAccessFault = lit< tt
code_word StoreAddressMisaligned = lit< tt
code_word StoreAccessFault = lit< tt
code_word EnvironmentCallFromUser = lit< tt
code_word EnvironmentCallFromSupervisor = lit< tt
code_word EnvironmentCallFromMachine = lit< tt
code_word InstructionPageFault = lit< tt
code_word LoadPageFault = lit< tt
code_word StorePageFault = lit< tt

-- fields that are not of the state's values
flagged_sane : (core : Core) (trapped halted : Bool) → IsSane core
    → IsSane (record core { trapped_last = trapped; halted = halted })
flagged_sane core trapped halted sane = record {
  sound = record { even = sane.sound.even; legal = sane.sound.legal; reserved = sane.sound.reserved };
  pc = sane.pc;
  registers = sane.registers;
  csrs = sane.csrs;
}

finished_by_sane : (core : Core) (execution_of : InstructionOutcome) → IsSane core → TrapsWith execution_of
    → IsSane (core_after_outcome core execution_of)
finished_by_sane core (Trapped insn exception) sane traps =
    let after = core_after_entry core false (cause_code exception.0) exception.1 in
    flagged_sane after true after.halted
    (entered_sane core false (cause_code exception.0) exception.1 sane (code_word exception.0) traps)
finished_by_sane core (Retired instruction access) sane traps = flagged_sane core false core.halted sane

finished_sane : (done : InstructionRun) (shown : Shown) → IsSaneRun done → IsSane (core_after_run done shown)
unfolding core_after_run
finished_sane done shown is =
    let after = core_after_outcome done.core done.executed in
    flagged_sane after after.trapped_last _ (finished_by_sane done.core done.executed is.core is.traps)

counted_sane : (core : Core) (shown : Shown) → IsSane core → IsSane (core_after_count core shown)
unfolding core_after_count
counted_sane core shown sane = record {
  sound = record { even = sane.sound.even; legal = sane.sound.legal; reserved = sane.sound.reserved };
  pc = sane.pc;
  registers = sane.registers;
  csrs = sane.csrs;
}

-- an interrupt that is enabled has one of the 64 codes
few_codes : (enables code : ℕ) (below : Bool) → enables < 2 ^ 64 → bit_is_set enables code ≡ true
    → nat_lt code 64 ≡ below → code < 64
few_codes enables code true small set is = grind (arith, nat_tests, is)
few_codes enables code false small set is =
    let past : 64 ≤ code = grind (arith, nat_tests, is) in
    let none : enables / 2 ^ code % 2 ≡ 0 = bit_at_above enables 64 code small past in
    let unset : bit_is_set enables code ≡ false = ap (λ b. b == 1) none in
    absurd cc

both : (a b : Bool) → (a && b) ≡ true → (a ≡ true) × (b ≡ true)
both true b h = (refl, h)
both false b h = cc

interrupted_by_sane : (core : Core) (pick : Option (ℕ × Mode)) → IsSane core → IfSome pick (λ p. p.0 < 64)
    → IsSane (core_after_interrupt_by core pick)
interrupted_by_sane core None sane few = sane
interrupted_by_sane core (Some interrupt) sane few =
    entered_sane core true interrupt.0 0 sane (omega (arith, few)) (lit< tt)

picked_few : (core : Core) (shown : Shown) (pick : Option (ℕ × Mode)) → IsSane core → interrupt_of core shown ≡ pick
    → IfSome pick (λ p. p.0 < 64)
picked_few core shown None sane is = tt
picked_few core shown (Some interrupt) sane is =
    let taken = picks_taken core.csrs core.mode (pending_lines_of shown).up interrupt.0 interrupt.1 is in
    let set =
    both (bit_is_set (pending_interrupts_of core.csrs (pending_lines_of shown).up) interrupt.0)
    (bit_is_set (at core.csrs Mie) interrupt.0) taken.pending in
    few_codes (at core.csrs Mie) interrupt.0 (nat_lt interrupt.0 64) (sane.csrs.values Mie) set.1 refl

interrupted_by_test : (asks : Bool) (core : Core) (shown : Shown) → IsSane core
    → IsSane (if asks then core_after_interrupt_by core (interrupt_of core shown) else core)
interrupted_by_test true core shown sane =
    interrupted_by_sane core (interrupt_of core shown) sane (picked_few core shown (interrupt_of core shown) sane refl)
interrupted_by_test false core shown sane = sane

begun_sane : (core : Core) (shown : Shown) → IsSane core → IsSane (before_instruction core shown)
unfolding before_instruction core_after_interrupt
begun_sane core shown sane =
    interrupted_by_test (asks_interrupt (core_after_count core shown) shown) (core_after_count core shown) shown
    (counted_sane core shown sane)

pub next_sane : (core : Core) (shown : Shown) (bytes : Bytes) → IsSane core → ShowsWords shown → AreBytes bytes
    → IsSane (next_of core shown bytes)
next_sane core shown bytes sane words are = elim (cases_Bool core.halted) [
  | inl halted ↦ subst IsSane (sym (next_halted core shown bytes halted)) sane
  | inr runs ↦ subst IsSane (sym (next_running core shown bytes runs))
      (finished_sane ((instruction_run (before_instruction core shown) shown).run bytes).value shown
      (ran_sane (before_instruction core shown) shown bytes
      (record { state = begun_sane core shown sane; row = words; memory = are })))
]
