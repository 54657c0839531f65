-- A row decides nothing but its choices.
use Rattle.std.proofs.Common.{◌≡◌, ℕ, ◌%◌, ◌^◌, Bool, true, false, not, ◌&&◌, refl, sym, ap, ◌∙◌, inl, inr, Ok}
use Rattle.std.proofs.Common.{Err, Result, Option, Some, None, bit_and, bit_or, if◌then◌else◌}
use Rattle.std.specs.Prelude.{◌==◌}
use Rattle.std.specs.Option.{is_none, unwrap_or}
use Rattle.std.proofs.lemmas.Bool.{cases_Bool}
use lib.Bits.{and_zero_r}
use Rattle.hart_words.specs.declared.signal.Signal.TheVariants.{Intr, MemWmask, PcRdata, RdWdata, Trap}
use Rattle.hart_words.specs.Options.{are_by_row}
use Rattle.hart_words.specs.AccessSizes.{bytes_of}
use Rattle.hart_words.specs.Memory.{Bytes, after_writes}
use Rattle.hart_words.specs.Signals.{Shown}
use Rattle.hart_words.specs.Actions.{Action, pure, mapped, followed_by}
use Rattle.hart_words.specs.Results.{◌>>=◌}
use Rattle.hart_words.proofs.Runs.{run_then-is}
use Rattle.rv_decode.specs.declared.operation.Op.{Op}
use Rattle.rv_decode.specs.Operands.{operands_of}
use Rattle.rv_integer.specs.declared.int_result.IntResult.{IntResult}
use Rattle.rv_integer.specs.declared.int_result.IntResult.TheVariants as results
use Rattle.rv_integer.specs.declared.int_result.SystemRequest.{SystemRequest}
use Rattle.rv_integer.specs.declared.int_result.SystemRequest.TheVariants as system
use Rattle.rv_integer.specs.declared.int_result.MemoryRequest.{MemoryRequest}
use Rattle.rv_integer.specs.declared.int_result.MemoryOp.{MemoryOp}
use Rattle.rv_integer.specs.declared.int_result.MemoryOp.TheVariants as memory
use Rattle.rv_integer.specs.declared.int_result.CsrRequest.{CsrRequest}
use Rattle.rv_integer.specs.Results.{result_of}
use Rattle.csr_table.specs.declared.registers.Csr.{Csr}
use Rattle.csr_table.specs.declared.registers.CsrRow.{CsrRow}
use Rattle.csr_table.specs.Addresses.{csr_row_of}
use Rattle.csr_file.specs.declared.csrs.Csrs.{Csrs}
use Rattle.csr_file.specs.declared.access.CsrRead.{CsrRead}
use Rattle.csr_file.specs.declared.access.Illegal.{Illegal}
use Rattle.csr_file.specs.declared.fields.TheConstants.{TW}
use Rattle.csr_file.specs.declared.csr_kind.CsrKind.{CsrKind}
use Rattle.csr_file.specs.declared.csr_kind.CsrKind.TheVariants as kinds
use Rattle.csr_file.specs.declared.profile.CsrProfile.{CsrProfile}
use Rattle.csr_file.specs.Profiles.{kind_in, may_trap, presence_of}
use Rattle.csr_file.specs.Values.{adoptable_bits_of, adopted_bits_of}
use Rattle.csr_file.specs.Access.{csr_read_at}
use Rattle.interrupt_pick.specs.Interrupts.{pick_of}
use Rattle.rvfi_rows.specs.Rows.{shows_csr}
use Rattle.rvfi_rows.specs.declared.expected.CsrsAround.{CsrsAround}
use Rattle.rvfi_rows.specs.declared.expected.Expected.TheVariants.{Retired}
use Rattle.mem_access.specs.declared.place.Place.{Place}
use Rattle.mem_access.specs.Accesses.{Exception, LocatedValue}
use Rattle.hart_step.specs.declared.state.Core.{Core}
use Rattle.hart_step.specs.declared.choices.RowChoices.{RowChoices}
use Rattle.hart_step.specs.declared.choices.InterruptLines.{InterruptLines}
use Rattle.hart_step.specs.declared.instruction.Instruction.{Instruction}
use Rattle.hart_step.specs.declared.memory.AccessResult.{AccessResult}
use Rattle.hart_step.specs.Choices.{shows, order_after, asks_interrupt, pending_lines_of, row_choices_of}
use Rattle.hart_step.specs.Choices.{load_bytes_shown}
use Rattle.hart_step.specs.Choices.{device_value, register_says_stored, says_stored}
use Rattle.rv_atomic.specs.declared.reservation.Reservation.{Reservation}
use Rattle.rv_atomic.specs.Blocks.{is_covered}
use Rattle.rv_atomic.specs.Operations.{amo_of}
use Rattle.hart_step.specs.MemoryAccess.{located_access, expected_access, loaded_value, value_found}
use Rattle.hart_step.specs.MemoryAccess.{is_stored, access_result_by, access_result_of, number_written, put}
use Rattle.hart_step.specs.MemoryAccess.{access_after_location, access_at_places, fault_of, device_refuses, memory_access}
use Rattle.hart_step.specs.CsrAccess.{OldValue, csr_access_result, csr_read_and_write, csrs_after_request, old_value_by}
use Rattle.hart_step.specs.CsrAccess.{old_value_of, traps_at, traps_by}
use Rattle.hart_step.specs.Returns.{may_use_supervisor_instruction, wfi_traps}
use Rattle.hart_step.specs.Instructions.{Completion, after_access, after_csr, completion_if, core_at_next}
use Rattle.hart_step.specs.Instructions.{system_execution, execution_of, execution_by, first_value, second_value}
use Rattle.hart_step.specs.Instructions.{InstructionRun, run_of_result, op_for, run_of_decoded, run_of_fetched}
use Rattle.hart_step.specs.Instructions.{fetch_at_pc, instruction_run}
use Rattle.hart_step.specs.Steps.{core_after_count, interrupt_of, core_after_interrupt_by, core_after_interrupt}
use Rattle.hart_step.specs.Steps.{lacks_interrupt, before_instruction, insn_of, effects_of, core_after_outcome}
use Rattle.hart_step.specs.Steps.{StepResult, core_after_run, csrs_around, expected_of, step_result_of}
use Rattle.hart_step.specs.Laws.{AgreeOnAccess, AgreeOnDevice, AgreeOnInstruction, AgreeOnRead, AgreeOnRow, AgreeOnSystem}
use Rattle.hart_step.specs.Laws.{AgreeOnFault, AgreeOnTrap, AgreeOnValue}
use Rattle.hart_step.specs.Laws.{RowsDecideAlike, SameAt, bytes_after_fetch, is_row_dependent, request_by, request_from}
use Rattle.hart_step.specs.Laws.{gave_without_csrs, request_at_pc, run_without_csrs}
use Rattle.hart_step.proofs.Phases.{running, halting}

-- the phases before the fetch
counted_same : (core : Core) (one other : Shown) → AgreeOnRow one other
    → core_after_count core other ≡ core_after_count core one
unfolding core_after_count
counted_same core one other agree =
    ap (λ order. record core { next_order = order_after core.next_order order }) agree.order

entry_same : (asks trapped : Bool) (shown shown' : Option ℕ) (pc : ℕ) → (asks ≡ true → shown' ≡ shown)
    → (asks && not (trapped && shows shown' pc)) ≡ (asks && not (trapped && shows shown pc))
entry_same false trapped shown shown' pc same = refl
entry_same true trapped shown shown' pc same = ap (λ s. not (trapped && shows s pc)) (same refl)

asks_same : (core : Core) (one other : Shown) → AgreeOnRow one other
    → asks_interrupt core other ≡ asks_interrupt core one
unfolding asks_interrupt
asks_same core one other agree =
    ap (λ i. shows i 1 && not (core.trapped_last && shows (other PcRdata) core.pc)) agree.intr
    ∙ entry_same (shows (one Intr) 1) core.trapped_last (one PcRdata) (other PcRdata) core.pc agree.pc_rdata

interrupt_same : (core : Core) (one other : Shown) → AgreeOnRow one other
    → interrupt_of core other ≡ interrupt_of core one
interrupt_same core one other agree = ap (λ l. pick_of core.csrs core.mode l.up) agree.lines

interrupted_same : (core : Core) (one other : Shown) → AgreeOnRow one other
    → core_after_interrupt core other ≡ core_after_interrupt core one
unfolding core_after_interrupt
interrupted_same core one other agree =
    ap (λ asks. if asks then core_after_interrupt_by core (interrupt_of core other) else core)
    (asks_same core one other agree)
    ∙ ap (λ pick. if asks_interrupt core one then core_after_interrupt_by core pick else core)
    (interrupt_same core one other agree)

lacks_same : (core : Core) (one other : Shown) → AgreeOnRow one other
    → lacks_interrupt core other ≡ lacks_interrupt core one
unfolding lacks_interrupt
lacks_same core one other agree =
    ap (λ asks. if asks then is_none (interrupt_of core other) else false) (asks_same core one other agree)
    ∙ ap (λ pick. if asks_interrupt core one then is_none pick else false) (interrupt_same core one other agree)

begun_same : (core : Core) (one other : Shown) → AgreeOnRow one other
    → before_instruction core other ≡ before_instruction core one
unfolding before_instruction
begun_same core one other agree =
    ap (λ k. core_after_interrupt k other) (counted_same core one other agree)
    ∙ interrupted_same (core_after_count core one) one other agree

-- the end of a step, and the facts about it
finished_same : (done : InstructionRun) (one other : Shown) → AgreeOnRow one other
    → core_after_run done other ≡ core_after_run done one
unfolding core_after_run
finished_same done one other agree =
    ap (λ halt. record (core_after_outcome done.core done.executed) { halted = shows halt 1 }) agree.halt

-- but for the control and status registers that are carried, which are told apart
gave_with : (core : Core) (done : InstructionRun) (shown : Shown) → Option CsrsAround → StepResult
gave_with core done shown csrs = record {
  next = core_after_run done shown;
  expected = Retired (record {
    order = core.next_order;
    lacks_interrupt = lacks_interrupt (core_after_count core shown) shown;
    pc = (before_instruction core shown).pc;
    mode = (before_instruction core shown).mode;
    insn = insn_of done.executed;
    insn_bits = core.choices.insn_bits;
    effects = effects_of (before_instruction core shown) done.core done.executed;
    csrs = csrs;
    lines = (pending_lines_of shown).up;
  });
}

gave_same : (core : Core) (done : InstructionRun) (one other : Shown) (csrs : Option CsrsAround)
    → AgreeOnRow one other → gave_with core done other csrs ≡ gave_with core done one csrs
unfolding gave_with
gave_same core done one other csrs agree =
    let p = begun_same core one other agree in
    let l =
    ap (λ k. lacks_interrupt k other) (counted_same core one other agree)
    ∙ lacks_same (core_after_count core one) one other agree in
    let e = ap (λ b. effects_of b done.core done.executed) p in
    let after = finished_same done one other agree in
    let up = agree.lines in
    λ i. record {
      next = after i;
      expected =
          Retired
          (record {
            order =
                core.next_order;
            lacks_interrupt =
                l i;
            pc =
                (p i).pc;
            mode =
                (p i).mode;
            insn =
                insn_of done.executed;
            insn_bits = core.choices.insn_bits;
            effects =
                e i;
            csrs = csrs;
            lines = (up i).up;
          });
    }

csrs_carried : Core → InstructionRun → Shown → Option CsrsAround
csrs_carried core done shown =
    csrs_around (shows_csr shown) (before_instruction core shown).csrs (core_after_run done shown).csrs

gave_is : (core : Core) (done : InstructionRun) (shown : Shown)
    → step_result_of core shown done ≡ gave_with core done shown (csrs_carried core done shown)
unfolding step_result_of expected_of gave_with csrs_carried
gave_is core done shown = refl

gave_but_for_csrs : (core : Core) (done : InstructionRun) (one other : Shown) → AgreeOnRow one other
    → gave_without_csrs (step_result_of core other done) ≡ gave_without_csrs (step_result_of core one done)
unfolding step_result_of expected_of gave_with
gave_but_for_csrs core done one other agree = gave_same core done one other None agree

gave_in_all : (core : Core) (done : InstructionRun) (one other : Shown) → AgreeOnRow one other
    → shows_csr other ≡ shows_csr one → step_result_of core other done ≡ step_result_of core one done
unfolding csrs_carried
gave_in_all core done one other agree shows =
    let before = (before_instruction core one).csrs in
    let carried : csrs_carried core done other ≡ csrs_carried core done one =
    ap (λ k. csrs_around (shows_csr other) k.csrs (core_after_run done other).csrs) (begun_same core one other agree)
    ∙ ap (λ k. csrs_around (shows_csr other) before k.csrs) (finished_same done one other agree)
    ∙ ap (λ carries. csrs_around carries before (core_after_run done one).csrs) shows in
    gave_is core done other ∙ ap (gave_with core done other) carried
    ∙ gave_same core done one other (csrs_carried core done one) agree ∙ sym (gave_is core done one)

-- what an access takes from its row
device_same : (one other : RowChoices) (va len : ℕ) → other.rd_wdata ≡ one.rd_wdata → other.mem_addr ≡ one.mem_addr
    → other.mem_rdata ≡ one.mem_rdata → device_value other va len ≡ device_value one va len
unfolding device_value
device_same one other va len rd address held =
    ap (λ a. unwrap_or (load_bytes_shown va len a other.mem_rdata) (unwrap_or other.rd_wdata 0 % 256 ^ len)) address
    ∙ ap (λ d. unwrap_or (load_bytes_shown va len one.mem_addr d) (unwrap_or other.rd_wdata 0 % 256 ^ len)) held
    ∙ ap (λ r. unwrap_or (load_bytes_shown va len one.mem_addr one.mem_rdata) (unwrap_or r 0 % 256 ^ len)) rd

told_same : (one other : RowChoices) → other.rd_wdata ≡ one.rd_wdata → other.mem_wmask ≡ one.mem_wmask
    → says_stored other ≡ says_stored one
unfolding says_stored
told_same one other rd mask =
    ap (λ r. register_says_stored r other.mem_wmask) rd ∙ ap (λ m. register_says_stored one.rd_wdata m) mask

rd_same : (one other : Shown) (rd : ℕ) → SameAt RdWdata one other
    → (row_choices_of other rd).rd_wdata ≡ (row_choices_of one rd).rd_wdata
unfolding row_choices_of
rd_same one other rd same = ap (λ v. if rd == 0 then None else v) same

traps_same : (one other : Shown) (rd : ℕ) → SameAt Trap one other
    → (row_choices_of other rd).traps ≡ (row_choices_of one rd).traps
unfolding row_choices_of
traps_same one other rd same = ap (λ t. shows t 1) same

found_by : (one other : RowChoices) (request : MemoryRequest) (io : Bool) (held : ℕ)
    → (io ≡ true
    → device_value other request.address (bytes_of request.size)
    ≡ device_value one request.address (bytes_of request.size))
    → (if io then device_value other request.address (bytes_of request.size) else held)
    ≡ (if io then device_value one request.address (bytes_of request.size) else held)
found_by one other request true held same = same refl
found_by one other request false held same = refl

found_same : (one other : Shown) (rd : ℕ) (request : MemoryRequest) (found : LocatedValue)
    → (found.0.is_device ≡ true → AgreeOnDevice one other)
    → value_found (row_choices_of other rd) request found.0 found.2
    ≡ value_found (row_choices_of one rd) request found.0 found.2
unfolding row_choices_of
found_same one other rd request found agree =
    found_by (row_choices_of one rd) (row_choices_of other rd) request found.0.is_device found.2 (λ io.
    device_same (row_choices_of one rd) (row_choices_of other rd) request.address (bytes_of request.size)
    (rd_same one other rd (agree io).0) (agree io).1.0 (agree io).1.1)

stored_same : (core : Core) (one other : Shown) (rd : ℕ) (request : MemoryRequest) (place : Place)
    → SameAt RdWdata one other → SameAt MemWmask one other
    → is_stored core (row_choices_of other rd) request place ≡ is_stored core (row_choices_of one rd) request place
unfolding row_choices_of
stored_same core one other rd request place value mask =
    ap (λ says. is_covered core.reservation.block place.pa (bytes_of request.size) && says)
    (told_same (row_choices_of one rd) (row_choices_of other rd) (rd_same one other rd value) mask)

answer_same : (core : Core) (one other : Shown) (rd : ℕ) (request : MemoryRequest) (found : LocatedValue)
    (op : MemoryOp) → AgreeOnValue (Ok found) op one other
    → access_result_by core (row_choices_of other rd) request found.0 found.2 op
    ≡ access_result_by core (row_choices_of one rd) request found.0 found.2 op
answer_same core one other rd request found (memory.Load signed) agree =
    ap (λ value.
    record {
      value =
          loaded_value signed request value;
      access =
          expected_access request found.0 (Some value) None;
      reservation = core.reservation;
    })
    (found_same one other rd request found agree)
answer_same core one other rd request found memory.LoadReserved agree = refl
answer_same core one other rd request found (memory.Store value) agree = refl
answer_same core one other rd request found (memory.StoreConditional value) agree =
    let free : Reservation = record { block = None } in
    let yes : AccessResult =
    record { value = 0; access = expected_access request found.0 None (Some value); reservation = free } in
    let not_so : AccessResult = record { value = 1; access = None; reservation = free } in
    ap (λ stored. if stored then yes else not_so) (stored_same core one other rd request found.0 agree.0 agree.1)
answer_same core one other rd request found (memory.Amo op width b) agree =
    ap (λ value.
    record {
      value =
          loaded_value true request value;
      access =
          expected_access request found.0 (Some value) (Some (amo_of op width value b));
      reservation = core.reservation;
    })
    (found_same one other rd request found agree)

-- whether a device refused an access
refused_same : (core : Core) (one other : Shown) (rd : ℕ) (place : Place)
    → (place.is_device ≡ true → AgreeOnFault core one other)
    → device_refuses core (row_choices_of other rd) place ≡ device_refuses core (row_choices_of one rd) place
refused_same core one other rd place agree = by place.is_device agree
  where
    faults : (by_row : Bool) → (by_row ≡ true → SameAt Trap one other)
        → (by_row && (row_choices_of other rd).traps) ≡ (by_row && (row_choices_of one rd).traps)
    faults true same = traps_same one other rd (same refl)
    faults false same = refl

    by : (io : Bool) → (io ≡ true → AgreeOnFault core one other)
        → (io && (are_by_row core.choices.device_faults && (row_choices_of other rd).traps))
        ≡ (io && (are_by_row core.choices.device_faults && (row_choices_of one rd).traps))
    by true same = faults (are_by_row core.choices.device_faults) (same refl)
    by false same = refl

placed_same : (core : Core) (one other : Shown) (rd : ℕ) (request : MemoryRequest) (found : LocatedValue) (bytes : Bytes)
    → AgreeOnValue (Ok found) request.op one other
    → (access_at_places core (row_choices_of other rd) request found).run bytes
    ≡ (access_at_places core (row_choices_of one rd) request found).run bytes
unfolding access_result_of
placed_same core one other rd request (first, second, held) bytes agree =
    let given : AccessResult → Unit {0} → Result AccessResult Exception = λ a _. Ok a in
    ap (λ answer. (mapped (given answer) (put (first, second) request (number_written answer.access))).run bytes)
    (answer_same core one other rd request (first, second, held) request.op agree)

answered_same : (core : Core) (one other : Shown) (rd : ℕ) (request : MemoryRequest)
    (found : Result LocatedValue Exception) (bytes : Bytes) → AgreeOnAccess core found request.op one other
    → (access_after_location core (row_choices_of other rd) request found).run bytes
    ≡ (access_after_location core (row_choices_of one rd) request found).run bytes
answered_same core one other rd request (Err exception) bytes agree = refl
answered_same core one other rd request (Ok found) bytes agree =
    let refused : Action (Result AccessResult Exception) = pure (Err (fault_of request.op, request.address)) in
    let placed = access_at_places core (row_choices_of other rd) request found in
    ap (λ test. (if test then refused else placed).run bytes) (refused_same core one other rd found.0 agree.1)
    ∙ by (device_refuses core (row_choices_of one rd) found.0)
  where
    by : (test : Bool)
        → (if test then pure (Err (fault_of request.op, request.address))
        else access_at_places core (row_choices_of other rd) request found).run bytes
        ≡ (if test then pure (Err (fault_of request.op, request.address))
        else access_at_places core (row_choices_of one rd) request found).run bytes
    by true = refl
    by false = placed_same core one other rd request found bytes agree.0

access_same : (core : Core) (one other : Shown) (rd : ℕ) (request : MemoryRequest) (bytes : Bytes)
    → AgreeOnAccess core ((located_access core request).run bytes).value request.op one other
    → (memory_access core (row_choices_of other rd) request).run bytes
    ≡ (memory_access core (row_choices_of one rd) request).run bytes
unfolding memory_access
access_same core one other rd request bytes agree =
    let before = (located_access core request).run bytes in
    run_then-is (located_access core request) (access_after_location core (row_choices_of other rd) request) bytes
    ∙ ap (followed_by before)
    (answered_same core one other rd request before.value (after_writes before.wrote bytes) agree)
    ∙ sym (run_then-is (located_access core request) (access_after_location core (row_choices_of one rd) request) bytes)

-- what an access to a register takes
abbrev TakesSame : CsrProfile → RowChoices → RowChoices → Csr → Type 0
TakesSame profile one other csr = is_row_dependent (kind_in profile csr) ≡ true → other.rd_wdata ≡ one.rd_wdata

none_taken : (one other taken : ℕ) → taken ≡ 0 → bit_and other taken ≡ bit_and one taken
none_taken one other taken nothing =
    ap (bit_and other) nothing ∙ and_zero_r other ∙ sym (and_zero_r one) ∙ sym (ap (bit_and one) nothing)

taken_same : (csrs : Csrs) (one other : RowChoices) (kind : CsrKind) (shown : ℕ)
    → (is_row_dependent kind ≡ true → other.rd_wdata ≡ one.rd_wdata)
    → bit_and (unwrap_or other.rd_wdata 0) (adopted_bits_of csrs kind shown)
    ≡ bit_and (unwrap_or one.rd_wdata 0) (adopted_bits_of csrs kind shown)
unfolding adoptable_bits_of
taken_same csrs one other (kinds.Stored stored) shown same =
    none_taken (unwrap_or one.rd_wdata 0) (unwrap_or other.rd_wdata 0) 0 refl
taken_same csrs one other kinds.Status shown same =
    none_taken (unwrap_or one.rd_wdata 0) (unwrap_or other.rd_wdata 0) 0 refl
taken_same csrs one other kinds.Pending shown same =
    ap (λ v. bit_and (unwrap_or v 0) (adopted_bits_of csrs kinds.Pending shown)) (same refl)
taken_same csrs one other kinds.SupervisorStatus shown same =
    none_taken (unwrap_or one.rd_wdata 0) (unwrap_or other.rd_wdata 0) 0 refl
taken_same csrs one other kinds.SupervisorEnables shown same =
    none_taken (unwrap_or one.rd_wdata 0) (unwrap_or other.rd_wdata 0) 0 refl
taken_same csrs one other kinds.SupervisorPending shown same =
    ap (λ v. bit_and (unwrap_or v 0) (adopted_bits_of csrs kinds.SupervisorPending shown)) (same refl)
taken_same csrs one other kinds.Translation shown same =
    none_taken (unwrap_or one.rd_wdata 0) (unwrap_or other.rd_wdata 0) 0 refl
taken_same csrs one other kinds.LowConfigurations shown same =
    none_taken (unwrap_or one.rd_wdata 0) (unwrap_or other.rd_wdata 0) 0 refl
taken_same csrs one other kinds.HighConfigurations shown same =
    none_taken (unwrap_or one.rd_wdata 0) (unwrap_or other.rd_wdata 0) 0 refl
taken_same csrs one other (kinds.EntryAddress number) shown same =
    none_taken (unwrap_or one.rd_wdata 0) (unwrap_or other.rd_wdata 0) 0 refl
taken_same csrs one other (kinds.Constant number) shown same =
    none_taken (unwrap_or one.rd_wdata 0) (unwrap_or other.rd_wdata 0) 0 refl
taken_same csrs one other kinds.ImplementationDefined shown same =
    ap (λ v. bit_and (unwrap_or v 0) (adopted_bits_of csrs kinds.ImplementationDefined shown)) (same refl)
taken_same csrs one other (kinds.Counter bit) shown same =
    ap (λ v. bit_and (unwrap_or v 0) (adopted_bits_of csrs (kinds.Counter bit) shown)) (same refl)

old_by_same : (core : Core) (one other : RowChoices) (address : ℕ) (row : CsrRow) → other.lines ≡ one.lines
    → TakesSame core.csrs.profile one other row.csr
    → old_value_by core other address (Some row) ≡ old_value_by core one address (Some row)
old_by_same core one other address row lines takes =
    let kind = kind_in core.csrs.profile row.csr in
    let old : RowChoices → InterruptLines → CsrRead → Result OldValue Illegal =
    λ choices l read. Ok (
      bit_or read.value (bit_and (unwrap_or choices.rd_wdata 0) (adopted_bits_of core.csrs kind l.shown)),
      read.base,
    ) in
    let value : (read : CsrRead) → old other other.lines read ≡ old one one.lines read = λ read.
    ap (λ l. old other l read) lines
    ∙ ap (λ v. Ok (bit_or read.value v, read.base)) (taken_same core.csrs one other kind one.lines.shown takes) in
    let by : (read : Result CsrRead Illegal) → (read >>= old other other.lines) ≡ (read >>= old one one.lines) =
    λ read. elim read as (λ r. (r >>= old other other.lines) ≡ (r >>= old one one.lines))
    [ Ok x ↦ value x | Err e ↦ refl ] in
    ap (λ l. csr_read_at core.csrs address core.mode l.up >>= old other other.lines) lines
    ∙ by (csr_read_at core.csrs address core.mode one.lines.up)

traps_by_same : (profile : CsrProfile) (one other : Shown) (rd : ℕ) (row : Option CsrRow)
    → AgreeOnTrap profile row one other
    → traps_by profile (row_choices_of other rd) row ≡ traps_by profile (row_choices_of one rd) row
traps_by_same profile one other rd None agree = refl
traps_by_same profile one other rd (Some row) agree = by (may_trap (presence_of profile row.csr)) agree
  where
    by : (may : Bool) → (may ≡ true → SameAt Trap one other)
        → (may && (row_choices_of other rd).traps) ≡ (may && (row_choices_of one rd).traps)
    by true same = traps_same one other rd (same refl)
    by false same = refl

lines_same : (one other : Shown) (rd : ℕ) → pending_lines_of other ≡ pending_lines_of one
    → (row_choices_of other rd).lines ≡ (row_choices_of one rd).lines
unfolding row_choices_of
lines_same one other rd same = same

row_same : (core : Core) (one other : Shown) (rd address : ℕ) (row : Option CsrRow)
    → pending_lines_of other ≡ pending_lines_of one → AgreeOnRead core.csrs.profile row one other
    → old_value_by core (row_choices_of other rd) address row ≡ old_value_by core (row_choices_of one rd) address row
row_same core one other rd address None lines agree = refl
row_same core one other rd address (Some row) lines agree =
    old_by_same core (row_choices_of one rd) (row_choices_of other rd) address row (lines_same one other rd lines)
    (λ adopted. rd_same one other rd (agree adopted))

read_same : (core : Core) (one other : Shown) (rd : ℕ) (address : ℕ) (reads : Bool)
    → pending_lines_of other ≡ pending_lines_of one → (reads ≡ true → AgreeOnRead core.csrs.profile (csr_row_of address) one other)
    → (if reads then old_value_by core (row_choices_of other rd) address (csr_row_of address) else Ok (0, 0))
    ≡ (if reads then old_value_by core (row_choices_of one rd) address (csr_row_of address) else Ok (0, 0))
read_same core one other rd address true lines agree =
    row_same core one other rd address (csr_row_of address) lines (agree refl)
read_same core one other rd address false lines agree = refl

read_and_write_same : (core : Core) (one other : Shown) (rd : ℕ) (request : CsrRequest)
    → pending_lines_of other ≡ pending_lines_of one
    → (request.reads ≡ true → AgreeOnRead core.csrs.profile (csr_row_of request.address) one other)
    → csr_read_and_write core (row_choices_of other rd) request ≡ csr_read_and_write core (row_choices_of one rd) request
unfolding csr_read_and_write old_value_of
read_and_write_same core one other rd request lines agree =
    let rest : OldValue → Result (ℕ × Csrs) Illegal =
    λ old. (csrs_after_request core request old.1 >>= λ csrs. Ok (old.0, csrs)) in
    ap (λ old. old >>= rest) (read_same core one other rd request.address request.reads lines agree)

csr_same : (core : Core) (one other : Shown) (rd : ℕ) (request : CsrRequest)
    → pending_lines_of other ≡ pending_lines_of one → AgreeOnSystem core.csrs.profile (system.Csr request) one other
    → csr_access_result core (row_choices_of other rd) request ≡ csr_access_result core (row_choices_of one rd) request
unfolding csr_access_result traps_at
csr_same core one other rd request lines agree =
    let refused : Result (ℕ × Csrs) Illegal = Err (record {}) in
    let profile = core.csrs.profile in
    ap (λ traps. if traps then refused else csr_read_and_write core (row_choices_of other rd) request)
    (traps_by_same profile one other rd (csr_row_of request.address) agree.0)
    ∙ ap (λ done. if traps_by profile (row_choices_of one rd) (csr_row_of request.address) then refused else done)
    (read_and_write_same core one other rd request lines agree.1)

system_same : (core : Core) (one other : Shown) (rd : ℕ) (i : Instruction) (request : SystemRequest)
    → pending_lines_of other ≡ pending_lines_of one → AgreeOnSystem core.csrs.profile request one other
    → system_execution core (row_choices_of other rd) i request
    ≡ system_execution core (row_choices_of one rd) i request
unfolding system_execution wfi_traps
system_same core one other rd i (system.Csr request) lines agree =
    ap (after_csr core i) (csr_same core one other rd request lines agree)
system_same core one other rd i system.EnvironmentCall lines agree = refl
system_same core one other rd i system.Breakpoint lines agree = refl
system_same core one other rd i system.MachineReturn lines agree = refl
system_same core one other rd i system.SupervisorReturn lines agree = refl
system_same core one other rd i system.WaitForInterrupt lines agree =
    ap (λ traps. completion_if (not (not (may_use_supervisor_instruction core TW) && traps)) (core_at_next core i 0)
    i) (traps_same one other rd agree)
system_same core one other rd i system.TranslationFence lines agree = refl

-- what stands at pc
-- two rows agree on all that a step takes from its row after the fetch
record AgreeOnChoices (core : Core) (bytes : Bytes) (asks : Option IntResult) (one other : Shown) : Type 0 where
  pub lines : pending_lines_of other ≡ pending_lines_of one
  pub instruction : AgreeOnInstruction core bytes asks one other

executed_by_same : (core : Core) (one other : Shown) (rd : ℕ) (i : Instruction) (result : IntResult) (bytes : Bytes)
    → AgreeOnChoices core bytes (Some result) one other
    → (execution_by core (row_choices_of other rd) i result).run bytes
    ≡ (execution_by core (row_choices_of one rd) i result).run bytes
unfolding mapped
executed_by_same core one other rd i (results.Value value) bytes agree = refl
executed_by_same core one other rd i (results.Jump link target) bytes agree = refl
executed_by_same core one other rd i (results.Continue next_pc) bytes agree = refl
executed_by_same core one other rd i (results.Access request) bytes agree =
    ap (λ r. record { value = after_access core i r.value; reads = r.reads; wrote = r.wrote })
    (access_same core one other rd request bytes agree.instruction)
executed_by_same core one other rd i (results.System request) bytes agree =
    let did : Result Completion Exception → Action (Result Completion Exception) = λ d. pure d in
    ap (λ d. (did d).run bytes) (system_same core one other rd i request agree.lines agree.instruction)

decoded_same : (core : Core) (one other : Shown) (bits len : ℕ) (op : Option Op) (bytes : Bytes)
    → AgreeOnChoices core bytes (request_by core len op) one other
    → (run_of_decoded core other bits len op).run bytes ≡ (run_of_decoded core one bits len op).run bytes
unfolding mapped execution_of
decoded_same core one other bits len None bytes agree = refl
decoded_same core one other bits len (Some op) bytes agree =
    let i : Instruction = record { op = op; bits = bits; len = len } in
    let result = result_of op (first_value core op) (second_value core op) core.pc len in
    ap (λ r. record { value = run_of_result core i r.value; reads = r.reads; wrote = r.wrote })
    (executed_by_same core one other (operands_of op).rd i result bytes agree)

fetched_same : (core : Core) (one other : Shown) (word : Result (ℕ × ℕ) Exception) (bytes : Bytes)
    → AgreeOnChoices core bytes (request_from core word) one other
    → (run_of_fetched core other word).run bytes ≡ (run_of_fetched core one word).run bytes
fetched_same core one other (Err exception) bytes agree = refl
fetched_same core one other (Ok word) bytes agree =
    decoded_same core one other word.0 word.1 (op_for core word.0 word.1) bytes agree

ran_same : (core : Core) (one other : Shown) (bytes : Bytes) → pending_lines_of other ≡ pending_lines_of one
    → AgreeOnInstruction core (bytes_after_fetch core bytes) (request_at_pc core bytes) one other
    → (instruction_run core other).run bytes ≡ (instruction_run core one).run bytes
unfolding instruction_run request_at_pc bytes_after_fetch
ran_same core one other bytes lines agree =
    let before = (fetch_at_pc core).run bytes in
    run_then-is (fetch_at_pc core) (run_of_fetched core other) bytes
    ∙ ap (followed_by before)
    (fetched_same core one other before.value (after_writes before.wrote bytes)
    (record { lines = lines; instruction = agree }))
    ∙ sym (run_then-is (fetch_at_pc core) (run_of_fetched core one) bytes)

pub decide_alike : (core : Core) (bytes : Bytes) (one other : Shown) → RowsDecideAlike core bytes one other
unfolding mapped
decide_alike core bytes one other agree on = elim (cases_Bool core.halted) [
  | inl halted ↦
      let same = halting core other bytes halted ∙ sym (halting core one bytes halted) in
      record { but_for_csrs = ap run_without_csrs same; in_all = λ shows. same }
  | inr runs ↦
      let before = ran_same (before_instruction core one) one other bytes agree.lines on in
      let did = ap (λ k. (instruction_run k other).run bytes) (begun_same core one other agree) ∙ before in
      let one_run = (instruction_run (before_instruction core one) one).run bytes in
      let other_ran =
      running core other bytes runs
      ∙ ap (λ r. record { value = step_result_of core other r.value; reads = r.reads; wrote = r.wrote }) did in
      record {
        but_for_csrs =
            ap run_without_csrs other_ran
            ∙ ap (λ g. record { value = g; reads = one_run.reads; wrote = one_run.wrote })
            (gave_but_for_csrs core one_run.value one other agree)
            ∙ sym (ap run_without_csrs (running core one bytes runs));
        in_all = λ shows.
            other_ran
            ∙ ap (λ g. record { value = g; reads = one_run.reads; wrote = one_run.wrote })
            (gave_in_all core one_run.value one other agree shows)
            ∙ sym (running core one bytes runs);
      }
]
