-- An exception leads to the handler of the mode that it is delegated to.
use Rattle.std.proofs.Common.{◌≡◌, ◌≢◌, ℕ, ◌*◌, ◌/◌, Bool, true, false, length, length-set, refl, sym, ap, ◌∙◌, subst}
use Rattle.std.proofs.Common.{inl, inr, Option, Some, None, Err, if◌then◌else◌}
use Rattle.std.proofs.lemmas.Bool.{cases_Bool}
use Rattle.hart_words.specs.declared.privilege.Mode.{Mode}
use Rattle.hart_words.specs.declared.privilege.Mode.TheVariants.{User, Supervisor, Machine}
use Rattle.hart_words.specs.Privilege.{cause_code}
use Rattle.hart_words.specs.Memory.{Bytes}
use Rattle.hart_words.specs.Signals.{Shown}
use Rattle.csr_file.specs.declared.csrs.Csrs.{Csrs}
use Rattle.csr_file.specs.declared.stored_csr.StoredCsr.{StoredCsr}
use Rattle.csr_file.specs.declared.stored_csr.StoredCsr.TheVariants.{Mstatus, Medeleg, Mtvec, Mepc, Mcause, Mtval}
use Rattle.csr_file.specs.declared.stored_csr.StoredCsr.TheVariants.{Stvec, Sepc, Scause, Stval}
use Rattle.csr_file.specs.declared.stored_csr.TheConstants.{STORED_CSRS}
use Rattle.csr_file.specs.Registers.{at as value_at, with_at}
use Rattle.csr_file.specs.Table.{stored_index_of}
use Rattle.csr_file.specs.Fields.{bit_is_set}
use Rattle.csr_file.proofs.Places.{at_same, at_other}
use Rattle.trap_entry.specs.Entries.{is_delegated, cause_value, handler_address, status_into_machine}
use Rattle.trap_entry.specs.Entries.{status_into_supervisor, enter_machine_of, enter_supervisor_of, enter_of}
use Rattle.trap_entry.specs.Entries.{mode_by_enter, pc_by_enter}
use Rattle.trap_entry.specs.Laws.{ChangesOnly, IsStackedForMachine, IsStackedForSupervisor, is_of_machine}
use Rattle.trap_entry.specs.Laws.{is_of_supervisor}
use Rattle.trap_entry.proofs.Stacks.{stacked_for_machine, stacked_for_supervisor, differs}
use Rattle.trap_entry.proofs.Rest.{enters_only}
use Rattle.rvfi_rows.specs.declared.expected.Expected.{Expected}
use Rattle.mem_access.specs.Accesses.{Exception}
use Rattle.hart_step.specs.declared.state.Core.{Core}
use Rattle.hart_step.specs.declared.instruction.InstructionOutcome.{InstructionOutcome}
use Rattle.hart_step.specs.declared.instruction.InstructionOutcome.TheVariants.{Trapped, Retired}
use Rattle.hart_step.specs.Cores.{IsSound}
use Rattle.hart_step.specs.Choices.{asks_interrupt}
use Rattle.hart_step.specs.Instructions.{InstructionRun, instruction_run}
use Rattle.hart_step.specs.Steps.{before_instruction, core_after_count, core_after_entry, interrupt_of}
use Rattle.hart_step.specs.Steps.{core_after_interrupt_by, core_after_interrupt, core_after_run}
use Rattle.hart_step.specs.Steps.{expected_of, step_of, written_trap_value}
use Rattle.hart_step.specs.Laws.{next_of}
use Rattle.hart_step.specs.TrapLaws.{executed_at, Raises, LeadsToMachine, LeadsToSupervisor}
use Rattle.hart_step.specs.TrapLaws.{LeadsToHandler, HasCause}
use Rattle.hart_step.proofs.Phases.{next_running, expected_running}
use Rattle.hart_step.proofs.Traps.{is_trap, finished_trapped, ran_clean}

-- registers, each at its own place, have what they got
abbrev AreApart : StoredCsr → StoredCsr → Type 0
AreApart one other = stored_index_of one ≢ stored_index_of other

abbrev Whole : Csrs → Type 0
Whole csrs = length csrs.values ≡ STORED_CSRS

whole_with : (csrs : Csrs) (stored : StoredCsr) (value : ℕ) → Whole csrs → Whole (with_at csrs stored value)
unfolding with_at
whole_with csrs stored value whole = length-set csrs.values (stored_index_of stored) value ∙ whole

-- the registers that an entry writes before mstatus
record EntryRegisters : Type 0 where
  pub epc : StoredCsr
  pub cause : StoredCsr
  pub tval : StoredCsr

-- and what they and mstatus get
record EntryValues : Type 0 where
  pub epc : ℕ
  pub cause : ℕ
  pub tval : ℕ
  pub status : ℕ

abbrev csrs_written : Csrs → EntryRegisters → EntryValues → Csrs
csrs_written csrs registers values =
    with_at (with_at (with_at (with_at csrs registers.epc values.epc) registers.cause values.cause)
    registers.tval values.tval) Mstatus values.status

record AreAllApart (registers : EntryRegisters) : Type 0 where
  pub epc_cause : AreApart registers.epc registers.cause
  pub epc_tval : AreApart registers.epc registers.tval
  pub epc_status : AreApart registers.epc Mstatus
  pub cause_tval : AreApart registers.cause registers.tval
  pub cause_status : AreApart registers.cause Mstatus
  pub tval_status : AreApart registers.tval Mstatus

record HoldValues (csrs : Csrs) (registers : EntryRegisters) (values : EntryValues) : Type 0 where
  pub epc : value_at csrs registers.epc ≡ values.epc
  pub cause : value_at csrs registers.cause ≡ values.cause
  pub tval : value_at csrs registers.tval ≡ values.tval
  pub status : value_at csrs Mstatus ≡ values.status

all_written : (csrs : Csrs) (registers : EntryRegisters) (values : EntryValues) → Whole csrs → AreAllApart registers
    → HoldValues (csrs_written csrs registers values) registers values
all_written csrs registers values whole apart =
    let epc = registers.epc in
    let cause = registers.cause in
    let tval = registers.tval in
    let one = with_at csrs epc values.epc in
    let two = with_at one cause values.cause in
    let three = with_at two tval values.tval in
    let whole_one = whole_with csrs epc values.epc whole in
    let whole_two = whole_with one cause values.cause whole_one in
    let whole_three = whole_with two tval values.tval whole_two in
    record {
      epc = at_other three Mstatus epc values.status apart.epc_status ∙ at_other two tval epc values.tval apart.epc_tval
          ∙ at_other one cause epc values.cause apart.epc_cause ∙ at_same csrs epc values.epc whole;
      cause = at_other three Mstatus cause values.status apart.cause_status
          ∙ at_other two tval cause values.tval apart.cause_tval ∙ at_same one cause values.cause whole_one;
      tval = at_other three Mstatus tval values.status apart.tval_status ∙ at_same two tval values.tval whole_two;
      status = at_same three Mstatus values.status whole_three;
    }

abbrev of_machine : EntryRegisters
of_machine = record { epc = Mepc; cause = Mcause; tval = Mtval }

abbrev of_supervisor : EntryRegisters
of_supervisor = record { epc = Sepc; cause = Scause; tval = Stval }

machine_apart : AreAllApart of_machine
machine_apart = record {
  epc_cause = differs 9 10 refl;
  epc_tval = differs 9 11 refl;
  epc_status = differs 9 0 refl;
  cause_tval = differs 10 11 refl;
  cause_status = differs 10 0 refl;
  tval_status = differs 11 0 refl;
}

supervisor_apart : AreAllApart of_supervisor
supervisor_apart = record {
  epc_cause = differs 17 18 refl;
  epc_tval = differs 17 19 refl;
  epc_status = differs 17 0 refl;
  cause_tval = differs 18 19 refl;
  cause_status = differs 18 0 refl;
  tval_status = differs 19 0 refl;
}

-- what an entry to M leaves
machine_registers : (core after : Core) (exception : Exception) → Whole core.csrs
    → after.csrs
    ≡ enter_machine_of core.csrs core.mode (cause_code exception.0) (written_trap_value core (cause_code exception.0) exception.1) core.pc
    → after.mode ≡ Machine → after.pc ≡ value_at core.csrs Mtvec / 4 * 4
    → ChangesOnly is_of_machine core.csrs after.csrs → LeadsToMachine core after exception
unfolding enter_machine_of
machine_registers core after exception whole is mode pc others =
    let values : EntryValues = record {
      epc = core.pc;
      cause = cause_code exception.0;
      tval = written_trap_value core (cause_code exception.0) exception.1;
      status = status_into_machine (value_at core.csrs Mstatus) core.mode;
    } in
    let holds = all_written core.csrs of_machine values whole machine_apart in
    record {
      mode = mode;
      pc = pc;
      mepc = ap (λ c. value_at c Mepc) is ∙ holds.epc;
      mcause = ap (λ c. value_at c Mcause) is ∙ holds.cause;
      mtval = ap (λ c. value_at c Mtval) is ∙ holds.tval;
      mstatus = subst (IsStackedForMachine (value_at core.csrs Mstatus) core.mode)
          (sym (ap (λ c. value_at c Mstatus) is ∙ holds.status))
          (stacked_for_machine (value_at core.csrs Mstatus) core.mode);
      others = others;
    }

-- and an entry to S
supervisor_registers : (core after : Core) (exception : Exception) → Whole core.csrs
    → after.csrs
    ≡ enter_supervisor_of core.csrs core.mode (cause_code exception.0) (written_trap_value core (cause_code exception.0) exception.1) core.pc
    → after.mode ≡ Supervisor → after.pc ≡ value_at core.csrs Stvec / 4 * 4
    → ChangesOnly is_of_supervisor core.csrs after.csrs → LeadsToSupervisor core after exception
unfolding enter_supervisor_of
supervisor_registers core after exception whole is mode pc others =
    let values : EntryValues = record {
      epc = core.pc;
      cause = cause_code exception.0;
      tval = written_trap_value core (cause_code exception.0) exception.1;
      status = status_into_supervisor (value_at core.csrs Mstatus) core.mode;
    } in
    let holds = all_written core.csrs of_supervisor values whole supervisor_apart in
    record {
      mode = mode;
      pc = pc;
      sepc = ap (λ c. value_at c Sepc) is ∙ holds.epc;
      scause = ap (λ c. value_at c Scause) is ∙ holds.cause;
      stval = ap (λ c. value_at c Stval) is ∙ holds.tval;
      mstatus = subst (IsStackedForSupervisor (value_at core.csrs Mstatus) core.mode)
          (sym (ap (λ c. value_at c Mstatus) is ∙ holds.status))
          (stacked_for_supervisor (value_at core.csrs Mstatus) core.mode);
      others = others;
    }

-- an entry, by whether it is delegated
abbrev Enters : Core → Core → Exception → Type 0
Enters core after exception =
    (after.csrs
    ≡ enter_of core.csrs core.mode false (cause_code exception.0) (written_trap_value core (cause_code exception.0) exception.1) core.pc)
    × (after.mode ≡ mode_by_enter core.csrs core.mode false (cause_code exception.0))
    × (after.pc ≡ pc_by_enter core.csrs core.mode false (cause_code exception.0))

abbrev others_by : Bool → StoredCsr → Bool
others_by delegated = if delegated then is_of_supervisor else is_of_machine

changes : (core after : Core) (exception : Exception) (delegated : Bool) → Enters core after exception
    → is_delegated core.csrs core.mode false (cause_code exception.0) ≡ delegated
    → ChangesOnly (others_by delegated) core.csrs after.csrs
changes core after exception delegated enters is =
    let value = written_trap_value core (cause_code exception.0) exception.1 in
    let only = enters_only core.csrs core.mode false (cause_code exception.0) value core.pc in
    let here = subst (ChangesOnly (others_by (is_delegated core.csrs core.mode false (cause_code exception.0)))
    core.csrs) (sym enters.0) only in
    subst (λ b. ChangesOnly (others_by b) core.csrs after.csrs) is here

to_machine : (core after : Core) (exception : Exception) → Whole core.csrs → Enters core after exception
    → is_delegated core.csrs core.mode false (cause_code exception.0) ≡ false → LeadsToMachine core after exception
unfolding enter_of mode_by_enter pc_by_enter handler_address
to_machine core after exception whole enters out =
    let code = cause_code exception.0 in
    let value = written_trap_value core (cause_code exception.0) exception.1 in
    machine_registers core after exception whole
    (enters.0 ∙ ap (λ b. if b then enter_supervisor_of core.csrs core.mode code value core.pc else
    enter_machine_of core.csrs core.mode code value core.pc) out)
    (enters.1 ∙ ap (λ b. if b then Supervisor else Machine) out)
    (enters.2 ∙ ap (λ b. (if b then value_at core.csrs Stvec else value_at core.csrs Mtvec) / 4 * 4) out)
    (changes core after exception false enters out)

to_supervisor : (core after : Core) (exception : Exception) → Whole core.csrs → Enters core after exception
    → is_delegated core.csrs core.mode false (cause_code exception.0) ≡ true → LeadsToSupervisor core after exception
unfolding enter_of mode_by_enter pc_by_enter handler_address
to_supervisor core after exception whole enters out =
    let code = cause_code exception.0 in
    let value = written_trap_value core (cause_code exception.0) exception.1 in
    supervisor_registers core after exception whole
    (enters.0 ∙ ap (λ b. if b then enter_supervisor_of core.csrs core.mode code value core.pc else
    enter_machine_of core.csrs core.mode code value core.pc) out)
    (enters.1 ∙ ap (λ b. if b then Supervisor else Machine) out)
    (enters.2 ∙ ap (λ b. (if b then value_at core.csrs Stvec else value_at core.csrs Mtvec) / 4 * 4) out)
    (changes core after exception true enters out)

-- medeleg decides below M
is_taken : (csrs : Csrs) (mode : Mode) (code : ℕ) → mode ≢ Machine → bit_is_set (value_at csrs Medeleg) code ≡ true
    → is_delegated csrs mode false code ≡ true
unfolding is_delegated
is_taken csrs Machine code below set = absurd (below refl)
is_taken csrs Supervisor code below set = set
is_taken csrs User code below set = set

never : (P : Type 0) → false ≡ true → P
never P wrong = cc

is_below : (csrs : Csrs) (mode : Mode) (code : ℕ) → is_delegated csrs mode false code ≡ true → mode ≢ Machine
unfolding is_delegated
is_below csrs Machine code taken is = never ⊥ taken
is_below csrs Supervisor code taken is = cc
is_below csrs User code taken is = cc

is_set : (csrs : Csrs) (mode : Mode) (code : ℕ) → is_delegated csrs mode false code ≡ true
    → bit_is_set (value_at csrs Medeleg) code ≡ true
unfolding is_delegated
is_set csrs Machine code taken = never (bit_is_set (value_at csrs Medeleg) code ≡ true) taken
is_set csrs Supervisor code taken = taken
is_set csrs User code taken = taken

to_handler : (core after : Core) (exception : Exception) → Whole core.csrs → Enters core after exception
    → after.trapped_last ≡ true → LeadsToHandler core after exception
to_handler core after exception whole enters trapped = record {
  delegated = λ is. to_supervisor core after exception whole enters
      (is_taken core.csrs core.mode (cause_code exception.0) is.below_machine is.by_medeleg);
  not_delegated = λ out. elim (cases_Bool (is_delegated core.csrs core.mode false (cause_code exception.0))) [
    | inl taken ↦ absurd (out
        (record {
          below_machine = is_below core.csrs core.mode (cause_code exception.0) taken;
          by_medeleg = is_set
              core.csrs core.mode (cause_code exception.0) taken;
        }))
    | inr kept ↦ to_machine core after exception whole enters kept
  ];
  trapped_last = trapped;
}

-- an entry of an interrupt keeps every register's place
whole_by : (csrs : Csrs) (mode : Mode) (value tval pc : ℕ) (delegated : Bool) → Whole csrs
    → Whole (if delegated then enter_supervisor_of csrs mode value tval pc else enter_machine_of csrs mode value tval
    pc)
unfolding enter_supervisor_of enter_machine_of
whole_by csrs mode value tval pc true whole =
    whole_with _ Mstatus _ (whole_with _ Stval tval (whole_with _ Scause value (whole_with csrs Sepc pc whole)))
whole_by csrs mode value tval pc false whole =
    whole_with _ Mstatus _ (whole_with _ Mtval tval (whole_with _ Mcause value (whole_with csrs Mepc pc whole)))

whole_entered : (core : Core) (code value : ℕ) → Whole core.csrs → Whole (core_after_entry core true code value).csrs
unfolding core_after_entry enter_of
whole_entered core code value whole =
    whole_by core.csrs core.mode (cause_value true code) (written_trap_value core code value) core.pc
    (is_delegated core.csrs core.mode true code) whole

whole_after : (core : Core) (asks : Bool) (pick : Option (ℕ × Mode)) → Whole core.csrs
    → Whole (if asks then core_after_interrupt_by core pick else core).csrs
whole_after core false pick whole = whole
whole_after core true None whole = whole
whole_after core true (Some x) whole = whole_entered core x.0 0 whole

whole_begun : (core : Core) (shown : Shown) → Whole core.csrs → Whole (before_instruction core shown).csrs
unfolding before_instruction core_after_interrupt core_after_count
whole_begun core shown whole =
    whole_after (core_after_count core shown) (asks_interrupt (core_after_count core shown) shown)
    (interrupt_of (core_after_count core shown) shown) whole

-- the end of a step whose instruction raised an exception
finished_enters : (core : Core) (executed : InstructionOutcome) (exception : Exception) (shown : Shown)
    → Raises executed exception
    → Enters core (core_after_run (record { core = core; executed = executed }) shown) exception
unfolding core_after_run core_after_entry
finished_enters core (Trapped insn raised) exception shown is =
    let P : Exception → Type 0 =
    λ e. Enters core (core_after_run (record { core = core; executed = Trapped insn raised })
    shown) e in
    subst P is (refl, refl, refl)
finished_enters core (Retired instruction access) exception shown is = absurd is

raises_trap : (executed : InstructionOutcome) (exception : Exception) → Raises executed exception
    → is_trap executed ≡ true
raises_trap (Trapped insn raised) exception is = refl
raises_trap (Retired instruction access) exception is = absurd is

pub leads : (core : Core) (shown : Shown) (bytes : Bytes) (exception : Exception) → IsSound core → core.halted ≡ false
    → Raises (executed_at core shown bytes) exception
    → LeadsToHandler (before_instruction core shown) (next_of core shown bytes) exception
leads core shown bytes exception sound runs raises =
    let begins = before_instruction core shown in
    let done = ((instruction_run begins shown).run bytes).value in
    let traps = raises_trap done.executed exception raises in
    let clean = ran_clean begins shown bytes traps in
    let ended : InstructionRun = record { core = begins; executed = done.executed } in
    let same : done ≡ ended =
    ap (λ k. let r : InstructionRun = record { core = k; executed = done.executed } in r) clean.0 in
    let is : next_of core shown bytes ≡ core_after_run ended shown = next_running core shown bytes runs
    ∙ ap (λ d. core_after_run d shown) same in
    let P : Core → Type 0 = λ k. LeadsToHandler begins k exception in
    subst P (sym is)
    (to_handler begins (core_after_run ended shown) exception (whole_begun core shown sound.legal.whole)
    (finished_enters begins done.executed exception shown raises) (finished_trapped ended shown ∙ traps))

-- what the hart did has its cause
cause_by : (core : Core) (shown : Shown) (done : InstructionRun) (exception : Exception)
    → Raises done.executed exception
    → HasCause (expected_of core shown done) exception.0
unfolding expected_of
cause_by core shown done exception raises = cause_of done.executed raises
  where
    cause_of : (executed : InstructionOutcome) → Raises executed exception
        → HasCause (expected_of core shown (record { core = done.core; executed = executed })) exception.0
    cause_of (Trapped insn raised) is = ap (λ e. Err e.0) is
    cause_of (Retired instruction access) is = absurd is

pub has_cause : (core : Core) (shown : Shown) (bytes : Bytes) (exception : Exception) → core.halted ≡ false
    → Raises (executed_at core shown bytes) exception
    → HasCause ((step_of core shown).run bytes).value.expected exception.0
has_cause core shown bytes exception runs raises =
    let P : Expected → Type 0 = λ e. HasCause e exception.0 in
    subst P (sym (expected_running core shown bytes runs))
    (cause_by core shown ((instruction_run (before_instruction core shown) shown).run bytes).value exception raises)

-- each trap is of an exception
raised_by : (executed : InstructionOutcome) → is_trap executed ≡ true
    → (exception : Exception) × Raises executed exception
raised_by (Trapped insn raised) traps = (raised, refl)
raised_by (Retired instruction access) traps = never _ traps

pub every_trap : (core : Core) (shown : Shown) (bytes : Bytes) → core.halted ≡ false
    → (next_of core shown bytes).trapped_last ≡ true
    → (exception : Exception) × Raises (executed_at core shown bytes) exception
every_trap core shown bytes runs trapped =
    let done = ((instruction_run (before_instruction core shown) shown).run bytes).value in
    raised_by done.executed (sym (finished_trapped done shown) ∙ sym
    (ap (λ k. k.trapped_last) (next_running core shown bytes runs)) ∙ trapped)
