-- What a step is, by its phases, and what an interrupt's entry leaves.
use Rattle.std.proofs.Common.{◌≡◌, ◌≢◌, ◌≤◌, ℕ, Bool, true, false, not, ◌&&◌, [], refl, sym, ap, ◌∙◌, subst, arith}
use Rattle.std.proofs.Common.{Option, Some, None, if◌then◌else◌}
use Rattle.std.specs.Prelude.{IfSome}
use Rattle.std.specs.Option.{is_some, is_none}
use Rattle.std.proofs.lemmas.Bool.Decides.{nat_tests}
use Rattle.hart_words.specs.declared.privilege.Mode.{Mode}
use Rattle.hart_words.specs.Options.{is_zero_for}
use Rattle.hart_words.specs.Privilege.{mode_number}
use Rattle.hart_words.specs.declared.signal.Signal.TheVariants.{Intr, PcRdata}
use Rattle.hart_words.specs.Signals.{Shown}
use Rattle.hart_words.specs.Memory.{Bytes}
use Rattle.hart_words.specs.Actions.{pure, mapped}
use Rattle.trap_entry.specs.Entries.{enter_of, pc_by_enter, trap_value_of}
use Rattle.trap_entry.proofs.Undone.{never_lowers}
use Rattle.interrupt_pick.proofs.Taken.{picks_taken}
use Rattle.interrupt_pick.proofs.Entered.{picks_where_entered}
use Rattle.interrupt_pick.proofs.Firsts.{picks_first, picks_none_rightly}
use Rattle.interrupt_pick.specs.Laws.{TakesNone}
use Rattle.csr_file.specs.declared.csrs.Csrs.{Csrs}
use Rattle.rvfi_rows.specs.Rows.{shows_csr}
use Rattle.rvfi_rows.specs.declared.expected.Expected.{Expected}
use Rattle.rvfi_rows.specs.declared.expected.Expected.TheVariants.{Halted}
use Rattle.hart_step.specs.declared.state.Core.{Core}
use Rattle.hart_step.specs.Choices.{shows, asks_interrupt, pending_lines_of}
use Rattle.hart_step.specs.Instructions.{instruction_run}
use Rattle.hart_step.specs.Steps.{StepResult, core_after_count, core_after_entry, interrupt_of, core_after_interrupt_by}
use Rattle.hart_step.specs.Steps.{core_after_interrupt, lacks_interrupt, before_instruction, core_after_run, csrs_around}
use Rattle.hart_step.specs.Steps.{expected_of, step_result_of, step_of, written_trap_value}
use Rattle.hart_step.specs.Laws.{next_of, enters_interrupt, AsksInterrupt, IsFetched, EntersInterrupt, LacksInterrupt}
use Rattle.hart_step.specs.Laws.{CarriesCsrs, LacksRightly}

-- a running hart runs what it finds after the entry of an interrupt
pub running : (core : Core) (shown : Shown) (bytes : Bytes) → core.halted ≡ false
    → (step_of core shown).run bytes
    ≡ (mapped (step_result_of core shown) (instruction_run (before_instruction core shown) shown)).run bytes
unfolding step_of
running core shown bytes is =
    let halts : StepResult = record { next = core; expected = Halted } in
    let whole = mapped (step_result_of core shown) (instruction_run (before_instruction core shown) shown) in
    let P : Bool → Type 0 = λ b. (if b then pure halts else whole).run bytes ≡ whole.run bytes in
    subst P (sym is) refl

pub halting : (core : Core) (shown : Shown) (bytes : Bytes) → core.halted ≡ true
    → (step_of core shown).run bytes
    ≡ record { value = record { next = core; expected = Halted }; reads = []; wrote = [] }
unfolding step_of pure
halting core shown bytes is =
    let halts : StepResult = record { next = core; expected = Halted } in
    let whole = mapped (step_result_of core shown) (instruction_run (before_instruction core shown) shown) in
    let P : Bool → Type 0 = λ b. (if b then pure halts else whole).run bytes ≡ (pure halts).run bytes in
    subst P (sym is) refl

pub next_running : (core : Core) (shown : Shown) (bytes : Bytes) → core.halted ≡ false
    → next_of core shown bytes
    ≡ core_after_run ((instruction_run (before_instruction core shown) shown).run bytes).value shown
unfolding mapped step_result_of
next_running core shown bytes is = ap (λ r. r.value.next) (running core shown bytes is)

pub wrote_running : (core : Core) (shown : Shown) (bytes : Bytes) → core.halted ≡ false
    → ((step_of core shown).run bytes).wrote ≡ ((instruction_run (before_instruction core shown) shown).run bytes).wrote
unfolding mapped
wrote_running core shown bytes is = ap (λ r. r.wrote) (running core shown bytes is)

pub expected_running : (core : Core) (shown : Shown) (bytes : Bytes) → core.halted ≡ false
    → ((step_of core shown).run bytes).value.expected
    ≡ expected_of core shown ((instruction_run (before_instruction core shown) shown).run bytes).value
unfolding mapped step_result_of
expected_running core shown bytes is = ap (λ r. r.value.expected) (running core shown bytes is)

pub next_halted : (core : Core) (shown : Shown) (bytes : Bytes) → core.halted ≡ true → next_of core shown bytes ≡ core
next_halted core shown bytes is = ap (λ r. r.value.next) (halting core shown bytes is)

pub wrote_halted : (core : Core) (shown : Shown) (bytes : Bytes) → core.halted ≡ true
    → ((step_of core shown).run bytes).wrote ≡ []
wrote_halted core shown bytes is = ap (λ r. r.wrote) (halting core shown bytes is)

-- an entry leaves the registers and what is reserved, and never lowers the mode
registers_by : (core : Core) (asks : Bool) (pick : Option (ℕ × Mode))
    → (if asks then core_after_interrupt_by core pick else core).registers ≡ core.registers
unfolding core_after_entry
registers_by core false pick = refl
registers_by core true None = refl
registers_by core true (Some x) = refl

pub begun_registers : (core : Core) (shown : Shown) → (before_instruction core shown).registers ≡ core.registers
unfolding before_instruction core_after_interrupt core_after_count
begun_registers core shown =
    registers_by (core_after_count core shown) (asks_interrupt (core_after_count core shown) shown)
    (interrupt_of (core_after_count core shown) shown)

reservation_by : (core : Core) (asks : Bool) (pick : Option (ℕ × Mode))
    → (if asks then core_after_interrupt_by core pick else core).reservation ≡ core.reservation
unfolding core_after_entry
reservation_by core false pick = refl
reservation_by core true None = refl
reservation_by core true (Some x) = refl

pub begun_reservation : (core : Core) (shown : Shown) → (before_instruction core shown).reservation ≡ core.reservation
unfolding before_instruction core_after_interrupt core_after_count
begun_reservation core shown =
    reservation_by (core_after_count core shown) (asks_interrupt (core_after_count core shown) shown)
    (interrupt_of (core_after_count core shown) shown)

pub same_mode : (one other : Mode) → one ≡ other → mode_number one ≤ mode_number other
same_mode one other is =
    let P : Mode → Type 0 = λ m. mode_number one ≤ mode_number m in
    let here : mode_number one ≤ mode_number one = omega arith in
    subst P is here

mode_by : (core : Core) (asks : Bool) (pick : Option (ℕ × Mode))
    → mode_number core.mode ≤ mode_number (if asks then core_after_interrupt_by core pick else core).mode
unfolding core_after_entry
mode_by core false pick = same_mode core.mode core.mode refl
mode_by core true None = same_mode core.mode core.mode refl
mode_by core true (Some x) = never_lowers core.csrs core.mode true x.0

pub begun_mode : (core : Core) (shown : Shown)
    → mode_number core.mode ≤ mode_number (before_instruction core shown).mode
unfolding before_instruction core_after_interrupt core_after_count
begun_mode core shown =
    mode_by (core_after_count core shown) (asks_interrupt (core_after_count core shown) shown)
    (interrupt_of (core_after_count core shown) shown)

-- where one is entered, and where none is
entered_by : (core : Core) (asks : Bool) (pick : Option (ℕ × Mode)) (code : ℕ) (taker : Mode) → asks ≡ true
    → pick ≡ Some (code, taker)
    → (if asks then core_after_interrupt_by core pick else core) ≡ core_after_entry core true code 0
entered_by core false pick code taker asked picked = cc
entered_by core true pick code taker asked picked = ap (core_after_interrupt_by core) picked

pub begun_entered : (core : Core) (shown : Shown) (code : ℕ) (taker : Mode) → asks_interrupt core shown ≡ true
    → interrupt_of core shown ≡ Some (code, taker)
    → before_instruction core shown ≡ core_after_entry (core_after_count core shown) true code 0
unfolding before_instruction core_after_interrupt core_after_count asks_interrupt
begun_entered core shown code taker asked picked =
    entered_by (core_after_count core shown) (asks_interrupt (core_after_count core shown) shown)
    (interrupt_of (core_after_count core shown) shown) code taker asked picked

kept_by : (core : Core) (asks : Bool) (pick : Option (ℕ × Mode)) → (asks && is_some pick) ≡ false
    → (if asks then core_after_interrupt_by core pick else core) ≡ core
kept_by core false pick none = refl
kept_by core true None none = refl
kept_by core true (Some x) none = cc

pub begun_kept : (core : Core) (shown : Shown) → enters_interrupt core shown ≡ false
    → before_instruction core shown ≡ core_after_count core shown
unfolding before_instruction core_after_interrupt core_after_count asks_interrupt
begun_kept core shown none =
    kept_by (core_after_count core shown) (asks_interrupt (core_after_count core shown) shown)
    (interrupt_of (core_after_count core shown) shown) none

-- what a row must ask
asks_by : (intr : Option ℕ) (trapped : Bool) (shown : Option ℕ) (pc : ℕ) → intr ≡ Some 1
    → (trapped ≡ true → shown ≢ Some pc) → (shows intr 1 && not (trapped && shows shown pc)) ≡ true
asks_by None trapped shown pc one other = cc
asks_by (Some x) false shown pc one other = grind (arith, nat_tests)
asks_by (Some x) true None pc one other = grind (arith, nat_tests)
asks_by (Some x) true (Some y) pc one other = elsewhere
  where
    differs : y ≢ pc
    differs e = other refl (ap (λ v. Some v) e)

    elsewhere : (shows (Some x) 1 && not (shows (Some y) pc)) ≡ true
    elsewhere = grind (arith, nat_tests, differs)

pub asked_asks : (core : Core) (shown : Shown) → AsksInterrupt core shown → asks_interrupt core shown ≡ true
unfolding asks_interrupt
asked_asks core shown is = asks_by (shown Intr) core.trapped_last (shown PcRdata) core.pc is.intr is.entry

asked_by : (intr : Option ℕ) (trapped : Bool) (shown : Option ℕ) (pc : ℕ)
    → (shows intr 1 && not (trapped && shows shown pc)) ≡ true → (intr ≡ Some 1) × (trapped ≡ true → shown ≢ Some pc)
asked_by None trapped shown pc asks = cc
asked_by (Some x) false shown pc asks = (ap (λ v. Some v) (grind (arith, nat_tests)), λ t. cc)
asked_by (Some x) true None pc asks = (ap (λ v. Some v) (grind (arith, nat_tests)), λ t e. cc)
asked_by (Some x) true (Some y) pc asks = (ap (λ v. Some v) (grind (arith, nat_tests)), λ t e. grind (arith, nat_tests))

pub asks_asked : (core : Core) (shown : Shown) → asks_interrupt core shown ≡ true → AsksInterrupt core shown
unfolding asks_interrupt
asks_asked core shown asks =
    let both = asked_by (shown Intr) core.trapped_last (shown PcRdata) core.pc asks in
    record { intr = both.0; entry = both.1 }

-- the registers that are carried are those before the instruction
carried_before : (carries : Bool) (before after : Csrs) {csrs : Csrs} → before ≡ csrs
    → IfSome (csrs_around carries before after) (λ around. around.before ≡ csrs)
carried_before true before after is = is
carried_before false before after is = tt

-- what the facts about a step say of it
pub fetched_at : (core : Core) (shown : Shown) (bytes : Bytes) (begun : Core) → core.halted ≡ false
    → before_instruction core shown ≡ begun
    → IsFetched ((step_of core shown).run bytes).value.expected begun.pc begun.mode begun.csrs
unfolding expected_of
fetched_at core shown bytes begun runs is =
    let P : Expected → Type 0 = λ e. IsFetched e begun.pc begun.mode begun.csrs in
    subst P (sym (expected_running core shown bytes runs)) (
      ap (λ k. k.pc) is,
      (
        ap (λ k. k.mode) is,
        carried_before (shows_csr shown) (before_instruction core shown).csrs _ (ap (λ k. k.csrs) is),
      ),
    )

pub carried_where_shown : (core : Core) (shown : Shown) (bytes : Bytes) → core.halted ≡ false
    → CarriesCsrs ((step_of core shown).run bytes).value.expected
    (csrs_around (shows_csr shown) (before_instruction core shown).csrs (next_of core shown bytes).csrs)
unfolding expected_of
carried_where_shown core shown bytes runs =
    let before = (before_instruction core shown).csrs in
    let P : Expected → Type 0 =
    λ e. CarriesCsrs e (csrs_around (shows_csr shown) before (next_of core shown bytes).csrs) in
    subst P (sym (expected_running core shown bytes runs))
    (ap (λ k. csrs_around (shows_csr shown) before k.csrs) (sym (next_running core shown bytes runs)))

-- the trap value of an interrupt is 0 in every core
of_interrupts : (core : Core) (code : ℕ) → written_trap_value core code 0 ≡ 0
of_interrupts core code = by (is_zero_for core.choices.trap_values code)
  where
    by : (zero : Bool) → trap_value_of zero 0 ≡ 0
    by true = refl
    by false = refl

pub enters : (core : Core) (shown : Shown) (bytes : Bytes) (code : ℕ) (taker : Mode) → core.halted ≡ false
    → asks_interrupt core shown ≡ true → interrupt_of core shown ≡ Some (code, taker)
    → EntersInterrupt core shown ((step_of core shown).run bytes).value.expected code taker
unfolding core_after_entry core_after_count
enters core shown bytes code taker runs asked picked =
    let is = begun_entered core shown code taker asked picked in
    let mode = picks_where_entered core.csrs core.mode (pending_lines_of shown).up code taker picked in
    let begun = core_after_entry (core_after_count core shown) true code 0 in
    let pc = pc_by_enter core.csrs core.mode true code in
    let At : Mode → ℕ → Type 0 =
    λ m value. IsFetched ((step_of core shown).run bytes).value.expected pc m
    (enter_of core.csrs core.mode true code value core.pc) in
    let here = subst (At begun.mode) (of_interrupts core code) (fetched_at core shown bytes begun runs is) in
    record {
      taken = picks_taken core.csrs core.mode (pending_lines_of shown).up code taker picked;
      first = picks_first core.csrs core.mode (pending_lines_of shown).up code taker picked;
      mode = mode;
      fetched = subst (λ m. At m 0) (sym mode) here;
    }

pub stays : (core : Core) (shown : Shown) (bytes : Bytes) → core.halted ≡ false → enters_interrupt core shown ≡ false
    → IsFetched ((step_of core shown).run bytes).value.expected core.pc core.mode core.csrs
unfolding core_after_count
stays core shown bytes runs none =
    let is = begun_kept core shown none in
    fetched_at core shown bytes (core_after_count core shown) runs is

-- where there is none to take
pub takes_none : (core : Core) (shown : Shown) → interrupt_of core shown ≡ None
    → TakesNone core.csrs core.mode (pending_lines_of shown).up
takes_none core shown none = (picks_none_rightly core.csrs core.mode (pending_lines_of shown).up).takes_none none

lacks_by : (asks : Bool) (pick : Option (ℕ × Mode)) → asks ≡ true → pick ≡ None
    → (if asks then is_none pick else false) ≡ true
lacks_by true None asked none = refl
lacks_by true (Some x) asked none = cc
lacks_by false pick asked none = asked

lacked_by : (asks : Bool) (pick : Option (ℕ × Mode)) → (if asks then is_none pick else false) ≡ true
    → (asks ≡ true) × (pick ≡ None)
lacked_by true None lacks = (refl, refl)
lacked_by true (Some x) lacks = cc
lacked_by false pick lacks = cc

lacking_is : (core : Core) (shown : Shown) (bytes : Bytes) → core.halted ≡ false
    → LacksInterrupt ((step_of core shown).run bytes).value.expected ≡
    (lacks_interrupt (core_after_count core shown) shown ≡ true)
unfolding expected_of
lacking_is core shown bytes runs = ap LacksInterrupt (expected_running core shown bytes runs)

lacks_counted : (core : Core) (shown : Shown)
    → lacks_interrupt (core_after_count core shown) shown ≡
    (if asks_interrupt core shown then is_none (interrupt_of core shown) else false)
unfolding lacks_interrupt core_after_count asks_interrupt
lacks_counted core shown = refl

pub lacks_rightly : (core : Core) (shown : Shown) (bytes : Bytes) → core.halted ≡ false
    → LacksRightly core shown ((step_of core shown).run bytes).value.expected
lacks_rightly core shown bytes runs =
    let is = lacking_is core shown bytes runs in
    let asks = asks_interrupt core shown in
    let pick = interrupt_of core shown in
    let picks = picks_none_rightly core.csrs core.mode (pending_lines_of shown).up in
    let known : LacksInterrupt ((step_of core shown).run bytes).value.expected → (asks ≡ true) × (pick ≡ None) =
    λ lacks. lacked_by asks pick (sym (lacks_counted core shown) ∙ subst (λ T. T) is lacks) in
    record {
      lacks = λ asked none. subst (λ T. T) (sym is)
          (lacks_counted core shown ∙ lacks_by asks pick asked (picks.picks_none none));
      asks = λ lacks. (known lacks).0;
      takes_none = λ lacks. picks.takes_none (known lacks).1;
    }
