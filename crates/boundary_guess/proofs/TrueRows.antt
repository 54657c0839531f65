-- A plain row that agrees, and shows its changes, shows its hart and what it stored as they are after the step.
use Rattle.std.proofs.Common.{◌≡◌, ℕ, Bool, true, false, not, ◌&&◌, Option, None, refl, sym, ap, ◌∙◌}
use Rattle.std.proofs.Common.{subst}
use Rattle.std.specs.Option.{is_some}
use Rattle.hart_words.specs.declared.signal.Signal.TheVariants.{Intr, PcRdata}
use Rattle.hart_words.specs.Memory.{Bytes, after_writes}
use Rattle.hart_words.specs.Signals.{Shown}
use Rattle.rvfi_rows.specs.Rows.{shows_csr}
use Rattle.rvfi_rows.specs.declared.expected.Expected.TheVariants as expected
use Rattle.rvfi_rows.specs.declared.expected.Retired.{Retired as Retirement}
use Rattle.rvfi_rows.specs.Meanings.{lost_by}
use Rattle.row_compare.specs.Difference.{difference_of}
use Rattle.row_compare.proofs.Among.{agrees_in_all}
use Rattle.hart_step.specs.declared.state.Core.{Core}
use Rattle.hart_step.specs.Choices.{asks_interrupt, pending_lines_of, shows}
use Rattle.hart_step.specs.Instructions.{InstructionRun, instruction_run}
use Rattle.hart_step.specs.Laws.{enters_interrupt, next_of}
use Rattle.hart_step.specs.Meanings.{core_meaning}
use Rattle.hart_step.specs.PlainRows.{core_shown, is_plain, memory_shown}
use Rattle.hart_step.specs.TakenRows.{writes_shown}
use Rattle.hart_step.specs.Steps.{before_instruction, core_after_count, effects_of, expected_of, core_after_run}
use Rattle.hart_step.specs.Steps.{csrs_around, insn_of, interrupt_of, lacks_interrupt, step_of}
use Rattle.hart_step.proofs.Phases.{begun_kept, expected_running, next_running, wrote_running}
use Rattle.hart_step.proofs.LostAlike.{loses_alike}
use Rattle.boundary_guess.specs.Truth.{ShowsChanges}
use Rattle.boundary_guess.proofs.Compared.{RowAgrees, ShowsWords}
use Rattle.boundary_guess.proofs.Actions.{AreBytes}
use Rattle.hart_step.proofs.KeptChoices.{begun_keeps}
use Rattle.boundary_guess.proofs.NoSets.{SetsNone}
use Rattle.boundary_guess.proofs.PlainSteps.{Runs, ran_runs}
use Rattle.boundary_guess.proofs.PlainTruth.{IsInRange, IsRunOf, IsShownRightly, plain_facts, ran_true}
use Rattle.boundary_guess.proofs.ShownWrites.{shown_left}

-- no interrupt is entered before a plain row
never_asked : (intr : Option ℕ) (more : Bool) (pick : Bool) → shows intr 1 ≡ false
    → (shows intr 1 && more && pick) ≡ false
never_asked intr more pick none = ap (λ t. t && more && pick) none

none_entered : (core : Core) (shown : Shown) → shows (shown Intr) 1 ≡ false → enters_interrupt core shown ≡ false
unfolding asks_interrupt
none_entered core shown none =
    never_asked (shown Intr) (not (core.trapped_last && shows (shown PcRdata) core.pc))
    (is_some (interrupt_of core shown)) none

-- what the reference hart did
abbrev retirement : Core → Shown → InstructionRun → Retirement
retirement core shown done = record {
  order = core.next_order;
  lacks_interrupt = lacks_interrupt (core_after_count core shown) shown;
  pc = (before_instruction core shown).pc;
  mode = (before_instruction core shown).mode;
  insn = insn_of done.executed;
  insn_bits = core.choices.insn_bits;
  effects = effects_of (before_instruction core shown) done.core done.executed;
  csrs = csrs_around (shows_csr shown) (before_instruction core shown).csrs (core_after_run done shown).csrs;
  lines = (pending_lines_of shown).up;
}

expected_is : (core : Core) (shown : Shown) (done : InstructionRun)
    → expected_of core shown done ≡ expected.Retired (retirement core shown done)
unfolding expected_of
expected_is core shown done = refl

agrees_so : (core : Core) (shown : Shown) (bytes : Bytes) → core.halted ≡ false → ShowsWords shown
    → difference_of ((step_of core shown).run bytes).value.expected shown ≡ None
    → RowAgrees (retirement core shown ((instruction_run (before_instruction core shown) shown).run bytes).value) shown
agrees_so core shown bytes runs words none =
    let done = ((instruction_run (before_instruction core shown) shown).run bytes).value in
    let is = expected_running core shown bytes runs ∙ expected_is core shown done in
    let none_differs =
    agrees_in_all (retirement core shown done) shown (sym (ap (λ e. difference_of e shown) is) ∙ none) in
    record { words = words; none_differs = none_differs }

-- what a plain row shows of its hart is true: the hart after it, and the bytes that the step puts into any memory
pub record IsShownTruly (core : Core) (shown : Shown) (bytes : Bytes) : Type 0 where
  pub core_is : core_shown core shown ≡ next_of core shown bytes
  pub bytes_are : (memory : Bytes)
      → memory_shown core shown memory ≡ after_writes ((step_of core shown).run bytes).wrote memory

-- each address of memory holds a byte, and no access of the hart sets an entry of a page table; its state after the row
-- is in range
pub record IsReady (core : Core) (shown : Shown) (bytes : Bytes) : Type 0 where
  pub are : AreBytes bytes
  pub faults : SetsNone core.choices
  pub in_range : IsInRange (next_of core shown bytes)

pub plain_row_is_true : (core : Core) (shown : Shown) (bytes : Bytes) → is_plain core shown ≡ true
    → IsReady core shown bytes → ShowsChanges shown → ShowsWords shown
    → difference_of ((step_of core shown).run bytes).value.expected shown ≡ None → IsShownTruly core shown bytes
plain_row_is_true core shown bytes is ready shows words agrees =
    let plain = plain_facts core shown is in
    let begins = begun_kept core shown (none_entered core shown plain.intr) in
    let run = (instruction_run (before_instruction core shown) shown).run bytes in
    let done = run.value in
    let next = next_running core shown bytes plain.runs in
    let wrote = wrote_running core shown bytes plain.runs in
    let faults : SetsNone (before_instruction core shown).choices =
    ap (λ choices. choices.marks) (begun_keeps core shown) ∙ ready.faults in
    let P : Core → Type 0 = λ k. Runs k done.executed done.core run.wrote in
    let did : IsRunOf core shown (retirement core shown done) done.executed done.core run.wrote = record {
      runs = subst P begins (ran_runs (before_instruction core shown) shown bytes faults ready.are);
      insn = refl;
      effects = ap (λ k. effects_of k done.core done.executed) begins;
      in_range = subst IsInRange next ready.in_range;
    } in
    let right : (memory : Bytes) → IsShownRightly core shown memory done run.wrote =
    λ memory. ran_true memory done.executed plain shows (agrees_so core shown bytes plain.runs words agrees) did in
    record {
      core_is = (right bytes).core_is ∙ sym next;
      bytes_are = λ memory. (right memory).bytes_are ∙ ap (λ w. after_writes w memory) (sym wrote);
    }

-- and so what the others lose is the same
pub lost_truly : (core : Core) (shown : Shown) (bytes : Bytes) (other : Core) → IsShownTruly core shown bytes
    → lost_by core_meaning (writes_shown core shown) other
    ≡ lost_by core_meaning ((step_of core shown).run bytes).wrote other
lost_truly core shown bytes other right =
    loses_alike other (writes_shown core shown) ((step_of core shown).run bytes).wrote
    (λ memory. shown_left core shown memory ∙ right.bytes_are memory)
