-- What a row does to several harts, where each is sane, and where the guess after it is their true state.
use Rattle.std.proofs.Common.{◌≡◌, ℕ, zero, suc, Bool, true, false, List, [], ◌∷◌, Option, None, Some, if◌then◌else◌}
use Rattle.std.proofs.Common.{refl, sym, ap, ◌∙◌, subst}
use Rattle.std.proofs.Math.Path.{fun_ext}
use Rattle.std.specs.Prelude.{All, slice_get}
use Rattle.std.proofs.lemmas.List.Elements.{All-head, All-tail}
use Rattle.hart_words.specs.declared.accesses.Write.{Write}
use Rattle.hart_words.specs.declared.options.Marks.TheVariants.{Fault}
use Rattle.hart_words.specs.Memory.{Bytes, after_writes}
use Rattle.hart_words.specs.Actions.{pure}
use Rattle.hart_words.specs.Signals.{Shown}
use Rattle.rvfi_rows.specs.Meanings.{lost_by}
use Rattle.rvfi_rows.specs.Rows.{hart_of}
use Rattle.row_compare.specs.Difference.{difference_of}
use Rattle.hart_set.specs.Sets.{concluded, gone_on, is_plain_by, stepped_by, taken_by}
use Rattle.hart_set.proofs.Places.{all_kept}
use Rattle.hart_set.proofs.Steps.{lost_holds}
use Rattle.hart_step.specs.declared.state.Core.{Core}
use Rattle.hart_step.specs.HartSets.{SetState, set_after_row, set_step_of}
use Rattle.hart_step.specs.Laws.{next_of}
use Rattle.hart_step.specs.Meanings.{core_after_loss, core_meaning, stays_sound}
use Rattle.hart_step.specs.PlainRows.{core_shown, is_plain}
use Rattle.hart_step.specs.Steps.{step_of}
use Rattle.hart_step.specs.TakenRows.{taken_of, writes_shown}
use Rattle.hart_step.proofs.KeptChoices.{next_keeps}
use Rattle.boundary_guess.specs.Guesses.{guess_after_row}
use Rattle.boundary_guess.specs.Truth.{SetNoMarks, ShowsChanges}
use Rattle.boundary_guess.proofs.Actions.{AreBytes, written_bytes}
use Rattle.boundary_guess.proofs.Compared.{ShowsWords}
use Rattle.boundary_guess.proofs.CoreWords.{IsSane}
use Rattle.boundary_guess.proofs.NoSets.{SetsNone}
use Rattle.boundary_guess.proofs.PlainTruth.{IsInRange}
use Rattle.boundary_guess.proofs.SaneSteps.{next_sane}
use Rattle.boundary_guess.proofs.ShownWrites.{shown_left}
use Rattle.boundary_guess.proofs.TrueRows.{IsReady, IsShownTruly, lost_truly, plain_row_is_true}

-- each hart is sound, and holds words; each address of their memory holds a byte
pub record IsSaneState (state : SetState) : Type 0 where
  pub cores : All IsSane state.core
  pub bytes : AreBytes state.bytes

-- what holds of all harts holds of the one of a number
pub holds_at : (P : Core → Type 0) (cores : List Core) (number : ℕ) (core : Core) → slice_get cores number ≡ Some core
    → All P cores → P core
holds_at P [] number core there all = absurd cc
holds_at P (first ∷ cores) zero core there all =
    let same : first ≡ core = cc in subst P same (All-head P first cores all)
holds_at P (first ∷ cores) (suc number) core there all =
    holds_at P cores number core there (All-tail P first cores all)

-- ---- the state after a row, by what stands in the place of its hart

abbrev stepped_state : SetState → Shown → Option Core → SetState
stepped_state state shown found =
    let run = (stepped_by core_meaning state.core shown (hart_of shown) found).run state.bytes in
    record { core = run.value.next; bytes = after_writes run.wrote state.bytes }

abbrev taken_state : SetState → Shown → Option Core → SetState
taken_state state shown found =
    let run = (taken_by core_meaning state.core shown (hart_of shown) found).run state.bytes in
    record { core = run.value; bytes = after_writes run.wrote state.bytes }

-- a hart went on, and the others lost what it wrote
abbrev gone_state : SetState → ℕ → Core → List Write → SetState
gone_state state number next wrote = record {
  core = gone_on (lost_by core_meaning wrote) number next state.core;
  bytes = after_writes wrote state.bytes;
}

stepped_is : (state : SetState) (shown : Shown) (core : Core)
    → stepped_state state shown (Some core)
    ≡ gone_state state (hart_of shown) (next_of core shown state.bytes) ((step_of core shown).run state.bytes).wrote
unfolding stepped_by concluded
stepped_is state shown core = refl

taken_is : (state : SetState) (shown : Shown) (core : Core)
    → taken_state state shown (Some core)
    ≡ gone_state state (hart_of shown) (core_shown core shown) (writes_shown core shown)
unfolding taken_by concluded taken_of
taken_is state shown core = refl

-- a row whose hart is not there changes nothing
stood_is : (state : SetState) (shown : Shown) → stepped_state state shown None ≡ state
unfolding stepped_by pure after_writes
stood_is state shown = refl

-- ---- what a row keeps of each hart

kept_by : (P : Core → Type 0) (state : SetState) (shown : Shown) (found : Option Core)
    → slice_get state.core (hart_of shown) ≡ found
    → ((core : Core) (pa len : ℕ) → P core → P (core_after_loss core pa len))
    → ((core : Core) → P core → P (next_of core shown state.bytes)) → All P state.core
    → All P (stepped_state state shown found).core
kept_by P state shown None there loses steps all = subst (λ s. All P s.core) (sym (stood_is state shown)) all
kept_by P state shown (Some core) there loses steps all =
    let wrote = ((step_of core shown).run state.bytes).wrote in
    subst (λ s. All P s.core) (sym (stepped_is state shown core))
    (all_kept P (lost_by core_meaning wrote) (hart_of shown) (next_of core shown state.bytes) core state.core there
    (lost_holds core_meaning P loses wrote) (steps core (holds_at P state.core (hart_of shown) core there all)) all)

-- what a hart keeps by its own steps, and by what it loses
row_keeps : (P : Core → Type 0) (state : SetState) (shown : Shown)
    → ((core : Core) (pa len : ℕ) → P core → P (core_after_loss core pa len))
    → ((core : Core) → P core → P (next_of core shown state.bytes)) → All P state.core
    → All P (set_after_row state shown).core
row_keeps P state shown loses steps all =
    kept_by P state shown (slice_get state.core (hart_of shown)) refl loses steps all

loss_keeps_sane : (core : Core) (pa len : ℕ) → IsSane core → IsSane (core_after_loss core pa len)
loss_keeps_sane core pa len sane = record {
  sound = stays_sound core pa len sane.sound;
  pc = sane.pc;
  registers = sane.registers;
  csrs = sane.csrs;
}

pub row_keeps_sane : (state : SetState) (shown : Shown) → IsSaneState state → ShowsWords shown
    → IsSaneState (set_after_row state shown)
row_keeps_sane state shown sane words = record {
  cores = row_keeps IsSane state shown loss_keeps_sane
      (λ core is. next_sane core shown state.bytes is words sane.bytes) sane.cores;
  bytes = written_bytes ((set_step_of state.core shown).run state.bytes).wrote state.bytes sane.bytes;
}

-- the choices of the implementation stay
pub row_keeps_no_marks : (state : SetState) (shown : Shown) → SetNoMarks state.core
    → SetNoMarks (set_after_row state shown).core
row_keeps_no_marks state shown faults =
    row_keeps (λ core. core.choices.marks ≡ Fault) state shown (λ core pa len is. is)
    (λ core is. ap (λ choices. choices.marks) (next_keeps core shown state.bytes) ∙ is) faults

-- ---- the guess after a row

in_range : (core : Core) → IsSane core → IsInRange core
in_range core sane = record { even = sane.sound.even; pc = sane.pc; registers = sane.registers }

same_states : (one other : SetState) → one.core ≡ other.core → one.bytes ≡ other.bytes → one ≡ other
same_states one other core bytes =
    ap (λ (c : List Core). record { core = c; bytes = one.bytes }) core
    ∙ ap (λ (b : Bytes). record { core = other.core; bytes = b }) bytes

-- where the row shows its hart truly, the guess is true of all: the others lose the same
truly_taken : (state : SetState) (shown : Shown) (core : Core) → IsShownTruly core shown state.bytes
    → taken_state state shown (Some core) ≡ stepped_state state shown (Some core)
truly_taken state shown core right =
    let bytes = state.bytes in
    let number = hart_of shown in
    let next = next_of core shown bytes in
    let shown_writes = writes_shown core shown in
    let wrote = ((step_of core shown).run bytes).wrote in
    let losses : lost_by core_meaning shown_writes ≡ lost_by core_meaning wrote =
    fun_ext (λ other. lost_truly core shown bytes other right) in
    let memory : after_writes shown_writes bytes ≡ after_writes wrote bytes =
    shown_left core shown bytes ∙ right.bytes_are bytes in
    let cores : gone_on (lost_by core_meaning shown_writes) number (core_shown core shown) state.core
    ≡ gone_on (lost_by core_meaning wrote) number next state.core =
    ap (λ lose. gone_on lose number (core_shown core shown) state.core) losses
    ∙ ap (λ k. gone_on (lost_by core_meaning wrote) number k state.core) right.core_is in
    taken_is state shown core
    ∙ same_states (gone_state state number (core_shown core shown) shown_writes) (gone_state state number next wrote)
    cores memory
    ∙ sym (stepped_is state shown core)

expected_is : (state : SetState) (shown : Shown) (core : Core)
    → ((stepped_by core_meaning state.core shown (hart_of shown) (Some core)).run state.bytes).value.expected
    ≡ ((step_of core shown).run state.bytes).value.expected
unfolding stepped_by concluded
expected_is state shown core = refl

hart_is_true : (state : SetState) (shown : Shown) (core : Core) → IsSane core → SetsNone core.choices
    → AreBytes state.bytes → ShowsChanges shown → ShowsWords shown
    → difference_of ((step_of core shown).run state.bytes).value.expected shown ≡ None
    → (if is_plain core shown then taken_state state shown (Some core) else stepped_state state shown (Some core))
    ≡ stepped_state state shown (Some core)
hart_is_true state shown core sane faults are shows words agrees = by (is_plain core shown) refl
  where
    by : (plain : Bool) → is_plain core shown ≡ plain
        → (if plain then taken_state state shown (Some core) else stepped_state state shown (Some core))
        ≡ stepped_state state shown (Some core)
    by false is = refl
    by true is =
        let ready : IsReady core shown state.bytes = record {
          are = are;
          faults = faults;
          in_range = in_range (next_of core shown state.bytes) (next_sane core shown state.bytes sane words are);
        } in
        truly_taken state shown core (plain_row_is_true core shown state.bytes is ready shows words agrees)

row_by : (state : SetState) (shown : Shown) (found : Option Core) → slice_get state.core (hart_of shown) ≡ found
    → IsSaneState state → SetNoMarks state.core → ShowsChanges shown → ShowsWords shown
    → difference_of ((stepped_by core_meaning state.core shown (hart_of shown) found).run state.bytes).value.expected
    shown ≡ None
    → (if is_plain_by core_meaning shown found then taken_state state shown found else stepped_state state shown found)
    ≡ stepped_state state shown found
row_by state shown None there sane faults shows words agrees = refl
row_by state shown (Some core) there sane faults shows words agrees =
    hart_is_true state shown core (holds_at IsSane state.core (hart_of shown) core there sane.cores)
    (holds_at (λ core. core.choices.marks ≡ Fault) state.core (hart_of shown) core there faults) sane.bytes shows words
    (sym (ap (λ e. difference_of e shown) (expected_is state shown core)) ∙ agrees)

pub row_is_true : (state : SetState) (shown : Shown) → IsSaneState state → SetNoMarks state.core
    → ShowsChanges shown → ShowsWords shown
    → difference_of ((set_step_of state.core shown).run state.bytes).value.expected shown ≡ None
    → guess_after_row state shown ≡ set_after_row state shown
unfolding guess_after_row
row_is_true state shown sane faults shows words agrees =
    row_by state shown (slice_get state.core (hart_of shown)) refl sane faults shows words agrees
