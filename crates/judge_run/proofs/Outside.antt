-- What rows keep of a state: among other things, memory outside RAM stays 0.
use Rattle.std.proofs.Common.{◌≡◌, ℕ, Bool, true, false, List, [], ◌∷◌, Option, Some, None, IfSome, Ok, Err, refl, sym, ap}
use Rattle.std.proofs.Common.{◌∙◌, subst, arith, drop, ◌-◌, ◌/◌, ◌%◌, ◌^◌, if◌then◌else◌, All, length}
use Rattle.std.proofs.lemmas.Bool.Decides.{nat_tests}
use Rattle.std.specs.List.{slice_get}
use Rattle.std.proofs.lemmas.List.Elements.{All-head, All-tail}
use Rattle.std.proofs.lemmas.Option.{slice_get_within}
use Rattle.hart_words.specs.declared.accesses.Write.{Write}
use Rattle.hart_words.specs.declared.choices.Choices.{Choices}
use Rattle.hart_words.specs.declared.map.Map.{Map}
use Rattle.hart_words.specs.declared.signal.Difference.{Difference}
use Rattle.hart_words.specs.declared.span.Span.{Span}
use Rattle.hart_words.specs.Memory.{Bytes, after_writes, bytes_after_store, is_within}
use Rattle.hart_words.specs.Actions.{mapped}
use Rattle.hart_words.specs.Signals.{Shown}
use Rattle.hart_words.specs.Spans.{holds_all, is_in}
use Rattle.hart_step.specs.declared.state.Core.{Core}
use Rattle.hart_set.specs.Laws.{set_run}
use Rattle.hart_set.specs.Sets.{concluded, stepped_by}
use Rattle.hart_set.proofs.Places.{all_kept, as_many}
use Rattle.hart_set.proofs.SetLaws.{absent_idle}
use Rattle.hart_set.proofs.Steps.{has_of, lost_holds}
use Rattle.hart_step.specs.HartSets.{SetState, set_after_row, set_step_of}
use Rattle.hart_step.specs.Laws.{next_of}
use Rattle.hart_step.specs.Meanings.{core_after_loss, core_meaning}
use Rattle.hart_step.specs.Steps.{step_of}
use Rattle.rvfi_rows.specs.declared.verdict.Verdict.{Verdict}
use Rattle.rvfi_rows.specs.declared.verdict.Verdict.TheVariants.{Agrees, Differs, Refused}
use Rattle.rvfi_rows.specs.Columns.{TraceColumns}
use Rattle.rvfi_rows.specs.Meanings.{lost_by}
use Rattle.rvfi_rows.specs.Rows.{RowReading, hart_of, rows_of}
use Rattle.segment_judge.specs.Judgements.{by_set, judgement_of}
use Rattle.segment_judge.specs.Laws.{Conclusion, conclusion_from}
use Rattle.hart_step.proofs.KeptChoices.{next_keeps}
use Rattle.hart_step.proofs.KeptProfile.{profile_stays}
use Rattle.segment_judge.proofs.Maps.{map_stays}
use Rattle.segment_judge.proofs.Parts.{by_different, by_invalid, by_valid}
use Rattle.segment_judge.specs.Ram.{HaveRam}
use Rattle.segment_judge.proofs.SetSteps.{row_keeps_ram, row_lies}
use Rattle.segment_judge.proofs.Within.{WriteLies}
use Rattle.csr_file.specs.declared.profile.CsrProfile.{CsrProfile}
use Rattle.state_text.specs.Laws.{IsOver, IsZeroOutside}
use Rattle.judge_run.specs.Starts.{HaveSettings}
use Rattle.judge_words.specs.Job.{JobView}
use Rattle.judge_words.specs.declared.job.Command.{Command}
use Rattle.judge_words.specs.declared.job.Command.TheVariants.{Judge, Make}
use Rattle.judge_words.specs.declared.job.Product.TheVariants.{Line, State, Origins}
use Rattle.trace_lines.specs.Lines.{RemainingLines, file_lines}
use Rattle.trace_report.specs.declared.outcome.Ruling.{Ruling}
use Rattle.trace_report.specs.declared.outcome.Ruling.TheVariants as rulings
use Rattle.judge_run.specs.Answer.{AnswerView, Step, columns_in, lines_answer, rows_end, state_written, trace_answer}

-- a fact of a hart that its steps keep, and its losses
pub record IsKeptByHarts (P : Core → Type 0) : Type 0 where
  pub stepped : (core : Core) (shown : Shown) (bytes : Bytes) → P core → P (next_of core shown bytes)
  pub lost : (core : Core) (pa len : ℕ) → P core → P (core_after_loss core pa len)

-- harts over this RAM, and memory that is 0 outside it
abbrev pub IsOverRam : Span → SetState → Type 0
IsOverRam ram state = HaveRam ram state.core × IsZeroOutside ram state.bytes

-- what each hart's step keeps, and its loss by another hart's, a row keeps of all harts
kept_there : (P : Core → Type 0) (cores : List Core) (shown : Shown) (number : ℕ) (bytes : Bytes) (core : Core)
    → IsKeptByHarts P → slice_get cores number ≡ Some core → All P cores
    → All P ((stepped_by core_meaning cores shown number (Some core)).run bytes).value.next
unfolding stepped_by concluded
kept_there P cores shown number bytes core keeps there all =
    let done = (step_of core shown).run bytes in
    let here : P core = has_of P number core cores there (slice_get_within cores number core there) all in
    all_kept P (lost_by core_meaning done.wrote) number done.value.next core cores there
    (λ c holds. lost_holds core_meaning P keeps.lost done.wrote c holds) (keeps.stepped core shown bytes here) all

pub harts_keep : (P : Core → Type 0) (state : SetState) (shown : Shown) → IsKeptByHarts P → All P state.core
    → All P (set_after_row state shown).core
harts_keep P state shown keeps all = by (slice_get cores number) refl
  where
    cores : List Core
    cores = state.core

    number : ℕ
    number = hart_of shown

    by : (found : Option Core) → slice_get cores number ≡ found
        → All P (set_run core_meaning cores shown number state.bytes).value.next
    by None there =
        subst (All P)
        (sym (ap (λ done. done.value.next) (absent_idle core_meaning cores shown number state.bytes there))) all
    by (Some core) there =
        subst (λ found. All P ((stepped_by core_meaning cores shown number found).run state.bytes).value.next)
        (sym there) (kept_there P cores shown number state.bytes core keeps there all)

-- a store to RAM leaves what is outside
stored_inside : (ram : Span) (pa len value : ℕ) (bytes : Bytes) → holds_all ram pa len ≡ true
    → IsZeroOutside ram bytes → IsZeroOutside ram (bytes_after_store pa len value bytes)
unfolding bytes_after_store
stored_inside ram pa len value bytes lies zero a out = by (is_within pa len a) refl
  where
    by : (within : Bool) → is_within pa len a ≡ within
        → (if within then value / 256 ^ (a - pa) % 256 else bytes a) ≡ 0
    by false is = zero a out
    by true is =
        let inside : is_in ram a ≡ true = grind (arith, nat_tests, lies, is) in
        let never : true ≡ false = sym inside ∙ out in absurd cc

written_inside : (ram : Span) (writes : List Write) (bytes : Bytes) → All (WriteLies ram) writes
    → IsZeroOutside ram bytes → IsZeroOutside ram (after_writes writes bytes)
unfolding after_writes
written_inside ram [] bytes lie zero = zero
written_inside ram (write ∷ writes) bytes lie zero =
    written_inside ram writes (bytes_after_store write.pa write.len write.value bytes)
    (All-tail (WriteLies ram) write writes lie)
    (stored_inside ram write.pa write.len write.value bytes (All-head (WriteLies ram) write writes lie) zero)

pub row_leaves : (ram : Span) (state : SetState) (shown : Shown) → IsOverRam ram state
    → IsOverRam ram (set_after_row state shown)
row_leaves ram state shown over =
    let lies = row_lies ram state.core shown state.bytes over.0 in (
      row_keeps_ram ram state.core shown state.bytes over.0,
      written_inside ram ((set_step_of state.core shown).run state.bytes).wrote state.bytes lies.writes over.1,
    )

-- a row keeps the profiles, the maps and the choices, and how many harts there are
pub record HasSettings (profile : CsrProfile) (map : Map) (choices : Choices) (harts : ℕ) (state : SetState) : Type 0 where
  pub settings : HaveSettings profile map choices state.core
  pub many : length state.core ≡ harts

many_there : (cores : List Core) (shown : Shown) (number : ℕ) (bytes : Bytes) (core : Core)
    → slice_get cores number ≡ Some core
    → length ((stepped_by core_meaning cores shown number (Some core)).run bytes).value.next ≡ length cores
unfolding stepped_by concluded
many_there cores shown number bytes core there =
    let done = (step_of core shown).run bytes in
    as_many (lost_by core_meaning done.wrote) number done.value.next core cores there

pub row_keeps_many : (state : SetState) (shown : Shown) → length (set_after_row state shown).core ≡ length state.core
row_keeps_many state shown = by (slice_get cores number) refl
  where
    cores : List Core
    cores = state.core

    number : ℕ
    number = hart_of shown

    by : (found : Option Core) → slice_get cores number ≡ found
        → length (set_run core_meaning cores shown number state.bytes).value.next ≡ length cores
    by None there = ap (λ done. length done.value.next) (absent_idle core_meaning cores shown number state.bytes there)
    by (Some core) there =
        subst
        (λ found. length ((stepped_by core_meaning cores shown number found).run state.bytes).value.next ≡ length cores)
        (sym there) (many_there cores shown number state.bytes core there)

pub row_keeps : (profile : CsrProfile) (map : Map) (choices : Choices) (harts : ℕ) (state : SetState) (shown : Shown)
    → HasSettings profile map choices harts state → HasSettings profile map choices harts (set_after_row state shown)
row_keeps profile map choices harts state shown has = record {
  settings =
      harts_keep (IsOver profile map choices) state shown
      (record {
        stepped = λ core shown bytes has. record {
          profile_is = profile_stays core shown bytes ∙ has.profile_is;
          map_is = map_stays core shown bytes ∙ has.map_is;
          choices_are = next_keeps core shown bytes ∙ has.choices_are;
        };
        lost = λ core pa len has. record {
          profile_is = has.profile_is;
          map_is = has.map_is;
          choices_are = has.choices_are;
        };
      }) has.settings;
  many = row_keeps_many state shown ∙ has.many;
}

-- ---- what each row keeps, all rows do

abbrev pub IsKeptByRows : (SetState → Type 0) → Type 0
IsKeptByRows P = (state : SetState) (shown : Shown) → P state → P (set_after_row state shown)

valid_keeps : (P : SetState → Type 0) (rows : List RowReading) (state : SetState) (shown : Shown)
    → IfSome (conclusion_from by_set (set_after_row state shown) rows).end P → (difference : Option Difference)
    → ((by_set state.core shown).run state.bytes).value.difference ≡ difference
    → IfSome (conclusion_from by_set state (Ok (Some shown) ∷ rows)).end P
unfolding by_set mapped
valid_keeps P rows state shown later (Some difference) is =
    subst (λ (judged : Conclusion (List Core)). IfSome judged.end P)
    (sym (by_different by_set state shown rows difference is)) tt
valid_keeps P rows state shown later None is =
    subst (λ (judged : Conclusion (List Core)). IfSome judged.end P) (sym (by_valid by_set state shown rows is)) later

pub rows_keep : (P : SetState → Type 0) → IsKeptByRows P → (rows : List RowReading) (state : SetState) → P state
    → IfSome (conclusion_from by_set state rows).end P
unfolding conclusion_from judgement_of after_writes
rows_keep P kept [] state holds = holds
rows_keep P kept (Err fault ∷ rows) state holds = tt
rows_keep P kept (Ok None ∷ rows) state holds =
    subst (λ (judged : Conclusion (List Core)). IfSome judged.end P) (sym (by_invalid by_set state rows))
    (rows_keep P kept rows state holds)
rows_keep P kept (Ok (Some shown) ∷ rows) state holds =
    valid_keeps P rows state shown (rows_keep P kept rows (set_after_row state shown) (kept state shown holds))
    ((by_set state.core shown).run state.bytes).value.difference refl

-- the state that is written is the last one, or there is none
written_keeps : (P : SetState → Type 0) (command : Command (List ℕ)) (ruling : Ruling) (state : Option SetState)
    → IfSome state P → IfSome (state_written command ruling state) P
written_keeps P (Judge image trace State) (rulings.Verdict (Agrees rows valid)) state holds = holds
written_keeps P (Judge image trace State) (rulings.Verdict (Differs row difference)) state holds = tt
written_keeps P (Judge image trace State) (rulings.Verdict (Refused row fault)) state holds = tt
written_keeps P (Judge image trace State) rulings.NoJob state holds = tt
written_keeps P (Judge image trace State) (rulings.ImageTooLarge most) state holds = tt
written_keeps P (Judge image trace State) (rulings.ImageFault fault) state holds = tt
written_keeps P (Judge image trace State) (rulings.ElfFault fault) state holds = tt
written_keeps P (Judge image trace State) (rulings.StateFault fault) state holds = tt
written_keeps P (Judge image trace State) rulings.NoHeader state holds = tt
written_keeps P (Judge image trace State) (rulings.HeaderFault fault) state holds = tt
written_keeps P (Judge image trace State) (rulings.TooLong line) state holds = tt
written_keeps P (Judge image trace State) (rulings.TraceTooLarge most) state holds = tt
written_keeps P (Judge image trace Line) ruling state holds = tt
written_keeps P (Judge image trace Origins) ruling state holds = tt
written_keeps P (Make number rows) ruling state holds = tt

lines_keep : (P : SetState → Type 0) (job : JobView) (start : SetState) (left : RemainingLines)
    (given : AnswerView) → IsKeptByRows P → P start → lines_answer job start left ≡ Ok given → IfSome given.state P
unfolding lines_answer
lines_keep P job start left given kept holds is = by (columns_in job left) refl
  where
    by : (named : Step TraceColumns) → columns_in job left ≡ named → IfSome given.state P
    by (Err stop) named = let never = rw named at is in cc
    by (Ok columns) named =
        let judged = conclusion_from by_set start (rows_of columns (drop 1 left.lines)) in
        let end = rows_end job left.ending judged in
        let same : given.state ≡ state_written job.command end.ruling end.state =
        (let whole = rw named at is in cc) in
        subst (λ state. IfSome state P) (sym same)
        (written_keeps P job.command end.ruling end.state
        (rows_keep P kept (rows_of columns (drop 1 left.lines)) start holds))

-- so it holds of the state that the answer to a trace has
pub trace_keeps : (P : SetState → Type 0) (job : JobView) (start : SetState) (trace : Option (List ℕ))
    (given : AnswerView) → IsKeptByRows P → P start → trace_answer job start trace ≡ Ok given → IfSome given.state P
unfolding trace_answer
trace_keeps P job start None given kept holds is = cc
trace_keeps P job start (Some text) given kept holds is =
    lines_keep P job start (file_lines job.max_trace text) given kept holds is
