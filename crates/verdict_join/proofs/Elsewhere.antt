-- A judgement over equal RAM may be used.
use Rattle.std.proofs.Common.{◌≡◌, ℕ, ◌<◌, List, [], ◌∷◌, length, Option, Some, None, option_map, IfSome, Ok, Err, refl}
use Rattle.std.proofs.Common.{sym, ap, ◌∙◌, subst}
use Rattle.std.specs.List.{slice_get}
use Rattle.hart_words.specs.declared.span.Span.{Span}
use Rattle.hart_words.specs.Memory.{Bytes}
use Rattle.hart_words.specs.Signals.{Shown}
use Rattle.rvfi_rows.specs.Columns.{TraceColumns}
use Rattle.rvfi_rows.specs.Meanings.{lost_by}
use Rattle.rvfi_rows.specs.Rows.{RowReading, hart_of, rows_of}
use Rattle.hart_set.specs.declared.set.HartSet.{HartSet}
use Rattle.hart_set.specs.Calls.{CanStep}
use Rattle.hart_set.specs.Laws.{set_run}
use Rattle.hart_set.specs.Sets.{concluded, stepped_by}
use Rattle.hart_set.proofs.Places.{as_many}
use Rattle.hart_set.proofs.SetLaws.{absent_idle}
use Rattle.hart_step.specs.declared.state.Core.{Core}
use Rattle.hart_step.specs.Cores.{IsSound}
use Rattle.hart_step.specs.HartSets.{SetCanStep, SetHoldsWords, SetState, set_after_row, set_state_of}
use Rattle.hart_step.specs.Meanings.{core_meaning}
use Rattle.hart_step.specs.Steps.{step_of}
use Rattle.boundary_guess.specs.Truth.{true_state_after}
use Rattle.boundary_guess.proofs.TrueGuesses.{rows_stay}
use Rattle.segment_judge.specs.declared.judged.Judged.{Judged}
use Rattle.segment_judge.specs.Judgements.{by_set}
use Rattle.segment_judge.specs.Laws.{conclusion_from, end_from}
use Rattle.segment_judge.specs.Ram.{HaveRam}
use Rattle.segment_judge.proofs.RamAlone.{lies_in_ram}
use Rattle.segment_judge.proofs.SetSteps.{row_keeps_ram}
use Rattle.verdict_join.specs.Elsewhere.{IsUsableOverEqualRam}
use Rattle.verdict_join.proofs.Guessed.{ends_truly}

-- ---- as many harts

as_many_there : (cores : List Core) (shown : Shown) (number : ℕ) (bytes : Bytes) (core : Core)
    → slice_get cores number ≡ Some core
    → length ((stepped_by core_meaning cores shown number (Some core)).run bytes).value.next ≡ length cores
unfolding stepped_by concluded
as_many_there cores shown number bytes core there =
    let done = (step_of core shown).run bytes in
    as_many (lost_by core_meaning done.wrote) number done.value.next core cores there

as_many_after : (cores : List Core) (shown : Shown) (number : ℕ) (bytes : Bytes)
    → length (set_run core_meaning cores shown number bytes).value.next ≡ length cores
as_many_after cores shown number bytes = by (slice_get cores number) refl
  where
    by : (found : Option Core) → slice_get cores number ≡ found
        → length (set_run core_meaning cores shown number bytes).value.next ≡ length cores
    by None there = ap (λ done. length done.value.next) (absent_idle core_meaning cores shown number bytes there)
    by (Some core) there =
        subst
        (λ found. length ((stepped_by core_meaning cores shown number found).run bytes).value.next ≡ length cores)
        (sym there) (as_many_there cores shown number bytes core there)

harts_stay : (rows : List RowReading) (state : SetState)
    → length (true_state_after state rows).core ≡ length state.core
unfolding true_state_after
harts_stay [] state = refl
harts_stay (Err fault ∷ rows) state = refl
harts_stay (Ok None ∷ rows) state = harts_stay rows state
harts_stay (Ok (Some shown) ∷ rows) state =
    harts_stay rows (set_after_row state shown) ∙ as_many_after state.core shown (hart_of shown) state.bytes

-- ---- the RAM of their maps

ram_stays : (ram : Span) (rows : List RowReading) (state : SetState) → HaveRam ram state.core
    → HaveRam ram (true_state_after state rows).core
unfolding true_state_after
ram_stays ram [] state have = have
ram_stays ram (Err fault ∷ rows) state have = have
ram_stays ram (Ok None ∷ rows) state have = ram_stays ram rows state have
ram_stays ram (Ok (Some shown) ∷ rows) state have =
    ram_stays ram rows (set_after_row state shown) (row_keeps_ram ram state.core shown state.bytes have)

-- ---- the harts after rows

-- they are in the true state
end_is : (start following : SetState) (rows : List RowReading) → Some following ≡ end_from by_set start rows
    → following ≡ true_state_after start rows
unfolding conclusion_from
end_is start following rows is = (ends_truly rows start following (sym is)).true_state

-- and can be stepped on
can_step_after : (ram : Span) (start : SetState) (columns : TraceColumns) (lines : List (List ℕ))
    → CanStep core_meaning IsSound ram start.core → SetHoldsWords start
    → CanStep core_meaning IsSound ram (true_state_after start (rows_of columns lines)).core
can_step_after ram start columns lines can words =
    let rows = rows_of columns lines in
    record {
      some = subst (λ count. 0 < count) (sym (harts_stay rows start)) can.some;
      sound = (rows_stay start columns lines can.sound words).sound;
      maps = ram_stays ram rows start can.maps;
    }

pub usable_over_equal_ram : {M : Type 0} (bytes_of : M → Bytes) (ram_of : M → Span) (start : SetState) (ram : Span)
    (columns : TraceColumns) (lines : List (List ℕ)) (judged : Judged M)
    → IsUsableOverEqualRam bytes_of ram_of ram start columns lines judged
usable_over_equal_ram {M = M} bytes_of ram_of start ram columns lines judged can words is same = record {
  end = steps_on judged.end is.end same;
  same = same;
  within = lies_in_ram bytes_of ram start rows judged can.maps is;
}
  where
    rows : List RowReading
    rows = rows_of columns lines

    steps_on : (end : Option (HartSet Core M)) → option_map (set_state_of bytes_of) end ≡ end_from by_set start rows
        → IfSome end (λ set. ram_of set.mem ≡ ram) → IfSome end (SetCanStep ram_of)
    steps_on None is same = tt
    steps_on (Some set) is same =
        let after = end_is start (set_state_of bytes_of set) rows is in
        let can_go : CanStep core_meaning IsSound ram set.cores.items =
        subst (λ (state : SetState). CanStep core_meaning IsSound ram state.core) (sym after)
        (can_step_after ram start columns lines can words) in
        subst (λ span. CanStep core_meaning IsSound span set.cores.items) (sym same) can_go
