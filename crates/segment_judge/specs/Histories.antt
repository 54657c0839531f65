-- What the steps of a trace's rows did, and what a judgement tells of them.
use Rattle.std.specs.Prelude.{◌≡◌, ℕ, pred, true, List, [], ◌∷◌, ◌++◌, take, Option, Some, None, Ok, Err, unwrap_or}
use Rattle.std.specs.List.{slice_get}
use Rattle.hart_words.specs.declared.signal.Difference.{Difference}
use Rattle.hart_words.specs.Memory.{Bytes}
use Rattle.hart_words.specs.Signals.{Shown}
use Rattle.rvfi_rows.specs.declared.verdict.Verdict.{Verdict}
use Rattle.rvfi_rows.specs.declared.verdict.Verdict.TheVariants.{Agrees, Differs, Refused}
use Rattle.rvfi_rows.specs.Rows.{RowReading, hart_of}
use Rattle.hart_step.specs.declared.state.Core.{Core}
use Rattle.hart_step.specs.HartSets.{SetState, set_after_row, set_step_of}
use Rattle.row_compare.specs.Difference.{difference_of}
use Rattle.read_footprint.specs.Footprints.{agree, footprint_of}
use Rattle.row_origin.specs.Histories.{HistoryView, history_after, history_of}
use Rattle.row_origin.specs.Trails.{RowFacts, Trail}
use Rattle.segment_judge.specs.Judgements.{by_set, judgement_of}
use Rattle.segment_judge.specs.Laws.{end_from, judgement_from}

-- what the step by a valid row does
abbrev pub facts_at : SetState → Shown → RowFacts
facts_at state shown =
    let run = (set_step_of state.core shown).run state.bytes in
    record { hart = hart_of shown; expected = run.value.expected; reads = run.reads; wrote = run.wrote }

-- what each row does, from the state after the one before it, whatever the rows show
unfoldable pub trail_from : SetState → List RowReading → Trail
trail_from state [] = []
trail_from state (Err fault ∷ rows) = None ∷ trail_from state rows
trail_from state (Ok None ∷ rows) = None ∷ trail_from state rows
trail_from state (Ok (Some shown) ∷ rows) =
    Some (facts_at state shown) ∷ trail_from (set_after_row state shown) rows

-- what the row of a number from 1 did, where it is there and valid
abbrev pub row_facts : Trail → ℕ → Option RowFacts
row_facts trail row = unwrap_or (slice_get trail (pred row)) None

-- what rows did up to the verdict on them: all where they agree, else those before the row that ends it, and that
-- row, where it differs
abbrev pub history_at : Trail → Verdict → HistoryView
history_at trail (Agrees rows valid) = history_of (take rows trail)
history_at trail (Differs row difference) =
    record { before = take (pred row) trail; differing = row_facts trail row }
history_at trail (Refused row fault) = history_of (take (pred row) trail)

-- ---- the same, row by row

abbrev pub history_after_row : Option RowFacts → HistoryView → HistoryView
history_after_row facts later = history_after (facts ∷ []) later

abbrev pub history_by : Option Difference → RowFacts → HistoryView → HistoryView
history_by None facts later = history_after_row (Some facts) later
history_by (Some difference) facts later = record { before = []; differing = Some facts }

unfoldable pub history_from : SetState → List RowReading → HistoryView
history_from state [] = history_of []
history_from state (Err fault ∷ rows) = history_of []
history_from state (Ok None ∷ rows) = history_after_row None (history_from state rows)
history_from state (Ok (Some shown) ∷ rows) =
    let facts = facts_at state shown in
    history_by (difference_of facts.expected shown) facts (history_from (set_after_row state shown) rows)

-- it is what the trail and the verdict tell
abbrev pub HistoryIsTold : SetState → List RowReading → Type 0
HistoryIsTold state rows =
    history_from state rows ≡ history_at (trail_from state rows) (judgement_from by_set state rows).verdict

-- rows, and those after them, from the state after rows that agree
abbrev pub history_then : HistoryView → Option SetState → (SetState → HistoryView) → HistoryView
history_then first None next = first
history_then first (Some state) next = history_after first.before (next state)

abbrev pub HistoryInParts : SetState → List RowReading → List RowReading → Type 0
HistoryInParts state rows others =
    history_from state (rows ++ others)
    ≡ history_then (history_from state rows) (end_from by_set state rows) (λ now. history_from now others)

-- from a memory that agrees on what a judgement read before it wrote it, the same rows do the same
abbrev pub HistoryIsFramed : List Core → List RowReading → Bytes → Bytes → Type 0
HistoryIsFramed cores rows one other =
    agree one other (footprint_of (judgement_of by_set cores rows one).accesses) ≡ true
    → history_from (record { core = cores; bytes = other }) rows
    ≡ history_from (record { core = cores; bytes = one }) rows
