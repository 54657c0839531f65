-- What the rows of segments did, as it is kept on the way.
use Rattle.std.proofs.Common.{◌≡◌, ℕ, zero, suc, ◌+◌, ◌^◌, ◌<◌, ◌≤◌, Bool, true, List, [], ◌∷◌, ◌++◌, length, take, drop}
use Rattle.std.proofs.Common.{add-one, slice_get, Option, Some, None, refl, sym, ap, ◌∙◌, subst, arith, append_assoc, append-nil}
use Rattle.std.specs.List.{flat_map}
use Rattle.std.proofs.lemmas.List.{take-append-drop}
use Rattle.std.proofs.lemmas.List.Concat.{flat_map-append, flat_map-cons}
use Rattle.hart_words.specs.Memory.{Bytes}
use Rattle.rvfi_rows.specs.declared.segment.Segment.{Segment}
use Rattle.rvfi_rows.specs.declared.verdict.Verdict.{Verdict}
use Rattle.rvfi_rows.specs.declared.verdict.Verdict.TheVariants.{Agrees, Differs, Refused}
use Rattle.rvfi_rows.specs.Columns.{TraceColumns}
use Rattle.rvfi_rows.specs.Rows.{RowReading, rows_of}
use Rattle.rvfi_rows.specs.Segments.{segment_lines}
use Rattle.rvfi_rows.proofs.PortRows.{rows_append}
use Rattle.hart_step.specs.declared.state.Core.{Core}
use Rattle.hart_step.specs.HartSets.{SetState, set_state_of}
use Rattle.read_footprint.specs.Footprints.{footprint_of}
use Rattle.read_footprint.specs.Sets.{has_read}
use Rattle.read_footprint.proofs.Entries.{all_agree}
use Rattle.row_origin.specs.declared.history.History.{History}
use Rattle.row_origin.specs.Histories.{Grows, HistoryView, IsKept, KeptCountsFrom}
use Rattle.row_origin.proofs.Histories.{kept_counts}
use Rattle.segment_judge.specs.declared.judged.Judged.{Judged as JudgedSegment}
use Rattle.segment_judge.specs.Histories.{history_from}
use Rattle.segment_judge.specs.Judged.{IsJudgement}
use Rattle.segment_judge.specs.Judgements.{by_set}
use Rattle.segment_judge.specs.Laws.{conclusion_from, judgement_from}
use Rattle.segment_judge.proofs.Histories.{HasCount, SoFar, history_counted, history_framed}
use Rattle.segment_judge.proofs.Histories.{so_far_ends, so_far_on}
use Rattle.verdict_join.specs.declared.walk.Walk.{Walk}
use Rattle.verdict_join.specs.Walks.{CountsOn, IsWithinRows, PassesRows}
use Rattle.verdict_join.proofs.Passed.{conclusion_within}

-- ---- a history has no more rows than there are

few_by : (verdict : Verdict) (history : HistoryView) (count : ℕ) → HasCount verdict history
    → IsWithinRows count verdict → length history.before ≤ count
few_by (Agrees rows valid) history count is within = omega (arith, is.0, within.0)
few_by (Differs row difference) history count is within = omega (arith, is, within)
few_by (Refused row fault) history count is within = omega (arith, is, within)

pub history_few : (state : SetState) (rows : List RowReading) → length (history_from state rows).before ≤ length rows
unfolding conclusion_from
history_few state rows =
    few_by (judgement_from by_set state rows).verdict (history_from state rows) (length rows)
    (history_counted rows state) (conclusion_within state rows)

pub history_fits : (origin : Bool) (state : SetState) (rows : List RowReading) (history : Option History) (base : ℕ)
    → IsKept origin (history_from state rows) history → base + length rows < 2 ^ 62 → KeptCountsFrom base history
history_fits origin state rows history base kept fits =
    let few = history_few state rows in
    kept_counts origin (history_from state rows) history base kept (omega (arith, few, fits))

-- ---- from a guess that is met

pub kept_there : {M : Type 0} (bytes_of : M → Bytes) (guess now : SetState) (rows : List RowReading)
    (judged : JudgedSegment M) (origin : Bool) → guess.core ≡ now.core
    → ((address : ℕ) → has_read judged.footprint address ≡ true → now.bytes address ≡ guess.bytes address)
    → IsJudgement bytes_of guess rows judged → IsKept origin (history_from guess rows) judged.history
    → IsKept origin (history_from now rows) judged.history
kept_there bytes_of guess now rows judged origin same agree is kept =
    let agrees =
    all_agree guess.bytes now.bytes (footprint_of (judgement_from by_set guess rows).accesses)
    (λ address among. agree address (is.footprint.read address ∙ among)) in
    let framed = history_framed rows guess.core guess.bytes now.bytes agrees in
    subst (λ cores. IsKept origin (history_over cores) judged.history) same
    (subst (λ history. IsKept origin history judged.history) (sym framed) kept)
  where
    history_over : List Core → HistoryView
    history_over cores = history_from (record { core = cores; bytes = now.bytes }) rows

-- ---- segment by segment

-- a segment that agrees was passed
agreed_counts : {M : Type 0} (before now : Walk M) (verdict : Verdict) → CountsOn before now verdict None
    → (rows : ℕ) × ((valid : ℕ) × ((verdict ≡ Agrees rows valid) × (now.counts.rows ≡ before.counts.rows + rows)))
agreed_counts before now (Agrees rows valid) counts = (rows, (valid, (refl, counts.1.0)))
agreed_counts before now (Differs row difference) counts = cc
agreed_counts before now (Refused row fault) counts = cc

pub walk_goes_on : {M : Type 0} {bytes_of : M → Bytes} {origin : Bool} {start : SetState} {rows : List RowReading}
    (before now : Walk M) (mine : List RowReading)
    → SoFar origin start (set_state_of bytes_of before.harts) rows before.counts.rows before.history
    → PassesRows bytes_of before now mine None
    → Grows origin (history_from (set_state_of bytes_of before.harts) mine) before.counts.rows before.history now.history
    → SoFar origin start (set_state_of bytes_of now.harts) (rows ++ mine) now.counts.rows now.history
walk_goes_on {bytes_of = bytes_of} {origin = origin} {start = start} {rows = rows} before now mine so_far passes grows =
    let here = set_state_of bytes_of before.harts in
    let counted = agreed_counts before now (conclusion_from by_set here mine).verdict passes.counts in
    subst (λ count. SoFar origin start (set_state_of bytes_of now.harts) (rows ++ mine) count now.history)
    (sym counted.1.1.1)
    (so_far_on mine so_far grows counted.1.1.0 passes.leads)

-- ---- the rows of the first segments

abbrev pub rows_through : TraceColumns → List Segment → List RowReading
rows_through columns segments = rows_of columns (flat_map segment_lines segments)

rows_with : {segment : Segment} (columns : TraceColumns) (segments : List Segment) (number : ℕ)
    → slice_get segments number ≡ Some segment
    → rows_through columns (take (suc number) segments)
    ≡ rows_through columns (take number segments) ++ rows_of columns segment.lines
unfolding rows_of
rows_with columns [] number here = cc
rows_with {segment = segment} columns (first ∷ segments) zero here =
    let same : first ≡ segment = cc in
    ap (rows_of columns) (flat_map-cons segment_lines first [] ∙ append-nil first.lines)
    ∙ ap (λ (one : Segment). rows_of columns one.lines) same
rows_with {segment = segment} columns (first ∷ segments) (suc number) here =
    let mine = rows_of columns first.lines in
    ap (rows_of columns) (flat_map-cons segment_lines first (take (suc number) segments))
    ∙ rows_append columns first.lines (flat_map segment_lines (take (suc number) segments))
    ∙ ap (λ rest. mine ++ rest) (rows_with columns segments number here)
    ∙ sym (append_assoc mine (rows_through columns (take number segments)) (rows_of columns segment.lines))
    ∙ ap (λ rest. rest ++ rows_of columns segment.lines)
    (sym
    (ap (rows_of columns) (flat_map-cons segment_lines first (take number segments))
    ∙ rows_append columns first.lines (flat_map segment_lines (take number segments))))

pub rows_next : {segment : Segment} (columns : TraceColumns) (segments : List Segment) (number : ℕ)
    → slice_get segments number ≡ Some segment
    → rows_through columns (take (number + 1) segments)
    ≡ rows_through columns (take number segments) ++ rows_of columns segment.lines
rows_next columns segments number here =
    ap (λ count. rows_through columns (take count segments)) (add-one number) ∙ rows_with columns segments number here

pub rows_whole : (columns : TraceColumns) (segments : List Segment) (count : ℕ)
    → rows_through columns segments
    ≡ rows_through columns (take count segments) ++ rows_through columns (drop count segments)
rows_whole columns segments count =
    ap (rows_through columns) (sym (take-append-drop count segments))
    ∙ ap (rows_of columns) (flat_map-append segment_lines (take count segments) (drop count segments))
    ∙ rows_append columns (flat_map segment_lines (take count segments)) (flat_map segment_lines (drop count segments))

-- a segment more that agrees
pub walked_next : {M : Type 0} {bytes_of : M → Bytes} {origin : Bool} {start : SetState} {segment : Segment}
    (before now : Walk M) (columns : TraceColumns) (segments : List Segment) (number : ℕ)
    → slice_get segments number ≡ Some segment
    → SoFar origin start (set_state_of bytes_of before.harts) (rows_through columns (take number segments))
    before.counts.rows before.history
    → PassesRows bytes_of before now (rows_of columns segment.lines) None
    → Grows origin (history_from (set_state_of bytes_of before.harts) (rows_of columns segment.lines))
    before.counts.rows before.history now.history
    → SoFar origin start (set_state_of bytes_of now.harts) (rows_through columns (take (number + 1) segments))
    now.counts.rows now.history
walked_next {bytes_of = bytes_of} {origin = origin} {start = start} {segment = segment} before now columns segments
    number here so_far passes grows =
    subst (λ rows. SoFar origin start (set_state_of bytes_of now.harts) rows now.counts.rows now.history)
    (sym (rows_next columns segments number here))
    (walk_goes_on before now (rows_of columns segment.lines) so_far passes grows)

-- the last one, which does not
pub walked_last : {M : Type 0} {origin : Bool} {start : SetState} {segment : Segment}
    (bytes_of : M → Bytes) (before now : Walk M) (columns : TraceColumns) (segments : List Segment) (number : ℕ)
    → slice_get segments number ≡ Some segment
    → SoFar origin start (set_state_of bytes_of before.harts) (rows_through columns (take number segments))
    before.counts.rows before.history
    → Grows origin (history_from (set_state_of bytes_of before.harts) (rows_of columns segment.lines))
    before.counts.rows before.history now.history
    → IsKept origin (history_from start (rows_through columns (take (number + 1) segments))) now.history
walked_last {origin = origin} {start = start} {segment = segment} bytes_of before now columns segments number here so_far grows =
    subst (λ rows. IsKept origin (history_from start rows) now.history)
    (sym (rows_next columns segments number here))
    (so_far_ends now.history (rows_of columns segment.lines) so_far grows)
