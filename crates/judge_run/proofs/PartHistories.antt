-- What the rows of a trace did, as it is handed on from part to part.
use Rattle.std.proofs.Common.{◌≡◌, ℕ, ◌+◌, Bool, List, [], ◌++◌, length, Option, Some, None, option_map}
use Rattle.std.proofs.Common.{refl, sym, ap, ap₂, ◌∙◌, subst, arith, append_assoc, append-nil, string_bytes}
use Rattle.std.specs.List.{flat_map}
use Rattle.std.proofs.lemmas.List.{length-append}
use Rattle.hart_words.specs.declared.span.Span.{Span}
use Rattle.hart_words.specs.Memory.{Bytes}
use Rattle.outside_ports.specs.Ports.{Files, file_of}
use Rattle.rvfi_rows.specs.declared.columns.Columns.{Columns}
use Rattle.rvfi_rows.specs.declared.verdict.Verdict.{Verdict}
use Rattle.rvfi_rows.specs.declared.verdict.Verdict.TheVariants.{Agrees, Differs, Refused}
use Rattle.rvfi_rows.specs.Columns.{TraceColumns}
use Rattle.rvfi_rows.specs.Rows.{RowReading, rows_of}
use Rattle.rvfi_rows.specs.Segments.{segment_lines}
use Rattle.rvfi_rows.proofs.PortRows.{rows_append}
use Rattle.hart_set.specs.declared.set.HartSet.{HartSet}
use Rattle.hart_step.specs.declared.state.Core.{Core}
use Rattle.hart_step.specs.HartSets.{SetState, set_state_of}
use Rattle.row_origin.specs.Histories.{Grows, HistoryView, IsKept, history_after, history_of}
use Rattle.row_origin.specs.Trails.{Trail}
use Rattle.segment_judge.specs.Histories.{history_from, history_then}
use Rattle.segment_judge.specs.Judgements.{by_set}
use Rattle.segment_judge.specs.Laws.{conclusion_from, end_from, judgement_from}
use Rattle.segment_judge.proofs.Histories.{HasCount, history_counted, history_in_parts}
use Rattle.trace_lines.specs.declared.piece.Ending.{Ending}
use Rattle.trace_lines.specs.declared.piece.Ending.TheVariants as endings
use Rattle.trace_lines.specs.Lines.{RemainingLines}
use Rattle.trace_lines.specs.Takers.{remaining_lines_of}
use Rattle.verdict_join.proofs.Passed.{EndsWhereAgrees, conclusion_ends}
use Rattle.judge_run.specs.declared.parts.Settled.{Settled}
use Rattle.judge_words.specs.Job.{JobView}
use Rattle.judge_run.specs.declared.progress.Lookahead.{Lookahead}
use Rattle.judge_run.specs.declared.progress.Passed.{Passed}
use Rattle.judge_run.specs.declared.progress.Passed.TheVariants.{Continue, Ends}
use Rattle.judge_run.specs.declared.progress.Progress.{Progress}
use Rattle.judge_run.specs.declared.progress.Remaining.{Remaining}
use Rattle.judge_run.specs.declared.progress.TraceEnd.{TraceEnd}
use Rattle.judge_run.specs.PartHistories.{HandsOn, IsHistoryTold, PassesHistory, PassesHistoryIn, history_in, history_with}
use Rattle.judge_run.specs.PartHistories.{part_history}
use Rattle.judge_run.specs.Parts.{FollowsPart, FollowsPartBy, HoldsNone, IsOver, IsPartCounted, LeadsFromWhereKnown}
use Rattle.judge_run.specs.Parts.{remaining_rows}
use Rattle.judge_run.specs.Taking.{more_turns, remaining_after, with_lines_before}
use Rattle.judge_run.proofs.AnyEvents.{same_lines}
use Rattle.judge_run.proofs.Passing.{LeadsInFile, PartIsDone, no_lines_ahead, none_where_it_differs, none_where_refused}
use Rattle.judge_run.proofs.Passing.{remaining_moves}

-- what was kept before the first rows, and what these do, come to the whole
pub record BeginsHistory {M : Type 0} (origin : Bool) (columns : TraceColumns) (bytes_of : M → Bytes) (file : List ℕ)
    (whole : HistoryView) (first : Progress M) : Type 0 where
  pub trail : Trail
  pub kept : IsKept origin (history_of trail) first.history
  pub counted : first.counts.rows ≡ length trail
  pub told : history_after trail (history_in columns bytes_of file first) ≡ whole

-- where nothing is left, what was kept is all
over_told : (trail : Trail) (state : SetState) (rows : List RowReading) → rows ≡ []
    → history_after trail (history_from state rows) ≡ history_of trail
unfolding history_from
over_told trail state rows none =
    ap (λ rows. history_after trail (history_from state rows)) none
    ∙ ap (λ before. history_of before) (append-nil trail)

ended_lines : (ending : Ending) (left : RemainingLines) → more_turns ending ≡ 0
    → (remaining_after ending left).lines ≡ []
ended_lines endings.More left none = absurd (omega (arith, none))
ended_lines endings.End left none = refl
ended_lines (endings.TooLong line) left none = refl
ended_lines endings.TooLarge left none = refl

pub no_rows_left : {M : Type 0} (file : List ℕ) (remaining : Remaining M) → IsOver remaining.lookahead
    → (remaining_rows file remaining.lookahead remaining.progress.taker).lines ≡ []
no_rows_left file remaining over =
    let ahead = remaining.lookahead in
    let left = remaining_lines_of file remaining.progress.taker in
    ap₂ (λ one other. one ++ other) (no_lines_ahead ahead over.part over.next) (ended_lines ahead.ending left over.ending)

pub over_hands_on : {M : Type 0} (bytes_of : M → Bytes) (origin : Bool) (columns : TraceColumns)
    (file : Option (List ℕ)) (remaining : Remaining M) (end : TraceEnd M) → end.history ≡ remaining.progress.history
    → ((file : List ℕ) → (remaining_rows file remaining.lookahead remaining.progress.taker).lines ≡ [])
    → PassesHistory origin columns bytes_of file remaining (Ends end)
unfolding rows_of
over_hands_on bytes_of origin columns None remaining end same none = tt
over_hands_on bytes_of origin columns (Some file) remaining end same none =
    λ whole before.
    let now = set_state_of bytes_of remaining.progress.harts in
    let told = over_told before.trail now
    (rows_of columns (remaining_rows file remaining.lookahead remaining.progress.taker).lines)
    (ap (rows_of columns) (none file)) in
    subst (λ history. IsKept origin whole history) (sym same)
    (subst (λ view. IsKept origin view remaining.progress.history) (sym told ∙ before.told) before.kept)

-- as many rows as are counted, and none that differs
counted_agreed : {rows valid : ℕ} (verdict : Verdict) (history : HistoryView) → HasCount verdict history
    → verdict ≡ Agrees rows valid → (length history.before ≡ rows) × (history.differing ≡ None)
counted_agreed verdict history is agrees = subst (λ verdict. HasCount verdict history) agrees is

pub part_hands_on : {M : Type 0} {bytes_of : M → Bytes} {ram_of : M → Span} {columns : Columns} {window : ℕ}
    (origin : Bool) (file : Option (List ℕ)) (remaining : Remaining M) (done : Settled M) (passed : Passed M)
    → PartIsDone bytes_of ram_of columns window file remaining done
    → Grows origin (part_history bytes_of columns remaining.lookahead.part.items remaining.progress.harts)
    remaining.progress.counts.rows remaining.progress.history done.joined.history
    → FollowsPart remaining.progress.counts done passed
    → PassesHistory origin columns bytes_of file remaining passed
unfolding conclusion_from
part_hands_on origin None remaining done passed is grows follows = tt
part_hands_on {M} {bytes_of} {ram_of} {columns} {window} origin (Some file) remaining done passed is grows follows =
    by done.joined.verdict done.joined.end passed (sym is.settled.verdict) (sym is.settled.end) follows
  where
    now : SetState
    now = set_state_of bytes_of remaining.progress.harts

    first : List (List ℕ)
    first = flat_map segment_lines remaining.lookahead.part.items

    mine : List RowReading
    mine = rows_of columns first

    after : RemainingLines
    after = remaining_rows file done.lookahead done.taker

    fits : EndsWhereAgrees (conclusion_from by_set now mine).verdict (conclusion_from by_set now mine).end
    fits = conclusion_ends by_set now mine

    -- what is left does, in two parts
    in_two : history_with columns bytes_of file remaining
        ≡ history_then (history_from now mine) (end_from by_set now mine)
        (λ state. history_from state (rows_of columns after.lines))
    in_two =
        ap (λ (left : RemainingLines). history_from now (rows_of columns left.lines))
        (sym
        (remaining_moves file remaining.lookahead done.lookahead remaining.progress.taker done.taker
        (same_lines done.lookahead.part.items remaining.lookahead.next.items is.read.lines) is.takes))
        ∙ ap (history_from now) (rows_append columns first after.lines)
        ∙ history_in_parts mine (rows_of columns after.lines) now

    end_here : end_from by_set now mine ≡ (conclusion_from by_set now mine).end
    end_here = refl

    joined_twice : (trail : Trail) (one other : HistoryView)
        → history_after (trail ++ one.before) other ≡ history_after trail (history_after one.before other)
    joined_twice trail one other =
        ap (λ before. record { before = before; differing = other.differing })
        (append_assoc trail one.before other.before)

    continues : (rows valid : ℕ) (harts : HartSet Core M) (next : Remaining M)
        → IsPartCounted remaining.progress.counts done rows valid harts next
        → (conclusion_from by_set now mine).verdict ≡ Agrees rows valid
        → (conclusion_from by_set now mine).end ≡ Some (set_state_of bytes_of harts)
        → PassesHistoryIn origin columns bytes_of file remaining (Continue next)
    continues rows valid harts next counted agrees state = λ whole before.
        let told = history_from now mine in
        let many =
        counted_agreed (judgement_from by_set now mine).verdict told (history_counted mine now) agrees in
        let view : history_after before.trail told ≡ history_of (before.trail ++ told.before) =
        ap (λ differing. record { before = before.trail ++ told.before; differing = differing }) many.1 in
        let left : history_with columns bytes_of file next ≡ history_from (set_state_of bytes_of harts)
        (rows_of columns after.lines) =
        ap₂ (λ state (left : RemainingLines). history_from state (rows_of columns left.lines))
        (ap (set_state_of bytes_of) counted.harts_are)
        (ap₂ (λ lookahead taker. remaining_rows file lookahead taker) counted.lookahead counted.taker) in
        let two : history_with columns bytes_of file remaining
        ≡ history_after told.before (history_with columns bytes_of file next) =
        in_two
        ∙ ap (λ end. history_then told end (λ state. history_from state (rows_of columns after.lines))) state
        ∙ ap (history_after told.before) (sym left) in
        record {
          trail = before.trail ++ told.before;
          kept =
              subst (λ history. IsKept origin (history_of (before.trail ++ told.before)) history)
              (sym counted.history_is)
              (subst (λ view. IsKept origin view done.joined.history) view
              (grows before.trail before.kept before.counted));
          counted =
              let joined = length-append before.trail told.before in
              omega (arith, joined, many.0, counted.rows_are, before.counted);
          told =
              joined_twice before.trail told (history_with columns bytes_of file next)
              ∙ ap (history_after before.trail) (sym two) ∙ before.told;
        }

    ends : (end : TraceEnd M) → (conclusion_from by_set now mine).end ≡ None → end.history ≡ done.joined.history
        → PassesHistoryIn origin columns bytes_of file remaining (Ends end)
    ends end none same = λ whole before.
        let one : history_with columns bytes_of file remaining ≡ history_from now mine =
        in_two
        ∙ ap (λ end. history_then (history_from now mine) end (λ state. history_from state (rows_of columns after.lines)))
        (end_here ∙ none) in
        subst (λ history. IsKept origin whole history) (sym same)
        (subst (λ view. IsKept origin view done.joined.history)
        (ap (history_after before.trail) (sym one) ∙ before.told)
        (grows before.trail before.kept before.counted))

    by : (verdict : Verdict) (end : Option (HartSet Core M)) (passed : Passed M)
        → (conclusion_from by_set now mine).verdict ≡ verdict
        → (conclusion_from by_set now mine).end ≡ option_map (set_state_of bytes_of) end
        → FollowsPartBy remaining.progress.counts done verdict end passed
        → PassesHistoryIn origin columns bytes_of file remaining passed
    by (Agrees rows valid) (Some harts) (Continue next) agrees state counted =
        continues rows valid harts next counted agrees state
    by (Agrees rows valid) (Some harts) (Ends end) agrees state follows = absurd follows
    by (Agrees rows valid) None (Continue next) agrees none follows = absurd follows
    by (Agrees rows valid) None (Ends end) agrees none follows =
        ends end none (ap (λ (end : TraceEnd M). end.history) follows)
    by (Differs row difference) harts (Continue next) differs state follows = absurd follows
    by (Differs row difference) harts (Ends end) differs state follows =
        ends end (none_where_it_differs (conclusion_from by_set now mine) row difference differs fits)
        (ap (λ (end : TraceEnd M). end.history) follows)
    by (Refused row fault) harts (Continue next) refused state follows = absurd follows
    by (Refused row fault) harts (Ends end) refused state follows =
        ends end (none_where_refused (conclusion_from by_set now mine) row fault refused fits)
        (ap (λ (end : TraceEnd M). end.history) follows)

-- ---- parts, one after the other

-- whatever the whole is, what is kept of the first rows leads to what is kept of those before what remains
abbrev pub HistoryLeads : {M : Type 0} → Bool → TraceColumns → (M → Bytes) → Option (List ℕ) → Progress M → Remaining M
    → Type 0
HistoryLeads origin columns bytes_of None first remaining = Unit {0}
HistoryLeads origin columns bytes_of (Some file) first remaining =
    (whole : HistoryView) → BeginsHistory origin columns bytes_of file whole first
    → HandsOn origin columns bytes_of file whole remaining

none_ahead : {M : Type 0} (columns : TraceColumns) (bytes_of : M → Bytes) (file : List ℕ) (first : Progress M)
    (lookahead : Lookahead) → HoldsNone lookahead
    → history_with columns bytes_of file (record { progress = first; lookahead = lookahead })
    ≡ history_in columns bytes_of file first
none_ahead columns bytes_of file first lookahead none =
    ap (λ (left : RemainingLines). history_from (set_state_of bytes_of first.harts) (rows_of columns left.lines))
    (ap₂ (λ text ending. with_lines_before text (remaining_after ending (remaining_lines_of file first.taker)))
    (no_lines_ahead lookahead none.part none.next) none.ending)

pub history_begins : {M : Type 0} (bytes_of : M → Bytes) (origin : Bool) (columns : TraceColumns)
    (file : Option (List ℕ)) (first : Progress M) (lookahead : Lookahead) → HoldsNone lookahead
    → HistoryLeads origin columns bytes_of file first (record { progress = first; lookahead = lookahead })
history_begins bytes_of origin columns None first lookahead none = tt
history_begins bytes_of origin columns (Some file) first lookahead none = λ whole begins. record {
  trail = begins.trail;
  kept = begins.kept;
  counted = begins.counted;
  told = ap (history_after begins.trail) (none_ahead columns bytes_of file first lookahead none) ∙ begins.told;
}

-- a part more
pub history_goes_on : {M : Type 0} {bytes_of : M → Bytes} {job : JobView} {columns : TraceColumns}
    {first : Progress M} (origin : Bool) (files : Option Files) (remaining next : Remaining M)
    → LeadsInFile bytes_of files job columns first remaining
    → HistoryLeads origin columns bytes_of (file_of files (string_bytes first.taker.name)) first remaining
    → PassesHistory origin columns bytes_of (file_of files (string_bytes remaining.progress.taker.name)) remaining
    (Continue next)
    → HistoryLeads origin columns bytes_of (file_of files (string_bytes first.taker.name)) first next
history_goes_on origin None remaining next is leads passes = tt
history_goes_on {M} {bytes_of} {job} {columns} {first} origin (Some files) remaining next is leads passes =
    by (files (string_bytes first.taker.name)) refl is.leads leads
  where
    by : (file : Option (List ℕ)) → files (string_bytes first.taker.name) ≡ file
        → LeadsFromWhereKnown job columns bytes_of file first remaining
        → HistoryLeads origin columns bytes_of file first remaining
        → HistoryLeads origin columns bytes_of file first next
    by None e from leads = tt
    by (Some file) e from leads =
        let again : files (string_bytes remaining.progress.taker.name) ≡ Some file =
        ap (λ text. files (string_bytes text)) from.name ∙ e in
        let here =
        subst (λ file. PassesHistory origin columns bytes_of file remaining (Continue next)) again passes in
        λ whole begins. here whole (leads whole begins)

-- the end
pub history_is_told : {M : Type 0} {bytes_of : M → Bytes} {job : JobView} {columns : TraceColumns}
    {first : Progress M} (origin : Bool) (files : Option Files) (remaining : Remaining M) (end : TraceEnd M)
    → LeadsInFile bytes_of files job columns first remaining
    → HistoryLeads origin columns bytes_of (file_of files (string_bytes first.taker.name)) first remaining
    → PassesHistory origin columns bytes_of (file_of files (string_bytes remaining.progress.taker.name)) remaining
    (Ends end)
    → IsHistoryTold origin columns bytes_of (file_of files (string_bytes first.taker.name)) first end
history_is_told origin None remaining end is leads passes = tt
history_is_told {M} {bytes_of} {job} {columns} {first} origin (Some files) remaining end is leads passes =
    by (files (string_bytes first.taker.name)) refl is.leads leads
  where
    by : (file : Option (List ℕ)) → files (string_bytes first.taker.name) ≡ file
        → LeadsFromWhereKnown job columns bytes_of file first remaining
        → HistoryLeads origin columns bytes_of file first remaining
        → IsHistoryTold origin columns bytes_of file first end
    by None e from leads = tt
    by (Some file) e from leads =
        let again : files (string_bytes remaining.progress.taker.name) ≡ Some file =
        ap (λ text. files (string_bytes text)) from.name ∙ e in
        let here =
        subst (λ file. PassesHistory origin columns bytes_of file remaining (Ends end)) again passes in
        λ trail kept counted. let whole = history_after trail (history_in columns bytes_of file first) in
        here whole (leads whole (record { trail = trail; kept = kept; counted = counted; told = refl }))
