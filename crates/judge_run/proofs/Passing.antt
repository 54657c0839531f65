-- A part of the rows of a trace, and those after it.
use Rattle.std.proofs.Common.{◌≡◌, ℕ, zero, suc, ◌+◌, ◌<◌, ◌≤◌, List, [], ◌∷◌, ◌++◌, length, map, Option, Some, None}
use Rattle.std.proofs.Common.{IsSome, refl, sym, ap, ap₂, subst, ◌∙◌, arith, append_assoc, IfSome, option_map}
use Rattle.std.proofs.Common.{string_bytes}
use Rattle.std.specs.List.{flat_map}
use Rattle.std.proofs.lemmas.List.{length-append, length-map}
use Rattle.hart_words.specs.declared.span.Span.{Span}
use Rattle.hart_words.specs.declared.signal.Difference.{Difference}
use Rattle.hart_words.specs.Memory.{Bytes, after_writes}
use Rattle.judge_words.specs.Job.{JobView}
use Rattle.outside_ports.specs.Ports.{Files, IsThere, file_of}
use Rattle.trace_lines.specs.declared.piece.Ending.{Ending}
use Rattle.trace_lines.specs.declared.piece.Ending.TheVariants as endings
use Rattle.trace_lines.specs.declared.line_taker.LineTaker.{LineTaker}
use Rattle.trace_lines.specs.Lines.{RemainingLines}
use Rattle.trace_lines.specs.Takers.{remaining_lines_of, room_of}
use Rattle.rvfi_rows.specs.declared.columns.Columns.{Columns}
use Rattle.rvfi_rows.specs.declared.fault.RowFault.{RowFault}
use Rattle.rvfi_rows.specs.declared.segment.Segment.{Segment}
use Rattle.rvfi_rows.specs.declared.verdict.Verdict.{Verdict}
use Rattle.rvfi_rows.specs.declared.verdict.Verdict.TheVariants.{Agrees, Differs, Refused}
use Rattle.rvfi_rows.specs.Columns.{TraceColumns}
use Rattle.rvfi_rows.specs.Rows.{RowReading, rows_of}
use Rattle.rvfi_rows.proofs.PortRows.{rows_append, rows_few}
use Rattle.rvfi_rows.specs.Segments.{row_count_of, segment_lines}
use Rattle.hart_set.specs.declared.set.HartSet.{HartSet}
use Rattle.hart_step.specs.declared.state.Core.{Core}
use Rattle.hart_step.specs.HartSets.{SetCanStep, set_state_of}
use Rattle.hart_step.specs.HartSets.{SetState}
use Rattle.segment_judge.specs.Judgements.{by_set, verdict_after_rows, judgement_of}
use Rattle.segment_judge.specs.Laws.{Conclusion, conclusion_from, conclusion_then}
use Rattle.segment_judge.proofs.Parts.{counted_twice, in_parts}
use Rattle.verdict_join.specs.Walks.{IsWithinRows}
use Rattle.verdict_join.proofs.Passed.{EndsWhereAgrees, conclusion_ends, lines_within}
use Rattle.judge_run.specs.declared.taken.Asked.{Asked}
use Rattle.judge_run.specs.declared.progress.Lookahead.{Lookahead}
use Rattle.judge_run.specs.declared.progress.Remaining.{Remaining}
use Rattle.judge_run.specs.declared.parts.Settled.{Settled}
use Rattle.judge_run.specs.declared.progress.Passed.{Passed}
use Rattle.judge_run.specs.declared.progress.Passed.TheVariants.{Continue, Ends}
use Rattle.judge_run.specs.declared.progress.Progress.{Progress}
use Rattle.judge_run.specs.declared.progress.TraceEnd.{TraceEnd}
use Rattle.trace_report.specs.declared.outcome.Ruling.{Ruling}
use Rattle.judge_run.specs.Answer.{RowsEnd, ruling_at_end}
use Rattle.judge_run.specs.Settling.{IsReadPart, IsSettled}
use Rattle.judge_run.specs.Taking.{TakesSegments, TakesAfter, TakesAfterWhereKnown, remaining_after, with_lines_before}
use Rattle.judge_run.specs.Taking.{more_turns}
use Rattle.judge_run.specs.Parts.{CanContinueWith, FollowsPart, FollowsPartBy, HoldsAfter, IsEndTold, IsNearerEnd}
use Rattle.judge_run.specs.Parts.{IsOver}
use Rattle.judge_run.specs.Starts.{CanGoOn}
use Rattle.state_text.specs.declared.state.TheConstants.{MOST_HARTS}
use Rattle.judge_run.proofs.Outside.{row_keeps_many, rows_keep}
use Rattle.judge_run.specs.Parts.{IsPartCounted, LeadsFromWhereKnown, PassesPart}
use Rattle.judge_run.specs.Parts.{PassesWhereKnown, TracePosition, lookahead_lines, end_after, end_with}
use Rattle.judge_run.specs.Parts.{end_of, position_of, remaining_rows, segments_ahead}
use Rattle.judge_run.proofs.AnyEvents.{same_lines}
use Rattle.judge_run.proofs.Taking.{at_most_one_turn}

-- after no row a verdict is as it is
pub counted_from_none : (verdict : Verdict) → verdict_after_rows 0 0 verdict ≡ verdict
counted_from_none (Agrees rows valid) =
    let first : 0 + rows ≡ rows = omega arith in
    let second : 0 + valid ≡ valid = omega arith in
    rw (first, second) refl
counted_from_none (Differs row difference) = let first : 0 + row ≡ row = omega arith in rw first refl
counted_from_none (Refused row fault) = let first : 0 + row ≡ row = omega arith in rw first refl

-- what lines come to from a state
abbrev concluded : TraceColumns → SetState → List (List ℕ) → Conclusion (List Core)
concluded columns state lines = conclusion_from by_set state (rows_of columns lines)

-- a ruling and a state
abbrev ruled : Ruling → Option SetState → RowsEnd
ruled ruling state = record { ruling = ruling; state = state }

-- rows, and those after them
parts_come_to : (state : SetState) (columns : TraceColumns) (first rest : List (List ℕ))
    → concluded columns state (first ++ rest)
    ≡ conclusion_then (concluded columns state first) (λ now. concluded columns now rest)
parts_come_to state columns first rest =
    ap (conclusion_from by_set state) (rows_append columns first rest)
    ∙ in_parts by_set state (rows_of columns first) (rows_of columns rest)

-- a part whose rows agree: all rows come to what those after it do
on_with : {rows valid : ℕ} {state : SetState} (job : JobView) (reached : TracePosition) (ending : Ending)
    (first : Conclusion (List Core)) (next : SetState → Conclusion (List Core)) → first.verdict ≡ Agrees rows valid
    → first.end ≡ Some state
    → ruled
    (ruling_at_end job ending
    (verdict_after_rows (reached.rows + rows) (reached.valid + valid) (next state).verdict)) (next state).end
    ≡ ruled
    (ruling_at_end job ending
    (verdict_after_rows reached.rows reached.valid (conclusion_then first next).verdict))
    (conclusion_then first next).end
on_with {rows} {valid} {state} job reached ending first next agrees ends =
    rw (ends, agrees)
    (ap (λ verdict. ruled (ruling_at_end job ending verdict) (next state).end)
    (sym (counted_twice reached.rows reached.valid rows valid (next state).verdict)))

goes_on : {rows valid : ℕ} {state : SetState} (job : JobView) (columns : TraceColumns) (reached : TracePosition)
    (lines : List (List ℕ)) (left : RemainingLines)
    → (concluded columns reached.state lines).verdict ≡ Agrees rows valid
    → (concluded columns reached.state lines).end ≡ Some state
    → end_after job columns (record { rows = reached.rows + rows; valid = reached.valid + valid; state = state }) left
    ≡ end_after job columns reached (with_lines_before lines left)
unfolding end_after
goes_on job columns reached lines left agrees ends =
    rw (parts_come_to reached.state columns lines left.lines)
    (on_with job reached left.ending (concluded columns reached.state lines) (λ now. concluded columns now left.lines)
    agrees ends)

-- a verdict that ends a trace does so however that ends
however : (job : JobView) (one other : Ending) (rows valid : ℕ) (first : Conclusion (List Core))
    → EndsWhereAgrees first.verdict first.end → first.end ≡ None
    → ruling_at_end job one (verdict_after_rows rows valid first.verdict)
    ≡ ruling_at_end job other (verdict_after_rows rows valid first.verdict)
however job one other rows valid first fits none = by first.verdict first.end fits none
  where
    by : (verdict : Verdict) (end : Option SetState) → EndsWhereAgrees verdict end → end ≡ None
        → ruling_at_end job one (verdict_after_rows rows valid verdict)
        ≡ ruling_at_end job other (verdict_after_rows rows valid verdict)
    by (Agrees n m) None fits none = absurd fits
    by (Agrees n m) (Some state) fits none = cc
    by (Differs row difference) end fits none = refl
    by (Refused row fault) end fits none = refl

-- a part that ends the trace
ends_here : (job : JobView) (columns : TraceColumns) (reached : TracePosition) (lines : List (List ℕ))
    (left : RemainingLines) → (concluded columns reached.state lines).end ≡ None
    → ruled
    (ruling_at_end job endings.More
    (verdict_after_rows reached.rows reached.valid (concluded columns reached.state lines).verdict)) None
    ≡ end_after job columns reached (with_lines_before lines left)
unfolding end_after
ends_here job columns reached lines left none =
    let first = concluded columns reached.state lines in
    let whole : concluded columns reached.state (lines ++ left.lines) ≡ first =
    parts_come_to reached.state columns lines left.lines
    ∙ first_alone first (λ now. concluded columns now left.lines) none in
    ap₂ ruled
    (however job endings.More left.ending reached.rows reached.valid first
    (conclusion_ends by_set reached.state (rows_of columns lines)) none
    ∙ ap (λ (all : Conclusion (List Core)). ruling_at_end job left.ending
    (verdict_after_rows reached.rows reached.valid all.verdict)) (sym whole))
    (sym none ∙ ap (λ (all : Conclusion (List Core)). all.end) (sym whole))
  where
    first_alone : (first : Conclusion (List Core)) (next : SetState → Conclusion (List Core)) → first.end ≡ None
        → conclusion_then first next ≡ first
    first_alone first next none = by first.verdict first.end none
      where
        by : (verdict : Verdict) (end : Option SetState) → end ≡ None
            → conclusion_then (record { verdict = verdict; end = end }) next ≡ record { verdict = verdict; end = end }
        by verdict None none = refl
        by verdict (Some state) none = cc

-- no row comes to nothing
nothing_comes : (columns : TraceColumns) (state : SetState)
    → concluded columns state [] ≡ record { verdict = Agrees 0 0; end = Some state }
unfolding conclusion_from judgement_of after_writes rows_of
nothing_comes columns state = refl

-- where no row is left, what was reached is all
ends_with : (job : JobView) (columns : TraceColumns) (reached : TracePosition) (ending : Ending)
    → ruled (ruling_at_end job ending (Agrees reached.rows reached.valid)) (Some reached.state)
    ≡ end_after job columns reached (record { lines = []; ending = ending })
unfolding end_after
ends_with job columns reached ending =
    let rows : reached.rows + 0 ≡ reached.rows = omega arith in
    let valid : reached.valid + 0 ≡ reached.valid = omega arith in
    let counted : Agrees (reached.rows + 0) (reached.valid + 0) ≡ Agrees reached.rows reached.valid =
    rw (rows, valid) refl in
    ap (λ verdict. ruled (ruling_at_end job ending verdict) (Some reached.state)) (sym counted)
    ∙ ap (λ (conclusion : Conclusion (List Core)). ruled
    (ruling_at_end job ending (verdict_after_rows reached.rows reached.valid conclusion.verdict))
    conclusion.end) (sym (nothing_comes columns reached.state))

over_with : (job : JobView) (columns : TraceColumns) (reached : TracePosition) (ending : Ending) (left : RemainingLines)
    → more_turns ending ≡ 0
    → ruled (ruling_at_end job ending (Agrees reached.rows reached.valid)) (Some reached.state)
    ≡ end_after job columns reached (with_lines_before [] (remaining_after ending left))
over_with job columns reached endings.More left none = absurd (omega (arith, none))
over_with job columns reached endings.End left none = ends_with job columns reached endings.End
over_with job columns reached (endings.TooLong line) left none = ends_with job columns reached (endings.TooLong line)
over_with job columns reached endings.TooLarge left none = ends_with job columns reached endings.TooLarge

pub no_lines_ahead : (ahead : Lookahead) → ahead.part.items ≡ [] → ahead.next.items ≡ [] → lookahead_lines ahead ≡ []
no_lines_ahead ahead part next = ap₂ (λ one other. flat_map segment_lines one ++ flat_map segment_lines other) part next

pub over_passes : {M : Type 0} (bytes_of : M → Bytes) (file : Option (List ℕ)) (job : JobView)
    (columns : TraceColumns) (remaining : Remaining M) → IsOver remaining.lookahead
    → PassesWhereKnown job columns bytes_of file remaining
    (Ends (record {
      verdict = Agrees remaining.progress.counts.rows remaining.progress.counts.valid;
      ending = remaining.lookahead.ending;
      harts = Some remaining.progress.harts;
      history = remaining.progress.history;
    }))
over_passes bytes_of None job columns remaining over = tt
over_passes bytes_of (Some file) job columns remaining over =
    let reached = position_of bytes_of remaining.progress in
    let ahead = remaining.lookahead in
    let lines = remaining_lines_of file remaining.progress.taker in
    over_with job columns reached ahead.ending lines over.ending
    ∙ ap (λ text. end_after job columns reached (with_lines_before text (remaining_after ahead.ending lines)))
    (sym (no_lines_ahead ahead over.part over.next))

-- no state is after rows that do not agree
pub none_where_it_differs : (first : Conclusion (List Core)) (row : ℕ) (difference : Difference)
    → first.verdict ≡ Differs row difference → EndsWhereAgrees first.verdict first.end → first.end ≡ None
none_where_it_differs first row difference is fits =
    by first.end (subst (λ verdict. EndsWhereAgrees verdict first.end) is fits)
  where
    by : (end : Option SetState) → EndsWhereAgrees (Differs row difference) end → end ≡ None
    by None fits = refl
    by (Some state) fits = absurd fits

pub none_where_refused : (first : Conclusion (List Core)) (row : ℕ) (fault : RowFault) → first.verdict ≡ Refused row fault
    → EndsWhereAgrees first.verdict first.end → first.end ≡ None
none_where_refused first row fault is fits = by first.end (subst (λ verdict. EndsWhereAgrees verdict first.end) is fits)
  where
    by : (end : Option SetState) → EndsWhereAgrees (Refused row fault) end → end ≡ None
    by None fits = refl
    by (Some state) fits = absurd fits

-- what is left after a part, with the part before it, is what was left
pub remaining_moves : (file : List ℕ) (ahead now : Lookahead) (before after : LineTaker)
    → flat_map segment_lines now.part.items ≡ flat_map segment_lines ahead.next.items
    → TakesAfter file ahead.ending before (flat_map segment_lines now.next.items) now.ending after
    → with_lines_before (flat_map segment_lines ahead.part.items) (remaining_rows file now after)
    ≡ remaining_rows file ahead before
remaining_moves file ahead now before after read takes =
    let first = flat_map segment_lines ahead.part.items in
    let next = flat_map segment_lines ahead.next.items in
    let more = flat_map segment_lines now.next.items in
    let left = remaining_after now.ending (remaining_lines_of file after) in
    let lines : first ++ ((flat_map segment_lines now.part.items ++ more) ++ left.lines) ≡ (first ++ next)
    ++ (more ++ left.lines) =
    ap (λ text. first ++ ((text ++ more) ++ left.lines)) read
    ∙ ap (λ text. first ++ text) (append_assoc next more left.lines)
    ∙ sym (append_assoc first next (more ++ left.lines)) in
    ap (λ text. record { lines = text; ending = left.ending }) lines ∙ ap (with_lines_before (first ++ next)) takes.left

-- a part was settled, the next one read, and lines were taken after them
pub record PartIsDone {M : Type 0} (bytes_of : M → Bytes) (ram_of : M → Span) (columns : Columns) (window : ℕ)
    (file : Option (List ℕ)) (remaining : Remaining M) (done : Settled M) : Type 0 where
  pub settled : IsSettled bytes_of ram_of columns remaining.lookahead.part.items
      (set_state_of bytes_of remaining.progress.harts) done.joined
  pub read : IsReadPart columns remaining.lookahead.next.items done.lookahead.part
  pub takes : TakesAfterWhereKnown file remaining.lookahead.ending remaining.progress.taker
      (flat_map segment_lines done.lookahead.next.items) done.lookahead.ending done.taker
  pub holds : HoldsAfter window remaining.progress.taker remaining.lookahead done.taker done.lookahead

-- where the file is told
pub part_passes : {M : Type 0} {bytes_of : M → Bytes} {ram_of : M → Span} {columns : Columns} {window : ℕ}
    (file : Option (List ℕ)) (job : JobView) (remaining : Remaining M) (done : Settled M) (passed : Passed M)
    → PartIsDone bytes_of ram_of columns window file remaining done
    → FollowsPart remaining.progress.counts done passed
    → PassesWhereKnown job columns bytes_of file remaining passed
part_passes None job remaining done passed is follows = tt
part_passes {M} {bytes_of} {ram_of} {columns} (Some file) job remaining done passed is follows =
    by done.joined.verdict done.joined.end passed (sym is.settled.verdict) (sym is.settled.end) follows
  where
    reached : TracePosition
    reached = position_of bytes_of remaining.progress

    lines : List (List ℕ)
    lines = flat_map segment_lines remaining.lookahead.part.items

    after : RemainingLines
    after = remaining_rows file done.lookahead done.taker

    whole : RowsEnd
    whole = end_with job columns bytes_of file remaining

    moves : with_lines_before lines after ≡ remaining_rows file remaining.lookahead remaining.progress.taker
    moves =
        remaining_moves file remaining.lookahead done.lookahead remaining.progress.taker done.taker
        (same_lines done.lookahead.part.items remaining.lookahead.next.items is.read.lines) is.takes

    fits : EndsWhereAgrees (concluded columns reached.state lines).verdict (concluded columns reached.state lines).end
    fits = conclusion_ends by_set reached.state (rows_of columns lines)

    continues : (rows valid : ℕ) (harts : HartSet Core M) (next : Remaining M)
        → IsPartCounted remaining.progress.counts done rows valid harts next
        → (concluded columns reached.state lines).verdict ≡ Agrees rows valid
        → (concluded columns reached.state lines).end ≡ Some (set_state_of bytes_of harts)
        → end_with job columns bytes_of file next ≡ whole
    continues rows valid harts next counted agrees state =
        let position : position_of bytes_of next.progress
        ≡ record { rows = reached.rows + rows; valid = reached.valid + valid; state = set_state_of bytes_of harts } =
        rw (counted.rows_are, counted.valid_are, counted.harts_are) refl in
        let left : remaining_rows file next.lookahead next.progress.taker ≡ after =
        ap₂ (λ lookahead taker. remaining_rows file lookahead taker) counted.lookahead counted.taker in
        ap₂ (end_after job columns) position left
        ∙ goes_on job columns reached lines after agrees state ∙ ap (end_after job columns reached) moves

    ends : (verdict : Verdict) (end : TraceEnd M) → (concluded columns reached.state lines).verdict ≡ verdict
        → (concluded columns reached.state lines).end ≡ None
        → end
        ≡ record {
          verdict = verdict_after_rows reached.rows reached.valid verdict;
          ending = endings.More;
          harts = None;
          history = done.joined.history;
        }
        → end_of job bytes_of end ≡ whole
    ends verdict end concludes none is =
        ap (end_of job bytes_of) is
        ∙ subst
        (λ verdict. ruled
        (ruling_at_end job endings.More (verdict_after_rows reached.rows reached.valid verdict)) None
        ≡ whole) concludes
        (ends_here job columns reached lines after none ∙ ap (end_after job columns reached) moves)

    by : (verdict : Verdict) (end : Option (HartSet Core M)) (passed : Passed M)
        → (concluded columns reached.state lines).verdict ≡ verdict
        → (concluded columns reached.state lines).end ≡ option_map (set_state_of bytes_of) end
        → FollowsPartBy remaining.progress.counts done verdict end passed
        → PassesPart job columns bytes_of file remaining passed
    by (Agrees rows valid) (Some harts) (Continue next) agrees state counted =
        let name = ap (λ (taker : LineTaker). taker.name) counted.taker ∙ is.takes.name in
        (continues rows valid harts next counted agrees state, name)
    by (Agrees rows valid) (Some harts) (Ends end) agrees state follows = absurd follows
    by (Agrees rows valid) None (Continue next) agrees none follows = absurd follows
    by (Agrees rows valid) None (Ends end) agrees none follows = ends (Agrees rows valid) end agrees none follows
    by (Differs row difference) harts (Continue next) differs state follows = absurd follows
    by (Differs row difference) harts (Ends end) differs state follows =
        ends (Differs row difference) end differs
        (none_where_it_differs (concluded columns reached.state lines) row difference differs fits) follows
    by (Refused row fault) harts (Continue next) refused state follows = absurd follows
    by (Refused row fault) harts (Ends end) refused state follows =
        ends (Refused row fault) end refused
        (none_where_refused (concluded columns reached.state lines) row fault refused fits) follows

-- ---- how far it is to the end

-- a part has no more rows than four times the bytes that are left
pub part_rows : {M : Type 0} (window : ℕ) (ram_of : M → Span) (columns : TraceColumns) (remaining : Remaining M)
    → CanContinueWith window ram_of remaining
    → row_count_of columns remaining.lookahead.part.items ≤ 4611686018427387904
part_rows window ram_of columns remaining going =
    let ahead = remaining.lookahead in
    let lines = length-append (flat_map segment_lines ahead.part.items) (flat_map segment_lines ahead.next.items) in
    omega (arith, lines, rows_few columns ahead.part.items, going.room)

-- what was taken after a part and a next one
pub holds_after : {window : ℕ} {taker after : LineTaker} {asked : Asked} (ahead now : Lookahead)
    → segments_ahead ahead + asked.segments ≤ window → (segments_ahead ahead ≡ 0 → 0 < asked.segments)
    → asked.ending ≡ ahead.ending → TakesSegments asked taker now.next.items now.ending after
    → HoldsAfter window taker ahead after now
holds_after {window} {taker} {after} {asked} ahead now within asks ending taken = record {
  within_window = omega (arith, taken.at_most_asked, within);
  full = taken.full;
  room = taken.room;
  ending =
      let same : more_turns asked.ending ≡ more_turns ahead.ending = ap more_turns ending in
      omega (arith, taken.ending, same);
  nonempty_where_more = by (segments_ahead ahead) refl;
}
  where
    by : (count : ℕ) → segments_ahead ahead ≡ count
        → more_turns now.ending ≤ segments_ahead ahead + length now.next.items
    by zero is = let turns = taken.nonempty_where_more (asks is) in omega (arith, turns)
    by (suc count) is = let most = at_most_one_turn now.ending in omega (arith, most, is)

-- the same segments were taken
pub same_taken : {asked : Asked} {before after : LineTaker} {one other : List Segment} {now ending : Ending}
    → other ≡ one → ending ≡ now → TakesSegments asked before one now after
    → TakesSegments asked before other ending after
same_taken segments endings taken = rw (segments, endings) taken

-- as many segments
as_many : (one other : List Segment) → map segment_lines one ≡ map segment_lines other → length one ≡ length other
as_many one other same = sym (length-map one segment_lines) ∙ ap length same ∙ length-map other segment_lines

-- there are as many harts after rows as before them
still_few : {M : Type 0} (bytes_of : M → Bytes) (end : Option (HartSet Core M)) (start : SetState) (rows : List RowReading)
    → length start.core ≤ MOST_HARTS → option_map (set_state_of bytes_of) end ≡ (conclusion_from by_set start rows).end
    → IfSome end (λ harts. length harts.cores.items ≤ MOST_HARTS)
still_few bytes_of None start rows few same = tt
still_few bytes_of (Some harts) start rows few same =
    subst (λ end. IfSome end (λ state. length state.core ≤ MOST_HARTS)) (sym same)
    (rows_keep (λ state. length state.core ≤ MOST_HARTS)
    (λ state shown few. omega (arith, few, row_keeps_many state shown)) rows start few)

go_on : {M : Type 0} (ram_of : M → Span) (end : Option (HartSet Core M)) → IfSome end (SetCanStep ram_of)
    → IfSome end (λ harts. length harts.cores.items ≤ MOST_HARTS) → IfSome end (CanGoOn ram_of)
go_on ram_of None can_step few = tt
go_on ram_of (Some harts) can_step few = record { can_step = can_step; few = few }

pub part_nears : {M : Type 0} {bytes_of : M → Bytes} {ram_of : M → Span} {columns : Columns} {window : ℕ}
    {file : Option (List ℕ)} (remaining : Remaining M) (done : Settled M) (passed : Passed M)
    → CanContinueWith window ram_of remaining
    → (IsOver remaining.lookahead → ⊥) → PartIsDone bytes_of ram_of columns window file remaining done
    → FollowsPart remaining.progress.counts done passed → IsNearerEnd window ram_of remaining passed
part_nears {M} {bytes_of} {ram_of} {columns} {window} remaining done passed going left is follows =
    by done.joined.verdict done.joined.end passed
    (lines_within (set_state_of bytes_of remaining.progress.harts) columns ahead.part.items done.joined.verdict
    is.settled.verdict)
    (go_on ram_of done.joined.end is.settled.can_step
    (still_few bytes_of done.joined.end (set_state_of bytes_of remaining.progress.harts) (rows_of columns first)
    going.can_go_on.few is.settled.end)) follows
  where
    ahead : Lookahead
    ahead = remaining.lookahead

    now : Lookahead
    now = done.lookahead

    first : List (List ℕ)
    first = flat_map segment_lines ahead.part.items

    next : List (List ℕ)
    next = flat_map segment_lines ahead.next.items

    more : List (List ℕ)
    more = flat_map segment_lines now.next.items

    before : length (lookahead_lines ahead) ≡ length first + length next
    before = length-append first next

    following : length (lookahead_lines now) ≡ length next + length more
    following =
        length-append (flat_map segment_lines now.part.items) more
        ∙ ap (λ text. length text + length more) (same_lines now.part.items ahead.next.items is.read.lines)

    many : length now.part.items ≡ length ahead.next.items
    many = as_many now.part.items ahead.next.items is.read.lines

    not_over : 0 < segments_ahead ahead + more_turns ahead.ending
    not_over = some (segments_ahead ahead + more_turns ahead.ending) refl
      where
        none_in : {A : Type 0} (xs : List A) → length xs ≡ 0 → xs ≡ []
        none_in [] none = refl
        none_in (x ∷ xs) none = absurd (omega (arith, none))

        some : (count : ℕ) → segments_ahead ahead + more_turns ahead.ending ≡ count → 0 < count
        some (suc count) is = omega arith
        some zero is =
            absurd (left (record {
              part = none_in ahead.part.items (omega (arith, is));
              next = none_in ahead.next.items (omega (arith, is));
              ending = omega (arith, is);
            }))

    no_hart : (end : TraceEnd M) (verdict : Verdict)
        → end
        ≡ record {
          verdict = verdict_after_rows remaining.progress.counts.rows remaining.progress.counts.valid verdict;
          ending = endings.More;
          harts = None;
          history = done.joined.history;
        }
        → IfSome end.harts (CanGoOn ram_of)
    no_hart end verdict is =
        subst (λ (end : TraceEnd M). IfSome end.harts (CanGoOn ram_of)) (sym is) tt

    by : (verdict : Verdict) (end : Option (HartSet Core M)) (passed : Passed M)
        → IsWithinRows (row_count_of columns ahead.part.items) verdict
        → IfSome end (CanGoOn ram_of) → FollowsPartBy remaining.progress.counts done verdict end passed
        → IsNearerEnd window ram_of remaining passed
    by (Agrees rows valid) (Some harts) (Continue next) within can_go_on counted =
        let part = ap (λ (lookahead : Lookahead). length lookahead.part.items) counted.lookahead in
        let more_ahead = ap (λ (lookahead : Lookahead). length lookahead.next.items) counted.lookahead in
        let lines = ap (λ lookahead. length (lookahead_lines lookahead)) counted.lookahead in
        let turns = ap (λ (lookahead : Lookahead). more_turns lookahead.ending) counted.lookahead in
        let room = ap room_of counted.taker in
        let few = rows_few columns ahead.part.items in (
          record {
            can_go_on = subst (CanGoOn ram_of) (sym counted.harts_are) can_go_on;
            room =
                omega (
                  arith,
                  going.room,
                  within.0,
                  few,
                  before,
                  following,
                  is.holds.room,
                  counted.rows_are,
                  lines,
                  room,
                );
            within_window = omega (arith, many, is.holds.within_window, part, more_ahead);
          },
          omega (
            arith,
            many,
            is.holds.room,
            is.holds.full,
            is.holds.ending,
            is.holds.nonempty_where_more,
            not_over,
            part,
            more_ahead,
            turns,
            room,
          ),
        )
    by (Agrees rows valid) (Some harts) (Ends end) within can_go_on follows = absurd follows
    by (Agrees rows valid) None (Continue next) within can_go_on follows = absurd follows
    by (Agrees rows valid) None (Ends end) within can_go_on follows = no_hart end (Agrees rows valid) follows
    by (Differs row difference) harts (Continue next) within can_go_on follows = absurd follows
    by (Differs row difference) harts (Ends end) within can_go_on follows =
        no_hart end (Differs row difference) follows
    by (Refused row fault) harts (Continue next) within can_go_on follows = absurd follows
    by (Refused row fault) harts (Ends end) within can_go_on follows = no_hart end (Refused row fault) follows

-- a copy of harts has their state
pub same_state : {M : Type 0} (bytes_of : M → Bytes) (one other : HartSet Core M)
    → one.cores.items ≡ other.cores.items
    → bytes_of one.mem ≡ bytes_of other.mem → set_state_of bytes_of one ≡ set_state_of bytes_of other
same_state bytes_of one other cores bytes = rw (cores, bytes) refl

-- ---- parts, one after the other

-- parts lead from these first rows to what remains, and the file that they are of is there
pub record LeadsInFile {M : Type 0} (bytes_of : M → Bytes) (files : Option Files) (job : JobView)
    (columns : TraceColumns) (first : Progress M) (remaining : Remaining M) : Type 0 where
  pub file_exists : IsThere files (string_bytes first.taker.name)
  pub leads : LeadsFromWhereKnown job columns bytes_of (file_of files (string_bytes first.taker.name)) first remaining

-- a part more, or the end
pub parts_lead : {M : Type 0} {bytes_of : M → Bytes} {job : JobView} {columns : TraceColumns} {first : Progress M}
    (files : Option Files) (remaining next : Remaining M)
    → LeadsInFile bytes_of files job columns first remaining
    → PassesWhereKnown job columns bytes_of (file_of files (string_bytes remaining.progress.taker.name)) remaining
    (Continue next) → LeadsInFile bytes_of files job columns first next
parts_lead None remaining next is passes = record { file_exists = is.file_exists; leads = tt }
parts_lead {M} {bytes_of} {job} {columns} {first} (Some files) remaining next is passes = record {
  file_exists = is.file_exists;
  leads = by (files (string_bytes first.taker.name)) refl is.file_exists is.leads;
}
  where
    by : (file : Option (List ℕ)) → files (string_bytes first.taker.name) ≡ file → IsSome file
        → LeadsFromWhereKnown job columns bytes_of file first remaining
        → LeadsFromWhereKnown job columns bytes_of file first next
    by None e exists leads = absurd cc
    by (Some file) e exists leads =
        let again : files (string_bytes remaining.progress.taker.name) ≡ Some file =
        ap (λ text. files (string_bytes text)) leads.name ∙ e in
        let here =
        subst (λ file. PassesWhereKnown job columns bytes_of file remaining (Continue next)) again passes in
        record { end = here.0 ∙ leads.end; name = here.1 ∙ leads.name }

-- the end is what all rows come to, from the first
pub end_told : {M : Type 0} {bytes_of : M → Bytes} {job : JobView} {columns : TraceColumns} {first : Progress M}
    (files : Option Files) (remaining : Remaining M) (end : TraceEnd M)
    → LeadsInFile bytes_of files job columns first remaining
    → PassesWhereKnown job columns bytes_of (file_of files (string_bytes remaining.progress.taker.name)) remaining
    (Ends end) → IsEndTold job columns bytes_of (file_of files (string_bytes first.taker.name)) first end
end_told None remaining end is passes = tt
end_told {M} {bytes_of} {job} {columns} {first} (Some files) remaining end is passes =
    by (files (string_bytes first.taker.name)) refl is.file_exists is.leads
  where
    by : (file : Option (List ℕ)) → files (string_bytes first.taker.name) ≡ file → IsSome file
        → LeadsFromWhereKnown job columns bytes_of file first remaining
        → IsEndTold job columns bytes_of file first end
    by None e exists leads = tt
    by (Some file) e exists leads =
        let again : files (string_bytes remaining.progress.taker.name) ≡ Some file =
        ap (λ text. files (string_bytes text)) leads.name ∙ e in
        let here = subst (λ file. PassesWhereKnown job columns bytes_of file remaining (Ends end)) again passes in
        here ∙ leads.end

-- the file that is there stays there
pub exists_after_part : {M : Type 0} {bytes_of : M → Bytes} {job : JobView} {columns : TraceColumns} {first : Progress M}
    (files : Option Files) (remaining : Remaining M) → LeadsInFile bytes_of files job columns first remaining
    → IsThere files (string_bytes remaining.progress.taker.name)
exists_after_part None remaining is = tt
exists_after_part {M} {bytes_of} {job} {columns} {first} (Some files) remaining is =
    by (files (string_bytes first.taker.name)) refl is.file_exists is.leads
  where
    by : (file : Option (List ℕ)) → files (string_bytes first.taker.name) ≡ file → IsSome file
        → LeadsFromWhereKnown job columns bytes_of file first remaining
        → IsSome (files (string_bytes remaining.progress.taker.name))
    by None e exists leads = absurd cc
    by (Some file) e exists leads =
        let again : files (string_bytes remaining.progress.taker.name) ≡ Some file =
        ap (λ text. files (string_bytes text)) leads.name ∙ e in
        subst IsSome (sym again) exists
