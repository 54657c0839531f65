-- The rows of a trace, judged part by part: what is left of them, and what is known after those that were judged.
use Rattle.std.specs.Prelude.{◌≡◌, ℕ, ◌+◌, ◌*◌, ◌^◌, ◌<◌, ◌≤◌, List, [], ◌++◌, length, Option, Some, None, IfSome}
use Rattle.std.specs.Prelude.{option_map}
use Rattle.std.specs.List.{flat_map}
use Rattle.hart_words.specs.declared.span.Span.{Span}
use Rattle.hart_words.specs.Memory.{Bytes}
use Rattle.judge_words.specs.Job.{JobView}
use Rattle.trace_lines.specs.declared.piece.Ending.TheVariants as endings
use Rattle.trace_lines.specs.declared.line_taker.LineTaker.{LineTaker}
use Rattle.trace_lines.specs.Lines.{RemainingLines}
use Rattle.trace_lines.specs.Takers.{remaining_lines_of, room_of}
use Rattle.rvfi_rows.specs.declared.row_counts.RowCounts.{RowCounts}
use Rattle.rvfi_rows.specs.declared.verdict.Verdict.{Verdict}
use Rattle.rvfi_rows.specs.declared.verdict.Verdict.TheVariants.{Agrees}
use Rattle.rvfi_rows.specs.Columns.{TraceColumns}
use Rattle.rvfi_rows.specs.Rows.{rows_of}
use Rattle.rvfi_rows.specs.Segments.{line_count_of, segment_lines}
use Rattle.hart_set.specs.declared.set.HartSet.{HartSet}
use Rattle.hart_step.specs.declared.state.Core.{Core}
use Rattle.hart_step.specs.HartSets.{set_state_of}
use Rattle.hart_step.specs.HartSets.{SetState}
use Rattle.segment_judge.specs.Judgements.{by_set, verdict_after_rows}
use Rattle.segment_judge.specs.Laws.{conclusion_from}
use Rattle.judge_run.specs.declared.parts.Settled.{Settled}
use Rattle.judge_run.specs.declared.progress.Lookahead.{Lookahead}
use Rattle.judge_run.specs.declared.progress.Progress.{Progress}
use Rattle.judge_run.specs.declared.progress.Remaining.{Remaining}
use Rattle.judge_run.specs.declared.progress.TraceEnd.{TraceEnd}
use Rattle.judge_run.specs.declared.progress.Passed.{Passed}
use Rattle.judge_run.specs.declared.progress.Passed.TheVariants.{Continue, Ends}
use Rattle.judge_run.specs.Answer.{RowsEnd, ruling_at_end}
use Rattle.judge_run.specs.Starts.{CanGoOn}
use Rattle.judge_run.specs.Taking.{remaining_after, with_lines_before, more_turns}

-- how many rows were judged, how many of them are valid, and the state after them
pub record TracePosition : Type 0 where
  pub rows : ℕ
  pub valid : ℕ
  pub state : SetState

-- what all rows come to, by what was reached and the lines that are left
unfoldable pub end_after : JobView → TraceColumns → TracePosition → RemainingLines → RowsEnd
end_after job columns reached left =
    let rest = conclusion_from by_set reached.state (rows_of columns left.lines) in
    record {
      ruling =
          ruling_at_end job left.ending (verdict_after_rows reached.rows reached.valid rest.verdict);
      state = rest.end;
    }

-- the same of an end in code
abbrev pub end_of : {M : Type 0} → JobView → (M → Bytes) → TraceEnd M → RowsEnd
end_of job bytes_of end = record {
  ruling = ruling_at_end job end.ending end.verdict;
  state = option_map (set_state_of bytes_of) end.harts;
}

abbrev pub position_of : {M : Type 0} → (M → Bytes) → Progress M → TracePosition
position_of bytes_of progress = record {
  rows = progress.counts.rows;
  valid = progress.counts.valid;
  state = set_state_of bytes_of progress.harts;
}

-- what all rows come to, by what was reached and what is left of a file
abbrev pub end_in : {M : Type 0} → JobView → TraceColumns → (M → Bytes) → List ℕ → Progress M → RowsEnd
end_in job columns bytes_of file progress =
    end_after job columns (position_of bytes_of progress) (remaining_lines_of file progress.taker)

-- the lines that were taken ahead
abbrev pub lookahead_lines : Lookahead → List (List ℕ)
lookahead_lines lookahead = flat_map segment_lines lookahead.part.items ++ flat_map segment_lines lookahead.next.items

-- what is left of the rows of a file: those that were taken ahead, and what follows them
abbrev pub remaining_rows : List ℕ → Lookahead → LineTaker → RemainingLines
remaining_rows file lookahead taker =
    with_lines_before (lookahead_lines lookahead) (remaining_after lookahead.ending (remaining_lines_of file taker))

-- what all rows come to, by what was reached and the rows that are left
abbrev pub end_with : {M : Type 0} → JobView → TraceColumns → (M → Bytes) → List ℕ → Remaining M → RowsEnd
end_with job columns bytes_of file remaining =
    end_after job columns (position_of bytes_of remaining.progress)
    (remaining_rows file remaining.lookahead remaining.progress.taker)

-- a part changes nothing of what all rows come to, or that is known after it
abbrev pub PassesPart : {M : Type 0} → JobView → TraceColumns → (M → Bytes) → List ℕ → Remaining M → Passed M → Type 0
PassesPart job columns bytes_of file remaining (Continue next) =
    (end_with job columns bytes_of file next ≡ end_with job columns bytes_of file remaining)
    × (next.progress.taker.name ≡ remaining.progress.taker.name)
PassesPart job columns bytes_of file remaining (Ends end) =
    end_of job bytes_of end ≡ end_with job columns bytes_of file remaining

-- where the file is told
abbrev pub PassesWhereKnown : {M : Type 0} → JobView → TraceColumns → (M → Bytes) → Option (List ℕ) → Remaining M
    → Passed M → Type 0
PassesWhereKnown job columns bytes_of None remaining passed = Unit {0}
PassesWhereKnown job columns bytes_of (Some file) remaining passed =
    PassesPart job columns bytes_of file remaining passed

-- parts lead from where nothing was taken ahead to what remains
pub record LeadsFrom {M : Type 0} (job : JobView) (columns : TraceColumns) (bytes_of : M → Bytes) (file : List ℕ)
    (first : Progress M) (remaining : Remaining M) : Type 0 where
  pub end : end_with job columns bytes_of file remaining ≡ end_in job columns bytes_of file first
  pub name : remaining.progress.taker.name ≡ first.taker.name

abbrev pub LeadsFromWhereKnown : {M : Type 0} → JobView → TraceColumns → (M → Bytes) → Option (List ℕ) → Progress M
    → Remaining M → Type 0
LeadsFromWhereKnown job columns bytes_of None first remaining = Unit {0}
LeadsFromWhereKnown job columns bytes_of (Some file) first remaining =
    LeadsFrom job columns bytes_of file first remaining

-- the end is what all rows come to, where the file is told
abbrev pub IsEndTold : {M : Type 0} → JobView → TraceColumns → (M → Bytes) → Option (List ℕ) → Progress M → TraceEnd M
    → Type 0
IsEndTold job columns bytes_of None progress end = Unit {0}
IsEndTold job columns bytes_of (Some file) progress end =
    end_of job bytes_of end ≡ end_in job columns bytes_of file progress

-- the harts can be stepped on and are few, and counts stay in 64 bits, for no more lines are left than bytes, each of four rows at
-- most
pub record CanContinue {M : Type 0} (ram_of : M → Span) (progress : Progress M) : Type 0 where
  pub can_go_on : CanGoOn ram_of progress.harts
  pub room : progress.counts.rows + 4 * room_of progress.taker < 2 ^ 62

-- no row was taken ahead, and more may follow
pub record HoldsNone (lookahead : Lookahead) : Type 0 where
  pub part : lookahead.part.items ≡ []
  pub next : lookahead.next.items ≡ []
  pub ending : lookahead.ending ≡ endings.More

-- no row was taken ahead, and none follows
pub record IsOver (lookahead : Lookahead) : Type 0 where
  pub part : lookahead.part.items ≡ []
  pub next : lookahead.next.items ≡ []
  pub ending : more_turns lookahead.ending ≡ 0

-- how many segments were taken ahead
abbrev pub segments_ahead : Lookahead → ℕ
segments_ahead lookahead = length lookahead.part.items + length lookahead.next.items

-- the same of all that remains, of which no more segments than a window were taken ahead
pub record CanContinueWith {M : Type 0} (window : ℕ) (ram_of : M → Span) (remaining : Remaining M) : Type 0 where
  pub can_go_on : CanGoOn ram_of remaining.progress.harts
  pub room : remaining.progress.counts.rows
      + 4 * (length (lookahead_lines remaining.lookahead) + room_of remaining.progress.taker) < 2 ^ 62
  pub within_window : segments_ahead remaining.lookahead ≤ window

-- what a taker leaves to be held after segments that are: with them no more than a window, each with a line, and some
-- where there were none and more may follow
pub record HoldsAfter (window : ℕ) (taker : LineTaker) (lookahead : Lookahead) (after : LineTaker) (now : Lookahead)
    : Type 0 where
  pub within_window : segments_ahead lookahead + length now.next.items ≤ window
  pub full : length now.next.items ≤ line_count_of now.next.items
  pub room : line_count_of now.next.items + room_of after ≤ room_of taker
  pub ending : more_turns now.ending ≤ more_turns lookahead.ending
  pub nonempty_where_more : more_turns now.ending ≤ segments_ahead lookahead + length now.next.items

-- a part of so many rows was counted on, with these harts after it and what was taken meanwhile
pub record IsPartCounted {M : Type 0} (counts : RowCounts) (settled : Settled M) (rows valid : ℕ) (harts : HartSet Core M)
    (next : Remaining M) : Type 0 where
  pub harts_are : next.progress.harts ≡ harts
  pub rows_are : next.progress.counts.rows ≡ counts.rows + rows
  pub valid_are : next.progress.counts.valid ≡ counts.valid + valid
  pub taker : next.progress.taker ≡ settled.taker
  pub lookahead : next.lookahead ≡ settled.lookahead
  pub history_is : next.progress.history ≡ settled.joined.history

-- where a part leads, after so many rows: on from the harts after it where its rows agree, else to the end of all
abbrev pub FollowsPartBy : {M : Type 0} → RowCounts → Settled M → Verdict → Option (HartSet Core M) → Passed M → Type 0
FollowsPartBy counts settled (Agrees rows valid) (Some harts) (Continue next) =
    IsPartCounted counts settled rows valid harts next
FollowsPartBy counts settled (Agrees rows valid) (Some harts) (Ends end) = ⊥
FollowsPartBy counts settled verdict harts (Continue next) = ⊥
FollowsPartBy counts settled verdict harts (Ends end) =
    end
    ≡ record {
      verdict =
          verdict_after_rows counts.rows counts.valid verdict;
      ending = endings.More;
      harts = None;
      history = settled.joined.history;
    }

abbrev pub FollowsPart : {M : Type 0} → RowCounts → Settled M → Passed M → Type 0
FollowsPart counts settled passed = FollowsPartBy counts settled settled.joined.verdict settled.joined.end passed

-- how far it is to the end: a line that is left may be a segment, which is taken, read and settled in three turns
abbrev pub distance_to_end : {M : Type 0} → Remaining M → ℕ
distance_to_end remaining =
    3 * room_of remaining.progress.taker + 2 * length remaining.lookahead.next.items
    + length remaining.lookahead.part.items + more_turns remaining.lookahead.ending

-- after a part that is not the last it is less, and the harts after the last can be stepped on
abbrev pub IsNearerEnd : {M : Type 0} → ℕ → (M → Span) → Remaining M → Passed M → Type 0
IsNearerEnd window ram_of remaining (Continue next) =
    CanContinueWith window ram_of next × (distance_to_end next < distance_to_end remaining)
IsNearerEnd window ram_of remaining (Ends end) = IfSome end.harts (CanGoOn ram_of)
