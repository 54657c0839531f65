-- What the rows of a trace did, as it is handed on from part to part.
use Rattle.std.specs.Prelude.{◌≡◌, ℕ, ◌+◌, ◌^◌, ◌<◌, Bool, List, length, Option, Some, None}
use Rattle.std.specs.List.{flat_map}
use Rattle.hart_words.specs.declared.span.Span.{Span}
use Rattle.hart_words.specs.Memory.{Bytes}
use Rattle.hart_set.specs.declared.set.HartSet.{HartSet}
use Rattle.hart_step.specs.declared.state.Core.{Core}
use Rattle.hart_step.specs.HartSets.{SetCanStep, set_state_of}
use Rattle.row_origin.specs.Histories.{Grows, HistoryView, IsKept, history_after, history_of}
use Rattle.row_origin.specs.Trails.{Trail}
use Rattle.rvfi_rows.specs.declared.segment.Segment.{Segment}
use Rattle.rvfi_rows.specs.Columns.{TraceColumns}
use Rattle.rvfi_rows.specs.Rows.{rows_of}
use Rattle.rvfi_rows.specs.Segments.{row_count_of, segment_lines}
use Rattle.segment_judge.specs.Histories.{history_from}
use Rattle.trace_lines.specs.Takers.{remaining_lines_of}
use Rattle.verdict_join.specs.declared.joined.Joined.{Joined}
use Rattle.judge_run.specs.declared.parts.Reached.{Reached}
use Rattle.judge_run.specs.declared.progress.Passed.{Passed}
use Rattle.judge_run.specs.declared.progress.Passed.TheVariants.{Continue, Ends}
use Rattle.judge_run.specs.declared.progress.Progress.{Progress}
use Rattle.judge_run.specs.declared.progress.Remaining.{Remaining}
use Rattle.judge_run.specs.declared.progress.TraceEnd.{TraceEnd}
use Rattle.judge_run.specs.Parts.{remaining_rows}
use Rattle.judge_run.specs.Settling.{IsSettled}

-- what the rows of lines do from harts on
abbrev pub lines_history : {M : Type 0} → (M → Bytes) → TraceColumns → List (List ℕ) → HartSet Core M → HistoryView
lines_history bytes_of columns lines harts = history_from (set_state_of bytes_of harts) (rows_of columns lines)

-- the same of segments
abbrev pub part_history : {M : Type 0} → (M → Bytes) → TraceColumns → List Segment → HartSet Core M → HistoryView
part_history bytes_of columns part harts = lines_history bytes_of columns (flat_map segment_lines part) harts

-- a part may be settled from there: the harts can step, and its rows can be counted on from those before it
abbrev pub CanSettle : {M : Type 0} → (M → Span) → TraceColumns → List Segment → Reached M → Type 0
CanSettle ram_of columns part reached =
    SetCanStep ram_of reached.harts × (reached.counts.rows + row_count_of columns part < 2 ^ 62)

-- a part was settled from there, and what its rows did follows what those before it did
pub record IsSettledFrom {M : Type 0} (origin : Bool) (bytes_of : M → Bytes) (ram_of : M → Span)
    (columns : TraceColumns) (part : List Segment) (reached : Reached M) (joined : Joined M) : Type 0 where
  pub settled : IsSettled bytes_of ram_of columns part (set_state_of bytes_of reached.harts) joined
  pub history : Grows origin (part_history bytes_of columns part reached.harts) reached.counts.rows reached.history
      joined.history

-- what the rows that are left of a file do
abbrev pub history_in : {M : Type 0} → TraceColumns → (M → Bytes) → List ℕ → Progress M → HistoryView
history_in columns bytes_of file progress =
    lines_history bytes_of columns (remaining_lines_of file progress.taker).lines progress.harts

abbrev pub history_with : {M : Type 0} → TraceColumns → (M → Bytes) → List ℕ → Remaining M → HistoryView
history_with columns bytes_of file remaining =
    lines_history bytes_of columns (remaining_rows file remaining.lookahead remaining.progress.taker).lines
    remaining.progress.harts

-- what all rows did is kept, where the file is told
abbrev pub IsHistoryTold : {M : Type 0} → Bool → TraceColumns → (M → Bytes) → Option (List ℕ) → Progress M
    → TraceEnd M → Type 0
IsHistoryTold origin columns bytes_of None progress end = Unit {0}
IsHistoryTold origin columns bytes_of (Some file) progress end =
    Grows origin (history_in columns bytes_of file progress) progress.counts.rows progress.history end.history

-- what was kept before rows, and what is kept after some of them, come to the same with what is left
pub record HandsOn {M : Type 0} (origin : Bool) (columns : TraceColumns) (bytes_of : M → Bytes) (file : List ℕ)
    (whole : HistoryView) (next : Remaining M) : Type 0 where
  pub trail : Trail
  pub kept : IsKept origin (history_of trail) next.progress.history
  pub counted : next.progress.counts.rows ≡ length trail
  pub told : history_after trail (history_with columns bytes_of file next) ≡ whole

-- a part hands on what its rows did, or all rows are told
abbrev pub PassesHistoryIn : {M : Type 0} → Bool → TraceColumns → (M → Bytes) → List ℕ → Remaining M → Passed M
    → Type 0
PassesHistoryIn origin columns bytes_of file remaining (Continue next) =
    (whole : HistoryView) → HandsOn origin columns bytes_of file whole remaining
    → HandsOn origin columns bytes_of file whole next
PassesHistoryIn origin columns bytes_of file remaining (Ends end) =
    (whole : HistoryView) → HandsOn origin columns bytes_of file whole remaining → IsKept origin whole end.history

abbrev pub PassesHistory : {M : Type 0} → Bool → TraceColumns → (M → Bytes) → Option (List ℕ) → Remaining M → Passed M
    → Type 0
PassesHistory origin columns bytes_of None remaining passed = Unit {0}
PassesHistory origin columns bytes_of (Some file) remaining passed =
    PassesHistoryIn origin columns bytes_of file remaining passed
