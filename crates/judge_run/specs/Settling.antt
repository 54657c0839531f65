-- Segments settled in rounds.
use Rattle.std.specs.Prelude.{◌≡◌, ℕ, ◌+◌, ◌<◌, ◌≤◌, List, drop, length, map, take, Option, Some, None, option_map}
use Rattle.std.specs.Prelude.{Bool, IfSome, Vec}
use Rattle.std.specs.Global.{Global}
use Rattle.std.specs.List.{All, flat_map}
use Rattle.hart_words.specs.declared.span.Span.{Span}
use Rattle.hart_words.specs.Memory.{Bytes}
use Rattle.rvfi_rows.specs.declared.segment.Segment.{Segment}
use Rattle.rvfi_rows.specs.declared.verdict.Verdict.{Verdict}
use Rattle.rvfi_rows.specs.declared.verdict.Verdict.TheVariants.{Agrees}
use Rattle.rvfi_rows.specs.declared.columns.Columns.{Columns}
use Rattle.rvfi_rows.specs.Columns.{TraceColumns}
use Rattle.rvfi_rows.specs.Rows.{rows_of}
use Rattle.rvfi_rows.specs.Segments.{IsRead, row_count_of, segment_lines}
use Rattle.hart_set.specs.declared.set.HartSet.{HartSet}
use Rattle.hart_step.specs.declared.state.Core.{Core}
use Rattle.hart_step.specs.HartSets.{SetCanStep, set_state_of}
use Rattle.hart_step.specs.HartSets.{SetState}
use Rattle.boundary_guess.specs.Truth.{SetNoMarks, ShowChanges}
use Rattle.row_origin.specs.Histories.{Grows}
use Rattle.segment_judge.specs.Histories.{history_from}
use Rattle.segment_judge.specs.Judgements.{by_set, verdict_after_rows}
use Rattle.segment_judge.specs.Laws.{conclusion_from}
use Rattle.verdict_join.specs.declared.joined.Joined.{Joined as JoinedSegments}
use Rattle.verdict_join.specs.declared.joined.Round.{Round}
use Rattle.verdict_join.specs.Joining.{round_of}
use Rattle.verdict_join.specs.Joins.{Joined}
use Rattle.verdict_join.specs.Rounds.{AreRounds, IsRound, rejudged_in, rounds_conclude}
use Rattle.judge_run.specs.declared.tally.Settling.{Settling}
use Rattle.judge_run.specs.declared.tally.Tally.{Tally}
use Rattle.judge_run.specs.declared.tally.AfterRound.{AfterRound}
use Rattle.judge_run.specs.declared.tally.AfterRound.TheVariants.{Continue, Ends}

-- segments come to what rounds come to that settle them, each made anew from where the one before ended, and each
-- counted as a step
pub record SettlesInRounds {M : Type 0} (bytes_of : M → Bytes) (columns : TraceColumns) (segments : List Segment)
    (start : SetState) (before now : ℕ) (joined : JoinedSegments M) : Type 0 where
  pub rounds : List (Joined (List Core))
  pub are : AreRounds start columns (map segment_lines segments) rounds
  pub counted : now ≡ before + length rounds
  pub verdict : joined.verdict ≡ (rounds_conclude start rounds).verdict
  pub end : option_map (set_state_of bytes_of) joined.end ≡ (rounds_conclude start rounds).end
  pub rejudged : joined.rejudged ≡ rejudged_in rounds

-- a round of so many rows was counted on, with these harts after it
pub record IsCountedOn {M : Type 0} (tally : Tally) (round : Round M) (rows valid : ℕ) (harts : HartSet Core M)
    (next : Settling M) : Type 0 where
  pub harts_are : next.harts ≡ harts
  pub rows_are : next.tally.counts.rows ≡ tally.counts.rows + rows
  pub valid_are : next.tally.counts.valid ≡ tally.counts.valid + valid
  pub settled : next.tally.settled ≡ tally.settled + round.settled
  pub rejudged : next.tally.rejudged ≡ tally.rejudged + round.rejudged
  pub history_is : next.history ≡ round.history

-- where a round leads: to the harts after it where its rows agree, else to the end of all
abbrev pub LeadsToBy : {M : Type 0} → Tally → Round M → Verdict → Option (HartSet Core M) → AfterRound M → Type 0
LeadsToBy tally round (Agrees rows valid) (Some harts) (Continue next) = IsCountedOn tally round rows valid harts next
LeadsToBy tally round (Agrees rows valid) (Some harts) (Ends joined) = ⊥
LeadsToBy tally round verdict end (Continue next) = ⊥
LeadsToBy tally round verdict end (Ends joined) =
    joined
    ≡ record {
      verdict =
          verdict_after_rows tally.counts.rows tally.counts.valid verdict;
      end = None;
      rejudged = tally.rejudged + round.rejudged;
      history = round.history;
    }

abbrev pub LeadsToRound : {M : Type 0} → Tally → Round M → AfterRound M → Type 0
LeadsToRound tally round next = LeadsToBy tally round round.verdict round.end next

-- nothing was counted yet
pub record IsNewTally (tally : Tally) : Type 0 where
  pub rows : tally.counts.rows ≡ 0
  pub valid : tally.counts.valid ≡ 0
  pub settled : tally.settled ≡ 0
  pub rejudged : tally.rejudged ≡ 0

-- what was counted of the first segments is no more than they have
pub record IsTallied (columns : TraceColumns) (segments : List Segment) (tally : Tally) : Type 0 where
  pub within : tally.settled ≤ length segments
  pub rows : tally.counts.rows + row_count_of columns (drop tally.settled segments) ≤ row_count_of columns segments
  pub again : tally.rejudged ≤ tally.settled

-- a round over segments, from the harts before them
pub record IsRoundOver {M : Type 0} (bytes_of : M → Bytes) (ram_of : M → Span) (columns : TraceColumns)
    (segments : List Segment) (start : SetState) (round : Round M) : Type 0 where
  pub is_round : IsRound start columns (map segment_lines segments) (round_of bytes_of round)
  pub within : round.settled ≤ length segments
  pub settles_one : 0 < length segments → 0 < round.settled
  pub at_most_1_again : round.rejudged ≤ 1
  pub verdict : round.verdict
      ≡ (conclusion_from by_set start (rows_of columns (flat_map segment_lines (take round.settled segments)))).verdict
  pub end : option_map (set_state_of bytes_of) round.end
      ≡ (conclusion_from by_set start (rows_of columns (flat_map segment_lines (take round.settled segments)))).end
  pub can_step : IfSome round.end (SetCanStep ram_of)

-- what the first segments come to, so many of them and one at least
pub record IsPartOver {M : Type 0} (bytes_of : M → Bytes) (ram_of : M → Span) (columns : TraceColumns)
    (segments : List Segment) (start : SetState) (part : Round M) : Type 0 where
  pub within : part.settled ≤ length segments
  pub at_least_1 : 0 < part.settled
  pub again : part.rejudged ≤ part.settled
  pub verdict : part.verdict
      ≡ (conclusion_from by_set start (rows_of columns (flat_map segment_lines (take part.settled segments)))).verdict
  pub end : option_map (set_state_of bytes_of) part.end
      ≡ (conclusion_from by_set start (rows_of columns (flat_map segment_lines (take part.settled segments)))).end
  pub can_step : IfSome part.end (SetCanStep ram_of)

-- what all of the segments come to; where their rows show what they change, none is judged again: A and D that are
-- clear are page faults then, since no row shows the entries that harts set
pub record IsSettled {M : Type 0} (bytes_of : M → Bytes) (ram_of : M → Span) (columns : TraceColumns)
    (segments : List Segment) (start : SetState) (joined : JoinedSegments M) : Type 0 where
  pub verdict : joined.verdict
      ≡ (conclusion_from by_set start (rows_of columns (flat_map segment_lines segments))).verdict
  pub end : option_map (set_state_of bytes_of) joined.end
      ≡ (conclusion_from by_set start (rows_of columns (flat_map segment_lines segments))).end
  pub can_step : IfSome joined.end (SetCanStep ram_of)
  pub again : joined.rejudged ≤ length segments
  pub once : SetNoMarks start.core → ShowChanges (rows_of columns (flat_map segment_lines segments))
      → joined.rejudged ≡ 0

-- segments were read under these columns, and have the lines of others
pub record IsReadPart (columns : Columns) (others : List Segment) (part : Vec Segment Global) : Type 0 where
  pub read : All (IsRead columns) part.items
  pub lines : map segment_lines part.items ≡ map segment_lines others

-- a round leads on from what was settled, with what all rows did in place of its own
pub record LeadsBy {M : Type 0} (origin : Bool) (bytes_of : M → Bytes) (ram_of : M → Span) (columns : TraceColumns)
    (segments : List Segment) (settling : Settling M) (next : AfterRound M) : Type 0 where
  pub round : Round M
  pub over : IsRoundOver bytes_of ram_of columns (drop settling.tally.settled segments)
      (set_state_of bytes_of settling.harts) round
  pub leads : LeadsToRound settling.tally round next
  pub history : Grows origin
      (history_from (set_state_of bytes_of settling.harts)
      (rows_of columns (flat_map segment_lines (take round.settled (drop settling.tally.settled segments)))))
      settling.tally.counts.rows settling.history round.history
