-- What the join in code gives, beside the join of the definitions.
use Rattle.std.specs.Prelude.{◌≡◌, true, List, map, Option, Some, option_map, slice_get}
use Rattle.hart_words.specs.Memory.{Bytes}
use Rattle.rvfi_rows.specs.declared.segment.Segment.{Segment}
use Rattle.rvfi_rows.specs.Columns.{TraceColumns}
use Rattle.rvfi_rows.specs.Rows.{RowReading, rows_of}
use Rattle.hart_set.specs.declared.set.HartSet.{HartSet}
use Rattle.hart_step.specs.declared.state.Core.{Core}
use Rattle.hart_step.specs.HartSets.{SetState, set_state_of}
use Rattle.segment_judge.specs.declared.found.Found.{Found}
use Rattle.segment_judge.specs.declared.found.What.{What}
use Rattle.segment_judge.specs.declared.found.What.TheVariants.{Judged, Skipped}
use Rattle.segment_judge.specs.declared.judged.Judged.{Judged as JudgedSegment}
use Rattle.segment_judge.specs.Judgements.{Judgement, by_set}
use Rattle.segment_judge.specs.Laws.{judgement_from}
use Rattle.verdict_join.specs.declared.joined.Round.{Round}
use Rattle.verdict_join.specs.Joins.{Candidate, Joined, Sameness, walk}
use Rattle.verdict_join.specs.Laws.{TellsApart}
use Rattle.verdict_join.specs.Founds.{candidates}

-- what the lines of a segment read as
abbrev pub rows_of_segment : TraceColumns → Segment → List RowReading
rows_of_segment columns segment = rows_of columns segment.lines

-- a judgement that was made, as the definitions have one: its verdict and its end are as they were found. Of what the
-- rows touched the code keeps a footprint and no list, so the list is that of the rows from the guess
abbrev pub judgement_as_judged : {M : Type 0} → List RowReading → SetState → JudgedSegment M → Judgement (List Core)
judgement_as_judged rows guess judged = record {
  verdict = judged.verdict;
  end = option_map (λ set. set.cores.items) judged.end;
  accesses = (judgement_from by_set guess rows).accesses;
}

-- what was found of a segment, as the definitions have it, where there is such a segment
abbrev pub finding : {M : Type 0} → Option (List RowReading) → Option SetState → What (JudgedSegment M)
    → What (Judgement (List Core))
finding rows guess (Skipped least) = Skipped least
finding (Some rows) (Some guess) (Judged judged) = Judged (judgement_as_judged rows guess judged)
finding rows guess (Judged judged) = Skipped 0

abbrev pub found_of : {M : Type 0} → List (List RowReading) → List SetState → Found (JudgedSegment M)
    → Found (Judgement (List Core))
found_of segments guesses found = record {
  seg = found.seg;
  what = finding (slice_get segments found.seg) (slice_get guesses found.seg) found.what;
}

-- the segments, the guesses before them and what was found, as the definitions have them
abbrev pub candidates_of : {M : Type 0} → (M → Bytes) → TraceColumns → List Segment → List (HartSet Core M)
    → List (Found (JudgedSegment M)) → List (Candidate (List Core))
candidates_of bytes_of columns segments guesses founds =
    let rows : List (List RowReading) = map (rows_of_segment columns) segments in
    let states : List SetState = map (set_state_of bytes_of) guesses in
    candidates rows states (map (found_of rows states) founds)

-- a round, as the definitions have it
abbrev pub round_of : {M : Type 0} → (M → Bytes) → Round M → Joined (List Core)
round_of bytes_of round = record {
  verdict = round.verdict;
  end = option_map (set_state_of bytes_of) round.end;
  settled = round.settled;
  rejudged = round.rejudged;
}

-- the walk of the definitions up to the first segment that has to be judged again, whichever test tells states apart
abbrev pub WalksThem : {M : Type 0} → (M → Bytes) → List (Candidate (List Core)) → SetState → Round M → Type 0
WalksThem bytes_of segments start result =
    (same : Sameness (List Core)) → TellsApart same → round_of bytes_of result ≡ walk by_set same true segments start
