-- How far segments were walked, and what a segment makes of that.
use Rattle.std.specs.Prelude.{◌≡◌, ◌≤◌, ◌<◌, ℕ, ◌+◌, ◌==◌, if◌then◌else◌, List, [], ◌∷◌, length, slice_index_or, Option}
use Rattle.std.specs.Prelude.{Some, None, option_map, option_copied}
use Rattle.std.specs.Borrow.{Bor}
use Rattle.std.specs.Option.{is_none, option_or}
use Rattle.hart_words.specs.Memory.{Bytes}
use Rattle.rvfi_rows.specs.declared.verdict.Verdict.{Verdict}
use Rattle.rvfi_rows.specs.declared.verdict.Verdict.TheVariants.{Agrees, Differs, Refused}
use Rattle.rvfi_rows.specs.Rows.{RowReading}
use Rattle.hart_step.specs.declared.state.Core.{Core}
use Rattle.hart_step.specs.HartSets.{SetState, set_state_of}
use Rattle.segment_judge.specs.declared.found.Found.{Found}
use Rattle.segment_judge.specs.declared.found.What.{What}
use Rattle.segment_judge.specs.declared.found.What.TheVariants.{Judged, Skipped}
use Rattle.segment_judge.specs.declared.judged.Judged.{Judged as JudgedSegment}
use Rattle.segment_judge.specs.Judged.{moved_end}
use Rattle.segment_judge.specs.Judgements.{by_set, verdict_after_rows}
use Rattle.segment_judge.specs.Laws.{conclusion_from, judgement_from}
use Rattle.verdict_join.specs.declared.walk.Walk.{Walk}
use Rattle.verdict_join.specs.Joins.{Joined, Sameness, adopted_judgement_from}
use Rattle.verdict_join.specs.Laws.{miss}

-- what was found is that the segment of the number was judged so
abbrev pub judged_segment_by : {M : Type 0} → ℕ → ℕ → What (JudgedSegment M) → Option (JudgedSegment M)
judged_segment_by number segment (Judged judged) = if segment == number then Some judged else None
judged_segment_by number segment (Skipped least) = None

-- how the segment of a number was judged, by what was found last of it
unfoldable pub judged_segment_in : {M : Type 0} → List (Found (JudgedSegment M)) → ℕ → Option (JudgedSegment M)
judged_segment_in [] number = None
judged_segment_in (found ∷ founds) number =
    option_or (judged_segment_in founds number) (judged_segment_by number found.seg found.what)

-- rows come to what a segment was judged to, from a state whose memory takes the bytes that were written
pub record Concludes {M : Type 0} (bytes_of : M → Bytes) (now : SetState) (rows : List RowReading)
    (judged : JudgedSegment M) : Type 0 where
  pub verdict : (conclusion_from by_set now rows).verdict ≡ judged.verdict
  pub end : (conclusion_from by_set now rows).end ≡ moved_end bytes_of judged now.bytes

-- a state that was reached after rows, where any is
abbrev pub IsReached : Option SetState → SetState → Type 0
IsReached None now = Unit {0}
IsReached (Some state) now = now ≡ state

-- a verdict is counted: the rows of one that agrees are added to those that were walked, any other ends the walk
abbrev pub CountsOn : {M : Type 0} → Walk M → Walk M → Verdict → Option Verdict → Type 0
CountsOn before now (Agrees rows valid) end =
    (end ≡ None)
    × ((now.counts.rows ≡ before.counts.rows + rows) × (now.counts.valid ≡ before.counts.valid + valid))
CountsOn before now (Differs row difference) end = end ≡ Some (Differs (before.counts.rows + row) difference)
CountsOn before now (Refused row fault) end = end ≡ Some (Refused (before.counts.rows + row) fault)

-- and after the rows is the true state, or none
abbrev pub LeadsToState : {M : Type 0} → (M → Bytes) → Walk M → Option SetState → Option Verdict → Type 0
LeadsToState bytes_of now end None = end ≡ Some (set_state_of bytes_of now.harts)
LeadsToState bytes_of now end (Some verdict) = end ≡ None

-- the walk passes rows: it goes on after them from the state that is true there, or ends with their verdict
pub record PassesRows {M : Type 0} (bytes_of : M → Bytes) (before now : Walk M) (rows : List RowReading)
    (end : Option Verdict) : Type 0 where
  pub counts : CountsOn before now (conclusion_from by_set (set_state_of bytes_of before.harts) rows).verdict end
  pub leads : LeadsToState bytes_of now (conclusion_from by_set (set_state_of bytes_of before.harts) rows).end end

-- a verdict counts no more rows than there are, nor more valid ones
abbrev pub IsWithinRows : ℕ → Verdict → Type 0
IsWithinRows count (Agrees rows valid) = (rows ≤ count) × (valid ≤ rows)
IsWithinRows count (Differs row difference) = row ≤ count
IsWithinRows count (Refused row fault) = row ≤ count

-- a segment's judgement from its guess is missed just where none is adopted
abbrev pub IsMissedAs : {M : Type 0} → Sameness (List Core) → SetState → SetState → List RowReading
    → Option (Bor (JudgedSegment M)) → Option (Bor (JudgedSegment M)) → Type 0
IsMissedAs same guess now rows judged adopted =
    miss (adopted_judgement_from same guess now (option_map (λ found. judgement_from by_set guess rows) judged))
    ≡ (if is_none adopted then 1 else 0)

-- how each segment was judged stands under its number
pub record ArePlaced {M : Type 0} (count : ℕ) (founds : List (Found (JudgedSegment M)))
    (places : List (Option (Bor (JudgedSegment M)))) : Type 0 where
  pub all : length places ≡ count
  pub each : (number : ℕ) → number < count
      → option_copied (slice_index_or places number None) ≡ judged_segment_in founds number

-- the rest of a join or of a round, after so many segments that were walked
pub record IsRest {M : Type 0} (walk : Walk M) (walked : ℕ) (rest whole : Joined (List Core)) : Type 0 where
  pub verdict : verdict_after_rows walk.counts.rows walk.counts.valid rest.verdict ≡ whole.verdict
  pub end : rest.end ≡ whole.end
  pub settled : walked + rest.settled ≡ whole.settled
  pub rejudged : walk.rejudged + rest.rejudged ≡ whole.rejudged
