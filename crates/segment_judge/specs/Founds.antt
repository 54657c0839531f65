-- What may be found of segments, each with a guess of the state before it.
use Rattle.std.specs.Prelude.{◌≡◌, ◌<◌, ℕ, Bool, List, length, Some, slice_get}
use Rattle.hart_words.specs.declared.span.Span.{Span}
use Rattle.hart_words.specs.Memory.{Bytes}
use Rattle.rvfi_rows.specs.declared.segment.Segment.{Segment}
use Rattle.rvfi_rows.specs.Columns.{TraceColumns}
use Rattle.rvfi_rows.specs.Rows.{rows_of}
use Rattle.hart_set.specs.declared.set.HartSet.{HartSet}
use Rattle.hart_step.specs.declared.state.Core.{Core}
use Rattle.hart_step.specs.HartSets.{set_state_of}
use Rattle.row_origin.specs.Histories.{IsKept}
use Rattle.segment_judge.specs.declared.found.Found.{Found}
use Rattle.segment_judge.specs.declared.found.What.{What}
use Rattle.segment_judge.specs.declared.found.What.TheVariants.{Judged, Skipped}
use Rattle.segment_judge.specs.declared.judged.Judged.{Judged as JudgedSegment}
use Rattle.segment_judge.specs.Histories.{history_from}
use Rattle.segment_judge.specs.Judged.{IsJudgement, IsUsable}

-- the judgement of a segment from the guess before it, with its history where this is asked for
abbrev pub IsJudgedFrom : {M : Type 0} → Bool → (M → Bytes) → (M → Span) → TraceColumns → List Segment
    → List (HartSet Core M) → ℕ → JudgedSegment M → Type 0
IsJudgedFrom {M = M} origin bytes_of ram_of columns segments guesses number judged =
    (segment : Segment) (guess : HartSet Core M) → slice_get segments number ≡ Some segment
    → slice_get guesses number ≡ Some guess
    → IsJudgement bytes_of (set_state_of bytes_of guess) (rows_of columns segment.lines) judged
    × (IsUsable ram_of (ram_of guess.mem) judged
    × IsKept origin (history_from (set_state_of bytes_of guess) (rows_of columns segment.lines)) judged.history)

-- what was found is lawful: it names a segment, and a judgement is the segment's
abbrev pub IsLawfulWhat : {M : Type 0} → Bool → (M → Bytes) → (M → Span) → TraceColumns → List Segment
    → List (HartSet Core M) → ℕ → What (JudgedSegment M) → Type 0
IsLawfulWhat origin bytes_of ram_of columns segments guesses number (Judged judged) =
    IsJudgedFrom origin bytes_of ram_of columns segments guesses number judged
IsLawfulWhat origin bytes_of ram_of columns segments guesses number (Skipped least) = Unit {0}

pub record IsLawfulFound {M : Type 0} (origin : Bool) (bytes_of : M → Bytes) (ram_of : M → Span) (columns : TraceColumns)
    (segments : List Segment) (guesses : List (HartSet Core M)) (found : Found (JudgedSegment M)) : Type 0 where
  pub below : found.seg < length segments
  pub lawful : IsLawfulWhat origin bytes_of ram_of columns segments guesses found.seg found.what
