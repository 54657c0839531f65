-- Lines that are taken, segment by segment.
use Rattle.std.specs.Prelude.{◌≡◌, ◌≤◌, ◌<◌, ℕ, ◌+◌, ◌*◌, List, [], ◌++◌, length, take, Option, Some, None}
use Rattle.std.specs.List.{flat_map}
use Rattle.judge_words.specs.Job.{JobView}
use Rattle.rvfi_rows.specs.declared.segment.Segment.{Segment}
use Rattle.rvfi_rows.specs.Segments.{line_count_of, segment_lines}
use Rattle.trace_lines.specs.declared.piece.Ending.{Ending}
use Rattle.trace_lines.specs.declared.piece.Ending.TheVariants as endings
use Rattle.trace_lines.specs.declared.line_taker.LineTaker.{LineTaker}
use Rattle.trace_lines.specs.Lines.{RemainingLines}
use Rattle.trace_lines.specs.Pieces.{back_of, front_of}
use Rattle.trace_lines.specs.Takers.{remaining_lines_of, room_of}
use Rattle.judge_run.specs.declared.taken.Asked.{Asked}
use Rattle.judge_run.specs.declared.taken.Taken.{Taken}

-- how many lines so many segments have at most
abbrev pub most_lines : JobView → ℕ → ℕ
most_lines job asked = asked * job.sharing.segment

-- the lines that were taken at once
abbrev pub taken_lines : Taken → List (List ℕ)
taken_lines taken = flat_map segment_lines taken.segments.items

-- so many lines were asked for and were there, and the taker has the back
pub record TakesSoFar (file : List ℕ) (asked : ℕ) (before : LineTaker) (text : List (List ℕ))
    (after : LineTaker) : Type 0 where
  pub enough : asked ≤ length (remaining_lines_of file before).lines
  pub lines : text ≡ take asked (remaining_lines_of file before).lines
  pub left : remaining_lines_of file after ≡ back_of asked (remaining_lines_of file before)
  pub name : after.name ≡ before.name

abbrev pub TakesSoFarWhereKnown : Option (List ℕ) → ℕ → LineTaker → List (List ℕ) → LineTaker → Type 0
TakesSoFarWhereKnown None asked before lines after = Unit {0}
TakesSoFarWhereKnown (Some file) asked before lines after = TakesSoFar file asked before lines after

-- the lines with what follows are the front of what was left; where more may follow the taker has the back
pub record TakesLines (file : List ℕ) (asked : ℕ) (before : LineTaker) (text : List (List ℕ)) (ending : Ending)
    (after : LineTaker) : Type 0 where
  pub taken : record { lines = text; ending = ending } ≡ front_of asked (remaining_lines_of file before)
  pub left : ending ≡ endings.More → remaining_lines_of file after ≡ back_of asked (remaining_lines_of file before)
  pub name : after.name ≡ before.name

abbrev pub TakesLinesWhereKnown : Option (List ℕ) → ℕ → LineTaker → List (List ℕ) → Ending → LineTaker → Type 0
TakesLinesWhereKnown None asked before lines ending after = Unit {0}
TakesLinesWhereKnown (Some file) asked before lines ending after = TakesLines file asked before lines ending after

-- what is left after lines that end so: what the taker has where more may follow, else nothing
abbrev pub remaining_after : Ending → RemainingLines → RemainingLines
remaining_after endings.More left = left
remaining_after ending left = record { lines = []; ending = ending }

-- lines, and what is left after them
abbrev pub with_lines_before : List (List ℕ) → RemainingLines → RemainingLines
with_lines_before lines left = record { lines = lines ++ left.lines; ending = left.ending }

-- lines that were taken after others are, with what is left after them, what was left
pub record TakesAfter (file : List ℕ) (ending : Ending) (before : LineTaker) (text : List (List ℕ)) (now : Ending)
    (after : LineTaker) : Type 0 where
  pub left : with_lines_before text (remaining_after now (remaining_lines_of file after))
      ≡ remaining_after ending (remaining_lines_of file before)
  pub name : after.name ≡ before.name

abbrev pub TakesAfterWhereKnown : Option (List ℕ) → Ending → LineTaker → List (List ℕ) → Ending → LineTaker → Type 0
TakesAfterWhereKnown None ending before lines now after = Unit {0}
TakesAfterWhereKnown (Some file) ending before lines now after = TakesAfter file ending before lines now after

-- how many turns more the ending asks for: one, where more may follow
abbrev pub more_turns : Ending → ℕ
more_turns endings.More = 1
more_turns ending = 0

-- segments that were taken: no more than were asked for, each with a line, and some where more may follow
pub record TakesSegments (asked : Asked) (before : LineTaker) (segments : List Segment) (now : Ending)
    (after : LineTaker) : Type 0 where
  pub at_most_asked : length segments ≤ asked.segments
  pub full : length segments ≤ line_count_of segments
  pub room : line_count_of segments + room_of after ≤ room_of before
  pub ending : more_turns now ≤ more_turns asked.ending
  pub nonempty_where_more : 0 < asked.segments → more_turns now ≤ length segments
