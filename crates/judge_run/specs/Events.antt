-- What segments that are judged from guesses come to, whatever was guessed, and in whichever order they were judged.
use Rattle.std.specs.Prelude.{◌≡◌, ℕ, Bool, List, length, map}
use Rattle.board_core.specs.declared.event.Event.{Event}
use Rattle.rvfi_rows.specs.Columns.{TraceColumns}
use Rattle.rvfi_rows.specs.Rows.{RowReading, rows_of}
use Rattle.hart_step.specs.declared.state.Core.{Core}
use Rattle.hart_words.specs.declared.span.Span.{Span}
use Rattle.hart_words.specs.Memory.{Bytes}
use Rattle.rvfi_rows.specs.declared.segment.Segment.{Segment}
use Rattle.hart_set.specs.declared.set.HartSet.{HartSet}
use Rattle.hart_step.specs.HartSets.{SetState}
use Rattle.boundary_guess.specs.Pieces.{lines_of_pieces}
use Rattle.segment_judge.specs.declared.found.Found.{Found}
use Rattle.segment_judge.specs.Judgements.{Judgement, by_set}
use Rattle.verdict_board.specs.declared.view.View.{View}
use Rattle.verdict_join.specs.Founds.{Leaves, candidates}
use Rattle.segment_judge.specs.declared.judged.Judged.{Judged as JudgedSegment}
use Rattle.verdict_join.specs.Joins.{Sameness, joined}
use Rattle.verdict_join.specs.Laws.{HasVerdict, TellsApart}
use Rattle.segment_workers.specs.Laws.{AreEventsOf}

-- what the lines of pieces read as
abbrev pub pieces_rows : TraceColumns → List (List (List ℕ)) → List (List RowReading)
pieces_rows columns pieces = map (rows_of columns) pieces

-- lines that were cut in any way, with any guess before each piece: whatever a list of events on the board leaves found
-- of the pieces, their join has the verdict on all lines from the true state, and the state after them
abbrev pub AnyEvents : SetState → TraceColumns → List (List (List ℕ)) → List SetState → List Event
    → List (Found (Judgement (List Core))) → Type 0
AnyEvents start columns pieces guesses events founds =
    length guesses ≡ length pieces
    → Leaves by_set (pieces_rows columns pieces) guesses (length pieces) events founds
    → (same : Sameness (List Core)) → TellsApart same
    → HasVerdict by_set start (rows_of columns (lines_of_pieces pieces))
    (joined by_set same (candidates (pieces_rows columns pieces) guesses founds) start)

-- workers at a board found this of segments: it was closed by a seat with this view, and these were their events
pub record AreLeft {M : Type 0} (bytes_of : M → Bytes) (ram_of : M → Span) (columns : TraceColumns)
    (segments : List Segment) (guesses : List (HartSet Core M)) (founds : List (Found (JudgedSegment M))) : Type 0 where
  pub origin : Bool
  pub view : View
  pub events : List Event
  pub events_are : AreEventsOf bytes_of ram_of
      (record { keeps_history = origin; columns = columns; segments = segments; guesses = guesses; founds = founds; view = view }) events
