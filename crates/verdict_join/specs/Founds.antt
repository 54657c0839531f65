-- What was found of segments by those who judged them from guesses: lists in any order, with any segment missing.
use Rattle.std.specs.Prelude.{◌≡◌, ℕ, ◌+◌, ◌<◌, ◌==◌, if◌then◌else◌, List, [], ◌∷◌, All, Option, Some, None, slice_get}
use Rattle.board_core.specs.declared.event.Event.{Event}
use Rattle.board_core.specs.Machine.{machine_at_start, machine_after_events}
use Rattle.board_core.specs.Sound.{Drew, Looked}
use Rattle.hart_words.specs.States.{State}
use Rattle.rvfi_rows.specs.Rows.{RowReading}
use Rattle.segment_judge.specs.declared.found.Found.{Found}
use Rattle.segment_judge.specs.declared.found.What.{What}
use Rattle.segment_judge.specs.declared.found.What.TheVariants.{Judged, Skipped}
use Rattle.segment_judge.specs.Judgements.{Judgement, Judging}
use Rattle.segment_judge.specs.Laws.{judgement_from}
use Rattle.verdict_join.specs.Joins.{Candidate}

-- the judgement, if it has one of this segment, or else another
abbrev pub judgement_of_segment : {C : Type 0} → ℕ → ℕ → What (Judgement C) → Option (Judgement C)
    → Option (Judgement C)
judgement_of_segment number segment (Judged judgement) rest = if segment == number then Some judgement else rest
judgement_of_segment number segment (Skipped least) rest = rest

-- the judgement that was found of the segment of a number; one that was found twice was found the same
unfoldable pub found_judgement : {C : Type 0} → List (Found (Judgement C)) → ℕ → Option (Judgement C)
found_judgement [] number = None
found_judgement (found ∷ founds) number =
    judgement_of_segment number found.seg found.what (found_judgement founds number)

-- the segments from a number on, each with the guess before it and what was found of it
unfoldable pub candidates_from : {C : Type 0} → ℕ → List (List RowReading) → List (State C)
    → List (Found (Judgement C)) → List (Candidate C)
candidates_from number (rows ∷ segments) (guess ∷ guesses) founds =
    record { rows = rows; guess = guess; found = found_judgement founds number }
    ∷ candidates_from (number + 1) segments guesses founds
candidates_from number segments guesses founds = []

abbrev pub candidates : {C : Type 0} → List (List RowReading) → List (State C) → List (Found (Judgement C))
    → List (Candidate C)
candidates segments guesses founds = candidates_from 0 segments guesses founds

-- a judgement is lawful where it is that of the segment from the guess before it
abbrev pub IsTheirs : {C : Type 0} → Judging C → List (List RowReading) → List (State C) → ℕ → Judgement C → Type 0
IsTheirs {C = C} judging segments guesses number judgement =
    (rows : List RowReading) (guess : State C) → slice_get segments number ≡ Some rows
    → slice_get guesses number ≡ Some guess
    → judgement ≡ judgement_from judging guess rows

-- what was found of a segment by a worker that drew it, in a run of events: a judgement is lawful, and a skipped
-- segment has a higher number than a look of the worker's was answered
abbrev pub WasFoundSo : {C : Type 0} → Judging C → List (List RowReading) → List (State C) → ℕ → List Event → ℕ → ℕ
    → What (Judgement C) → Type 0
WasFoundSo judging segments guesses n events worker number (Judged judgement) =
    IsTheirs judging segments guesses number judgement
WasFoundSo judging segments guesses n events worker number (Skipped least) =
    (least < number) × Looked n events worker least

pub record IsLeftBy {C : Type 0} (judging : Judging C) (segments : List (List RowReading)) (guesses : List (State C))
    (n : ℕ) (events : List Event) (found : Found (Judgement C)) : Type 0 where
  pub below : found.seg < n
  pub worker : ℕ
  pub drew : Drew (machine_after_events (machine_at_start n) events) worker found.seg
  pub so : WasFoundSo judging segments guesses n events worker found.seg found.what

-- a list of events on a board for the segments leaves these founds
abbrev pub Leaves : {C : Type 0} → Judging C → List (List RowReading) → List (State C) → ℕ → List Event
    → List (Found (Judgement C)) → Type 0
Leaves judging segments guesses n events founds = All (IsLeftBy judging segments guesses n events) founds
