-- Rounds: a walk ends after the first segment that it had to judge again, and what is left of the segments is guessed
-- anew from the true state there.
use Rattle.std.specs.Prelude.{◌≡◌, ℕ, ◌+◌, ◌<◌, ◌≤◌, ◌⊎◌, true, List, [], ◌∷◌, drop, length, map, take, Option, Some}
use Rattle.std.specs.Prelude.{None}
use Rattle.board_core.specs.declared.event.Event.{Event}
use Rattle.hart_words.specs.States.{State}
use Rattle.rvfi_rows.specs.declared.verdict.Verdict.TheVariants.{Agrees}
use Rattle.rvfi_rows.specs.Columns.{TraceColumns}
use Rattle.rvfi_rows.specs.Rows.{rows_of}
use Rattle.hart_step.specs.declared.state.Core.{Core}
use Rattle.hart_step.specs.HartSets.{SetState}
use Rattle.boundary_guess.specs.Pieces.{lines_of_pieces}
use Rattle.boundary_guess.specs.Guesses.{guesses_of}
use Rattle.segment_judge.specs.declared.found.Found.{Found}
use Rattle.segment_judge.specs.Judgements.{Judgement, Judging, by_set}
use Rattle.segment_judge.specs.Laws.{Conclusion, conclusion_from, conclusion_then}
use Rattle.verdict_join.specs.Founds.{Leaves}
use Rattle.verdict_join.specs.Guessed.{guessed_candidates}
use Rattle.verdict_join.specs.Joins.{Candidate, Joined, Sameness, walk}
use Rattle.verdict_join.specs.Laws.{AreJudgedInTurn, HasVerdict, TellsApart, rows_through}

-- a walk that ends after the first segment it judged itself settles one at least, with the verdict on their rows; where
-- it judged none itself, none is left, or they do not agree
pub record SettlesSome {C : Type 0} (judging : Judging C) (segments : List (Candidate C)) (now : State C)
    (round : Joined C) : Type 0 where
  pub at_least_one : 0 < length segments → 0 < round.settled
  pub within : round.settled ≤ length segments
  pub has_verdict : HasVerdict judging now (rows_through (take round.settled segments)) round
  pub again : (round.rejudged ≡ 1) ⊎ ((round.rejudged ≡ 0) × ((round.end ≡ None) ⊎ (round.settled ≡ length segments)))

-- pieces of lines are guessed from a state; whatever some list of events on a board for them leaves found, each judged
-- in turn, is walked so from that state, whichever test tells states apart
pub record IsRound (start : SetState) (columns : TraceColumns) (pieces : List (List (List ℕ)))
    (round : Joined (List Core)) : Type 0 where
  pub events : List Event
  pub founds : List (Found (Judgement (List Core)))
  pub left : Leaves by_set (map (rows_of columns) pieces) (guesses_of start columns pieces) (length pieces) events
      founds
  pub judged : AreJudgedInTurn by_set (guessed_candidates start columns pieces founds)
  pub walked : (same : Sameness (List Core)) → TellsApart same
      → round ≡ walk by_set same true (guessed_candidates start columns pieces founds) start

-- after a round comes another, from the state after it, as long as there is one and any piece is left
abbrev pub GoOn : Option SetState → List (Joined (List Core)) → (SetState → Type 0) → Type 0
GoOn None rounds Next = rounds ≡ []
GoOn (Some following) rounds Next = Next following

unfoldable pub AreRounds : SetState → TraceColumns → List (List (List ℕ)) → List (Joined (List Core)) → Type 0
AreRounds start columns pieces [] = pieces ≡ []
AreRounds start columns pieces (round ∷ rounds) =
    (0 < length pieces) × (IsRound start columns pieces round
    × GoOn round.end rounds (λ following. AreRounds following columns (drop round.settled pieces) rounds))

-- what rounds come to together, and how many segments they judged again
unfoldable pub rounds_conclude : SetState → List (Joined (List Core)) → Conclusion (List Core)
rounds_conclude start [] = record { verdict = Agrees 0 0; end = Some start }
rounds_conclude start (round ∷ rounds) =
    conclusion_then (record { verdict = round.verdict; end = round.end })
    (λ following. rounds_conclude following rounds)

unfoldable pub rejudged_in : List (Joined (List Core)) → ℕ
rejudged_in [] = 0
rejudged_in (round ∷ rounds) = round.rejudged + rejudged_in rounds

-- rounds come to the verdict on all lines and the state after them, and are no more than there are pieces; in each but
-- the last, and perhaps in that, one segment is judged again
pub record SettleAll (start : SetState) (columns : TraceColumns) (pieces : List (List (List ℕ)))
    (rounds : List (Joined (List Core))) : Type 0 where
  pub conclude : rounds_conclude start rounds ≡ conclusion_from by_set start (rows_of columns (lines_of_pieces pieces))
  pub at_most_pieces : length rounds ≤ length pieces
  pub at_least_one : 0 < length pieces → 0 < length rounds
  pub count : (length rounds ≡ rejudged_in rounds) ⊎ (length rounds ≡ rejudged_in rounds + 1)
