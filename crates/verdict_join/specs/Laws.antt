-- What holds of every join, in the words of one who cuts a trace into segments and has others judge them.
use Rattle.std.specs.Prelude.{◌≡◌, ℕ, ◌+◌, true, List, [], ◌∷◌, All, Option, Some, None, IfSome}
use Rattle.std.specs.Option.{is_some}
use Rattle.std.specs.List.{flat_map}
use Rattle.std.specs.Bool.{Decides}
use Rattle.hart_words.specs.States.{State}
use Rattle.rvfi_rows.specs.Rows.{RowReading}
use Rattle.segment_judge.specs.Judgements.{Judgement, Judging}
use Rattle.segment_judge.specs.Laws.{conclusion_from, judgement_from}
use Rattle.verdict_join.specs.Joins.{Candidate, Joined, Sameness, adopted_judgement, joined}

-- a test of sameness tells which states are equal
abbrev pub TellsApart : {C : Type 0} → Sameness C → Type 0
TellsApart {C = C} same = (one other : C) → Decides (same one other) (one ≡ other)

-- what was found of a segment is lawful: it is its judgement from its guess
abbrev pub IsLawfulCandidate : {C : Type 0} → Judging C → Candidate C → Type 0
IsLawfulCandidate judging segment =
    IfSome segment.found (λ judgement. judgement ≡ judgement_from judging segment.guess segment.rows)

-- the rows of segments, in order
abbrev pub rows_through : {C : Type 0} → List (Candidate C) → List RowReading
rows_through segments = flat_map (λ segment. segment.rows) segments

-- a join has the verdict on all rows, and the state after them
pub record HasVerdict {C : Type 0} (judging : Judging C) (now : State C) (rows : List RowReading)
    (joined : Joined C) : Type 0 where
  pub verdict : joined.verdict ≡ (conclusion_from judging now rows).verdict
  pub end : joined.end ≡ (conclusion_from judging now rows).end

-- whatever was guessed, and whatever was found of it
abbrev pub JoinsAnyGuesses : {C : Type 0} → Judging C → Sameness C → List (Candidate C) → State C → Type 0
JoinsAnyGuesses judging same segments now =
    TellsApart same → All (IsLawfulCandidate judging) segments
    → HasVerdict judging now (rows_through segments) (joined judging same segments now)

-- 1 where a judgement is not adopted
abbrev pub miss : {C : Type 0} → Option (Judgement C) → ℕ
miss None = 1
miss (Some judgement) = 0

-- the number of segments that are reached and whose judgement is not adopted, by the true states alone
abbrev pub misses_after_end : {C : Type 0} → Option (State C) → (State C → ℕ) → ℕ
misses_after_end None next = 0
misses_after_end (Some state) next = next state

unfoldable pub misses : {C : Type 0} → Judging C → Sameness C → List (Candidate C) → State C → ℕ
misses judging same [] now = 0
misses judging same (segment ∷ segments) now =
    miss (adopted_judgement same segment now)
    + misses_after_end (conclusion_from judging now segment.rows).end
    (λ following. misses judging same segments following)

-- each segment that is reached was judged, and its guess is the true state
unfoldable pub AllMet : {C : Type 0} → Judging C → List (Candidate C) → State C → Type 0
AllMet {C = C} judging [] now = Unit {0}
AllMet {C = C} judging (segment ∷ segments) now =
    ((segment.guess ≡ now) × (is_some segment.found ≡ true))
    × ((following : State C) → (conclusion_from judging now segment.rows).end ≡ Some following
    → AllMet judging segments following)

-- each segment was judged
abbrev pub EachIsJudged : {C : Type 0} → List (Candidate C) → Type 0
EachIsJudged segments = All (λ segment. is_some segment.found ≡ true) segments

-- each segment was judged, up to the first whose rows do not agree from its guess
unfoldable pub AreJudgedInTurn : {C : Type 0} → Judging C → List (Candidate C) → Type 0
AreJudgedInTurn {C = C} judging [] = Unit {0}
AreJudgedInTurn {C = C} judging (segment ∷ segments) =
    (is_some segment.found ≡ true)
    × (is_some (judgement_from judging segment.guess segment.rows).end ≡ true → AreJudgedInTurn judging segments)
