-- One segment more of a join.
use Rattle.std.proofs.Common.{◌≡◌, ℕ, zero, suc, ◌+◌, ◌≤◌, List, [], ◌∷◌, length, drop}
use Rattle.std.proofs.Common.{slice_get, Option, Some, None, option_map, refl, sym, ap, ◌∙◌, subst}
use Rattle.std.proofs.Common.{arith}
use Rattle.hart_words.specs.States.{State}
use Rattle.rvfi_rows.specs.Rows.{RowReading}
use Rattle.hart_step.specs.declared.state.Core.{Core}
use Rattle.hart_step.specs.HartSets.{SetState}
use Rattle.segment_judge.specs.declared.found.Found.{Found}
use Rattle.segment_judge.specs.Judgements.{Judgement, by_set}
use Rattle.segment_judge.specs.Laws.{judgement_from}
use Rattle.verdict_join.specs.Founds.{candidates_from, found_judgement}
use Rattle.verdict_join.specs.Laws.{IsLawfulCandidate}

-- the candidate of a number
pub candidate_at : {C : Type 0} {rows : List RowReading} {guess : State C} (from index : ℕ)
    (segments : List (List RowReading)) (guesses : List (State C)) (founds : List (Found (Judgement C)))
    → slice_get segments index ≡ Some rows → slice_get guesses index ≡ Some guess
    → drop index (candidates_from from segments guesses founds)
    ≡ record { rows = rows; guess = guess; found = found_judgement founds (from + index) }
    ∷ drop (suc index) (candidates_from from segments guesses founds)
unfolding candidates_from
candidate_at from index [] guesses founds here there = cc
candidate_at from zero (segment ∷ segments) [] founds here there = cc
candidate_at from (suc index) (segment ∷ segments) [] founds here there = cc
candidate_at {rows = rows} {guess = guess} from zero (segment ∷ segments) (other ∷ guesses) founds here there =
    let same : segment ≡ rows = cc in
    let too : other ≡ guess = cc in
    let first : from + 0 ≡ from = omega arith in
    rw (same, too, first) refl
candidate_at {rows = rows} {guess = guess} from (suc index) (segment ∷ segments) (other ∷ guesses) founds here there =
    let number : from + 1 + index ≡ from + suc index = omega arith in
    candidate_at (from + 1) index segments guesses founds here there
    ∙ ap (λ n. record { rows = rows; guess = guess; found = found_judgement founds n }
    ∷ drop (suc index) (candidates_from (from + 1) segments guesses founds)) number

-- there is none past the segments
pub candidates_end : {C : Type 0} (from index : ℕ) (segments : List (List RowReading)) (guesses : List (State C))
    (founds : List (Found (Judgement C))) → length segments ≤ index
    → drop index (candidates_from from segments guesses founds) ≡ []
unfolding candidates_from
candidates_end from zero [] guesses founds past = refl
candidates_end from (suc index) [] guesses founds past = refl
candidates_end from zero (segment ∷ segments) guesses founds past = absurd (omega (arith, past))
candidates_end from (suc index) (segment ∷ segments) [] founds past = refl
candidates_end from (suc index) (segment ∷ segments) (guess ∷ guesses) founds past =
    candidates_end (from + 1) index segments guesses founds (omega (arith, past))

-- a candidate with such a judgement is lawful
pub candidate_lawful : (rows : List RowReading) (guess : SetState) (found : Option (Judgement (List Core)))
    → {A : Type 0} (x : Option A) → found ≡ option_map (λ any. judgement_from by_set guess rows) x
    → IsLawfulCandidate by_set (record { rows = rows; guess = guess; found = found })
candidate_lawful rows guess found None is =
    subst (λ found. IsLawfulCandidate by_set (record { rows = rows; guess = guess; found = found })) (sym is) tt
candidate_lawful rows guess found (Some a) is =
    subst (λ found. IsLawfulCandidate by_set (record { rows = rows; guess = guess; found = found })) (sym is) refl
