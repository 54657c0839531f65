-- What is found of segments is lawful, and the rows of all are those of the lines.
use Rattle.std.proofs.Common.{◌≡◌, ℕ, suc, ◌+◌, ◌==◌, Bool, true, false, List, [], ◌∷◌, ◌++◌, length, map, slice_get}
use Rattle.std.proofs.Common.{if◌then◌else◌, Option, Some, refl, sym, ap, ◌∙◌, subst, arith, All, IfSome}
use Rattle.std.specs.List.{flat_map}
use Rattle.std.proofs.lemmas.Bool.{eqb-true}
use Rattle.std.proofs.lemmas.List.Concat.{flat_map-cons}
use Rattle.std.proofs.lemmas.List.Elements.{All-cons, All-head, All-nil, All-tail, All-weaker}
use Rattle.board_core.specs.declared.event.Event.{Event}
use Rattle.hart_words.specs.States.{State}
use Rattle.rvfi_rows.specs.Columns.{TraceColumns}
use Rattle.rvfi_rows.specs.Rows.{RowReading, rows_of}
use Rattle.rvfi_rows.proofs.PortRows.{rows_append}
use Rattle.segment_judge.specs.declared.found.Found.{Found}
use Rattle.segment_judge.specs.declared.found.What.{What}
use Rattle.segment_judge.specs.declared.found.What.TheVariants.{Judged, Skipped}
use Rattle.segment_judge.specs.Judgements.{Judgement, Judging}
use Rattle.segment_judge.specs.Laws.{judgement_from}
use Rattle.hart_step.specs.HartSets.{SetState}
use Rattle.boundary_guess.specs.Pieces.{lines_of_pieces}
use Rattle.boundary_guess.specs.Guesses.{guess_after, guesses_of}
use Rattle.verdict_join.specs.Founds.{IsLeftBy, IsTheirs, Leaves, WasFoundSo, candidates_from, found_judgement}
use Rattle.verdict_join.specs.Founds.{judgement_of_segment}
use Rattle.verdict_join.specs.Joins.{Candidate}
use Rattle.verdict_join.specs.Laws.{IsLawfulCandidate, rows_through}

-- what was found of a segment is its judgement from its guess, if anything was
abbrev pub Theirs : {C : Type 0} → Judging C → List (Found (Judgement C)) → ℕ → List RowReading → State C → Type 0
Theirs judging founds number rows guess =
    IfSome (found_judgement founds number) (λ judgement. judgement ≡ judgement_from judging guess rows)

abbrev pub AreTheirs : {C : Type 0} → Judging C → ℕ → List (List RowReading) → List (State C)
    → List (Found (Judgement C)) → Type 0
AreTheirs {C = C} judging from segments guesses founds =
    (index : ℕ) (rows : List RowReading) (guess : State C) → slice_get segments index ≡ Some rows
    → slice_get guesses index ≡ Some guess → Theirs judging founds (from + index) rows guess

pub all_lawful : {C : Type 0} (judging : Judging C) (from : ℕ) (segments : List (List RowReading))
    (guesses : List (State C)) (founds : List (Found (Judgement C))) → AreTheirs judging from segments guesses founds
    → All (IsLawfulCandidate judging) (candidates_from from segments guesses founds)
unfolding candidates_from
all_lawful judging from [] guesses founds theirs = All-nil (IsLawfulCandidate judging)
all_lawful judging from (rows ∷ segments) [] founds theirs = All-nil (IsLawfulCandidate judging)
all_lawful judging from (rows ∷ segments) (guess ∷ guesses) founds theirs =
    let first : from + 0 ≡ from = omega arith in
    let one : Theirs judging founds from rows guess =
    subst (λ n. Theirs judging founds n rows guess) first (theirs 0 rows guess refl refl) in
    All-cons (IsLawfulCandidate judging) (record { rows = rows; guess = guess; found = found_judgement founds from })
    (candidates_from (from + 1) segments guesses founds) one
    (all_lawful judging (from + 1) segments guesses founds (λ index rows guess here there.
    let next : from + suc index ≡ from + 1 + index = omega arith in
    subst (λ n. Theirs judging founds n rows guess) next (theirs (suc index) rows guess here there)))

-- a judgement that was found is that of its segment
abbrev pub IsTheirFinding : {C : Type 0} → Judging C → List (List RowReading) → List (State C) → ℕ
    → What (Judgement C) → Type 0
IsTheirFinding judging segments guesses number (Judged judgement) = IsTheirs judging segments guesses number judgement
IsTheirFinding judging segments guesses number (Skipped least) = Unit {0}

abbrev pub IsFoundTheirs : {C : Type 0} → Judging C → List (List RowReading) → List (State C)
    → Found (Judgement C) → Type 0
IsFoundTheirs judging segments guesses found = IsTheirFinding judging segments guesses found.seg found.what

theirs_found : {C : Type 0} {rows : List RowReading} {guess : State C} (judging : Judging C)
    (segments : List (List RowReading)) (guesses : List (State C)) (founds : List (Found (Judgement C))) (number : ℕ)
    → All (IsFoundTheirs judging segments guesses) founds → slice_get segments number ≡ Some rows
    → slice_get guesses number ≡ Some guess → Theirs judging founds number rows guess
unfolding found_judgement
theirs_found judging segments guesses [] number theirs here there = tt
theirs_found {C = C} {rows = rows} {guess = guess} judging segments guesses (found ∷ founds) number theirs here there =
    by found.what (found.seg == number) refl (All-head (IsFoundTheirs judging segments guesses) found founds theirs)
    (theirs_found judging segments guesses founds number
    (All-tail (IsFoundTheirs judging segments guesses) found founds theirs) here there)
  where
    IsOf : Option (Judgement C) → Type 0
    IsOf one = IfSome one (λ judgement. judgement ≡ judgement_from judging guess rows)

    by : (what : What (Judgement C)) (test : Bool) → (found.seg == number) ≡ test
        → IsTheirFinding judging segments guesses found.seg what → IsOf (found_judgement founds number)
        → IsOf (judgement_of_segment number found.seg what (found_judgement founds number))
    by (Skipped least) test is mine later = later
    by (Judged judgement) true is mine later =
        let same = eqb-true found.seg number is in
        subst (λ test. IsOf (if test then Some judgement else found_judgement founds number)) (sym is)
        (mine rows guess (ap (slice_get segments) same ∙ here) (ap (slice_get guesses) same ∙ there))
    by (Judged judgement) false is mine later =
        subst (λ test. IsOf (if test then Some judgement else found_judgement founds number)) (sym is) later

pub found_lawful : {C : Type 0} (judging : Judging C) (segments : List (List RowReading)) (guesses : List (State C))
    (founds : List (Found (Judgement C))) → All (IsFoundTheirs judging segments guesses) founds
    → All (IsLawfulCandidate judging) (candidates_from 0 segments guesses founds)
found_lawful judging segments guesses founds theirs =
    all_lawful judging 0 segments guesses founds (λ index rows guess here there.
    let number : index ≡ 0 + index = omega arith in
    subst (λ n. Theirs judging founds n rows guess) number
    (theirs_found judging segments guesses founds index theirs here there))

-- what a list of events leaves is lawful
pub left_lawful : {C : Type 0} (judging : Judging C) (segments : List (List RowReading)) (guesses : List (State C))
    (n : ℕ) (events : List Event) (founds : List (Found (Judgement C)))
    → Leaves judging segments guesses n events founds
    → All (IsLawfulCandidate judging) (candidates_from 0 segments guesses founds)
left_lawful {C = C} judging segments guesses n events founds left =
    found_lawful judging segments guesses founds
    (All-weaker (IsLeftBy judging segments guesses n events) (IsFoundTheirs judging segments guesses)
    (λ found is. theirs is.worker found.seg found.what is.so) founds left)
  where
    theirs : (worker number : ℕ) (what : What (Judgement C))
        → WasFoundSo judging segments guesses n events worker number what
        → IsTheirFinding judging segments guesses number what
    theirs worker number (Judged judgement) so = so
    theirs worker number (Skipped least) so = tt

-- the rows of all candidates
abbrev all_rows : List (List RowReading) → List RowReading
all_rows segments = flat_map (λ rows. rows) segments

pub candidates_rows : {C : Type 0} (from : ℕ) (segments : List (List RowReading)) (guesses : List (State C))
    (founds : List (Found (Judgement C))) → length guesses ≡ length segments
    → rows_through (candidates_from from segments guesses founds) ≡ all_rows segments
unfolding candidates_from
candidates_rows from [] guesses founds one_each = refl
candidates_rows from (rows ∷ segments) [] founds one_each = absurd (omega (arith, one_each))
candidates_rows {C = C} from (rows ∷ segments) (guess ∷ guesses) founds one_each =
    flat_map-cons (λ (segment : Candidate C). segment.rows)
    (record { rows = rows; guess = guess; found = found_judgement founds from })
    (candidates_from (from + 1) segments guesses founds)
    ∙ ap (λ rest. rows ++ rest) (candidates_rows (from + 1) segments guesses founds (omega (arith, one_each)))
    ∙ sym (flat_map-cons (λ rows. rows) rows segments)

-- pieces read as their lines do
pub pieces_read : (columns : TraceColumns) (pieces : List (List (List ℕ)))
    → all_rows (map (rows_of columns) pieces) ≡ rows_of columns (lines_of_pieces pieces)
unfolding rows_of
pieces_read columns [] = refl
pieces_read columns (piece ∷ pieces) =
    flat_map-cons (λ rows. rows) (rows_of columns piece) (map (rows_of columns) pieces)
    ∙ ap (λ rest. rows_of columns piece ++ rest) (pieces_read columns pieces)
    ∙ sym (rows_append columns piece (lines_of_pieces pieces))
    ∙ ap (rows_of columns) (sym (flat_map-cons (λ piece. piece) piece pieces))

-- there is a guess for each segment
pub guess_for_each : (state : SetState) (columns : TraceColumns) (segments : List (List (List ℕ)))
    → length (guesses_of state columns segments) ≡ length segments
unfolding guesses_of
guess_for_each state columns [] = refl
guess_for_each state columns (lines ∷ segments) =
    ap suc (guess_for_each (guess_after state (rows_of columns lines)) columns segments)
