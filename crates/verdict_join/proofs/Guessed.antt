-- Segments whose rows show what they change are judged once.
use Rattle.std.proofs.Common.{◌≡◌, ℕ, zero, suc, ◌+◌, ◌<◌, true, List, [], ◌∷◌, ◌++◌, map, slice_get, Option, Some}
use Rattle.std.proofs.Common.{None, option_map, Ok, Err, refl, sym, ap, ◌∙◌, subst, arith, All}
use Rattle.std.specs.Option.{is_some}
use Rattle.std.proofs.lemmas.List.Concat.{flat_map-cons}
use Rattle.hart_words.specs.declared.signal.Difference.{Difference}
use Rattle.hart_words.specs.Actions.{mapped}
use Rattle.hart_words.specs.Memory.{after_writes}
use Rattle.hart_words.specs.Signals.{Shown}
use Rattle.hart_words.specs.States.{State}
use Rattle.rvfi_rows.specs.Columns.{TraceColumns}
use Rattle.rvfi_rows.specs.Rows.{RowReading, rows_of}
use Rattle.rvfi_rows.proofs.PortRows.{rows_append}
use Rattle.hart_step.specs.declared.state.Core.{Core}
use Rattle.hart_step.specs.Cores.{IsSound}
use Rattle.hart_step.specs.HartSets.{SetState, set_after_row}
use Rattle.boundary_guess.specs.Pieces.{lines_of_pieces}
use Rattle.boundary_guess.specs.Guesses.{guess_after, guesses_of}
use Rattle.boundary_guess.specs.Truth.{Agree, SetNoMarks, ShowChanges, true_state_after}
use Rattle.hart_step.specs.HartSets.{SetHoldsWords}
use Rattle.boundary_guess.proofs.TrueGuesses.{rows_guessed, rows_keep, rows_stay}
use Rattle.segment_judge.specs.declared.found.Found.{Found}
use Rattle.segment_judge.specs.Judgements.{Judgement, Judging, by_set, judgement_of}
use Rattle.segment_judge.specs.Laws.{Conclusion, conclusion_from, judgement_from}
use Rattle.segment_judge.proofs.Parts.{by_different, by_invalid, by_valid}
use Rattle.verdict_join.specs.Founds.{candidates_from, found_judgement}
use Rattle.verdict_join.specs.Guessed.{ShowsFrom, guessed_candidates}
use Rattle.verdict_join.specs.Joins.{Candidate, Sameness, joined}
use Rattle.verdict_join.specs.Laws.{AllMet, AreJudgedInTurn, IsLawfulCandidate, TellsApart}
use Rattle.verdict_join.proofs.Walks.{counted, none_missed}

-- ---- rows

-- rows with a state after them agree with the harts, and it is the true one
pub record IsTrueEnd (state : SetState) (rows : List RowReading) (following : SetState) : Type 0 where
  pub agree : Agree state rows
  pub true_state : following ≡ true_state_after state rows

abbrev EndsTruly : SetState → List RowReading → Type 0
EndsTruly state rows =
    (following : SetState) → (conclusion_from by_set state rows).end ≡ Some following → IsTrueEnd state rows following

some_equal : {A : Type 0} {one other : A} → Some one ≡ Some other → one ≡ other
some_equal same = cc

valid_ends : (state : SetState) (shown : Shown) (rows : List RowReading) → EndsTruly (set_after_row state shown) rows
    → (difference : Option Difference) → ((by_set state.core shown).run state.bytes).value.difference ≡ difference
    → EndsTruly state (Ok (Some shown) ∷ rows)
unfolding by_set mapped Agree true_state_after
valid_ends state shown rows later None agrees following is =
    let more =
    later following
    (sym (ap (λ (conclusion : Conclusion (List Core)). conclusion.end) (by_valid by_set state shown rows agrees)) ∙ is)
    in
    record { agree = (agrees, more.agree); true_state = more.true_state }
valid_ends state shown rows later (Some difference) differs following is =
    let never : None ≡ Some following =
    sym
    (ap (λ (conclusion : Conclusion (List Core)). conclusion.end)
    (by_different by_set state shown rows difference differs)) ∙ is in
    cc

pub ends_truly : (rows : List RowReading) (state : SetState) → EndsTruly state rows
unfolding conclusion_from judgement_of after_writes Agree true_state_after
ends_truly [] state following is = record { agree = tt; true_state = sym (some_equal is) }
ends_truly (Err fault ∷ rows) state following is = let never : None ≡ Some following = is in cc
ends_truly (Ok None ∷ rows) state following is =
    let more =
    ends_truly rows state following
    (sym (ap (λ (conclusion : Conclusion (List Core)). conclusion.end) (by_invalid by_set state rows)) ∙ is) in
    record { agree = more.agree; true_state = more.true_state }
ends_truly (Ok (Some shown) ∷ rows) state following is =
    valid_ends state shown rows (ends_truly rows (set_after_row state shown))
    ((by_set state.core shown).run state.bytes).value.difference refl following is

-- ---- rows before others

pub show_parts : (front back : List RowReading) → ShowChanges (front ++ back) → ShowChanges front × ShowChanges back
unfolding ShowChanges
show_parts [] back show = (tt, show)
show_parts (Err fault ∷ front) back show = show_parts front back show
show_parts (Ok None ∷ front) back show = show_parts front back show
show_parts (Ok (Some shown) ∷ front) back show =
    let more = show_parts front back show.1 in
    ((show.0, more.0), more.1)

pub rows_split : (columns : TraceColumns) (lines : List (List ℕ)) (pieces : List (List (List ℕ)))
    → rows_of columns (lines_of_pieces (lines ∷ pieces)) ≡ rows_of columns lines
    ++ rows_of columns (lines_of_pieces pieces)
rows_split columns lines pieces =
    ap (rows_of columns) (flat_map-cons (λ (piece : List (List ℕ)). piece) lines pieces)
    ∙ rows_append columns lines (lines_of_pieces pieces)

-- ---- segments

some_end : {A B : Type 0} (f : A → B) (end : Option A) (following : B) → option_map f end ≡ Some following
    → is_some end ≡ true
some_end f None following is = cc
some_end f (Some a) following is = refl

judgement_agrees : (state following : SetState) (rows : List RowReading)
    → (conclusion_from by_set state rows).end ≡ Some following → is_some (judgement_from by_set state rows).end ≡ true
unfolding conclusion_from
judgement_agrees state following rows is = some_end _ (judgement_from by_set state rows).end following is

abbrev pub guessed_from : ℕ → SetState → TraceColumns → List (List (List ℕ)) → List (Found (Judgement (List Core)))
    → List (Candidate (List Core))
guessed_from from guess columns pieces founds =
    candidates_from from (map (rows_of columns) pieces) (guesses_of guess columns pieces) founds

pub all_met : (pieces : List (List (List ℕ))) (from : ℕ) (state : SetState) (columns : TraceColumns)
    (founds : List (Found (Judgement (List Core)))) → ShowsFrom state columns pieces
    → AreJudgedInTurn by_set (guessed_from from state columns pieces founds)
    → AllMet by_set (guessed_from from state columns pieces founds) state
unfolding candidates_from guesses_of AllMet AreJudgedInTurn
all_met [] from state columns founds shows judged = tt
all_met (lines ∷ pieces) from state columns founds shows judged =
    let rows = rows_of columns lines in
    let showed =
    show_parts rows (rows_of columns (lines_of_pieces pieces))
    (subst ShowChanges (rows_split columns lines pieces) shows.shows) in
    let stays = rows_stay state columns lines shows.sound shows.words in (
      (refl, judged.0),
      λ following is.
          let ends = ends_truly rows state following is in
          let guess : guess_after state rows ≡ following =
          rows_guessed state columns lines shows.sound shows.words shows.faults ends.agree showed.0
          ∙ sym ends.true_state in
          let later : AreJudgedInTurn by_set (guessed_from (from + 1) following columns pieces founds) =
          subst (λ guess. AreJudgedInTurn by_set (guessed_from (from + 1) guess columns pieces founds)) guess
          (judged.1 (judgement_agrees state following rows is)) in
          let goes_on : ShowsFrom following columns pieces = record {
            sound = subst (λ (state : SetState). All IsSound state.core) (sym ends.true_state) stays.sound;
            words = subst SetHoldsWords (sym ends.true_state) stays.words;
            faults = subst (λ (state : SetState). SetNoMarks state.core) (sym ends.true_state)
                (rows_keep rows state shows.faults);
            shows = showed.1;
          } in
          subst (λ guess. AllMet by_set (guessed_from (from + 1) guess columns pieces founds) following) (sym guess)
          (all_met pieces (from + 1) following columns founds goes_on later),
    )

pub none_rejudged : {start : SetState} {columns : TraceColumns} {pieces : List (List (List ℕ))}
    (founds : List (Found (Judgement (List Core)))) (same : Sameness (List Core)) → ShowsFrom start columns pieces
    → TellsApart same
    → All (IsLawfulCandidate by_set) (guessed_candidates start columns pieces founds)
    → AreJudgedInTurn by_set (guessed_candidates start columns pieces founds)
    → (joined by_set same (guessed_candidates start columns pieces founds) start).rejudged ≡ 0
none_rejudged {start = start} {columns = columns} {pieces = pieces} founds same shows tells lawful judged =
    let segments = guessed_candidates start columns pieces founds in
    counted by_set same segments start tells lawful
    ∙ none_missed by_set same segments start tells (all_met pieces 0 start columns founds shows judged)

-- ---- what was found by number

-- the segment of a number is judged, where none before it ends the trace
abbrev IsJudgedInTurn : {C : Type 0} → Judging C → List (List RowReading) → List (State C) → ℕ → Option (Judgement C)
    → Type 0
IsJudgedInTurn {C = C} judging segments guesses number found =
    ((earlier : ℕ) → earlier < number → (rows : List RowReading) (guess : State C)
    → slice_get segments earlier ≡ Some rows → slice_get guesses earlier ≡ Some guess
    → is_some (judgement_from judging guess rows).end ≡ true)
    → is_some found ≡ true

abbrev pub EachJudgedInTurn : {C : Type 0} → Judging C → ℕ → List (List RowReading) → List (State C)
    → List (Found (Judgement C)) → Type 0
EachJudgedInTurn {C = C} judging from segments guesses founds =
    (index : ℕ) (rows : List RowReading) (guess : State C) → slice_get segments index ≡ Some rows
    → slice_get guesses index ≡ Some guess
    → IsJudgedInTurn judging segments guesses index (found_judgement founds (from + index))

pub judged_in_turn : {C : Type 0} (judging : Judging C) (segments : List (List RowReading)) (from : ℕ)
    (guesses : List (State C)) (founds : List (Found (Judgement C)))
    → EachJudgedInTurn judging from segments guesses founds
    → AreJudgedInTurn judging (candidates_from from segments guesses founds)
unfolding candidates_from AreJudgedInTurn
judged_in_turn judging [] from guesses founds each = tt
judged_in_turn judging (rows ∷ segments) from [] founds each = tt
judged_in_turn {C = C} judging (rows ∷ segments) from (guess ∷ guesses) founds each =
    let first : from + 0 ≡ from = omega arith in (
      subst (λ n. is_some (found_judgement founds n) ≡ true) first
          (each 0 rows guess refl refl (λ earlier below. absurd (omega (arith, below)))),
      λ agrees. judged_in_turn judging segments (from + 1) guesses founds (λ index mine state here there before.
          let next : from + suc index ≡ from + 1 + index = omega arith in
          subst (λ n. is_some (found_judgement founds n) ≡ true) next
          (each (suc index) mine state here there (earlier_agree index agrees before))),
    )
  where
    earlier_agree : (index : ℕ) → is_some (judgement_from judging guess rows).end ≡ true
        → ((earlier : ℕ) → earlier < index → (mine : List RowReading) (state : State C)
        → slice_get segments earlier ≡ Some mine → slice_get guesses earlier ≡ Some state
        → is_some (judgement_from judging state mine).end ≡ true)
        → (earlier : ℕ) → earlier < suc index → (mine : List RowReading) (state : State C)
        → slice_get (rows ∷ segments) earlier ≡ Some mine → slice_get (guess ∷ guesses) earlier ≡ Some state
        → is_some (judgement_from judging state mine).end ≡ true
    earlier_agree index agrees before zero below mine state here there =
        let same : rows ≡ mine = some_equal here in
        let too : guess ≡ state = some_equal there in
        subst (λ state. is_some (judgement_from judging state mine).end ≡ true) too
        (subst (λ mine. is_some (judgement_from judging guess mine).end ≡ true) same agrees)
    earlier_agree index agrees before (suc earlier) below mine state here there =
        before earlier (omega (arith, below)) mine state here there
