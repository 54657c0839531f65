-- Rows agree just where the verdict on them says so.
use Rattle.std.proofs.Common.{◌≡◌, ℕ, ◌+◌, true, List, [], ◌∷◌, length, Option, Some, None, Ok, Err, refl, sym, ap, ◌∙◌}
use Rattle.std.proofs.Common.{subst, arith}
use Rattle.std.specs.Option.{is_some}
use Rattle.std.proofs.lemmas.List.Elements.{All-cons, All-nil}
use Rattle.hart_words.specs.declared.signal.Difference.{Difference}
use Rattle.hart_words.specs.Actions.{mapped}
use Rattle.hart_words.specs.Memory.{after_writes}
use Rattle.hart_words.specs.Signals.{Shown}
use Rattle.rvfi_rows.specs.declared.verdict.Verdict.{Verdict}
use Rattle.rvfi_rows.specs.declared.verdict.Verdict.TheVariants.{Agrees, Differs, Refused}
use Rattle.rvfi_rows.specs.Columns.{TraceColumns}
use Rattle.rvfi_rows.specs.Rows.{RowReading, rows_of}
use Rattle.hart_step.specs.declared.state.Core.{Core}
use Rattle.hart_step.specs.HartSets.{SetState, set_after_row}
use Rattle.boundary_guess.specs.Pieces.{lines_of_pieces}
use Rattle.boundary_guess.specs.Guesses.{guess_after, guesses_of}
use Rattle.boundary_guess.specs.Truth.{Agree, true_state_after}
use Rattle.boundary_guess.proofs.TrueGuesses.{agree_parts}
use Rattle.segment_judge.specs.declared.found.Found.{Found}
use Rattle.segment_judge.specs.Judgements.{Judgement, by_set, verdict_after_rows, judgement_of}
use Rattle.segment_judge.specs.Laws.{Conclusion, conclusion_from}
use Rattle.segment_judge.proofs.Parts.{by_different, by_invalid, by_valid}
use Rattle.verdict_join.specs.Agreement.{AgreeAsJudged, all_agree, valid_count_of}
use Rattle.verdict_join.specs.Guessed.{AgreesFrom, guessed_candidates}
use Rattle.verdict_join.specs.Founds.{candidates_from}
use Rattle.verdict_join.specs.Joins.{Candidate}
use Rattle.verdict_join.specs.Laws.{AllMet, AreJudgedInTurn, EachIsJudged}
use Rattle.verdict_join.proofs.Guessed.{all_met, guessed_from, rows_split}

-- ---- the verdict on rows that agree

-- a conclusion after so many rows
abbrev after_rows : ℕ → ℕ → Conclusion (List Core) → Conclusion (List Core)
after_rows rows valid rest = record { verdict = verdict_after_rows rows valid rest.verdict; end = rest.end }

abbrev agreement : ℕ → ℕ → Option SetState → Conclusion (List Core)
agreement rows valid end = record { verdict = Agrees rows valid; end = end }

agrees_equal : (rows count valid number : ℕ) (end : Option SetState) → rows ≡ count → valid ≡ number
    → agreement rows valid end ≡ agreement count number end
agrees_equal rows count valid number end same too = rw (same, too) refl

valid_concludes : (start : SetState) (shown : Shown) (rows : List RowReading)
    → (conclusion_from by_set (set_after_row start shown) rows ≡ all_agree (set_after_row start shown) rows)
    → ((by_set start.core shown).run start.bytes).value.difference ≡ None
    → conclusion_from by_set start (Ok (Some shown) ∷ rows) ≡ all_agree start (Ok (Some shown) ∷ rows)
unfolding by_set mapped true_state_after valid_count_of
valid_concludes start shown rows later agrees =
    by_valid by_set start shown rows agrees
    ∙ ap (after_rows 1 1) later
    ∙ agrees_equal (1 + length rows) (length (Ok (Some shown) ∷ rows)) (1 + valid_count_of rows)
    (1 + valid_count_of rows) (Some (true_state_after (set_after_row start shown) rows)) (omega arith) refl

pub concludes : (rows : List RowReading) (start : SetState) → Agree start rows
    → conclusion_from by_set start rows ≡ all_agree start rows
unfolding conclusion_from judgement_of after_writes by_set mapped Agree true_state_after valid_count_of
concludes [] start agree = refl
concludes (Err fault ∷ rows) start agree = absurd agree
concludes (Ok None ∷ rows) start agree =
    by_invalid by_set start rows
    ∙ ap (after_rows 1 0) (concludes rows start agree)
    ∙ agrees_equal (1 + length rows) (length (Ok None ∷ rows)) (0 + valid_count_of rows) (valid_count_of rows)
    (Some (true_state_after start rows)) (omega arith) (omega arith)
concludes (Ok (Some shown) ∷ rows) start agree =
    valid_concludes start shown rows (concludes rows (set_after_row start shown) agree.1) agree.0

-- ---- rows on which the verdict is that they agree

-- what is counted on agrees where the rest does
pub record IsAgreement (verdict : Verdict) : Type 0 where
  pub count : ℕ
  pub valid : ℕ
  pub agrees : verdict ≡ Agrees count valid

rest_agrees : (rows more count valid : ℕ) (verdict : Verdict)
    → verdict_after_rows rows more verdict ≡ Agrees count valid
    → IsAgreement verdict
rest_agrees rows more count valid (Agrees n m) is = record { count = n; valid = m; agrees = refl }
rest_agrees rows more count valid (Differs row difference) is = cc
rest_agrees rows more count valid (Refused row fault) is = cc

valid_agrees : {count valid : ℕ} (start : SetState) (shown : Shown) (rows : List RowReading)
    → ((count valid : ℕ) → (conclusion_from by_set (set_after_row start shown) rows).verdict ≡ Agrees count valid
    → Agree (set_after_row start shown) rows)
    → (difference : Option Difference) → ((by_set start.core shown).run start.bytes).value.difference ≡ difference
    → (conclusion_from by_set start (Ok (Some shown) ∷ rows)).verdict ≡ Agrees count valid
    → Agree start (Ok (Some shown) ∷ rows)
unfolding by_set mapped Agree
valid_agrees {count = count} {valid = valid} start shown rows later None agrees is =
    let rest = rest_agrees 1 1 count valid (conclusion_from by_set (set_after_row start shown) rows).verdict
    (sym (ap (λ (conclusion : Conclusion (List Core)). conclusion.verdict) (by_valid by_set start shown rows agrees))
    ∙ is) in
    (agrees, later rest.count rest.valid rest.agrees)
valid_agrees {count = count} {valid = valid} start shown rows later (Some difference) differs is =
    let never : Differs 1 difference ≡ Agrees count valid = sym
    (ap (λ (conclusion : Conclusion (List Core)). conclusion.verdict)
    (by_different by_set start shown rows difference differs)) ∙ is in
    cc

pub agrees_if_judged : (rows : List RowReading) (start : SetState) (count valid : ℕ)
    → (conclusion_from by_set start rows).verdict ≡ Agrees count valid → Agree start rows
unfolding conclusion_from judgement_of Agree
agrees_if_judged [] start count valid is = tt
agrees_if_judged (Err fault ∷ rows) start count valid is = let never : Refused 1 fault ≡ Agrees count valid = is in cc
agrees_if_judged (Ok None ∷ rows) start count valid is =
    let rest = rest_agrees 1 0 count valid (conclusion_from by_set start rows).verdict
    (sym (ap (λ (conclusion : Conclusion (List Core)). conclusion.verdict) (by_invalid by_set start rows)) ∙ is) in
    agrees_if_judged rows start rest.count rest.valid rest.agrees
agrees_if_judged (Ok (Some shown) ∷ rows) start count valid is =
    valid_agrees start shown rows (agrees_if_judged rows (set_after_row start shown))
    ((by_set start.core shown).run start.bytes).value.difference refl is

pub agree_as_judged : (start : SetState) (rows : List RowReading) → AgreeAsJudged start rows
agree_as_judged start rows = record { conclusion = concludes rows start; agree = agrees_if_judged rows start }

-- ---- segments of rows that agree

each_judged : (pieces : List (List (List ℕ))) (from : ℕ) (guess state : SetState) (columns : TraceColumns)
    (founds : List (Found (Judgement (List Core))))
    → Agree state (rows_of columns (lines_of_pieces pieces))
    → AllMet by_set (guessed_from from guess columns pieces founds) state
    → EachIsJudged (guessed_from from guess columns pieces founds)
unfolding candidates_from guesses_of AllMet
each_judged [] from guess state columns founds agree met =
    All-nil (λ (segment : Candidate (List Core)). is_some segment.found ≡ true)
each_judged (lines ∷ pieces) from guess state columns founds agree met =
    let rows = rows_of columns lines in
    let agreed = agree_parts rows (rows_of columns (lines_of_pieces pieces)) state
    (subst (Agree state) (rows_split columns lines pieces) agree) in
    let following = true_state_after state rows in
    let end = ap (λ (conclusion : Conclusion (List Core)). conclusion.end) (concludes rows state agreed.0) in
    All-cons (λ (segment : Candidate (List Core)). is_some segment.found ≡ true) _ _ met.0.1
    (each_judged pieces (from + 1) (guess_after guess rows) following columns founds agreed.1 (met.1 following end))

pub agreeing_are_judged : (start : SetState) (columns : TraceColumns) (pieces : List (List (List ℕ)))
    (founds : List (Found (Judgement (List Core))))
    → AgreesFrom start columns pieces → AreJudgedInTurn by_set (guessed_candidates start columns pieces founds)
    → EachIsJudged (guessed_candidates start columns pieces founds)
agreeing_are_judged start columns pieces founds agrees judged =
    each_judged pieces 0 start start columns founds agrees.agree
    (all_met pieces 0 start columns founds agrees.shows judged)
