-- Rows that agree, as guesses see them, and the verdict on them.
use Rattle.std.specs.Prelude.{◌≡◌, ℕ, ◌+◌, List, [], ◌∷◌, length, Some, None, Ok, Err}
use Rattle.rvfi_rows.specs.declared.verdict.Verdict.TheVariants.{Agrees}
use Rattle.rvfi_rows.specs.Rows.{RowReading}
use Rattle.hart_step.specs.declared.state.Core.{Core}
use Rattle.hart_step.specs.HartSets.{SetState}
use Rattle.boundary_guess.specs.Truth.{Agree, true_state_after}
use Rattle.segment_judge.specs.Judgements.{by_set}
use Rattle.segment_judge.specs.Laws.{Conclusion, conclusion_from}

-- how many of the rows are valid
unfoldable pub valid_count_of : List RowReading → ℕ
valid_count_of [] = 0
valid_count_of (Err fault ∷ rows) = valid_count_of rows
valid_count_of (Ok None ∷ rows) = valid_count_of rows
valid_count_of (Ok (Some shown) ∷ rows) = 1 + valid_count_of rows

-- the conclusion that all rows agree, after which the harts are in the state after them
abbrev pub all_agree : SetState → List RowReading → Conclusion (List Core)
all_agree start rows = record {
  verdict = Agrees (length rows) (valid_count_of rows);
  end = Some (true_state_after start rows);
}

-- rows agree from a state exactly where the verdict on them says so, which then counts all of them
pub record AgreeAsJudged (start : SetState) (rows : List RowReading) : Type 0 where
  pub conclusion : Agree start rows → conclusion_from by_set start rows ≡ all_agree start rows
  pub agree : (count valid : ℕ) → (conclusion_from by_set start rows).verdict ≡ Agrees count valid → Agree start rows
