-- Segments of lines, with the harts' state before each as rows let one guess it.
use Rattle.std.specs.Prelude.{ℕ, List, All, map}
use Rattle.rvfi_rows.specs.Columns.{TraceColumns}
use Rattle.rvfi_rows.specs.Rows.{rows_of}
use Rattle.hart_step.specs.declared.state.Core.{Core}
use Rattle.hart_step.specs.Cores.{IsSound}
use Rattle.boundary_guess.specs.Pieces.{lines_of_pieces}
use Rattle.boundary_guess.specs.Guesses.{guesses_of}
use Rattle.boundary_guess.specs.Truth.{Agree, SetNoMarks, ShowChanges}
use Rattle.hart_step.specs.HartSets.{SetHoldsWords, SetState}
use Rattle.segment_judge.specs.declared.found.Found.{Found}
use Rattle.segment_judge.specs.Judgements.{Judgement}
use Rattle.verdict_join.specs.Founds.{candidates}
use Rattle.verdict_join.specs.Joins.{Candidate}

-- pieces of lines as segments, each with the guess before it and what was found of it
abbrev pub guessed_candidates : SetState → TraceColumns → List (List (List ℕ)) → List (Found (Judgement (List Core)))
    → List (Candidate (List Core))
guessed_candidates start columns pieces founds =
    candidates (map (rows_of columns) pieces) (guesses_of start columns pieces) founds

-- the harts' state before pieces of lines, whose valid rows show what they change: A and D that are clear are page
-- faults, since no row shows the entries that harts set
pub record ShowsFrom (start : SetState) (columns : TraceColumns) (pieces : List (List (List ℕ))) : Type 0 where
  pub sound : All IsSound start.core
  pub words : SetHoldsWords start
  pub faults : SetNoMarks start.core
  pub shows : ShowChanges (rows_of columns (lines_of_pieces pieces))

-- and all of whose rows agree
pub record AgreesFrom (start : SetState) (columns : TraceColumns) (pieces : List (List (List ℕ))) : Type 0 where
  pub shows : ShowsFrom start columns pieces
  pub agree : Agree start (rows_of columns (lines_of_pieces pieces))
