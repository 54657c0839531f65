use Rattle.boundary_guess.proofs.TrueGuesses.{rows_guessed, segments_guessed}
use Rattle.boundary_guess.proofs.laws.guesses_are_true_where_rows_show_changes.Goals as goal

pub returns-clause-rows : goal.returns-clause-rows
returns-clause-rows c = rows_guessed

pub returns-clause-segments : goal.returns-clause-segments
returns-clause-segments c = segments_guessed
