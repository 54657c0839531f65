use Rattle.boundary_guess.proofs.TrueGuesses.{reset_holds, rows_stay}
use Rattle.boundary_guess.proofs.laws.states_hold_words.Goals as goal

pub returns-clause-reset : goal.returns-clause-reset
returns-clause-reset c = reset_holds

pub returns-clause-rows : goal.returns-clause-rows
returns-clause-rows c = rows_stay
