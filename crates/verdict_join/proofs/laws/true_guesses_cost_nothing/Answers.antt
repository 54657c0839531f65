use Rattle.verdict_join.proofs.Guessed.{none_rejudged}
use Rattle.verdict_join.proofs.laws.true_guesses_cost_nothing.Goals as goal

pub returns : goal.returns
returns c = λ start columns pieces. none_rejudged {start = start} {columns = columns} {pieces = pieces}
