use Rattle.verdict_join.proofs.Walks.{joins_any_guesses}
use Rattle.verdict_join.proofs.laws.guesses_decide_nothing.Goals as goal

pub returns : goal.returns
returns g c = joins_any_guesses
