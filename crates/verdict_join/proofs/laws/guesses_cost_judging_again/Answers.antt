use Rattle.verdict_join.proofs.Walks.{counted, none_missed}
use Rattle.verdict_join.proofs.laws.guesses_cost_judging_again.Goals as goal

pub returns-clause-counted : goal.returns-clause-counted
returns-clause-counted g c = counted

pub returns-clause-none : goal.returns-clause-none
returns-clause-none g c = none_missed
