use Rattle.trace_maker.proofs.Runs.{x1_goes_on, x3_goes_on}
use Rattle.trace_maker.proofs.laws.turns_go_on.Goals as goal

pub returns-clause-x1 : goal.returns-clause-x1
returns-clause-x1 c = x1_goes_on

pub returns-clause-x3 : goal.returns-clause-x3
returns-clause-x3 c = x3_goes_on
