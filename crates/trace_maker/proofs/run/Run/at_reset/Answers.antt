use Rattle.trace_maker.proofs.Runs.{before_first}
use Rattle.trace_maker.proofs.run.Run.at_reset.Goals as goal

pub returns-clause-before : goal.returns-clause-before
returns-clause-before c = before_first c.args.number
