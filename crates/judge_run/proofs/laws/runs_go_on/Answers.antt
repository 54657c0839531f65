use Rattle.judge_run.proofs.Pieces.{runs_go_on}
use Rattle.judge_run.proofs.laws.runs_go_on.Goals as goal

pub returns : goal.returns
returns c = runs_go_on
