use Rattle.judge_run.proofs.Flagless.{none_without}
use Rattle.judge_run.proofs.laws.no_origins_without_the_flag.Goals as goal

pub returns : goal.returns
returns c = none_without
