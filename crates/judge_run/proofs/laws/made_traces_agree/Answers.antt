use Rattle.judge_run.proofs.MadeAnswers.{made_agree}
use Rattle.judge_run.proofs.laws.made_traces_agree.Goals as goal

pub returns : goal.returns
returns c = made_agree
