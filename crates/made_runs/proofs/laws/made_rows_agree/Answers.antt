use Rattle.made_runs.proofs.Judged.{made_agree}
use Rattle.made_runs.proofs.laws.made_rows_agree.Goals as goal

pub returns : goal.returns
returns c = made_agree
