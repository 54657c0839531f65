use Rattle.hart_step.proofs.Decisions.{decide_alike}
use Rattle.hart_step.proofs.laws.rows_decide_choices_alone.Goals as goal

pub returns : goal.returns
returns c = decide_alike
