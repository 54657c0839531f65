use Rattle.hart_step.proofs.Alike.{steps_alike, rows_alike}
use Rattle.hart_step.proofs.protection_laws.refused_bytes_decide_nothing.Goals as goal

pub returns-clause-step : goal.returns-clause-step
returns-clause-step c = steps_alike

pub returns-clause-rows : goal.returns-clause-rows
returns-clause-rows c = rows_alike
