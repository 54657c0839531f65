use Rattle.hart_set.proofs.SetLaws.{steps_its_hart}
use Rattle.hart_set.proofs.laws.rows_step_their_hart.Goals as goal

pub returns : goal.returns
returns g c = steps_its_hart
