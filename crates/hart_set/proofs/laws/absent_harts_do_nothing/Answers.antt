use Rattle.hart_set.proofs.SetLaws.{absent_idle}
use Rattle.hart_set.proofs.laws.absent_harts_do_nothing.Goals as goal

pub returns : goal.returns
returns g c = absent_idle
