use Rattle.hart_set.proofs.SetLaws.{one_alone}
use Rattle.hart_set.proofs.laws.one_hart_is_the_hart.Goals as goal

pub returns : goal.returns
returns g c = one_alone
