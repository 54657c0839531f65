use Rattle.hart_set.proofs.SetLaws.{takes_its_hart}
use Rattle.hart_set.proofs.laws.rows_are_taken_by_their_hart.Goals as goal

pub returns : goal.returns
returns g c = takes_its_hart
