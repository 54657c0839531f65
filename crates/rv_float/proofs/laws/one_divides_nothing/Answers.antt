use Rattle.rv_float.proofs.Ones.{one_divides_nothing}
use Rattle.rv_float.proofs.laws.one_divides_nothing.Goals as goal

pub returns : goal.returns
returns c = one_divides_nothing
