use Rattle.rv_float.proofs.Ones.{one_multiplies_nothing}
use Rattle.rv_float.proofs.laws.one_multiplies_nothing.Goals as goal

pub returns : goal.returns
returns c = one_multiplies_nothing
