use Rattle.rv_float.proofs.Ones.{minus_zero_adds_nothing}
use Rattle.rv_float.proofs.laws.minus_zero_adds_nothing.Goals as goal

pub returns : goal.returns
returns c = minus_zero_adds_nothing
