use Rattle.float_rounding.proofs.Tininess.{enough}
use Rattle.float_rounding.proofs.laws.one_binade_is_enough.Goals as goal

pub returns : goal.returns
returns c = enough
