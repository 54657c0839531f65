use Rattle.float_rounding.proofs.Nearest.{values_stay}
use Rattle.float_rounding.proofs.laws.values_stay.Goals as goal

pub returns : goal.returns
returns c = values_stay
