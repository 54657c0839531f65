use Rattle.float_rounding.proofs.Nearest.{none_nearer}
use Rattle.float_rounding.proofs.laws.none_nearer.Goals as goal

pub returns : goal.returns
returns c = none_nearer
