use Rattle.float_rounding.proofs.Nearest.{none_between}
use Rattle.float_rounding.proofs.laws.none_between.Goals as goal

pub returns : goal.returns
returns c = none_between
