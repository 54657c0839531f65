use Rattle.float_rounding.proofs.Order.{opposites}
use Rattle.float_rounding.proofs.laws.opposites_mirror.Goals as goal

pub returns : goal.returns
returns c = opposites
