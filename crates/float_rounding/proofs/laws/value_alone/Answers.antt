use Rattle.float_rounding.proofs.Rounds.{same_value}
use Rattle.float_rounding.proofs.laws.value_alone.Goals as goal

pub returns : goal.returns
returns c = same_value
