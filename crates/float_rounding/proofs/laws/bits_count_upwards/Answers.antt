use Rattle.float_rounding.proofs.Steps.{units_mono}
use Rattle.float_rounding.proofs.laws.bits_count_upwards.Goals as goal

pub returns : goal.returns
returns c = units_mono
