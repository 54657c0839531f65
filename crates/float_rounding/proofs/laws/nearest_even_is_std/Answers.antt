use Rattle.float_rounding.proofs.StdRounding.{nearest_even_is_std}
use Rattle.float_rounding.proofs.laws.nearest_even_is_std.Goals as goal

pub returns : goal.returns
returns c = nearest_even_is_std
