use Rattle.float_rounding.proofs.Lawful.{neighbours}
use Rattle.float_rounding.proofs.laws.rounds_to_a_neighbour.Goals as goal

pub returns : goal.returns
returns c = neighbours
