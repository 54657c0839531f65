use Rattle.rv_float.proofs.Squares.{roots_round_by_squares}
use Rattle.rv_float.proofs.laws.roots_round_by_squares.Goals as goal

pub returns : goal.returns
returns c = roots_round_by_squares
