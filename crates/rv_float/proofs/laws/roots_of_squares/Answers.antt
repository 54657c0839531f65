use Rattle.rv_float.proofs.Ones.{roots_of_squares}
use Rattle.rv_float.proofs.laws.roots_of_squares.Goals as goal

pub returns : goal.returns
returns c = roots_of_squares
