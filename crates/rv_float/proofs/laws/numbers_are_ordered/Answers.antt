use Rattle.rv_float.proofs.Lines.{numbers_are_ordered}
use Rattle.rv_float.proofs.laws.numbers_are_ordered.Goals as goal

pub returns : goal.returns
returns c = numbers_are_ordered
