use Rattle.rv_bits.proofs.Reversed.{undo}
use Rattle.rv_bits.proofs.laws.reversals_undo.Goals as goal

pub returns : goal.returns
returns c = undo
