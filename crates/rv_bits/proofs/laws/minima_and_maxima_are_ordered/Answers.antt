use Rattle.rv_bits.proofs.Ordered.{signed, unsigned}
use Rattle.rv_bits.proofs.laws.minima_and_maxima_are_ordered.Goals as goal

pub returns : goal.returns
returns c = record { signed = signed; unsigned = unsigned }
