use Rattle.rv_atomic.proofs.Extremes.{extremes}
use Rattle.rv_atomic.proofs.laws.minima_and_maxima.Goals as goal

pub returns : goal.returns
returns c = extremes
