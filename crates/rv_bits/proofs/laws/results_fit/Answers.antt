use Rattle.rv_bits.proofs.Fits.{results_fit}
use Rattle.rv_bits.proofs.laws.results_fit.Goals as goal

pub returns : goal.returns
returns c = results_fit
