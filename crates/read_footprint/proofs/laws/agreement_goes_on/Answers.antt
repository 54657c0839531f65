use Rattle.read_footprint.proofs.Agreement.{goes_on}
use Rattle.read_footprint.proofs.laws.agreement_goes_on.Goals as goal

pub returns : goal.returns
returns c = goes_on
