use Rattle.pmp_check.proofs.Parts.{both_alike}
use Rattle.pmp_check.proofs.laws.supervisor_and_user_are_allowed_alike.Goals as goal

pub returns : goal.returns
returns c = both_alike
