use Rattle.pmp_check.proofs.Granting.{just_granted}
use Rattle.pmp_check.proofs.laws.just_what_is_permitted_is_allowed.Goals as goal

pub returns : goal.returns
returns c = just_granted
