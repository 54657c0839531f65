use Rattle.hart_step.proofs.Permitted.{step_granted}
use Rattle.hart_step.proofs.protection_laws.steps_access_what_is_permitted.Goals as goal

pub returns : goal.returns
returns c = step_granted
