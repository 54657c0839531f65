use Rattle.hart_step.proofs.Phases.{carried_where_shown}
use Rattle.hart_step.proofs.laws.registers_are_carried_where_shown.Goals as goal

pub returns : goal.returns
returns c = carried_where_shown
