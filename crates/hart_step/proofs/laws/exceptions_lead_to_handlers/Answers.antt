use Rattle.hart_step.proofs.Handlers.{leads, has_cause, every_trap}
use Rattle.hart_step.proofs.Raised.{raised_from}
use Rattle.hart_step.proofs.laws.exceptions_lead_to_handlers.Goals as goal

pub returns-clause-leads : goal.returns-clause-leads
returns-clause-leads c = leads

pub returns-clause-cause : goal.returns-clause-cause
returns-clause-cause c = has_cause

pub returns-clause-every_trap : goal.returns-clause-every_trap
returns-clause-every_trap c = every_trap

pub returns-clause-raised : goal.returns-clause-raised
returns-clause-raised c = raised_from
