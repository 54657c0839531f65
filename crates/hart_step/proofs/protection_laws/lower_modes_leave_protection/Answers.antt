use Rattle.hart_step.proofs.Entries.{lower_modes_leave}
use Rattle.hart_step.proofs.Rows.{rows_leave}
use Rattle.hart_step.proofs.protection_laws.lower_modes_leave_protection.Goals as goal

pub returns-clause-step : goal.returns-clause-step
returns-clause-step c = lower_modes_leave

pub returns-clause-rows : goal.returns-clause-rows
returns-clause-rows c = rows_leave
