use Rattle.hart_step.proofs.Locks.{locks_outlast}
use Rattle.hart_step.proofs.Rows.{locks_outlast_rows}
use Rattle.hart_step.proofs.protection_laws.locked_entries_are_preserved.Goals as goal

pub returns-clause-step : goal.returns-clause-step
returns-clause-step c = locks_outlast

pub returns-clause-rows : goal.returns-clause-rows
returns-clause-rows c = locks_outlast_rows
