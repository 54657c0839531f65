use Rattle.segment_workers.proofs.Leaving.{events_leave_founds}
use Rattle.segment_workers.proofs.laws.some_events_leave_what_run_found.Goals as goal

pub returns : goal.returns
returns g c = events_leave_founds
