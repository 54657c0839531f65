use Rattle.judge_run.proofs.AnyEvents.{any_events}
use Rattle.judge_run.proofs.laws.any_events.Goals as goal

pub returns : goal.returns
returns c = any_events
