use Rattle.std.proofs.Common.{◌+◌, ◌*◌, vec_len}
use Rattle.segment_workers.proofs.chain.+chain.Given as goal

abbrev pub decreases-call_each : goal.decreases-call_each
decreases-call_each g l = 2 * vec_len l.jobs

abbrev pub decreases-there : goal.decreases-there
decreases-there g l = 2 * vec_len l.last + 1

abbrev pub decreases-here : goal.decreases-here
decreases-here g l = 2 * vec_len l.jobs + 1
