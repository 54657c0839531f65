use Rattle.std.proofs.Common.{length}
use Rattle.hart_step.proofs.same_cores.+same_presences.Given as goal

abbrev pub decreases-same_presences : goal.decreases-same_presences
decreases-same_presences l = length l.one.now
