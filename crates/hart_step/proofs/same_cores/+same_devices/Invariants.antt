use Rattle.std.proofs.Common.{length}
use Rattle.hart_step.proofs.same_cores.+same_devices.Given as goal

abbrev pub decreases-same_devices : goal.decreases-same_devices
decreases-same_devices l = length l.one.now
