use Rattle.std.proofs.Common.{length}
use Rattle.hart_words.proofs.map.+is_device.Given as goal

abbrev pub decreases-is_device : goal.decreases-is_device
decreases-is_device l = length l.io.now
