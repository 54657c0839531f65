use Rattle.std.proofs.Common.{length}
use Rattle.page_layers.proofs.layered.Layered.+same_in_layers.Given as goal

abbrev pub decreases-same_in_layers : goal.decreases-same_in_layers
decreases-same_in_layers l = length l.layers.now
