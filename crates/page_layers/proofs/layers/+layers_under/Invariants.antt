use Rattle.std.proofs.Common.{length}
use Rattle.page_layers.proofs.layers.+layers_under.Given as goal

abbrev pub decreases-layers_under : goal.decreases-layers_under
decreases-layers_under l = length l.older.now
