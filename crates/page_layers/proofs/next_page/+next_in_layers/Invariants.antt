use Rattle.std.proofs.Common.{length}
use Rattle.page_layers.proofs.next_page.+next_in_layers.Given as goal

abbrev pub decreases-next_in_layers : goal.decreases-next_in_layers
decreases-next_in_layers l = length l.layers.now
