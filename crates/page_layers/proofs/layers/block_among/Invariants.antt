use Rattle.std.proofs.Common.{◌≡◌, drop}
use Rattle.page_layers.specs.Layers.{block_among}
use Rattle.page_layers.proofs.layers.block_among.Given as goal

abbrev pub invariant-loop-layer : goal.invariant-loop-layer
invariant-loop-layer l = block_among (drop l.layer-index l.layers) l.number ≡ block_among l.layers l.number
