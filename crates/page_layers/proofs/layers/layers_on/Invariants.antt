use Rattle.std.proofs.Common.{◌≡◌, ℕ, drop}
use Rattle.std.specs.Option.{option_or}
use Rattle.page_layers.specs.Layers.{block_among, newest_block}
use Rattle.page_layers.proofs.layers.layers_on.Given as goal

-- the layers that are there, and those that are left
abbrev pub invariant-loop-layer : goal.invariant-loop-layer
invariant-loop-layer l =
    (number : ℕ)
    → option_or (block_among l.layers.items number) (block_among (drop l.layer-index l.older) number)
    ≡ newest_block l.fn.newest.blocks l.older number
