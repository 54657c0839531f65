-- Layers of blocks.
use Rattle.std.specs.Prelude.{ℕ, List, [], ◌∷◌, Option, None}
use Rattle.std.specs.Option.{option_or}
use Rattle.page_layers.specs.declared.block.Block.{Block}
use Rattle.page_layers.specs.declared.blocks.Blocks.{Blocks}
use Rattle.page_layers.specs.declared.layers.Layer.{Layer}
use Rattle.page_layers.specs.Blocks.{block_at}

-- the block of a number in the first of layers that has it
unfoldable pub block_among : List Layer → ℕ → Option Block
block_among [] number = None
block_among (layer ∷ older) number = option_or (block_at layer.blocks.value.blocks number) (block_among older number)

-- the block of a number, or else the one that layers have of it
abbrev pub newest_block : Blocks → List Layer → ℕ → Option Block
newest_block blocks layers number = option_or (block_at blocks number) (block_among layers number)
