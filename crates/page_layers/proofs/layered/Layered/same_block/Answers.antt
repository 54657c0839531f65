use Rattle.page_layers.proofs.SameBlocks.{block_decided}
use Rattle.page_layers.proofs.layered.Layered.same_block.Goals as goal

pub returns : goal.returns
returns c =
    block_decided c.value.result c.value-2.result c.args.number _ c.value.ensures c.value-2.ensures c.same_as.ensures
