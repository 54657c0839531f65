use Rattle.page_layers.proofs.NextPages.{zero_block_decided}
use Rattle.page_layers.proofs.layered.Layered.is_zero_block.Goals as goal

pub returns : goal.returns
returns c = zero_block_decided c.value.result c.args.number _ c.value.ensures c.is_zero.ensures
