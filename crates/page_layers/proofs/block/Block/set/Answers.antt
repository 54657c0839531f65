use Rattle.std.proofs.Common.{refl}
use Rattle.page_layers.proofs.BlockBytes.{byte_set}
use Rattle.page_layers.proofs.block.Block.set.Goals as goal

pub returns : goal.returns
returns c = λ at in_block. byte_set c.args.self.now _ c.args.pa c.args.value at refl in_block
