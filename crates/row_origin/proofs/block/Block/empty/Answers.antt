use Rattle.std.proofs.Common.{refl}
use Rattle.row_origin.proofs.Blocks.{none_in}
use Rattle.row_origin.proofs.block.Block.empty.Goals as goal

pub returns : goal.returns
returns c = none_in _ refl
