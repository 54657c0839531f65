use Rattle.std.proofs.Common.{refl}
use Rattle.row_origin.proofs.Blocks.{row_set}
use Rattle.row_origin.proofs.block.Block.set.Goals as goal

pub returns : goal.returns
returns c = λ q. row_set c.args.self.now _ c.args.place c.args.row q c.requires refl
