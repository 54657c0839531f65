use Rattle.std.proofs.Common.{◌∙◌, sym}
use Rattle.page_layers.proofs.BlockMaps.{near}
use Rattle.page_layers.proofs.blocks.Blocks.block.Goals as goal

pub returns : goal.returns
returns c = c.get.ensures.value ∙ sym (near c.args.self.now c.args.number c.ranges.number.fits)
