use Rattle.page_layers.proofs.BlockMaps.{same_found}
use Rattle.page_layers.proofs.blocks.Blocks.reserve.Goals as goal

pub returns-in_err-reserve : goal.returns-in_err-reserve
returns-in_err-reserve c = same_found c.args.self.now _ c.in_err-reserve.ensures.entries.2

pub returns : goal.returns
returns c = same_found c.args.self.now _ c.in_ok-reserve.ensures.entries.2
