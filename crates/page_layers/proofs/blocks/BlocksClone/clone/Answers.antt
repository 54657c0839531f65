use Rattle.page_layers.proofs.BlockMaps.{blocks_cloned, same_entries}
use Rattle.page_layers.proofs.blocks.BlocksClone.clone.Goals as goal

pub returns : goal.returns
returns c = record { cases = same_entries c.args.self.now _ (blocks_cloned _ _ c.in_ok-clone.ensures.cases) }
