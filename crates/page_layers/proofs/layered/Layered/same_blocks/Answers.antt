use Rattle.page_layers.proofs.SameBlocks.{refuted}
use Rattle.page_layers.proofs.layered.Layered.same_blocks.Goals as goal

pub returns-then-not-same_block-clause-same : goal.returns-then-not-same_block-clause-same
returns-then-not-same_block-clause-same c =
    refuted c.args.self.now c.args.other.now _ c.same_block.result c.same_block.ensures c.if-not-same_block.true
