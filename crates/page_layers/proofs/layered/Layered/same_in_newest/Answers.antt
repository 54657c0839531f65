use Rattle.page_layers.specs.Memories.{IsSameBlock}
use Rattle.page_layers.proofs.SameBlocks.{in_newest}
use Rattle.page_layers.proofs.layered.Layered.same_in_newest.Goals as goal

pub returns-then-same_in_blocks-clause-known_files : goal.returns-then-same_in_blocks-clause-known_files
returns-then-same_in_blocks-clause-known_files c =
    λ known_files number there. in_newest (IsSameBlock c.args.self.now c.args.other.now number) c.args.written.now
    c.args.layers.now number there
    (c.same_in_blocks.ensures.known_files c.if-same_in_blocks.true number)
    (c.same_in_layers.ensures.known_files known_files number)
