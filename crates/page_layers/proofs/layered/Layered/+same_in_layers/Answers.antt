use Rattle.page_layers.specs.Memories.{IsSameBlock}
use Rattle.page_layers.proofs.SameBlocks.{in_layers, in_none}
use Rattle.page_layers.proofs.layered.Layered.+same_in_layers.Goals as goal

pub returns-in-None-clause-known_files : goal.returns-in-None-clause-known_files
returns-in-None-clause-known_files t c =
    λ known_files number there. in_none (IsSameBlock c.args.self.now c.args.other.now number) c.args.layers.now number
    c.in-None.ensures.cases there

pub returns-then-same_in_blocks-clause-known_files : goal.returns-then-same_in_blocks-clause-known_files
returns-then-same_in_blocks-clause-known_files t c =
    λ known_files number there. in_layers (IsSameBlock c.args.self.now c.args.other.now number) number
    c.in-Some.ensures.cases.0 c.blocks-in-Some.ensures there
    (c.same_in_blocks.ensures.known_files c.if-same_in_blocks.true number)
    (c.same_in_layers.ensures.known_files known_files number)
