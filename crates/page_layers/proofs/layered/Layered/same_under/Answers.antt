use Rattle.page_layers.specs.Memories.{IsSameBlock}
use Rattle.page_layers.proofs.SameBlocks.{same_or_zero}
use Rattle.page_layers.proofs.layered.Layered.same_under.Goals as goal

pub returns-then-same_in_newest-clause-known_files : goal.returns-then-same_in_newest-clause-known_files
returns-then-same_in_newest-clause-known_files c =
    λ known_files. same_or_zero (IsSameBlock c.args.self.now c.args.other.now) c.args.written.now c.args.layers.now
    c.args.image.now
    (c.same_in_newest.ensures.known_files c.if-same_in_newest.true)
    (c.same_in_image.ensures.known_files known_files)
