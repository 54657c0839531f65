use Rattle.std.proofs.lemmas.Bool.Decides.{Decides-eqb}
use Rattle.std.proofs.lemmas.Slice.Eq.{slice_eq-Decides}
use Rattle.page_layers.proofs.BlockBytes.{blocks_decided}
use Rattle.page_layers.proofs.block.Block.same_as.Goals as goal

pub returns : goal.returns
returns c =
    blocks_decided c.args.self.now c.args.other.now _
    (slice_eq-Decides Decides-eqb c.args.self.now.bytes c.args.other.now.bytes _ c.eq.ensures)
