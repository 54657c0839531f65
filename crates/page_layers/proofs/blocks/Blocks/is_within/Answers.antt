use Rattle.std.proofs.Common.{inl, inr}
use Rattle.std.proofs.lemmas.Bool.{leb-false}
use Rattle.page_layers.proofs.BlockMaps.{none_outside}
use Rattle.page_layers.proofs.blocks.Blocks.is_within.Goals as goal

pub returns-then-self-number : goal.returns-then-self-number
returns-then-self-number c =
    λ above. none_outside c.args.self.now c.args.number (inr (leb-false c.args.number c.args.self.now.highest above))

pub returns-else-self-number : goal.returns-else-self-number
returns-else-self-number c =
    λ below. none_outside c.args.self.now c.args.number (inl (leb-false c.args.self.now.lowest c.args.number below))
