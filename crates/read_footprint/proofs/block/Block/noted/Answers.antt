use Rattle.read_footprint.proofs.Bits.{has_either}
use Rattle.read_footprint.proofs.block.Block.noted.Goals as goal

pub returns : goal.returns
returns c = λ place. has_either c.args.self.read c.args.self.wrote place
