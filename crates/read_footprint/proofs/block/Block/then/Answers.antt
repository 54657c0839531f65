use Rattle.std.proofs.Common.{arith}
use Rattle.read_footprint.proofs.Bits.{has_either, has_later}
use Rattle.read_footprint.proofs.block.Block.then.Goals as goal

pub returns-clause-read : goal.returns-clause-read
returns-clause-read c =
    λ place inside. has_later c.args.self.read c.args.later.read c.args.self.wrote place
    (omega (arith, c.well_formed)) inside

pub returns-clause-wrote : goal.returns-clause-wrote
returns-clause-wrote c = λ place. has_either c.args.self.wrote c.args.later.wrote place
