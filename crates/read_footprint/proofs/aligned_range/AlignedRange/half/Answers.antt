use Rattle.std.proofs.Common.{◌-◌, arith}
use Rattle.read_footprint.proofs.Ranges.{half_at_most_32, one_shifted}
use Rattle.read_footprint.proofs.aligned_range.AlignedRange.half.Goals as goal

pub returns-clause-is : goal.returns-clause-is
returns-clause-is c = one_shifted (c.args.self.power - 1) (omega (arith, c.args.self.at_most_6))

pub returns-clause-at_most_32 : goal.returns-clause-at_most_32
returns-clause-at_most_32 c =
    rw (one_shifted (c.args.self.power - 1) (omega (arith, c.args.self.at_most_6)))
    (half_at_most_32 (c.args.self.power - 1) (omega (arith, c.args.self.at_most_6)))
