use Rattle.std.proofs.Common.{arith}
use Rattle.std.proofs.Math.Nat.{pow-le-pow_right}
use Rattle.read_footprint.proofs.Bits.{shifted}
use Rattle.read_footprint.proofs.block.bits_between.Goals as goal

pub overflow_sub-result : goal.overflow_sub-result
overflow_sub-result c =
    rw (shifted c.args.from (omega arith), shifted c.args.to c.requires.within)
    (pow-le-pow_right (omega arith) c.requires.ordered)
