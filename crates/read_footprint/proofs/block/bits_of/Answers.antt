use Rattle.std.proofs.Common.{◌-◌, ◌*◌, arith}
use Rattle.read_footprint.proofs.Bits.{AreEnds, bits_are}
use Rattle.read_footprint.proofs.block.bits_of.Goals as goal

pub returns : goal.returns
returns c =
    let start = c.args.number * 64 in
    let at : AreEnds c.args.number c.args.pa c.args.end (c.max.result - start) (c.min.result - start) =
    record { begins = omega (arith, c.max.ensures); ends = omega (arith, c.min.ensures) } in
    λ address here. bits_are address at c.bits_between.ensures here
