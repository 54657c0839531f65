use Rattle.std.proofs.Common.{arith}
use Rattle.float_rounding.proofs.Places.{half_fits, cut_whole}
use Rattle.float_rounding.proofs.rounding.cut.Goals as goal

pub place_in-requires : goal.place_in-requires
place_in-requires c = half_fits c.args.digits c.requires c.if-digits-lt128.true

pub returns-else-m-eq0 : goal.returns-else-m-eq0
returns-else-m-eq0 c = cut_whole c.args.m c.args.digits (omega arith) (omega arith) (omega arith)
