use Rattle.std.proofs.Common.{refl}
use Rattle.std.specs.Int.{w64, trailing_ones}
use Rattle.hart_words.proofs.Powers.{one_shifted}
use Rattle.pmp_check.proofs.Ones.{eight_shifted, few_ones}
use Rattle.pmp_check.proofs.region.power_region.Goals as goal

pub returns : goal.returns
returns c =
    let ones = trailing_ones w64 c.args.addr in
    let few = few_ones c.args.addr in
    rw (c.trailing_ones-ones.ensures, c.from.ensures, one_shifted ones few, eight_shifted ones few) refl
