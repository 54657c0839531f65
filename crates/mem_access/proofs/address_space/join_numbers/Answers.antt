use Rattle.std.proofs.Common.{arith}
use Rattle.mem_access.proofs.Joined.{joined_below, joined_fits, joined_is, shifted_whole}
use Rattle.mem_access.proofs.address_space.join_numbers.Goals as goal

pub overflow_add-result : goal.overflow_add-result
overflow_add-result c =
    omega (
      arith,
      shifted_whole c.args.len c.args.low c.args.high c.requires.len c.requires.low c.requires.high,
      joined_below c.args.len c.args.low c.args.high c.requires.len c.requires.low c.requires.high,
    )

pub returns-clause-value : goal.returns-clause-value
returns-clause-value c =
    rw (shifted_whole c.args.len c.args.low c.args.high c.requires.len c.requires.low c.requires.high)
    (joined_is c.args.len c.args.low c.args.high)

pub returns-clause-fits : goal.returns-clause-fits
returns-clause-fits c = λ more below.
    rw (shifted_whole c.args.len c.args.low c.args.high c.requires.len c.requires.low c.requires.high)
    (joined_fits c.args.len more c.args.low c.args.high c.requires.low below)
