use Rattle.mem_access.proofs.Joined.{high_fits}
use Rattle.mem_access.proofs.address_space.AddressSpace.joined_value.Goals as goal

pub join_numbers-requires-clause-high : goal.join_numbers-requires-clause-high
join_numbers-requires-clause-high g c =
    high_fits c.args.low.len c.args.high.len c.number-second.result c.requires.together
    c.number-second.ensures.fits
