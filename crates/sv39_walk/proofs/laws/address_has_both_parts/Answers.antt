use Rattle.sv39_walk.proofs.Sizes.{address-low, address-high}
use Rattle.sv39_walk.proofs.laws.address_has_both_parts.Goals as goal

pub returns-clause-low : goal.returns-clause-low
returns-clause-low c = address-low

pub returns-clause-high : goal.returns-clause-high
returns-clause-high c = address-high
