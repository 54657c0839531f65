use Rattle.std.proofs.Common.{◌^◌}
use Rattle.read_footprint.proofs.Ranges.{IsNumberAt, numbers_decided, place_of}
use Rattle.read_footprint.proofs.bytes.same_number.Goals as goal

pub read-requires : goal.read-requires
read-requires g c =
    rw c.len-len.ensures
    (place_of (g.N.PhysMem.ram c.args.other.now) c.args.range c.requires.at_most_3 c.args.range.aligned c.requires.all
    c.requires.other)

pub read-requires-2 : goal.read-requires-2
read-requires-2 g c =
    rw c.len-len.ensures
    (place_of (g.M.PhysMem.ram c.args.one.now) c.args.range c.requires.at_most_3 c.args.range.aligned c.requires.all
    c.requires.one)

pub returns : goal.returns
returns g c =
    let range = c.args.range in
    let other : IsNumberAt (g.N.PhysMem.bytes c.args.other.now) range.pa (2 ^ range.power) c.read.result =
    record {
      is = rw (← c.len-len.ensures) c.read.ensures.value;
      small = rw (← c.len-len.ensures) c.read.ensures.small;
    } in
    let one : IsNumberAt (g.M.PhysMem.bytes c.args.one.now) range.pa (2 ^ range.power) c.read-2.result =
    record {
      is = rw (← c.len-len.ensures) c.read-2.ensures.value;
      small = rw (← c.len-len.ensures) c.read-2.ensures.small;
    } in
    numbers_decided range c.requires.all other one
