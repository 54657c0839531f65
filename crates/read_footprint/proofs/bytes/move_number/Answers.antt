use Rattle.std.proofs.Common.{◌^◌}
use Rattle.std.proofs.lemmas.Result.{on_ok_weaker}
use Rattle.read_footprint.proofs.Ranges.{IsNumberAt, number_done, number_written, place_of}
use Rattle.read_footprint.proofs.bytes.move_number.Goals as goal

pub read-requires : goal.read-requires
read-requires g c =
    rw c.len-len.ensures
    (place_of (g.N.PhysMem.ram c.args.judged.now) c.args.range c.requires.at_most_3 c.args.range.aligned
    c.requires.all c.requires.judged)

pub write-requires : goal.write-requires
write-requires g c =
    rw c.len-len.ensures
    (place_of (g.M.PhysMem.ram c.args.memory.now) c.args.range c.requires.at_most_3 c.args.range.aligned
    c.requires.all c.requires.memory)

pub returns-clause-ok : goal.returns-clause-ok
returns-clause-ok g c =
    let range = c.args.range in
    let stands : IsNumberAt (g.N.PhysMem.bytes c.args.judged.now) range.pa (2 ^ range.power) c.read.result =
    record {
      is = rw (← c.len-len.ensures) c.read.ensures.value;
      small = rw (← c.len-len.ensures) c.read.ensures.small;
    } in
    on_ok_weaker c.write.result (number_done range (g.M.PhysMem.bytes c.args.memory.now) stands)
    (rw (← c.len-len.ensures) c.write.ensures.ok)

pub returns-clause-either : goal.returns-clause-either
returns-clause-either g c =
    let range = c.args.range in
    let stands : IsNumberAt (g.N.PhysMem.bytes c.args.judged.now) range.pa (2 ^ range.power) c.read.result =
    record {
      is = rw (← c.len-len.ensures) c.read.ensures.value;
      small = rw (← c.len-len.ensures) c.read.ensures.small;
    } in
    number_written range c.write.result c.requires.all stands (rw (← c.len-len.ensures) c.write.ensures.ok)
    c.write.ensures.err
