use Rattle.mem_access.proofs.Looks.{reach_refused, reach_placed}
use Rattle.mem_access.proofs.address_space.AddressSpace.reach.Goals as goal

pub returns-in-Err-clause-reached : goal.returns-in-Err-clause-reached
returns-in-Err-clause-reached g c =
    let space = c.args.self.now in
    reach_refused space.csrs.now space.map.now space.choices.now c.args.request c.args.va
    c.in-Err.ensures.translated

pub returns-in-Ok-clause-reached : goal.returns-in-Ok-clause-reached
returns-in-Ok-clause-reached g c =
    let space = c.args.self.now in
    reach_placed space.csrs.now space.map.now space.choices.now c.args.request c.args.va
    c.in-Ok.ensures.translated c.place_of.ensures.meant
