use Rattle.mem_access.proofs.Looks.{whole_at}
use Rattle.mem_access.proofs.data_access.whole_place.Goals as goal

pub returns-in-Err-clause-found : goal.returns-in-Err-clause-found
returns-in-Err-clause-found g c =
    let space = c.args.space.now in
    whole_at space.csrs.now space.map.now space.choices.now c.args.request c.args.va c.in-Err.ensures.found

pub returns-in-Ok-clause-found : goal.returns-in-Ok-clause-found
returns-in-Ok-clause-found g c =
    let space = c.args.space.now in
    whole_at space.csrs.now space.map.now space.choices.now c.args.request c.args.va c.in-Ok.ensures.found
