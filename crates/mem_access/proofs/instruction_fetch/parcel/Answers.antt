use Rattle.mem_access.proofs.Looks.{parcel_refused, parcel_read}
use Rattle.mem_access.proofs.instruction_fetch.parcel.Goals as goal

pub returns-in-Err-clause-looked : goal.returns-in-Err-clause-looked
returns-in-Err-clause-looked g c =
    let space = c.args.space.now in
    parcel_refused space.csrs.now space.map.now space.choices.now c.args.mode c.args.at c.in-Err.ensures.reached

pub returns-in-Ok-clause-looked : goal.returns-in-Ok-clause-looked
returns-in-Ok-clause-looked g c =
    let space = c.args.space.now in
    parcel_read space.csrs.now space.map.now space.choices.now c.args.mode c.args.at c.in-Ok.ensures.reached
    c.number.ensures.value c.put.ensures
