use Rattle.mem_access.proofs.Looks.{whole_loaded, whole_refused}
use Rattle.mem_access.proofs.data_access.load_whole.Goals as goal

pub returns-in-Err-clause-looked : goal.returns-in-Err-clause-looked
returns-in-Err-clause-looked g c =
    let space = c.args.space.now in
    whole_refused space.csrs.now space.map.now space.choices.now c.args.request c.args.va c.in-Err.ensures.found

pub returns-in-Ok-clause-looked : goal.returns-in-Ok-clause-looked
returns-in-Ok-clause-looked g c =
    let space = c.args.space.now in
    whole_loaded space.csrs.now space.map.now space.choices.now c.args.request c.args.va c.in-Ok.ensures.found
    c.value_at.ensures.value
