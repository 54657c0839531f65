use Rattle.sv39_walk.proofs.WritableAlone.{writable_alone_refused}
use Rattle.sv39_walk.proofs.laws.writable_alone_is_refused.Goals as goal

pub returns : goal.returns
returns c = writable_alone_refused
