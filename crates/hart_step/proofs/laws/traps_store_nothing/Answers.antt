use Rattle.hart_step.proofs.Traps.{traps_store}
use Rattle.hart_step.proofs.laws.traps_store_nothing.Goals as goal

pub returns : goal.returns
returns c = traps_store
