use Rattle.hart_step.proofs.LockedBytes.{locked_outlasts}
use Rattle.hart_step.proofs.protection_laws.locked_bytes_are_preserved.Goals as goal

pub returns : goal.returns
returns c = locked_outlasts
