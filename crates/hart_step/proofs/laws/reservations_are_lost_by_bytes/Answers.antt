use Rattle.hart_step.proofs.Lost.{loses_by_bytes}
use Rattle.hart_step.proofs.laws.reservations_are_lost_by_bytes.Goals as goal

pub returns : goal.returns
returns c = loses_by_bytes
