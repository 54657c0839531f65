use Rattle.hart_step.proofs.LostAlike.{loses_alike}
use Rattle.hart_step.proofs.laws.losses_follow_the_bytes.Goals as goal

pub returns : goal.returns
returns c = loses_alike
