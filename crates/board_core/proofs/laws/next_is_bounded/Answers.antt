use Rattle.board_core.proofs.Machines.{next_bounded}
use Rattle.board_core.proofs.laws.next_is_bounded.Goals as goal

pub returns : goal.returns
returns c = next_bounded
