use Rattle.board_core.proofs.Machines.{sound}
use Rattle.board_core.proofs.laws.machines_are_sound.Goals as goal

pub returns : goal.returns
returns c = sound
