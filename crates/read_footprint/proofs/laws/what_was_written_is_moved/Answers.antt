use Rattle.read_footprint.proofs.Agreement.{written_is_moved}
use Rattle.read_footprint.proofs.laws.what_was_written_is_moved.Goals as goal

pub returns : goal.returns
returns c = written_is_moved
