use Rattle.read_footprint.proofs.Agreement.{first_reads_alike}
use Rattle.read_footprint.proofs.laws.the_first_row_reads_alike.Goals as goal

pub returns : goal.returns
returns c = first_reads_alike
