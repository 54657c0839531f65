use Rattle.read_footprint.proofs.Agreement.{written_by_rows}
use Rattle.read_footprint.proofs.laws.writes_go_row_by_row.Goals as goal

pub returns : goal.returns
returns c = written_by_rows
