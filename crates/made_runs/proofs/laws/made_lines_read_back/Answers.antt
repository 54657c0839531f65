use Rattle.made_runs.proofs.RowLines.{rows_back}
use Rattle.made_runs.proofs.laws.made_lines_read_back.Goals as goal

pub returns : goal.returns
returns c = rows_back
